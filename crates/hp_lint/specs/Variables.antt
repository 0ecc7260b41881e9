-- Variables that stand once in their rule, and variables that can't be bound where they are needed.
use Rattle.std.specs.Prelude.{ℕ, Bool, true, false, ◌==◌, ◌||◌, cond, List, [], ◌∷◌, ◌++◌, Option, None, Some, length, slice_get}
use Rattle.std.specs.List.{list_any, flat_map, filter}
use Rattle.hp_syntax.specs.declared.pattern.Span.{Span}
use Rattle.hp_syntax.specs.declared.pattern.Tail.{Tail}
use Rattle.hp_syntax.specs.Syntax as syntax
use Rattle.hp_syntax.specs.Notes.{task_atoms}
use Rattle.hp_lint.specs.declared.uses.Use.{Use}
use Rattle.hp_lint.specs.declared.report.Concern.TheVariants.{StandsOnce, Unbound}
use Rattle.hp_lint.specs.Remarked.{Remark, in_domain}

-- ---- where variables stand

abbrev pub use_at : Span → ℕ → Use
use_at s v = record { span = s; var = v }

abbrev pub tail_uses : Option Tail → List Use
tail_uses None = []
tail_uses (Some t) = use_at t.span t.var ∷ []

-- the variables of a pattern, with those of its calls or without
unfoldable mutual
  pub pattern_uses : Bool → syntax.Pattern → List Use
  pattern_uses in_calls (syntax.Variable s v) = use_at s v ∷ []
  pattern_uses in_calls (syntax.Symbol s name) = []
  pattern_uses in_calls (syntax.Number s n) = []
  pattern_uses in_calls (syntax.Listing s parts tail) = patterns_uses in_calls parts ++ tail_uses tail
  pattern_uses in_calls (syntax.Call s name args) = cond in_calls (patterns_uses in_calls args) []

  pub patterns_uses : Bool → syntax.Patterns → List Use
  patterns_uses in_calls syntax.NoPattern = []
  patterns_uses in_calls (syntax.Before p ps) = pattern_uses in_calls p ++ patterns_uses in_calls ps

abbrev pub atom_uses : Bool → syntax.Atom → List Use
atom_uses in_calls a = patterns_uses in_calls a.args ++ tail_uses a.tail

abbrev pub atoms_uses : List syntax.Atom → List Use
atoms_uses atoms = flat_map (atom_uses true) atoms

-- the variables of an expression; those that a 'forall' lists aren't looked at
unfoldable mutual
  pub expression_uses : syntax.Expression → List Use
  expression_uses (syntax.Holds s a) = atom_uses true a
  expression_uses (syntax.And s parts) = expressions_uses parts
  expression_uses (syntax.Or s parts) = expressions_uses parts
  expression_uses (syntax.Not s part) = expression_uses part
  expression_uses (syntax.Forall s vars range body) = expression_uses range ++ expression_uses body
  expression_uses (syntax.Assign s v value) = use_at s v ∷ pattern_uses true value
  expression_uses (syntax.Test s call) = pattern_uses true call

  pub expressions_uses : syntax.Expressions → List Use
  expressions_uses syntax.NoExpression = []
  expressions_uses (syntax.Also e es) = expression_uses e ++ expressions_uses es

abbrev pub precondition_uses : syntax.Precondition → List Use
precondition_uses (syntax.Plain e) = expression_uses e
precondition_uses (syntax.First e) = expression_uses e
precondition_uses (syntax.Sorted key e) = use_at key.span key.var ∷ expression_uses e

abbrev pub effect_uses : syntax.Effect → List Use
effect_uses (syntax.Change a) = atom_uses true a
effect_uses (syntax.Protection a) = atom_uses true a
effect_uses (syntax.Each vars e atoms) = expression_uses e ++ atoms_uses atoms

abbrev pub branch_uses : syntax.Branch → List Use
branch_uses b = precondition_uses b.pre ++ atoms_uses (task_atoms b.tasks)

abbrev pub clause_uses : syntax.Clause → List Use
clause_uses c = expression_uses c.body

abbrev pub rule_uses : syntax.Rule → List Use
rule_uses (syntax.Does o) =
    atom_uses true o.head ++ precondition_uses o.pre ++ flat_map effect_uses o.dels ++ flat_map effect_uses o.adds
    ++ pattern_uses true o.cost
rule_uses (syntax.Refines m) = atom_uses true m.head ++ flat_map branch_uses m.branches
rule_uses (syntax.Concludes x) = atom_uses true x.head ++ flat_map clause_uses x.clauses

-- ---- variables that stand once

abbrev pub is_use_of : ℕ → Use → Bool
is_use_of v u = u.var == v

abbrev pub times : ℕ → List Use → ℕ
times v uses = length (filter (is_use_of v) uses)

abbrev pub stands_once : List Use → ℕ → Bool
stands_once uses v = times v uses == 1

abbrev pub on_use : List (List ℕ) → (ℕ → Bool) → Use → List Remark
on_use names once u = cond (once u.var) (in_domain StandsOnce u.span (slice_get names u.var)) []

-- ---- what can be bound

-- what an expression can bind: what matching its atoms can, and what it assigns
unfoldable mutual
  pub bound_in : syntax.Expression → List Use
  bound_in (syntax.Holds s a) = atom_uses false a
  bound_in (syntax.And s parts) = bound_in_each parts
  bound_in (syntax.Or s parts) = bound_in_each parts
  bound_in (syntax.Not s part) = []
  bound_in (syntax.Forall s vars range body) = []
  bound_in (syntax.Assign s v value) = use_at s v ∷ []
  bound_in (syntax.Test s call) = []

  pub bound_in_each : syntax.Expressions → List Use
  bound_in_each syntax.NoExpression = []
  bound_in_each (syntax.Also e es) = bound_in e ++ bound_in_each es

abbrev pub bound_before : syntax.Precondition → List Use
bound_before (syntax.Plain e) = bound_in e
bound_before (syntax.First e) = bound_in e
bound_before (syntax.Sorted key e) = bound_in e

abbrev pub is_bound : List Use → ℕ → Bool
is_bound bound v = list_any (is_use_of v) bound

-- a variable that is known already, or that these bind
abbrev pub or_bound : (ℕ → Bool) → List Use → ℕ → Bool
or_bound known bound v = known v || is_bound bound v

-- a variable that is needed and isn't known
abbrev pub on_needed : List (List ℕ) → (ℕ → Bool) → Use → List Remark
on_needed names known u = cond (known u.var) [] (in_domain Unbound u.span (slice_get names u.var))

-- what the expression of an effect can bind, and the variables that its atoms need
abbrev pub effect_bound : syntax.Effect → List Use
effect_bound (syntax.Change a) = []
effect_bound (syntax.Protection a) = []
effect_bound (syntax.Each vars e atoms) = bound_in e

abbrev pub effect_needs : syntax.Effect → List Use
effect_needs (syntax.Change a) = atom_uses true a
effect_needs (syntax.Protection a) = atom_uses true a
effect_needs (syntax.Each vars e atoms) = atoms_uses atoms

abbrev pub effect_unbound : List (List ℕ) → (ℕ → Bool) → syntax.Effect → List Remark
effect_unbound names known effect =
    flat_map (on_needed names (or_bound known (effect_bound effect))) (effect_needs effect)

abbrev pub branch_unbound : List (List ℕ) → (ℕ → Bool) → syntax.Branch → List Remark
branch_unbound names known b =
    flat_map (on_needed names (or_bound known (bound_before b.pre))) (atoms_uses (task_atoms b.tasks))

abbrev pub operator_bound : syntax.Operator → List Use
operator_bound o = atom_uses false o.head ++ bound_before o.pre

-- what an operator's effects and its cost need, where it is known what its head and its precondition bind
abbrev pub operator_unbound : (ℕ → Bool) → syntax.Operator → List Remark
operator_unbound known o =
    flat_map (effect_unbound o.vars known) o.dels ++ flat_map (effect_unbound o.vars known) o.adds
    ++ flat_map (on_needed o.vars known) (pattern_uses true o.cost)

abbrev pub method_unbound : (ℕ → Bool) → syntax.Method → List Remark
method_unbound known m = flat_map (branch_unbound m.vars known) m.branches

abbrev pub unbound_in : syntax.Rule → List Remark
unbound_in (syntax.Does o) = operator_unbound (is_bound (operator_bound o)) o
unbound_in (syntax.Refines m) = method_unbound (is_bound (atom_uses false m.head)) m
unbound_in (syntax.Concludes x) = []

abbrev pub rule_vars : syntax.Rule → List (List ℕ)
rule_vars (syntax.Does o) = o.vars
rule_vars (syntax.Refines m) = m.vars
rule_vars (syntax.Concludes x) = x.vars

abbrev pub once_in : syntax.Rule → List Remark
once_in r = flat_map (on_use (rule_vars r) (stands_once (rule_uses r))) (rule_uses r)
