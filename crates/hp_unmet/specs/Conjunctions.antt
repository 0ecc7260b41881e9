-- The first part of a precondition that nothing satisfies together with those before it.
use Rattle.std.specs.Prelude.{ℕ, ◌+◌, zero, suc, List, [], ◌∷◌, length, take, slice_get, Option, None, Some, option_map}
use Rattle.std.specs.Option.{option_and_then}
use Rattle.hp_syntax.specs.declared.pattern.Span.{Span}
use Rattle.hp_syntax.specs.Events.{Event, Finding, Satisfied, Faulty, Undecided, Nothing, State, axioms_of, finding}
use Rattle.hp_syntax.specs.Matching.{match_atom}
use Rattle.hp_syntax.specs.Preconditions.{precondition_events}
use Rattle.hp_syntax.specs.Syntax as syntax
use Rattle.hp_syntax.specs.Terms.{Term}
use Rattle.hp_syntax.specs.Values.{Bindings, unbound}
use Rattle.hp_syntax.specs.Views.{as_expressions}
use Rattle.hp_choice.specs.FirstSatisfier.{first_sat}
use Rattle.hp_unmet.specs.declared.unmet.Unmet.{Unmet}
use Rattle.hp_unmet.specs.declared.unmet.Unmet.TheVariants as unmets

-- ---- the parts of a precondition

-- the expression of a precondition
abbrev pub body_of : syntax.Precondition → syntax.Expression
body_of (syntax.Plain e) = e
body_of (syntax.First e) = e
body_of (syntax.Sorted key e) = e

abbrev pub listed : syntax.Expressions → List syntax.Expression
listed syntax.NoExpression = []
listed (syntax.Also e es) = e ∷ listed es

-- the parts of a conjunction; any other expression is its only part
abbrev pub conjuncts : syntax.Expression → List syntax.Expression
conjuncts (syntax.Holds s a) = syntax.Holds s a ∷ []
conjuncts (syntax.And s parts) = listed parts
conjuncts (syntax.Or s parts) = syntax.Or s parts ∷ []
conjuncts (syntax.Not s part) = syntax.Not s part ∷ []
conjuncts (syntax.Forall s vars range body) = syntax.Forall s vars range body ∷ []
conjuncts (syntax.Assign s v value) = syntax.Assign s v value ∷ []
conjuncts (syntax.Test s call) = syntax.Test s call ∷ []

-- the parts of a precondition, with the span, the variables and the head of its rule
pub record Conjunction : Type 0 where
  pub span : Span
  pub vars : List (List ℕ)
  pub head : syntax.Atom
  pub parts : List syntax.Expression

-- those of a precondition of any kind
abbrev pub conjunction : Span → List (List ℕ) → syntax.Atom → syntax.Precondition → Conjunction
conjunction s vars head pre = record { span = s; vars = vars; head = head; parts = conjuncts (body_of pre) }

abbrev pub in_branch : syntax.Method → syntax.Branch → Conjunction
in_branch m b = conjunction m.span m.vars m.head b.pre

-- a branch of an axiom asks for its expression
abbrev pub in_clause : syntax.Axiom → syntax.Clause → Conjunction
in_clause x c = conjunction x.span x.vars x.head (syntax.Plain c.body)

-- that of an operator, or of the branch of a method or of an axiom that has this number
abbrev pub asked_by : ℕ → syntax.Rule → Option Conjunction
asked_by branch (syntax.Does o) = Some (conjunction o.span o.vars o.head o.pre)
asked_by branch (syntax.Refines m) = option_map (in_branch m) (slice_get m.branches branch)
asked_by branch (syntax.Concludes x) = option_map (in_clause x) (slice_get x.clauses branch)

-- that of the rule of a number
abbrev pub asked_in : List syntax.Rule → ℕ → ℕ → Option Conjunction
asked_in rules rule branch = option_and_then (asked_by branch) (slice_get rules rule)

-- the part at a place among them
abbrev pub part_at : List syntax.Rule → ℕ → ℕ → ℕ → Option syntax.Expression
part_at rules rule branch place = option_and_then (λ c. slice_get c.parts place) (asked_in rules rule branch)

-- so many of the first parts, together
abbrev pub first_parts : Conjunction → ℕ → syntax.Precondition
first_parts c n = syntax.Plain (syntax.And c.span (as_expressions (take n c.parts)))

-- the bindings under which the head matches a task
abbrev pub matched : Conjunction → Term → Option Bindings
matched c task = match_atom c.head task (unbound (length c.vars))

-- ---- the first that nothing satisfies

-- the answer where so many parts are satisfied, by what is found with one part more, and by the answer where that is
-- satisfied too
abbrev pub answer_by : Finding → ℕ → Unmet → Unmet
answer_by Satisfied n behind = behind
answer_by Nothing n behind = unmets.Part n
answer_by (Faulty f) n behind = unmets.Unknown
answer_by Undecided n behind = unmets.Unknown

-- the answer where so many parts are satisfied, and so many are left, by what is found with each number of them
abbrev pub answer_from : (ℕ → Finding) → ℕ → ℕ → Unmet
answer_from found n zero = unmets.None
answer_from found n (suc left) = answer_by (found (n + 1)) n (answer_from found (n + 1) left)

module _ (rules : List syntax.Rule) (nest : ℕ) (state : State) where
  -- what looking for satisfiers of so many of the first parts meets in the state under bindings, if there are any
  abbrev pub first_events : Conjunction → Option Bindings → ℕ → List Event
  first_events c None n = []
  first_events c (Some e) n = precondition_events (axioms_of rules) nest state (first_parts c n) e

  -- what is found with so many: a satisfier before any fault, a fault, a cut, or no event at all
  abbrev pub found : Conjunction → Option Bindings → ℕ → Finding
  found c o n = finding (first_events c o n)

  -- where there are no bindings to start from, the answer is that of a head that doesn't match
  abbrev pub answer_where : Conjunction → Option Bindings → Unmet
  answer_where c None = unmets.Head
  answer_where c (Some e) = answer_from (found c (Some e)) 0 (length c.parts)

  abbrev pub answer_of : Term → Conjunction → Unmet
  answer_of task c = answer_where c (matched c task)

  abbrev pub answer_if : Term → Option Conjunction → Unmet
  answer_if task None = unmets.None
  answer_if task (Some c) = answer_of task c

-- what of a precondition is satisfied in a state, where the head of its rule matches the task
abbrev pub first_unmet : List syntax.Rule → ℕ → State → Term → ℕ → ℕ → Unmet
first_unmet rules nest state task rule branch = answer_if rules nest state task (asked_in rules rule branch)

-- ---- the values of the variables

abbrev pub or_unbound : Option Bindings → Bindings
or_unbound None = []
or_unbound (Some e) = e

module _ (rules : List syntax.Rule) (nest : ℕ) (state : State) where
  -- by the first satisfier of so many of the first parts together, none where there is none
  abbrev pub first_values : Conjunction → Option Bindings → ℕ → Bindings
  first_values c o n = or_unbound (first_sat (first_events rules nest state c o n))

  -- by that of the parts before the one that is unmet, or of all where none is
  abbrev pub values_where : Conjunction → Option Bindings → Unmet → Bindings
  values_where c o unmets.None = first_values c o (length c.parts)
  values_where c o unmets.Head = []
  values_where c o (unmets.Part n) = first_values c o n
  values_where c o unmets.Unknown = []

  abbrev pub values_of : Term → Conjunction → Unmet → Bindings
  values_of task c u = values_where c (matched c task) u

  abbrev pub values_if : Term → Unmet → Option Conjunction → Bindings
  values_if task u None = []
  values_if task u (Some c) = values_of task c u

-- the values of the variables of a rule by the parts of a precondition that are met
abbrev pub values_met : List syntax.Rule → ℕ → State → Term → ℕ → ℕ → Unmet → Bindings
values_met rules nest state task rule branch u = values_if rules nest state task u (asked_in rules rule branch)
