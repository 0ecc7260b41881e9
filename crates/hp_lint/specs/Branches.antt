-- Branches behind one that always gives something.
use Rattle.std.specs.Prelude.{ℕ, Bool, true, false, ◌&&◌, ◌||◌, cond, List, [], ◌∷◌, ◌++◌, Option}
use Rattle.hp_syntax.specs.declared.pattern.Span.{Span}
use Rattle.hp_syntax.specs.Syntax as syntax
use Rattle.hp_lint.specs.declared.report.Concern.TheVariants.{NeverReached}
use Rattle.hp_lint.specs.Remarked.{Remark, in_domain}

-- whether an expression gives something in each state: nothing that is asked for stands in it, or beside an 'or'
unfoldable mutual
  pub always : syntax.Expression → Bool
  always (syntax.Holds s a) = false
  always (syntax.And s parts) = all_always parts
  always (syntax.Or s parts) = any_always parts
  always (syntax.Not s part) = false
  always (syntax.Forall s vars range body) = false
  always (syntax.Assign s v value) = false
  always (syntax.Test s call) = false

  pub all_always : syntax.Expressions → Bool
  all_always syntax.NoExpression = true
  all_always (syntax.Also e es) = always e && all_always es

  pub any_always : syntax.Expressions → Bool
  any_always syntax.NoExpression = false
  any_always (syntax.Also e es) = always e || any_always es

abbrev pub always_before : syntax.Precondition → Bool
always_before (syntax.Plain e) = always e
always_before (syntax.First e) = always e
always_before (syntax.Sorted key e) = false

abbrev pub expression_span : syntax.Expression → Span
expression_span (syntax.Holds s a) = s
expression_span (syntax.And s parts) = s
expression_span (syntax.Or s parts) = s
expression_span (syntax.Not s part) = s
expression_span (syntax.Forall s vars range body) = s
expression_span (syntax.Assign s v value) = s
expression_span (syntax.Test s call) = s

abbrev pub precondition_span : syntax.Precondition → Span
precondition_span (syntax.Plain e) = expression_span e
precondition_span (syntax.First e) = expression_span e
precondition_span (syntax.Sorted key e) = expression_span e

abbrev pub if_hidden : Bool → Span → Option (List ℕ) → List Remark
if_hidden hidden span name = cond hidden (in_domain NeverReached span name) []

-- the branches that are never reached, where it is known whether one before them always gives something
abbrev pub hidden_branches : Bool → List syntax.Branch → List Remark
hidden_branches hidden [] = []
hidden_branches hidden (b ∷ bs) =
    if_hidden hidden (precondition_span b.pre) b.name ++ hidden_branches (hidden || always_before b.pre) bs

abbrev pub hidden_clauses : Bool → List syntax.Clause → List Remark
hidden_clauses hidden [] = []
hidden_clauses hidden (c ∷ cs) =
    if_hidden hidden (expression_span c.body) c.name ++ hidden_clauses (hidden || always c.body) cs

abbrev pub hidden_in : syntax.Rule → List Remark
hidden_in (syntax.Does o) = []
hidden_in (syntax.Refines m) = hidden_branches false m.branches
hidden_in (syntax.Concludes x) = hidden_clauses false x.clauses
