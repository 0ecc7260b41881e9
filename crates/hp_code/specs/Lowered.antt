-- Rules as they are compiled. A `forall` lists no variables, and an operator's effects are told apart by what they do:
-- the deletes are the longest prefix of all that adds nothing.
use Rattle.std.specs.Prelude.{List, [], ◌∷◌, ◌++◌, map}
use Rattle.hp_syntax.specs.Syntax as syntax

unfoldable mutual
  pub lowered : syntax.Expression → syntax.Expression
  lowered (syntax.Holds s a) = syntax.Holds s a
  lowered (syntax.And s ps) = syntax.And s (all_lowered ps)
  lowered (syntax.Or s ps) = syntax.Or s (all_lowered ps)
  lowered (syntax.Not s p) = syntax.Not s (lowered p)
  lowered (syntax.Forall s vs y z) = syntax.Forall s [] (lowered y) (lowered z)
  lowered (syntax.Assign s v p) = syntax.Assign s v p
  lowered (syntax.Test s p) = syntax.Test s p

  pub all_lowered : syntax.Expressions → syntax.Expressions
  all_lowered syntax.NoExpression = syntax.NoExpression
  all_lowered (syntax.Also p ps) = syntax.Also (lowered p) (all_lowered ps)

abbrev pub lowered_precondition : syntax.Precondition → syntax.Precondition
lowered_precondition (syntax.Plain e) = syntax.Plain (lowered e)
lowered_precondition (syntax.First e) = syntax.First (lowered e)
lowered_precondition (syntax.Sorted k e) = syntax.Sorted k (lowered e)

abbrev pub lowered_effect : syntax.Effect → syntax.Effect
lowered_effect (syntax.Change a) = syntax.Change a
lowered_effect (syntax.Protection a) = syntax.Protection a
lowered_effect (syntax.Each vs e as') = syntax.Each [] (lowered e) as'

-- ---- the effects of an operator

-- an effect with those that change nothing, where it is one of them: a `forall` without atoms, whose expression may
-- meet a cut or a fault all the same
abbrev pub if_idle : syntax.Effect → List syntax.Effect → List syntax.Effect
if_idle (syntax.Change a) xs = []
if_idle (syntax.Protection a) xs = []
if_idle (syntax.Each vs e []) xs = syntax.Each vs e [] ∷ xs
if_idle (syntax.Each vs e (a ∷ as')) xs = []

-- the effects of a list that change nothing and stand before all others
abbrev pub idle_prefix : List syntax.Effect → List syntax.Effect
idle_prefix [] = []
idle_prefix (x ∷ xs) = if_idle x (idle_prefix xs)

-- an effect and those behind it, or, where it changes nothing, what is left of those
abbrev pub unless_idle : syntax.Effect → List syntax.Effect → List syntax.Effect → List syntax.Effect
unless_idle (syntax.Change a) xs left = syntax.Change a ∷ xs
unless_idle (syntax.Protection a) xs left = syntax.Protection a ∷ xs
unless_idle (syntax.Each vs e []) xs left = left
unless_idle (syntax.Each vs e (a ∷ as')) xs left = syntax.Each vs e (a ∷ as') ∷ xs

-- the effects of a list behind those that change nothing and stand before all others
abbrev pub behind_idle : List syntax.Effect → List syntax.Effect
behind_idle [] = []
behind_idle (x ∷ xs) = unless_idle x xs (behind_idle xs)

abbrev pub lowered_operator : syntax.Operator → syntax.Operator
lowered_operator o = record {
  span = o.span;
  vars = o.vars;
  head = o.head;
  pre = lowered_precondition o.pre;
  dels = map lowered_effect (o.dels ++ idle_prefix o.adds);
  adds = map lowered_effect (behind_idle o.adds);
  cost = o.cost;
}

-- ---- rules

abbrev pub lowered_branch : syntax.Branch → syntax.Branch
lowered_branch b = record { name = b.name; pre = lowered_precondition b.pre; tasks = b.tasks }

abbrev pub lowered_method : syntax.Method → syntax.Method
lowered_method m =
    record { span = m.span; vars = m.vars; head = m.head; branches = map lowered_branch m.branches }

abbrev pub lowered_clause : syntax.Clause → syntax.Clause
lowered_clause c = record { name = c.name; body = lowered c.body }

abbrev pub lowered_axiom : syntax.Axiom → syntax.Axiom
lowered_axiom x = record { span = x.span; vars = x.vars; head = x.head; clauses = map lowered_clause x.clauses }

abbrev pub lowered_rule : syntax.Rule → syntax.Rule
lowered_rule (syntax.Does o) = syntax.Does (lowered_operator o)
lowered_rule (syntax.Refines m) = syntax.Refines (lowered_method m)
lowered_rule (syntax.Concludes x) = syntax.Concludes (lowered_axiom x)

abbrev pub lowered_rules : List syntax.Rule → List syntax.Rule
lowered_rules rules = map lowered_rule rules
