-- What the satisfiers of a rule's precondition lead to.
use Rattle.std.specs.Prelude.{◌≡◌, ℕ, true, List, [], Option, Some, None, is_some}
use Rattle.hp_syntax.specs.Networks.{Place, tasks_value}
use Rattle.hp_syntax.specs.Syntax.{Axiom, Tasks}
use Rattle.hp_syntax.specs.Terms.{Term}
use Rattle.hp_syntax.specs.Events.{axioms_of}
use Rattle.hp_syntax.specs.Values.{Bindings}
use Rattle.hp_syntax.specs.Walk.{Child, Node, after_effects, decomposed}
use Rattle.hp_code.specs.CodeViews.{CodeView, rules_in}
use Rattle.hp_code.specs.Sources.{Body}
use Rattle.hp_operator.specs.Bodies.{IsBodyIn, body_at, body_effects}
use Rattle.hp_method.specs.Branches.{tasks_at}
use Rattle.hp_choice.specs.declared.choice.Deed.{Deed}
use Rattle.hp_choice.specs.declared.choice.Deed.TheVariants.{Operate, Decompose}

-- the children that a satisfier gives by the effects and the cost of an operator, if they are there
abbrev pub by_body : List Axiom → ℕ → Node → Place → Term → Option Body → Bindings → List Child
by_body axioms nest n p t None e = []
by_body axioms nest n p t (Some b) e = after_effects n p t (body_effects axioms nest n.state b e)

-- those by the tasks of a branch, if they are there
abbrev pub by_tasks : Node → Place → Option Tasks → Bindings → List Child
by_tasks n p None e = []
by_tasks n p (Some tasks) e = decomposed n p (tasks_value tasks e)

-- those by a deed
abbrev pub deed_done : CodeView → ℕ → Node → Place → Term → Deed → Bindings → List Child
deed_done c nest n p t (Operate start end) e = by_body (axioms_of (rules_in c)) nest n p t (body_at c start end) e
deed_done c nest n p t (Decompose tasks) e = by_tasks n p (tasks_at c tasks) e

-- a deed is one of the code
abbrev pub IsDeedIn : CodeView → Deed → Type 0
IsDeedIn c (Operate start end) = IsBodyIn c start end
IsDeedIn c (Decompose tasks) = is_some (tasks_at c tasks) ≡ true
