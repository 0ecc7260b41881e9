-- A small tree: one task, which an operator does in two ways with the same outcome.
use Rattle.std.specs.Prelude.{ℕ, Bool, true, false, pos, List, [], ◌∷◌, codes, Option, Some, None}
use Rattle.hp_syntax.specs.declared.pattern.Span.{Span}
use Rattle.hp_syntax.specs.Syntax as syntax
use Rattle.hp_syntax.specs.Syntax.{Expression, And, Or, NoExpression, Also, NoPattern, Plain, Operator, Does}
use Rattle.hp_syntax.specs.Terms.{Term, Symbol, Listed, NoTerm, More}
use Rattle.hp_syntax.specs.Networks.{Empty, Task}
use Rattle.hp_syntax.specs.Walk.{Node, Visit, Did, Plan, visit}
use Rattle.hp_net.specs.declared.walk.Step.{Step}
use Rattle.hp_net.specs.declared.walk.Step.TheVariants as steps
use Rattle.hp_net.specs.Standings.{Tree, Standing, standing}
use Rattle.hp_part_trials.specs.declared.parts.walks.At.{At}
use Rattle.hp_part_trials.specs.declared.parts.walks.At.TheVariants.{Root, First, Second}
use Rattle.hp_part_trials.specs.declared.parts.walks.Left.{Left}
use Rattle.hp_part_trials.specs.declared.parts.walks.Left.TheVariants as left

abbrev pub nowhere : Span
nowhere = record { from = 0; to = 0 }

abbrev pub task : Term
task = Listed (More (Symbol (codes "!go")) NoTerm)

abbrev pub truth : Expression
truth = And nowhere NoExpression

-- the precondition holds in two ways
abbrev pub go : Operator
go = record {
  span = nowhere;
  vars = [];
  head = record { span = nowhere; name = codes "!go"; args = NoPattern; tail = None };
  pre = Plain (Or nowhere (Also truth (Also truth NoExpression)));
  dels = [];
  adds = [];
  cost = syntax.Number nowhere (pos 1000);
}

abbrev pub root_node : Node
root_node = record {
  state = [];
  guards = [];
  network = Task task false;
  focus = None;
  steps = [];
  cost = pos 0;
  depth = 1;
}

abbrev pub leaf : Node
leaf = record {
  state = [];
  guards = [];
  network = Empty;
  focus = None;
  steps = task ∷ [];
  cost = pos 1000;
  depth = 0;
}

abbrev pub twins : Tree
twins = record { rules = Does go ∷ []; nest = 0; root = root_node }

-- its visits
abbrev pub twin_visits : List Visit
twin_visits =
    visit (0 ∷ []) leaf Did ∷ visit (0 ∷ []) leaf Plan ∷ visit (1 ∷ []) leaf Did ∷ visit (1 ∷ []) leaf Plan ∷ []

-- ---- where the walk stands

abbrev pub path_of : At → List ℕ
path_of Root = []
path_of First = 0 ∷ []
path_of Second = 1 ∷ []

abbrev pub node_of : At → Node
node_of Root = root_node
node_of First = leaf
node_of Second = leaf

abbrev pub visits_left : Left → List Visit
visits_left left.Four = twin_visits
visits_left left.Three =
    visit (0 ∷ []) leaf Plan ∷ visit (1 ∷ []) leaf Did ∷ visit (1 ∷ []) leaf Plan ∷ []
visits_left left.Two = visit (1 ∷ []) leaf Did ∷ visit (1 ∷ []) leaf Plan ∷ []
visits_left left.One = visit (1 ∷ []) leaf Plan ∷ []
visits_left left.Nothing = []

abbrev pub standing_of : At → Left → Bool → Standing
standing_of at l did = standing (path_of at) (visits_left l) did

-- whether a step is a Did
abbrev pub did_of : Option Step → Bool
did_of None = false
did_of (Some steps.Did) = true
did_of (Some steps.Plan) = false
did_of (Some steps.Cut) = false
did_of (Some (steps.Fault f)) = false
did_of (Some steps.End) = false
