-- What holds where a walk stands.
use Rattle.std.specs.Prelude.{◌≡◌, ℕ, Some}
use Rattle.hp_net.specs.Standings.{node_reached}
use Rattle.hp_search.specs.Planned.{Planned, stands_planned, tree_planned}
use Rattle.hp_syntax.specs.Events.{State}
use Rattle.hp_syntax.specs.Walk.{Node}

-- something holds of the axiom levels of a walk and of the state of the node that it stands at
abbrev pub InStateOf : Planned → (ℕ → State → Type 0) → Type 0
InStateOf p P = (n : Node) → node_reached (tree_planned p) (stands_planned p) ≡ Some n → P p.nest n.state
