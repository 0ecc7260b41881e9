-- Atoms, and a pair's atoms and tasks, that say themselves.
use Rattle.std.specs.Prelude.{◌≡◌, [], Ok}
use Rattle.std.specs.List.{All}
use Rattle.hp_syntax.specs.GroundPatterns.{atom_said, network_said}
use Rattle.hp_syntax.specs.Networks.{tasks_value}
use Rattle.hp_syntax.specs.Syntax.{Atom, Pair}
use Rattle.hp_syntax.specs.Values.{atom_value}

-- the value of an atom without bindings is what it says
abbrev pub SaysItself : Atom → Type 0
SaysItself a = atom_value a [] ≡ Ok (atom_said a)

-- the values of a pair's atoms and tasks without bindings are what they say
pub record PairSaysItself (p : Pair) : Type 0 where
  pub state : All SaysItself p.state
  pub tasks : tasks_value p.tasks [] ≡ Ok (network_said p.tasks)
