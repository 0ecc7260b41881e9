-- How many turns what is suspended may take before it gives an event: numbers that fall with each turn.
use Rattle.std.specs.Prelude.{ℕ, ◌+◌, List, [], ◌∷◌, Option, Some, None}
use Rattle.hp_syntax.specs.Syntax.{Atom, Expressions, NoExpression, Also}
use Rattle.hp_syntax.specs.Values.{Bindings}
use Rattle.hp_syntax.specs.Events.{Event, Sat, Cut, Fault, events}
use Rattle.hp_eval.specs.Slotted.{Slotted}
use Rattle.hp_suspended.specs.Left.{Tower, Floor, On, left, tower}
use Rattle.hp_suspended.specs.Nodes.{expressions_in}
use Rattle.hp_suspended.specs.Settings.{Setting, axioms_in, state_in, atoms_at}
use Rattle.hp_suspended.specs.Views.{View, Views}

-- a turn for each Sat, and those that begin under it
abbrev pub turns_over : List Event → (Bindings → ℕ) → ℕ
turns_over [] turns = 0
turns_over (Sat e ∷ xs) turns = 1 + turns e + turns_over xs turns
turns_over (Cut ∷ xs) turns = turns_over xs turns
turns_over (Fault f ∷ xs) turns = turns_over xs turns

-- the turns of the parts of a conjunction
abbrev pub part_turns : (Atom → Bindings → List Event) → Expressions → Bindings → ℕ
part_turns atoms NoExpression e = 0
part_turns atoms (Also p ps) e = 1 + turns_over (events atoms p e) (part_turns atoms ps)

abbrev pub parts_turns : (Atom → Bindings → List Event) → Option Expressions → Bindings → ℕ
parts_turns atoms None e = 0
parts_turns atoms (Some ps) e = part_turns atoms ps e

module _ (w : Setting) (n : ℕ) where
  -- the turns of the nodes from one index up to another, as parts of a conjunction
  unfoldable pub turns_between : ℕ → ℕ → Bindings → ℕ
  turns_between k to = parts_turns (atoms_at (axioms_in w) n (state_in w)) (expressions_in w.code k to)

  -- the turns of the parts below the running one, and of that one
  abbrev pub tower_turns : ℕ → Tower → ℕ
  tower_turns end Floor = 0
  tower_turns end (On lower k events) = 1 + turns_over events (turns_between k end) + tower_turns end lower

abbrev pub pair_turns : Setting → ℕ → ℕ → ℕ → Slotted → Views → View → ℕ
pair_turns w n k end e outer here = tower_turns w n end (On (tower w e outer) k (left w e here))
