-- What stands in memory on the way to a plan, and what it stands for.
use Rattle.std.specs.Prelude.{◌≡◌, ℕ, Bool, true, false, List, length, map, Option, Some, None, slice_get}
use Rattle.hp_syntax.specs.Networks.{Network, Place}
use Rattle.hp_syntax.specs.Terms.{Term}
use Rattle.hp_syntax.specs.Views.{tasks_of}
use Rattle.hp_eval.specs.Growth.{Grows}
use Rattle.hp_links.specs.Linked.{Linked, focused, place_of, NamesTask}
use Rattle.hp_derivation.specs.declared.derivation.Derivation.{Derivation}
use Rattle.hp_derivation.specs.declared.going.Going.{Going}
use Rattle.hp_derivation.specs.declared.going.Fate as held
use Rattle.hp_derivation.specs.declared.going.Fate.TheVariants as fates
use Rattle.hp_derivation.specs.declared.going.Taken as taken_up
use Rattle.hp_derivation.specs.declared.roll.Stood.{Stood}
use Rattle.hp_derivation.specs.Derived.{Fate, Done, Into, Stage, Taken, fared}
use Rattle.hp_derivation.specs.Rolls.{IsRoll}

-- the tasks and their order
abbrev pub parts_of : Derivation → List Stood × List ℕ
parts_of d = (d.tasks.items, d.order.items)

-- what becomes of a task
abbrev pub fate_of : held.Fate → Fate
fate_of fates.Done = Done
fate_of (fates.Into tasks) = Into (tasks_of tasks.now)

-- the network is that of a stage, whatever terms are added, the next number is that of the next task, and the roll has
-- the tasks in their order
pub record Stands (g : Going) (s : Stage) : Type 0 where
  pub network : (terms : List Term) → Grows g.cells terms → focused terms g.net.now ≡ (s.network, s.focus)
  pub next : g.next ≡ length s.tasks
  pub roll : IsRoll g.roll s.tasks s.order

-- a task of the network is the one that is taken
pub record Takes (g : Going) (t : taken_up.Taken) (u : Taken) : Type 0 where
  pub place : place_of g.net.now t.id ≡ Some u.place
  pub number : t.number ≡ u.number
  pub task : t.task ≡ u.task
  pub fate : fate_of t.fate ≡ u.fate

-- a task of this name, number and past is taken, with what becomes of it, where that is known
abbrev pub IsFaring : Option taken_up.Taken → ℕ → ℕ → Stood → Option Fate → Type 0
IsFaring None id number task f = f ≡ None
IsFaring (Some t) id number task f =
    (t.id ≡ id) × (t.number ≡ number) × (t.task ≡ task) × (f ≡ Some (fate_of t.fate))

-- a task is taken, or none
abbrev pub Finds : Going → Option taken_up.Taken → Option Taken → Type 0
Finds g None u = u ≡ None
Finds g (Some t) u = (v : Taken) × (u ≡ Some v) × Takes g t v

-- a deed was followed, or it finds nothing that it takes
abbrev pub Fares : Bool → Going → ℕ → Stage → Option Taken → Type 0
Fares false g k s u = u ≡ None
Fares true g k s u = (t : Taken) × (u ≡ Some t) × Stands g (fared k t t.fate s)

-- a task of a network stands at a place, or there is none
abbrev pub IsAt : Linked → Option ℕ → Option Place → Type 0
IsAt net None o = o ≡ None
IsAt net (Some id) o = NamesTask net id × (p : Place) × (place_of net id ≡ Some p) × (o ≡ Some p)
