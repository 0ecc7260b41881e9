-- The atoms that effects gather, and those of them that are put into changes.
use Rattle.std.specs.Prelude.{◌≡◌, ℕ, Bool, true, false, List, [], ◌∷◌, ◌++◌, length, Result, Ok, Err}
use Rattle.hp_syntax.specs.declared.domain.Side.{Side}
use Rattle.hp_syntax.specs.declared.domain.Side.TheVariants.{Deletes, Adds}
use Rattle.hp_syntax.specs.declared.fault.RunFault.{RunFault}
use Rattle.hp_syntax.specs.Syntax.{Atom}
use Rattle.hp_syntax.specs.Terms.{Term}
use Rattle.hp_syntax.specs.Applying.{ChangesOf}
use Rattle.hp_syntax.specs.Changes.{Changes, Going, Went, CutShort, Failed, and_go, go_on, Gathered, both_gathered, of_atoms, of_protection, atom_values, values_for_each}
use Rattle.hp_syntax.specs.Events as plain
use Rattle.hp_eval.specs.declared.event.EvalStop.{EvalStop}
use Rattle.hp_eval.specs.declared.event.EvalStop.TheVariants as stops
use Rattle.hp_eval.specs.Events.{PlainEvent}
use Rattle.hp_world.specs.Stages.{changes_of, ChangesBelow}
use Rattle.hp_effect.specs.declared.changes.Part.{Part}
use Rattle.hp_effect.specs.declared.changes.Part.TheVariants.{Unguard, Delete, Add, Guard}
use Rattle.hp_effect.specs.declared.obstacle.Obstacle.{Obstacle}
use Rattle.hp_effect.specs.declared.obstacle.Obstacle.TheVariants.{Cut, Fault, NoMemory}

-- the list of the changes for an atom of a list of effects, and for a protection
abbrev pub part_of_atoms : Side → Part
part_of_atoms Deletes = Delete
part_of_atoms Adds = Add

abbrev pub part_of_protections : Side → Part
part_of_protections Deletes = Unguard
part_of_protections Adds = Guard

-- the obstacle of an evaluation that stops
abbrev pub obstacle_of : EvalStop → Obstacle
obstacle_of (stops.Fault f) = Fault f
obstacle_of stops.NoMemory = NoMemory

-- the changes with the gathered atoms of a list of effects behind the others
abbrev pub with_gathered : Side → Gathered → Changes → Changes
with_gathered Deletes g c = record c { unguard = c.unguard ++ g.protections; delete = c.delete ++ g.atoms }
with_gathered Adds g c = record c { add = c.add ++ g.atoms; guard = c.guard ++ g.protections }

-- ---- outcomes of effects

-- the value of an atom, and that of a protection
abbrev pub of_atom : Result Term RunFault → Going Gathered
of_atom r = and_go (go_on r) (λ t. Went (of_atoms (t ∷ [])))

abbrev pub of_guard : Result Term RunFault → Going Gathered
of_guard r = and_go (go_on r) (λ t. Went (of_protection t))

abbrev pub only_atoms : Going (List Term) → Going Gathered
only_atoms g = and_go g (λ ts. Went (of_atoms ts))

-- the values of the atoms under a Sat; a Cut or a Fault stops
abbrev pub values_at : List Atom → plain.Event → Going Gathered
values_at as' (plain.Sat e) = only_atoms (atom_values as' e)
values_at as' plain.Cut = CutShort
values_at as' (plain.Fault f) = Failed f

-- one effect, and then others
abbrev pub both : Going Gathered → Going Gathered → Going Gathered
both x y = and_go x (λ g. and_go y (λ h. Went (both_gathered g h)))

-- ---- atoms put into changes

-- effects went, and their gathered atoms are put behind the others
pub record HasPut (side : Side) (going : Going Gathered) (terms : List Term) (old : Changes)
    (new : ChangesOf ℕ) : Type 0 where
  pub values : Gathered
  pub went : going ≡ Went values
  pub puts : changes_of terms new ≡ with_gathered side values old
  pub below : ChangesBelow (length terms) new

-- effects stop here; for want of memory it is free
abbrev pub StopsHere : {A : Type 0} → Obstacle → Going A → Type 0
StopsHere Cut going = going ≡ CutShort
StopsHere (Fault f) going = going ≡ Failed f
StopsHere NoMemory going = Unit {0}

-- effects went and are put, or stop
abbrev pub PutsAll : {A : Type 0} → Side → Result A Obstacle → Going Gathered → List Term → Changes → ChangesOf ℕ
    → Type 0
PutsAll side (Ok _) going terms old new = HasPut side going terms old new
PutsAll side (Err obstacle) going terms old new = StopsHere obstacle going

-- ---- atoms put for each satisfier

-- the outcome of the values of atoms under each Sat in turn
abbrev pub each_going : List Atom → List PlainEvent → Going Gathered
each_going as' xs = only_atoms (values_for_each as' xs)

-- the effects of one event went and are put before those that are left
pub record PutsFirst (side : Side) (whole left : Going Gathered) (terms : List Term) (old : Changes)
    (new : ChangesOf ℕ) : Type 0 where
  pub first : Going Gathered
  pub splits : whole ≡ both first left
  pub puts : HasPut side first terms old new

-- the next event is put: the remainder comes behind it, or at the end the whole is nothing more, or else it stops
abbrev pub PutsNext : Side → Result Bool Obstacle → Going Gathered → Going Gathered → List Term → Changes
    → ChangesOf ℕ → Type 0
PutsNext side (Ok true) whole left terms old new = PutsFirst side whole left terms old new
PutsNext side (Ok false) whole left terms old new = HasPut side whole terms old new
PutsNext side (Err obstacle) whole left terms old new = StopsHere obstacle whole
