-- Events in a scene.
use Rattle.std.specs.Prelude.{ℕ, zero, suc, List, [], Option, Some, None}
use Rattle.hp_syntax.specs.Syntax.{Atom, Axiom, Rule}
use Rattle.hp_syntax.specs.Terms.{Term}
use Rattle.hp_syntax.specs.Values.{Bindings}
use Rattle.hp_syntax.specs.Goals.{Goal}
use Rattle.hp_syntax.specs.Events.{Event, State, Below, axioms_of, axiom_events, atom_events, sat}
use Rattle.hp_syntax.specs.Views.{domain_of}
use Rattle.hp_world.specs.Stages.{Stage, state_of}
use Rattle.hp_satisfiers.specs.declared.expressions.Scene.{Scene}

-- the rules of a scene, in the order of the domain
abbrev pub rules_in : Scene → List Rule
rules_in s = (domain_of s.book.now.domain.now).rules

-- the axioms of a scene, in the order of the domain
abbrev pub axioms_in : Scene → List Axiom
axioms_in s = axioms_of (rules_in s)

-- the stage of a scene's world
abbrev pub stage_in : Scene → Stage
stage_in s = s.world.now.now

-- the state of a scene, where cells name these terms
abbrev pub state_in : List Term → Scene → State
state_in terms s = state_of terms (stage_in s)

-- ---- levels

-- the events of an expression one level down, with so many levels left
abbrev pub below_at : List Axiom → ℕ → State → Below
below_at axioms zero s = None
below_at axioms (suc n) s = Some (sat axioms n s)

-- the events of an atom, with so many levels left
abbrev pub atoms_at : List Axiom → ℕ → State → Atom → Bindings → List Event
atoms_at axioms n s = atom_events axioms (below_at axioms n s) s

-- the events of a goal by an axiom, if there is one
abbrev pub placed_events : Below → Option Axiom → Goal → Bindings → List Event
placed_events below None q e = []
placed_events below (Some x) q e = axiom_events below x q e
