-- Atoms that are matched without being filled: which atoms a filter lets pass, and what is left of them.
use Rattle.std.specs.Prelude.{ℕ, ◌<◌, ◌++◌, Bool, true, false, ◌&&◌, cond, List, [], ◌∷◌, drop, Option, Some, None, IfSome, Result, Ok, Err, flat_map}
use Rattle.hp_syntax.specs.declared.fault.RunFault.{RunFault}
use Rattle.hp_syntax.specs.Syntax.{Atom}
use Rattle.hp_syntax.specs.Terms.{Term, same_term}
use Rattle.hp_syntax.specs.Values.{Bindings}
use Rattle.hp_syntax.specs.Goals.{Goal, fill_goal}
use Rattle.hp_syntax.specs.Matching.{match_atom}
use Rattle.hp_syntax.specs.Events.{Event, Fault, sat_if}
use Rattle.hp_eval.specs.GoalViews.{term_at}
use Rattle.hp_world.specs.Parts.{part_of}
use Rattle.hp_world.specs.Stages.{live_atoms, terms_at}
use Rattle.hp_suspended.specs.declared.places.AtomFilter.{AtomFilter}
use Rattle.hp_suspended.specs.declared.places.KnownPart.{KnownPart}
use Rattle.hp_suspended.specs.Settings.{Setting, axioms_from}

-- a part that is there equals a term
abbrev pub is_same_part : Option Term → Term → Bool
is_same_part None x = false
is_same_part (Some t) x = same_term t x

-- an atom has a known part, if there is one
abbrev pub has_known : List Term → Option KnownPart → Term → Bool
has_known terms None t = true
has_known terms (Some p) t = is_same_part (part_of p.number t) (term_at terms p.cell)

-- an atom passes a filter: it has the name and the part that the filter's cells name
abbrev pub passes : List Term → AtomFilter → Term → Bool
passes terms f t = is_same_part (part_of 0 t) (term_at terms f.name) && has_known terms f.known t

-- the bindings under which an atom matches one that passes a filter
abbrev pub match_passing : List Term → AtomFilter → Atom → Term → Bindings → Option Bindings
match_passing terms f a t e = cond (passes terms f t) (match_atom a t e) None

-- the cells of a filter are below a count
abbrev pub FilterBelow : ℕ → AtomFilter → Type 0
FilterBelow n f = (f.name < n) × IfSome f.known (λ p. p.cell < n)

-- the satisfiers that the atoms of the places from one on give
unfoldable pub sats_from : Setting → ℕ → (Term → Option Bindings) → List Event
sats_from w from found = flat_map (λ t. sat_if (found t)) (terms_at w.terms (live_atoms (drop from w.places)))

-- the events of an atom that is filled to this, by the axioms of its name; the fault of filling it, where there are any
abbrev pub fault_by : List ℕ → RunFault → List Event
fault_by [] x = []
fault_by (i ∷ is) x = Fault x ∷ []

abbrev pub by_axioms : Setting → ℕ → Atom → Result Goal RunFault → Bindings → List Event
by_axioms w n a (Ok q) e = axioms_from w n 0 q e
by_axioms w n a (Err x) e = fault_by (w.code.axiom_rules a.name) x

-- what is left of an atom that isn't filled: its satisfiers by the atoms from a place on that pass a filter, and its
-- events by axioms
abbrev pub atom_left : Setting → ℕ → ℕ → AtomFilter → Option Atom → Bindings → List Event
atom_left w n from f None e = []
atom_left w n from f (Some a) e =
    sats_from w from (λ t. match_passing w.terms f a t e) ++ by_axioms w n a (fill_goal a e) e
