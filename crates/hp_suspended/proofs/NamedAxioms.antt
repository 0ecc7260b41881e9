-- The events of a goal by the axioms of its name. (On axioms alone: it can stand with the laws of look-ups by name.)
use Rattle.std.proofs.Common.{◌≡◌, Bool, true, false, cond, List, [], ◌∷◌, ◌++◌, filter, refl, sym, ◌∙◌, ap}
use Rattle.std.specs.Prelude.{flat_map, bytes_eq}
use Rattle.hp_syntax.specs.Syntax.{Rule, Axiom}
use Rattle.hp_syntax.specs.Values.{Bindings}
use Rattle.hp_syntax.specs.Goals.{Goal}
use Rattle.hp_syntax.specs.Events.{Event, State, Below, state_events, axiom_events, goal_events, axioms_of}
use Rattle.hp_laws.specs.RulesByName.{concluding}

module _ (lower : Below) (q : Goal) (e : Bindings) where
  -- an axiom of another name meets nothing
  other_axiom : (x : Axiom) → bytes_eq x.head.name q.name ≡ false → axiom_events lower x q e ≡ []
  other_axiom x h = rw h refl

  -- the events of axioms, one after another
  abbrev joined_events : List Axiom → List Event
  joined_events axioms = flat_map (λ x. axiom_events lower x q e) axioms

  -- the axioms of the goal's name
  abbrev with_name : List Axiom → List Axiom
  with_name axioms = filter (λ x. bytes_eq x.head.name q.name) axioms

  -- axioms of other names meet nothing
  named_alone : (axioms : List Axiom) → joined_events axioms ≡ joined_events (with_name axioms)
  named_alone [] = refl
  named_alone (x ∷ xs) = by (bytes_eq x.head.name q.name) refl (named_alone xs)
    where
      by : (b : Bool) → bytes_eq x.head.name q.name ≡ b → joined_events xs ≡ joined_events (with_name xs)
          → joined_events (x ∷ xs) ≡ joined_events (with_name (x ∷ xs))
      by true h rest =
          ap (λ ys. axiom_events lower x q e ++ ys) rest
          ∙ sym (ap (λ b. joined_events (cond b (x ∷ with_name xs) (with_name xs))) h)
      by false h rest =
          ap (λ ys. ys ++ joined_events xs) (other_axiom x h)
          ∙ (rest ∙ sym (ap (λ b. joined_events (cond b (x ∷ with_name xs) (with_name xs))) h))

  -- a goal meets the atoms of the state, and then the axioms of its name
  pub goal_begins : (s : State) (rules : List Rule)
      → goal_events (axioms_of rules) lower s q e ≡ state_events s q e ++ joined_events (concluding q.name rules)
  goal_begins s rules = ap (λ xs. state_events s q e ++ xs) (named_alone (axioms_of rules))
