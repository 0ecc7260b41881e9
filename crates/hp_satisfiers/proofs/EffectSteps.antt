-- Outcomes of effects, one after another.
use Rattle.std.specs.Prelude.{Vec}
use Rattle.std.specs.Global.{Global}
use Rattle.std.proofs.Common.{◌≡◌, ℕ, ℤ, ◌+◌, ◌<◌, List, [], length, map, drop, get_or, Err, refl, sym, ◌∙◌, ap, ap₂}
use Rattle.hp_syntax.specs.declared.pattern.AtomPat.{AtomPat}
use Rattle.hp_syntax.specs.declared.expression.Expr.{Expr}
use Rattle.hp_syntax.specs.declared.domain.Effect as public_effect
use Rattle.hp_syntax.specs.declared.domain.Effect.TheVariants as public_effects
use Rattle.hp_syntax.specs.declared.domain.Operator.{Operator}
use Rattle.hp_syntax.specs.declared.domain.Side.TheVariants.{Deletes, Adds}
use Rattle.hp_syntax.specs.Preconditions.{heard}
use Rattle.hp_syntax.specs.Syntax.{Axiom}
use Rattle.hp_syntax.specs.Terms.{Term}
use Rattle.hp_syntax.specs.Values.{Bindings}
use Rattle.hp_syntax.specs.Views.{pattern_of, atoms_of, expression_of, effect_of, operator_of}
use Rattle.hp_syntax.specs.Events.{State, sat}
use Rattle.hp_syntax.specs.Changes.{changes_of as gathered_changes, cost_value, effects, Changes, Going, Went, and_go, Gathered, effects_values, effect_values}
use Rattle.hp_eval.specs.declared.event.EvalStop.{EvalStop}
use Rattle.hp_eval.specs.declared.event.EvalStop.TheVariants as stops
use Rattle.hp_eval.specs.Growth.{Grows}
use Rattle.hp_eval.specs.Slotted.{Slotted, AreBelow, bindings_of}
use Rattle.hp_eval.proofs.GrowthLemmas.{bindings_stay}
use Rattle.hp_eval.proofs.Loops.{left_more}
use Rattle.hp_world.specs.Stages.{Stage, StageBelow, state_of}
use Rattle.hp_effect.specs.declared.obstacle.Obstacle.{Obstacle}
use Rattle.hp_effect.specs.Costs.{Costs}
use Rattle.hp_effect.specs.Gathering.{obstacle_of, with_gathered, both, each_going, StopsHere}
use Rattle.hp_effect.proofs.GatheringLemmas.{stops_go, stops_same}
use Rattle.hp_answers.proofs.AnswerLemmas.{state_stays}

-- ---- lists of effects

-- the outcome of a list of effects
abbrev pub list_going : List Axiom → ℕ → State → Bindings → List public_effect.Effect → Going Gathered
list_going axioms nest s e effects = effects_values axioms nest s (map effect_of effects) e

-- the next effect is gone through before the others that are left
pub effects_left : (axioms : List Axiom) (nest : ℕ) (s : State) (e : Bindings) (effects : List public_effect.Effect)
    (i : ℕ) (x : public_effect.Effect) → i < length effects → x ≡ get_or effects i x
    → list_going axioms nest s e (drop i effects)
    ≡ both (effect_values axioms nest s (effect_of x) e) (list_going axioms nest s e (drop (i + 1) effects))
effects_left axioms nest s e effects i x l is = ap (list_going axioms nest s e) (left_more effects i x l is)

-- an effect for each satisfier gathers the values of its atoms
pub each_effect : (axioms : List Axiom) (nest : ℕ) (s : State) (e : Bindings) (x : public_effect.Effect)
    (vars : Vec ℕ Global) (expr : Expr) (atoms : Vec AtomPat Global) → x ≡ public_effects.Forall vars expr atoms
    → each_going (atoms_of atoms.items) (heard (sat axioms nest s (expression_of expr) e))
    ≡ effect_values axioms nest s (effect_of x) e
each_effect axioms nest s e x vars expr atoms h = ap (λ y. effect_values axioms nest s (effect_of y) e) (sym h)

-- ---- an operator's effects and its cost

-- a cost that stops stops the effects
pub cost_stops : (stop : EvalStop) (going : Going ℤ) → Costs (Err stop) going → StopsHere (obstacle_of stop) going
cost_stops (stops.Fault f) going h = h
cost_stops stops.NoMemory going h = tt

module _ (axioms : List Axiom) (nest : ℕ) (s : State) (o : Operator) (e : Bindings) where
  -- the outcome of the delete list, of the add list, and of the whole
  abbrev dels_going : Going Gathered
  dels_going = list_going axioms nest s e o.dels.items

  abbrev adds_going : Going Gathered
  adds_going = list_going axioms nest s e o.adds.items

  abbrev whole_going : Going (Changes × ℤ)
  whole_going = effects axioms nest s (operator_of o) e

  -- the add list is gone through behind the delete list, and then the cost is valued
  abbrev with_cost : Gathered → Gathered → Going (Changes × ℤ)
  with_cost d a = and_go (cost_value (pattern_of o.cost) e) (λ c. Went (gathered_changes d a, c))

  abbrev with_adds : Gathered → Going (Changes × ℤ)
  with_adds d = and_go adds_going (with_cost d)

  effects_are : whole_going ≡ and_go dels_going with_adds
  unfolding effects
  effects_are = refl

  -- where the delete list stops the whole does
  pub dels_stop : (obstacle : Obstacle) → StopsHere obstacle dels_going → StopsHere obstacle whole_going
  dels_stop obstacle h = stops_same obstacle whole_going _ effects_are (stops_go obstacle dels_going with_adds h)

  module _ (d : Gathered) (dels : dels_going ≡ Went d) where
    behind_dels : whole_going ≡ with_adds d
    behind_dels = effects_are ∙ ap (λ x. and_go x with_adds) dels

    -- where the add list stops the whole does
    pub adds_stop : (obstacle : Obstacle) → StopsHere obstacle adds_going → StopsHere obstacle whole_going
    adds_stop obstacle h = stops_same obstacle whole_going _ behind_dels (stops_go obstacle adds_going (with_cost d) h)

    module _ (a : Gathered) (adds : adds_going ≡ Went a) where
      behind_adds : whole_going ≡ with_cost d a
      behind_adds = behind_dels ∙ ap (λ x. and_go x (with_cost d)) adds

      -- where the cost stops the whole does
      pub cost_stop : (obstacle : Obstacle) → StopsHere obstacle (cost_value (pattern_of o.cost) e)
          → StopsHere obstacle whole_going
      cost_stop obstacle h =
          stops_same obstacle whole_going _ behind_adds
          (stops_go obstacle (cost_value (pattern_of o.cost) e) (λ c. Went (gathered_changes d a, c)) h)

      -- where all goes the whole is the changes and the cost
      pub all_go : (n : ℤ) → cost_value (pattern_of o.cost) e ≡ Went n → whole_going ≡ Went (gathered_changes d a, n)
      all_go n h = behind_adds ∙ ap (λ x. and_go x (λ c. Went (gathered_changes d a, c))) h

-- the atoms that both lists gathered, from no changes on, are the changes
pub gathered_both : (none dels adds : Changes) (d a : Gathered)
    → none ≡ record { unguard = []; delete = []; add = []; guard = [] } → dels ≡ with_gathered Deletes d none
    → adds ≡ with_gathered Adds a dels → adds ≡ gathered_changes d a
gathered_both none dels adds d a e f g =
    g ∙ (ap (with_gathered Adds a) f ∙ ap (λ c. with_gathered Adds a (with_gathered Deletes d c)) e)

module _ (old new : List Term) (g : Grows old new) (stage : Stage) (there : StageBelow (length old) stage) (s : Slotted)
    (below : AreBelow (length old) s) where
  -- a function of a state and bindings has the same value over terms that were added to
  pub seen_stays : {X : Type 0} (f : State → Bindings → X)
      → f (state_of new stage) (bindings_of new s) ≡ f (state_of old stage) (bindings_of old s)
  seen_stays f = ap₂ f (state_stays old new g stage there) (bindings_stay old new g s below)

  -- a list of effects comes to the same, told by equal lists
  pub list_stays : (axioms : List Axiom) (nest : ℕ) (xs effects : List public_effect.Effect) → xs ≡ effects
      → list_going axioms nest (state_of new stage) (bindings_of new s) xs
      ≡ list_going axioms nest (state_of old stage) (bindings_of old s) effects
  list_stays axioms nest xs effects e =
      seen_stays (λ st b. list_going axioms nest st b xs)
      ∙ ap (list_going axioms nest (state_of old stage) (bindings_of old s)) e
