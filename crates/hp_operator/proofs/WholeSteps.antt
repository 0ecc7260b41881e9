-- What an operator's effects and its cost come to, list by list.
use Rattle.std.proofs.Common.{◌≡◌, ℕ, ℤ, Bool, true, false, cond, List, [], ◌∷◌, Err, refl, sym, ◌∙◌, ap}
use Rattle.hp_syntax.specs.declared.domain.Side.TheVariants.{Deletes, Adds}
use Rattle.hp_syntax.specs.Changes.{changes_of as gathered_changes, cost_value, effects, effects_values, Changes, Going, Went, and_go, Gathered}
use Rattle.hp_syntax.specs.Events.{State}
use Rattle.hp_syntax.specs.Syntax.{Axiom, Effect, Operator, Pattern}
use Rattle.hp_syntax.specs.Values.{Bindings}
use Rattle.hp_code.specs.Sources.{Body, Sided, from_adding, not_adding}
use Rattle.hp_eval.specs.declared.event.EvalStop.{EvalStop}
use Rattle.hp_eval.specs.declared.event.EvalStop.TheVariants as stops
use Rattle.hp_suspended.specs.Settings.{Setting}
use Rattle.hp_effect.specs.declared.obstacle.Obstacle.{Obstacle}
use Rattle.hp_effect.specs.Costs.{Costs}
use Rattle.hp_effect.specs.Gathering.{obstacle_of, with_gathered, StopsHere}
use Rattle.hp_effect.proofs.GatheringLemmas.{stops_go, stops_same}
use Rattle.hp_operator.specs.Bodies.{adding_on, behind_side, body_effects, body_going, effects_in, list_going, on_side}

-- the effects from the first that adds anything on are those that are put on the side of adds
first_by : (b : Bool) (x : Sided) (xs : List Sided) → effects_in (adding_on xs) ≡ from_adding xs
    → effects_in (cond b (x ∷ xs) (adding_on xs)) ≡ cond b (x.effect ∷ effects_in xs) (from_adding xs)
first_by true x xs h = refl
first_by false x xs h = h

from_first : (xs : List Sided) → effects_in (adding_on xs) ≡ from_adding xs
from_first [] = refl
from_first (x ∷ xs) = first_by x.adds x xs (from_first xs)

-- what is put on the side of adds behind the deletes
pub adds_behind : (b : Body) → on_side Adds (behind_side Deletes b) ≡ from_adding b.effects
adds_behind b = from_first b.effects

-- a cost that stops stops the effects
pub cost_stops : (stop : EvalStop) (going : Going ℤ) → Costs (Err stop) going → StopsHere (obstacle_of stop) going
cost_stops (stops.Fault f) going h = h
cost_stops stops.NoMemory going h = tt

module _ (w : Setting) (nest : ℕ) (b : Body) (e : Bindings) where
  abbrev pub dels_going : Going Gathered
  dels_going = list_going w nest (not_adding b.effects) e

  abbrev pub adds_going : Going Gathered
  adds_going = list_going w nest (from_adding b.effects) e

  -- the other effects come behind the deletes, and then the cost is valued
  abbrev with_cost : Gathered → Gathered → Going (Changes × ℤ)
  with_cost d a = and_go (cost_value b.cost e) (λ c. Went (gathered_changes d a, c))

  abbrev with_adds : Gathered → Going (Changes × ℤ)
  with_adds d = and_go adds_going (with_cost d)

  body_is : body_going w nest b e ≡ and_go dels_going with_adds
  unfolding body_effects
  body_is = refl

  -- where the deletes stop the whole does
  pub dels_stop : (obstacle : Obstacle) → StopsHere obstacle dels_going → StopsHere obstacle (body_going w nest b e)
  dels_stop obstacle h = stops_same obstacle (body_going w nest b e) _ body_is (stops_go obstacle dels_going with_adds h)

  module _ (d : Gathered) (dels : dels_going ≡ Went d) where
    behind_dels : body_going w nest b e ≡ with_adds d
    behind_dels = body_is ∙ ap (λ x. and_go x with_adds) dels

    -- where the other effects stop the whole does
    pub adds_stop : (obstacle : Obstacle) → StopsHere obstacle adds_going
        → StopsHere obstacle (body_going w nest b e)
    adds_stop obstacle h =
        stops_same obstacle (body_going w nest b e) _ behind_dels (stops_go obstacle adds_going (with_cost d) h)

    module _ (a : Gathered) (adds : adds_going ≡ Went a) where
      behind_adds : body_going w nest b e ≡ with_cost d a
      behind_adds = behind_dels ∙ ap (λ x. and_go x (with_cost d)) adds

      -- where the cost stops the whole does
      pub cost_stop : (obstacle : Obstacle) → StopsHere obstacle (cost_value b.cost e)
          → StopsHere obstacle (body_going w nest b e)
      cost_stop obstacle h =
          stops_same obstacle (body_going w nest b e) _ behind_adds
          (stops_go obstacle (cost_value b.cost e) (λ c. Went (gathered_changes d a, c)) h)

      -- where all goes the whole is the changes and the cost
      pub all_go : (n : ℤ) → cost_value b.cost e ≡ Went n → body_going w nest b e ≡ Went (gathered_changes d a, n)
      all_go n h = behind_adds ∙ ap (λ x. and_go x (λ c. Went (gathered_changes d a, c))) h

-- the atoms that both lists gathered, from no changes on, are the changes
pub gathered_both : (none dels adds : Changes) (d a : Gathered)
    → none ≡ record { unguard = []; delete = []; add = []; guard = [] } → dels ≡ with_gathered Deletes d none
    → adds ≡ with_gathered Adds a dels → adds ≡ gathered_changes d a
gathered_both none dels adds d a e f g =
    g ∙ (ap (with_gathered Adds a) f ∙ ap (λ c. with_gathered Adds a (with_gathered Deletes d c)) e)

-- an operator with the lists and the cost of a body comes to what the body does
pub operator_is : (axioms : List Axiom) (nest : ℕ) (s : State) (o : Operator) (b : Body) (e : Bindings)
    → o.dels ≡ not_adding b.effects → o.adds ≡ from_adding b.effects → o.cost ≡ b.cost
    → effects axioms nest s o e ≡ body_effects axioms nest s b e
unfolding effects body_effects
operator_is axioms nest s o b e d a c =
    let whole : List Effect → List Effect → Pattern → Going (Changes × ℤ) =
    λ dels adds cost.
    and_go (effects_values axioms nest s dels e) (λ x.
    and_go (effects_values axioms nest s adds e) (λ y.
    and_go (cost_value cost e) (λ n. Went (gathered_changes x y, n)))) in
    ap (λ xs. whole xs o.adds o.cost) d ∙ ap (λ xs. whole (not_adding b.effects) xs o.cost) a
    ∙ ap (whole (not_adding b.effects) (from_adding b.effects)) c
