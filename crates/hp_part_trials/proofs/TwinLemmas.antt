-- What the walk of the small tree stands on.
use Rattle.std.specs.Prelude.{◌≡◌, ℕ, Bool, false, List, [], ◌∷◌, Some, slice_get}
use Rattle.std.proofs.Common.{refl, ap, sym, subst}
use Rattle.std.specs.Option.{MatchOption}
use Rattle.hp_syntax.specs.Terms.{Term}
use Rattle.hp_syntax.specs.Calls as calls
use Rattle.hp_syntax.specs.Values as values
use Rattle.hp_syntax.specs.Matching as matching
use Rattle.hp_syntax.specs.Events as events
use Rattle.hp_syntax.specs.Preconditions as preconditions
use Rattle.hp_syntax.specs.Networks as networks
use Rattle.hp_syntax.specs.Changes as changes
use Rattle.hp_syntax.specs.Walk as walk
use Rattle.hp_syntax.specs.Walk.{Node, visits}
use Rattle.hp_eval.specs.GoalViews.{term_or_nil}
use Rattle.hp_world.specs.Stages.{terms_at}
use Rattle.hp_net.specs.Standings.{node_reached, standing}
use Rattle.hp_net.specs.Runs.{Call, Step, Back, Next, Prune, MayRun}
use Rattle.hp_part_trials.specs.declared.parts.walks.At.{At}
use Rattle.hp_part_trials.specs.declared.parts.walks.At.TheVariants.{Root, First, Second}
use Rattle.hp_part_trials.specs.declared.parts.walks.Left.{Left}
use Rattle.hp_part_trials.specs.Twins.{task, twins, twin_visits, node_of, standing_of}

-- the visits of the small tree
pub twin_visits_are : visits twins.rules twins.nest twins.root [] ≡ twin_visits
unfolding calls.call values.value values.values matching.match_pattern matching.match_parts events.events
    events.events_of_all events.events_of_any events.sat preconditions.precondition_events networks.normal
    networks.normal_parts networks.firsts networks.part_at networks.with_part networks.candidates networks.finish
    changes.apply changes.effects walk.children walk.visits_within walk.visits walk.node_at
twin_visits_are = refl

-- the node that is reached
pub reached : (a : At) (l : Left) (did : Bool) → node_reached twins (standing_of a l did) ≡ Some (node_of a)
unfolding calls.call values.value values.values matching.match_pattern matching.match_parts events.events
    events.events_of_all events.events_of_any events.sat preconditions.precondition_events networks.normal
    networks.normal_parts networks.firsts networks.part_at networks.with_part networks.candidates networks.finish
    changes.apply changes.effects walk.children walk.visits_within walk.visits walk.node_at
reached Root l did = refl
reached First l did = refl
reached Second l did = refl

-- what holds of the node that is reached holds of the tree's
pub at_node : (a : At) (l : Left) (did : Bool) (P : Node → Type 0) → P (node_of a)
    → MatchOption (node_reached twins (standing_of a l did)) ⊥ P
at_node a l did P h = subst (λ o. MatchOption o ⊥ P) (sym (reached a l did)) h

-- the one step is the task
pub one_step : (terms : List Term) (cell : ℕ) → slice_get terms cell ≡ Some task
    → terms_at terms (cell ∷ []) ≡ task ∷ []
one_step terms cell h = ap (λ o. term_or_nil o ∷ []) h

-- nothing holds or is protected at any node
pub no_state : (a : At) → [] ≡ (node_of a).state
no_state Root = refl
no_state First = refl
no_state Second = refl

pub no_guards : (a : At) → [] ≡ (node_of a).guards
no_guards Root = refl
no_guards First = refl
no_guards Second = refl

abbrev pub pruning_calls : List Call
pruning_calls = Next ∷ Prune ∷ Step ∷ Back ∷ Next ∷ Next ∷ Next ∷ []

-- these calls may be made of the small tree, in this order
pub may_prune : MayRun pruning_calls (standing [] twin_visits false)
may_prune = (tt, (refl, (tt, ((λ e. cc, refl), (tt, (tt, (tt, tt)))))))
