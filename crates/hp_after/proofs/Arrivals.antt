-- A whole walk to a path.
use Rattle.std.proofs.Common.{◌≡◌, ℕ, ◌<◌, ◌-◌, ◌^◌, List, ◌∷◌, ◌++◌, refl, sym, ap, ◌∙◌, subst}
use Rattle.std.specs.List.{All}
use Rattle.hp_laws.proofs.PathLemmas.{visits_in_tree}
use Rattle.hp_net.specs.Standings.{Tree, Standing, IsAtItsNode, tree_visits}
use Rattle.hp_passes.proofs.PassingLemmas.{IsEnd, Whole, Ended, TurnsAs, passed}
use Rattle.hp_passes.specs.Passing.{Passes}
use Rattle.hp_passes.specs.declared.passing.Turn.{Turn}
use Rattle.hp_passes.specs.declared.passing.Turn.TheVariants.{On, Past, Last}
use Rattle.hp_syntax.specs.Walk.{Visit, Plan, visit, node_at}
use Rattle.hp_after.specs.declared.reaching.Arrival.{Arrival}
use Rattle.hp_after.specs.declared.reaching.Reached.TheVariants as reached
use Rattle.hp_after.specs.declared.reaching.Reaching.{Reaching}
use Rattle.hp_after.specs.Reach.{Coming, IsArrival, IsThere, nothing_met, reach_turn, reaching}
use Rattle.hp_after.specs.Reaching.{MeetsReaching, Tells, Turns, knowing}
use Rattle.hp_after.specs.Stepping.{AllFollow, Follows}
use Rattle.hp_after.proofs.FollowSteps.{FollowsThen, follows_then}
use Rattle.hp_after.proofs.PlanLemmas.{Fits, comes_to_plan, fits, in_midst}
use Rattle.hp_after.proofs.SteppingLemmas.{tree_follows}

-- all visits are at their nodes
pub tree_at : (t : Tree) (vs : List Visit) → vs ≡ tree_visits t → All (IsAtItsNode t) vs
tree_at t vs e = subst (All (IsAtItsNode t)) (sym e) (visits_in_tree t.rules t.nest t.root)

module _ (p : List ℕ) where
  -- before the visits that are left the plan wasn't met
  record Knows (k : Coming) (s : Reaching) (c : Unit {0}) (vs : List Visit) : Type 0 where
    target : s.target.now ≡ p
    absent : k.answer ≡ reached.Absent
    tells : Tells s.arrival k
    follow : AllFollow p vs

  -- the last visit was the plan at the path, where the walk came to that
  record Over (k : Coming) (s : Reaching) (c : Unit {0}) (v : Visit) : Type 0 where
    tells : Tells s.arrival k
    at : k.answer ≡ reached.At → (v.sight ≡ Plan) × (v.path ≡ p)

  module _ (small : All (λ i. i < 2 ^ 64 - 1) p) where
    turns_as : (s t : Reaching) (c d : Unit {0}) (v : Visit) (vs : List Visit) (x : Turn) (k : Coming)
        → t.target.now ≡ p → Tells t.arrival k → Fits p v (knowing x k) → FollowsThen p v vs (knowing x k)
        → TurnsAs MeetsReaching (reach_turn p) Knows Over (knowing x k) x t d v vs
    turns_as s t c d v vs On k target tells fit then =
        record { target = target; absent = fit; tells = tells; follow = then }
    turns_as s t c d v vs Past k target tells fit then =
        record { target = target; absent = fit; tells = tells; follow = then }
    turns_as s t c d v vs Last k target tells fit then = record { tells = tells; at = fit }

    -- each visit turns the pass as it does the walk to the path
    agrees : (k : Coming) (s t : Reaching) (c d : Unit {0}) (v : Visit) (vs : List Visit) (x : Turn)
        → Knows k s c (v ∷ vs) → MeetsReaching s c v x t d
        → TurnsAs MeetsReaching (reach_turn p) Knows Over (reach_turn p k v) x t d v vs
    agrees k s t c d v vs x h m =
        let turns = (subst (λ q. All (λ i. i < 2 ^ 64 - 1) q → Follows v.sight v.path q → (j : Coming)
        → Tells s.arrival j → Turns q j v x t.arrival) h.target m.turns) small h.follow.0 k h.tells in
        subst (λ y. TurnsAs MeetsReaching (reach_turn p) Knows Over y x t d v vs) (sym turns.turn)
        (turns_as s t c d v vs x turns.next (m.target ∙ h.target) turns.tells
        (subst (Fits p v) turns.turn (fits p k v h.absent v.sight refl))
        (subst (FollowsThen p v vs) turns.turn (follows_then p v vs h.follow.1 k v.sight refl h.follow.0)))

  -- in the end the arrival tells what is known, and where that is the plan, the walk stands at it
  record Arrives (k : Coming) (ws : List Visit) (s : Reaching) (there : Standing) : Type 0 where
    tells : Tells s.arrival k
    path : k.answer ≡ reached.At → there.path ≡ p
    rest : k.answer ≡ reached.At → there.rest ≡ ws

  at_end : (k : Coming) (ws : List Visit) (s : Reaching) (c : Unit {0}) (there : Standing)
      → IsEnd MeetsReaching (reach_turn p) Knows Over k ws s c there → Arrives k ws s there
  at_end _ _ _ _ _ (Whole k s c h) =
      let never : k.answer ≡ reached.At → ⊥ = λ e. let f = sym h.absent ∙ e in absurd (cc) in
      record { tells = h.tells; path = λ e. absurd (never e); rest = λ e. absurd (never e) }
  at_end _ _ _ _ _ (Ended k ws s c v h) = record {
    tells = h.tells;
    path = λ e. (h.at e).1;
    rest = λ e. let plan = (h.at e).0 in rw plan refl;
  }

-- an arrival tells what the walk to a path comes to; where that is the plan, the walk stands at it
pub record ComesThere (p : List ℕ) (t : Tree) (a : Arrival) (there : Standing) : Type 0 where
  pub arrival : IsArrival a p (tree_visits t)
  pub at : a.answer ≡ reached.At → IsThere t there p

pub arrives : (p : List ℕ) → All (λ i. i < 2 ^ 64 - 1) p → (t : Tree) (s u : Reaching) (c e : Unit {0})
    (there : Standing) → s.target.now ≡ p → Tells s.arrival nothing_met → (vs : List Visit) → vs ≡ tree_visits t
    → Passes MeetsReaching s c vs u e there → ComesThere p t u.arrival there
arrives p small t s u c e there target tells vs new made =
    let all = reaching p (tree_visits t) in
    let come = at_end p all.knows all.left u e there
    (passed MeetsReaching (reach_turn p) (Knows p) (Over p) (agrees p small) nothing_met s u c e (tree_visits t)
    there (record { target = target; absent = refl; tells = tells; follow = tree_follows t p })
    (subst (λ ws. Passes MeetsReaching s c ws u e there) new made)).end in
    record {
      arrival = record { answer = come.tells.answer; expansions = come.tells.expansions };
      at =
          λ e.
          let met = sym come.tells.answer ∙ e in
          let plan = (comes_to_plan t.rules t.nest t.root p).only met in
          record {
            path = come.path met;
            node = plan.0;
            at_node =
                ap (node_at t.rules t.nest t.root) (come.path met)
                ∙ in_midst (IsAtItsNode t) plan.1 (visit p plan.0 Plan) all.left
                (tree_at t (plan.1 ++ visit p plan.0 Plan ∷ all.left) (sym plan.2));
            before = plan.1;
            plan = plan.2 ∙ ap (λ ws. plan.1 ++ visit p plan.0 Plan ∷ ws) (sym (come.rest met));
            left = come.rest met;
          };
    }
