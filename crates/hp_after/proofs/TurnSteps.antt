-- One visit of a walk to a path.
use Rattle.std.proofs.Common.{◌≡◌, ◌≢◌, ℕ, ◌+◌, ◌-◌, ◌^◌, min, List, length, Some, None, refl, sym, ap, ◌∙◌, subst}
use Rattle.hp_net.proofs.Counts.{count_on}
use Rattle.hp_passes.specs.declared.passing.Turn as passing
use Rattle.hp_passes.specs.declared.passing.Turn.TheVariants as turns
use Rattle.hp_passes.specs.Passes.{Turn, On, Past, Last, Passed, pass, passed_all}
use Rattle.hp_syntax.specs.declared.fault.RunFault.{RunFault}
use Rattle.hp_syntax.specs.Walk.{Node, Sight, Visit, visit, Did, Plan, CutHere, FaultHere, told}
use Rattle.hp_after.specs.declared.reaching.Reached.TheVariants as reached
use Rattle.hp_after.specs.declared.reaching.Reaching.{Reaching}
use Rattle.hp_after.specs.declared.reaching.Side.{Side}
use Rattle.hp_after.specs.declared.reaching.Side.TheVariants as sides
use Rattle.hp_after.specs.Reach.{Coming, with_did, answered, did_turn, plan_turn, reach_turn, side_of}
use Rattle.hp_after.specs.Reaching.{MeetsReaching, knowing}
use Rattle.hp_after.specs.Stepping.{StepsFrom, Follows}
use Rattle.hp_after.proofs.SideLemmas.{side_told}
use Rattle.hp_after.proofs.StepSides.{above_by_length, here_by_length, told_begins, told_steps}

-- ---- the turn at a visit

module _ (p : List ℕ) (s : Coming) (v : Visit) where
  pub turn_did : (x : Side) → v.sight ≡ Did → side_of v.path p ≡ x → reach_turn p s v ≡ did_turn x (with_did s)
  turn_did x e h =
      let turn : reach_turn p s v ≡ did_turn (side_of v.path p) (with_did s) = rw e refl in
      turn ∙ ap (λ y. did_turn y (with_did s)) h

  pub turn_plan : (x : Side) → v.sight ≡ Plan → side_of v.path p ≡ x → reach_turn p s v ≡ plan_turn x s
  turn_plan x e h =
      let turn : reach_turn p s v ≡ plan_turn (side_of v.path p) s = rw e refl in
      turn ∙ ap (λ y. plan_turn y s) h

  pub turn_cut : v.sight ≡ CutHere → reach_turn p s v ≡ On s
  turn_cut e = rw e refl

  pub turn_fault : (f : RunFault) → v.sight ≡ FaultHere f → reach_turn p s v ≡ Last (answered (reached.Fault f) s)
  turn_fault f e = rw e refl

-- the pass behind a visit, by its turn
abbrev pub behind : List ℕ → Visit → List Visit → Turn Coming → Passed Coming
behind p v vs x =
    elim x [
      | On t ↦ pass (reach_turn p) None t vs
      | Past t ↦ pass (reach_turn p) (Some v.path) t vs
      | Last t ↦ passed_all t vs
    ]

pub not_fault : (f : RunFault) → reached.Fault f ≡ reached.At → ⊥
not_fault f h = cc

-- ---- one visit of the pass

-- a visit of a node at a path, which the walk reports as w
module _ (s t : Reaching) (c d : Unit {0}) (q w : List ℕ) (n : Node) (x : Sight) (as_told : w ≡ told q)
    (same : t.target.now ≡ s.target.now) where
  -- a decomposition is counted, and its side tells how the walk goes on
  pub meets_did : (side : Side) (y : passing.Turn) → x ≡ Did
      → (StepsFrom w s.target.now → side ≡ side_of w s.target.now)
      → ((k : Coming) → did_turn side k ≡ knowing y k) → t.arrival.answer ≡ s.arrival.answer
      → t.arrival.expansions ≡ min (s.arrival.expansions + 1) (2 ^ 64 - 1) → MeetsReaching s c (visit q n x) y t d
  meets_did side y e at turns answer counted = record {
    target = same;
    turns =
        λ small f k tells.
        let p = s.target.now in
        let steps = told_steps p small q (subst (λ z. Follows z q p) e f) in
        let here : side ≡ side_of w p = at (subst (λ l. StepsFrom l p) (sym as_told) steps) in
        record {
          next = with_did k;
          turn =
              turn_did p k (visit q n x) side e
              (sym (side_told q p small) ∙ sym (here ∙ ap (λ l. side_of l p) as_told))
              ∙ turns (with_did k);
          tells = record {
            answer = answer ∙ tells.answer;
            expansions = count_on t.arrival.expansions s.arrival.expansions k.expansions tells.expansions counted;
          };
        };
  }

  module _ (counted : t.arrival.expansions ≡ s.arrival.expansions) where
    -- a plan whose path is as long as the target is the one there
    pub meets_at : x ≡ Plan → length w ≡ length s.target.now → t.arrival.answer ≡ reached.At
        → MeetsReaching s c (visit q n x) turns.Last t d
    meets_at e long answer = record {
      target = same;
      turns =
          λ small f k tells.
          let p = s.target.now in
          let begins = told_begins p small q (subst (λ z. Follows z q p) e f) in
          record {
            next = answered reached.At k;
            turn =
                turn_plan p k (visit q n x) sides.Here e
                (sym (side_told q p small)
                ∙ here_by_length (told q) p begins (ap length (sym as_told) ∙ long));
            tells = record { answer = answer; expansions = counted ∙ tells.expansions };
          };
    }

    -- another plan isn't
    pub meets_above : x ≡ Plan → length w ≢ length s.target.now → t.arrival.answer ≡ s.arrival.answer
        → MeetsReaching s c (visit q n x) turns.On t d
    meets_above e other answer = record {
      target = same;
      turns =
          λ small f k tells.
          let p = s.target.now in
          let begins = told_begins p small q (subst (λ z. Follows z q p) e f) in
          record {
            next = k;
            turn =
                turn_plan p k (visit q n x) sides.Above e
                (sym (side_told q p small)
                ∙ above_by_length (told q) p begins (λ h. other (ap length as_told ∙ h)));
            tells = record { answer = answer ∙ tells.answer; expansions = counted ∙ tells.expansions };
          };
    }

    pub meets_cut : x ≡ CutHere → t.arrival.answer ≡ s.arrival.answer → MeetsReaching s c (visit q n x) turns.On t d
    meets_cut e answer = record {
      target = same;
      turns =
          λ small f k tells.
          record {
            next = k;
            turn = turn_cut s.target.now k (visit q n x) e;
            tells = record { answer = answer ∙ tells.answer; expansions = counted ∙ tells.expansions };
          };
    }

    pub meets_fault : (f : RunFault) → x ≡ FaultHere f → t.arrival.answer ≡ reached.Fault f
        → MeetsReaching s c (visit q n x) turns.Last t d
    meets_fault f e answer = record {
      target = same;
      turns =
          λ small g k tells.
          record {
            next = answered (reached.Fault f) k;
            turn = turn_fault s.target.now k (visit q n x) f e;
            tells = record { answer = answer; expansions = counted ∙ tells.expansions };
          };
    }
