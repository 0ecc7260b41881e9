-- One visit of a kept walk.
use Rattle.std.proofs.Common.{◌≡◌, ℕ, ◌+◌, Bool, true, false, cond, List, [], ◌∷◌, Some, MatchOption, map, refl, sym, ap, ◌∙◌, subst}
use Rattle.std.specs.List.{All}
use Rattle.std.proofs.lemmas.List.Elements.{All-head, All-tail}
use Rattle.hp_net.proofs.Counts.{count_on}
use Rattle.hp_net.specs.Standings.{Tree, Standing, IsAtItsNode, node_reached}
use Rattle.hp_passes.proofs.PassLemmas.{skipped}
use Rattle.hp_passes.proofs.PassingLemmas.{TurnsAs}
use Rattle.hp_passes.proofs.PassingSteps.{skip_keeps}
use Rattle.hp_passes.specs.declared.passing.Turn.TheVariants as turns
use Rattle.hp_passes.specs.declared.passing.Turn as passing
use Rattle.hp_passes.specs.Passes.{Turn, On, Past, Last}
use Rattle.hp_passes.specs.Passing.{at_visit}
use Rattle.hp_syntax.specs.declared.fault.RunFault.{RunFault}
use Rattle.hp_syntax.specs.GroundViews.{ground_of}
use Rattle.hp_syntax.specs.Terms.{Term}
use Rattle.hp_syntax.specs.Walk.{Sight, Visit, Did, Plan, CutHere, FaultHere, count_told, skip}
use Rattle.hp_verify.specs.declared.verifying.Answer.TheVariants as answers
use Rattle.hp_verify.specs.declared.verifying.Keeping.{Keeping}
use Rattle.hp_verify.specs.declared.verifying.Verdict.{Verdict}
use Rattle.hp_verify.specs.Kept.{DerivedAt, Faulty, IsDerived, IsVerdict, Nothing, Said, Seen, StandsAt, Told, Underived, answer_of, kept, kept_turn, nothing, steps_are, steps_begin, told, told_kept, told_of, with_cut, with_did}
use Rattle.hp_verify.specs.Verifying.{Comes, meets_keeping, plan_of}
use Rattle.hp_verify.proofs.StepLemmas.{are_sound}
use Rattle.hp_verify.proofs.VisitSteps.{behind, made_by, told_cut, told_did, told_fault, told_plan, turn_cut, turn_did, turn_fault, turn_plan}

-- ---- what the visits that are left say

-- what the kept walk says over the visits that are left, after what was seen
abbrev pub left : List Term → Seen → List Visit → Told
left p s vs = told_of p s (kept p vs)

module _ (p : List Term) (s : Seen) (v : Visit) (vs : List Visit) where
  abbrev did_turn : Bool → Turn Nothing
  did_turn b = cond b (On nothing) (Past nothing)

  abbrev plan_turn : Bool → Turn Nothing
  plan_turn b = cond b (Last nothing) (On nothing)

  -- a decomposition whose steps begin the plan or don't
  pub did_made : v.sight ≡ Did → (b : Bool) → steps_begin v.node.steps p ≡ b
      → left p s (v ∷ vs) ≡ told_of p (with_did s) (behind p v vs (did_turn b)).made
  did_made e b h =
      ap (told_of p s) (made_by p v vs (did_turn b) (turn_did p v e ∙ ap did_turn h))
      ∙ told_did p s v (behind p v vs (did_turn b)).made e

  -- what lies below it is left out where they don't
  pub left_did : v.sight ≡ Did → (b : Bool) → steps_begin v.node.steps p ≡ b
      → left p s (v ∷ vs) ≡ left p (with_did s) (cond b vs (skip v.path vs))
  left_did e true h = did_made e true h
  left_did e false h =
      did_made e false h
      ∙ ap (λ q. told_of p (with_did s) q.made) (skipped (kept_turn p) v.path nothing vs)

  -- a plan with other steps
  pub left_plan : v.sight ≡ Plan → steps_are v.node.steps p ≡ false → left p s (v ∷ vs) ≡ left p s vs
  left_plan e h =
      ap (told_of p s) (made_by p v vs (On nothing) (turn_plan p v e ∙ ap plan_turn h))
      ∙ (told_plan p s v (kept p vs) e
      ∙ ap (λ b. cond b (told (DerivedAt v) s.expansions) (told_of p s (kept p vs))) h)

  -- the plan that is looked for
  pub left_derived : v.sight ≡ Plan → steps_are v.node.steps p ≡ true
      → left p s (v ∷ vs) ≡ told (DerivedAt v) s.expansions
  left_derived e h =
      ap (told_of p s) (made_by p v vs (Last nothing) (turn_plan p v e ∙ ap plan_turn h))
      ∙ (told_plan p s v [] e ∙ ap (λ b. cond b (told (DerivedAt v) s.expansions) (told_of p s [])) h)

  pub left_cut : v.sight ≡ CutHere → left p s (v ∷ vs) ≡ left p (with_cut s) vs
  left_cut e = ap (told_of p s) (made_by p v vs (On nothing) (turn_cut p v e)) ∙ told_cut p s v (kept p vs) e

  pub left_fault : (f : RunFault) → v.sight ≡ FaultHere f
      → left p s (v ∷ vs) ≡ told (Faulty f) s.expansions
  left_fault f e = ap (told_of p s) (made_by p v vs (Last nothing) (turn_fault p v f e)) ∙ told_fault p s v [] f e

-- ---- one visit

-- a walk along a plan has come to what the kept walk says of all visits, and stands where that derives the plan
pub record IsVerified (p : List Term) (t : Tree) (all : List Visit) (w : Verdict) (there : Standing) : Type 0 where
  pub verdict : IsVerdict w p all
  pub stands : StandsAt t there (told_kept p all).said
  pub derived : IsDerived w.answer → MatchOption (node_reached t there) ⊥ (λ n. n.steps ≡ p)

-- a walk midway: the visits that are left say what all do
pub record IsMidway (p : List Term) (t : Tree) (all : List Visit) (k : Nothing) (s : Keeping) (c : Unit {0})
    (vs : List Visit) : Type 0 where
  pub plan : plan_of s ≡ p
  pub at : All (IsAtItsNode t) vs
  pub seen : Seen
  pub answer : s.verdict.answer ≡ answer_of (Underived seen.is_cut)
  pub expansions : s.verdict.expansions ≡ count_told seen.expansions
  pub same : left p seen vs ≡ told_kept p all

module _ (p : List Term) (t : Tree) (all : List Visit) where
  pub verified : (said : Said) (n : ℕ) (w : Verdict) (there : Standing) → told said n ≡ told_kept p all
      → w.answer ≡ answer_of said → w.expansions ≡ count_told n → StandsAt t there said
      → (IsDerived (answer_of said) → MatchOption (node_reached t there) ⊥ (λ n. n.steps ≡ p))
      → IsVerified p t all w there
  verified said n w there is answer expansions stands derived = record {
    verdict =
        record {
          answer = answer ∙ ap (λ x. answer_of x.said) is;
          expansions = expansions ∙ ap (λ x. count_told x.expansions) is;
        };
    stands = subst (λ x. StandsAt t there x.said) is stands;
    derived = λ d. derived (sym answer ∙ d);
  }

  -- after the last visit
  abbrev pub IsOver : Nothing → Keeping → Unit {0} → Visit → Type 0
  IsOver k s c v = (ws : List Visit) → IsVerified p t all s.verdict (at_visit v ws)

  abbrev Turns : Turn Nothing → passing.Turn → Keeping → Unit {0} → Visit → List Visit → Type 0
  Turns = TurnsAs meets_keeping (kept_turn p) (IsMidway p t all) IsOver

  -- a walk turns as the kept one does
  pub turns_so : (k : Nothing) (s u : Keeping) (c d : Unit {0}) (v : Visit) (vs : List Visit) (x : passing.Turn)
      → IsMidway p t all k s c (v ∷ vs) → meets_keeping s c v x u d → Turns (kept_turn p k v) x u d v vs
  turns_so k s u c d v vs x h m = by v.sight refl m.1
    where
      plan : plan_of u ≡ p
      plan = ap (λ z. map ground_of z.now) m.0 ∙ h.plan

      at : All (IsAtItsNode t) vs
      at = All-tail (IsAtItsNode t) v vs h.at

      turned : (j : Turn Nothing) (y : passing.Turn) → kept_turn p k v ≡ j → x ≡ y → Turns j y u d v vs
          → Turns (kept_turn p k v) x u d v vs
      turned j y a b e =
          subst (λ z. Turns z x u d v vs) (sym a) (subst (λ z. Turns j z u d v vs) (sym b) e)

      -- with these visits left, after what was seen
      midway : (n : Seen) (ws : List Visit) → All (IsAtItsNode t) ws
          → u.verdict.answer ≡ answer_of (Underived n.is_cut) → u.verdict.expansions ≡ count_told n.expansions
          → left p h.seen (v ∷ vs) ≡ left p n ws → IsMidway p t all nothing u d ws
      midway n ws at answer expansions same = record {
        plan = plan;
        at = at;
        seen = n;
        answer = answer;
        expansions = expansions;
        same = sym same ∙ h.same;
      }

      did : u.verdict.answer ≡ s.verdict.answer → u.verdict.expansions ≡ count_told (h.seen.expansions + 1)
          → v.sight ≡ Did → (b : Bool) → steps_begin v.node.steps p ≡ b
          → Turns (cond b (On nothing) (Past nothing)) (cond b turns.On turns.Past) u d v vs
      did a e y true q = midway (with_did h.seen) vs at (a ∙ h.answer) e (left_did p h.seen v vs y true q)
      did a e y false q =
          midway (with_did h.seen) (skip v.path vs) (skip_keeps (IsAtItsNode t) v.path vs at) (a ∙ h.answer) e
          (left_did p h.seen v vs y false q)

      planned : v.sight ≡ Plan → (b : Bool) → steps_are v.node.steps p ≡ b
          → u.verdict ≡ cond b (record s.verdict { answer = answers.Derived }) s.verdict
          → Turns (cond b (Last nothing) (On nothing)) (cond b turns.Last turns.On) u d v vs
      planned y true q e = λ ws.
          let reached : node_reached t (at_visit v ws) ≡ Some v.node =
          All-head (IsAtItsNode t) v vs h.at in
          verified (DerivedAt v) h.seen.expansions u.verdict (at_visit v ws)
          (sym (left_derived p h.seen v vs y q) ∙ h.same)
          (ap (λ w. w.answer) e) (ap (λ w. w.expansions) e ∙ h.expansions) (refl, reached)
          (λ d. subst (λ o. MatchOption o ⊥ (λ n. n.steps ≡ p)) (sym reached) (are_sound v.node.steps p q))
      planned y false q e =
          midway h.seen vs at (ap (λ w. w.answer) e ∙ h.answer) (ap (λ w. w.expansions) e ∙ h.expansions)
          (left_plan p h.seen v vs y q)

      by : (y : Sight) → v.sight ≡ y → Comes y s v x u.verdict → Turns (kept_turn p k v) x u d v vs
      by Did y e =
          let b = steps_begin v.node.steps p in
          turned (cond b (On nothing) (Past nothing)) (cond b turns.On turns.Past) (turn_did p v y)
          (e.0 ∙ ap (λ q. cond (steps_begin v.node.steps q) turns.On turns.Past) h.plan)
          (did (ap (λ w. w.answer) e.1)
          (count_on _ s.verdict.expansions h.seen.expansions h.expansions (ap (λ w. w.expansions) e.1)) y b refl)
      by Plan y e =
          let b = steps_are v.node.steps p in
          turned (cond b (Last nothing) (On nothing)) (cond b turns.Last turns.On) (turn_plan p v y)
          (e.0 ∙ ap (λ q. cond (steps_are v.node.steps q) turns.Last turns.On) h.plan)
          (planned y b refl
          (e.1 ∙ ap (λ q. cond (steps_are v.node.steps q) (record s.verdict { answer = answers.Derived }) s.verdict)
          h.plan))
      by CutHere y e =
          turned (On nothing) turns.On (turn_cut p v y) e.0
          (midway (with_cut h.seen) vs at (ap (λ w. w.answer) e.1) (ap (λ w. w.expansions) e.1 ∙ h.expansions)
          (left_cut p h.seen v vs y))
      by (FaultHere f) y e =
          turned (Last nothing) turns.Last (turn_fault p v f y) e.0 (λ ws.
          verified (Faulty f) h.seen.expansions u.verdict (at_visit v ws)
          (sym (left_fault p h.seen v vs f y) ∙ h.same)
          (ap (λ w. w.answer) e.1) (ap (λ w. w.expansions) e.1 ∙ h.expansions) tt
          (λ d. let never : answers.Fault f ≡ answers.Derived = d in absurd (cc)))
