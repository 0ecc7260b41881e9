-- One visit of a walk along a plan that keeps how far it came.
use Rattle.std.proofs.Common.{◌≡◌, Bool, true, false, cond, List, [], ◌∷◌, map, refl, sym, ap, ◌∙◌, subst}
use Rattle.hp_following.specs.declared.following.Following.{Following}
use Rattle.hp_following.specs.declared.following.Tracking.{Tracking}
use Rattle.hp_following.specs.Follows.{CameTo, IsFollowing, begun, end_of, followed}
use Rattle.hp_following.specs.Tracking.{Begins, Comes, Ends, MeetsTracking, Tells, plan_of}
use Rattle.hp_following.proofs.Begun as begun_of
use Rattle.hp_following.proofs.FarSteps.{IsFar, far_end, far_kept, far_noted}
use Rattle.hp_net.specs.Standings.{Tree, tree_visits}
use Rattle.hp_passes.proofs.PassingLemmas.{TurnsAs}
use Rattle.hp_passes.specs.declared.passing.Turn as passing
use Rattle.hp_passes.specs.declared.passing.Turn.TheVariants as turns
use Rattle.hp_passes.specs.Passes.{Turn, On, Past, Last}
use Rattle.hp_syntax.specs.GroundViews.{ground_of}
use Rattle.hp_syntax.specs.Terms.{Term}
use Rattle.hp_syntax.specs.Walk.{Sight, Visit, Did, Plan, CutHere, FaultHere, skip}
use Rattle.hp_verify.proofs.KeptSteps.{left, left_cut, left_derived, left_did, left_fault, left_plan}
use Rattle.hp_verify.proofs.VisitSteps.{turn_cut, turn_did, turn_fault, turn_plan}
use Rattle.hp_verify.specs.Kept.{DerivedAt, Faulty, Nothing, Seen, Told, Underived, kept, kept_turn, nothing, steps_are, steps_begin, told, told_kept, with_cut, with_did}

module _ (p : List Term) (t : Tree) where
  abbrev all : List Visit
  all = tree_visits t

  -- a walk midway: the visits that are left say what all do, and what was found is the first of the furthest
  pub record IsMidway (k : Nothing) (s : Tracking) (c : Unit {0}) (vs : List Visit) : Type 0 where
    pub plan : plan_of s ≡ p
    pub seen : Seen
    pub end : s.found.end ≡ end_of (Underived seen.is_cut)
    pub same : left p seen vs ≡ told_kept p all
    pub far : IsFar (followed p t) s.found (begun p (kept p vs))

  -- after the last visit
  abbrev pub IsOver : Nothing → Tracking → Unit {0} → Visit → Type 0
  IsOver k s c v = IsFollowing p t s.found

  abbrev Turns : Turn Nothing → passing.Turn → Tracking → Unit {0} → Visit → List Visit → Type 0
  Turns = TurnsAs MeetsTracking (kept_turn p) IsMidway IsOver

  -- what is told in the end
  ended : (x : Told) (f : Following) (v : Visit) → x ≡ told_kept p all → f.end ≡ end_of x.said
      → CameTo (followed p t) x.said v → Tells f v → IsFollowing p t f
  ended x f v is end came tells = record {
    end = end ∙ ap (λ y. end_of y.said) is;
    visit = v;
    came = subst (λ y. CameTo (followed p t) y.said v) is came;
    path = tells.path;
    steps = tells.steps;
  }

  -- where nothing is left
  pub at_the_end : (k : Nothing) (s : Tracking) (c : Unit {0}) → IsMidway k s c [] → IsFollowing p t s.found
  at_the_end k s c h =
      ended (told (Underived h.seen.is_cut) h.seen.expansions) s.found h.far.best h.same h.end
      (far_end (followed p t) s.found h.far) h.far.tells

  -- a walk turns as the kept one does
  pub turns_so : (k : Nothing) (s u : Tracking) (c d : Unit {0}) (v : Visit) (vs : List Visit) (x : passing.Turn)
      → IsMidway k s c (v ∷ vs) → MeetsTracking s c v x u d → Turns (kept_turn p k v) x u d v vs
  turns_so k s u c d v vs x h m = by v.sight refl m
    where
      turned : (j : Turn Nothing) (y : passing.Turn) → kept_turn p k v ≡ j → x ≡ y → Turns j y u d v vs
          → Turns (kept_turn p k v) x u d v vs
      turned j y a b e =
          subst (λ z. Turns z x u d v vs) (sym a) (subst (λ z. Turns j z u d v vs) (sym b) e)

      far_on : (ws : List Visit) → begun p (kept p (v ∷ vs)) ≡ ws → IsFar (followed p t) s.found ws
      far_on ws e = subst (IsFar (followed p t) s.found) e h.far

      did : v.sight ≡ Did → (b : Bool) → steps_begin v.node.steps p ≡ b → Begins b s v x u
          → Turns (kept_turn p k v) x u d v vs
      did y true q m =
          turned (On nothing) turns.On (turn_did p v y ∙ ap (λ b. cond b (On nothing) (Past nothing)) q) m.0
          (record {
            plan = ap (λ z. map ground_of z.now) m.1.plan ∙ h.plan;
            seen = with_did h.seen;
            end = m.1.end ∙ h.end;
            same = sym (left_did p h.seen v vs y true q) ∙ h.same;
            far =
                far_noted (followed p t) s.found u.found v (begun p (kept p vs))
                (far_on (v ∷ begun p (kept p vs)) (begun_of.left_yes p v vs y q)) m.1.further m.1.nearer;
          })
      did y false q m =
          turned (Past nothing) turns.Past (turn_did p v y ∙ ap (λ b. cond b (On nothing) (Past nothing)) q) m.0
          (record {
            plan = ap plan_of m.1 ∙ h.plan;
            seen = with_did h.seen;
            end = ap (λ z. z.found.end) m.1 ∙ h.end;
            same = sym (left_did p h.seen v vs y false q) ∙ h.same;
            far =
                subst (λ z. IsFar (followed p t) z.found (begun p (kept p (skip v.path vs)))) (sym m.1)
                (far_on (begun p (kept p (skip v.path vs))) (begun_of.left_no p v vs y q));
          })

      planned : v.sight ≡ Plan → (b : Bool) → steps_are v.node.steps p ≡ b → Ends b s v x u
          → Turns (kept_turn p k v) x u d v vs
      planned y true q m =
          turned (Last nothing) turns.Last (turn_plan p v y ∙ ap (λ b. cond b (Last nothing) (On nothing)) q) m.0
          (ended (told (DerivedAt v) h.seen.expansions) u.found v (sym (left_derived p h.seen v vs y q) ∙ h.same)
          m.1 refl m.2)
      planned y false q m =
          turned (On nothing) turns.On (turn_plan p v y ∙ ap (λ b. cond b (Last nothing) (On nothing)) q) m.0
          (record {
            plan = ap plan_of m.1 ∙ h.plan;
            seen = h.seen;
            end = ap (λ z. z.found.end) m.1 ∙ h.end;
            same = sym (left_plan p h.seen v vs y q) ∙ h.same;
            far =
                subst (λ z. IsFar (followed p t) z.found (begun p (kept p vs))) (sym m.1)
                (far_on (begun p (kept p vs)) (begun_of.left_plan p v vs y q));
          })

      by : (y : Sight) → v.sight ≡ y → Comes y s v x u → Turns (kept_turn p k v) x u d v vs
      by Did y m =
          did y (steps_begin v.node.steps p) refl
          (subst (λ q. Begins (steps_begin v.node.steps q) s v x u) h.plan m)
      by Plan y m =
          planned y (steps_are v.node.steps p) refl
          (subst (λ q. Ends (steps_are v.node.steps q) s v x u) h.plan m)
      by CutHere y m =
          turned (On nothing) turns.On (turn_cut p v y) m.0
          (record {
            plan = ap plan_of m.1 ∙ h.plan;
            seen = with_cut h.seen;
            end = ap (λ z. z.found.end) m.1;
            same = sym (left_cut p h.seen v vs y) ∙ h.same;
            far =
                far_kept (followed p t) s.found u.found (begun p (kept p vs))
                (far_on (begun p (kept p vs)) (begun_of.left_cut p v vs y)) (ap (λ z. z.found.path.items) m.1)
                (ap (λ z. z.found.steps) m.1);
          })
      by (FaultHere f) y m =
          turned (Last nothing) turns.Last (turn_fault p v f y) m.0
          (let far =
          far_kept (followed p t) s.found u.found []
          (far_on [] (begun_of.left_fault p v vs f y)) (ap (λ z. z.found.path.items) m.1)
          (ap (λ z. z.found.steps) m.1) in
          ended (told (Faulty f) h.seen.expansions) u.found far.best
          (sym (left_fault p h.seen v vs f y) ∙ h.same) (ap (λ z. z.found.end) m.1)
          (far_end (followed p t) u.found far) far.tells)
