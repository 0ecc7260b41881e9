-- What a whole pass makes, where each visit turns it as a function does.
use Rattle.std.proofs.Common.{◌≢◌, List, [], ◌∷◌, Some, None, sym, subst}
use Rattle.hp_syntax.specs.Walk.{Visit, skip}
use Rattle.hp_net.specs.Standings.{Standing}
use Rattle.hp_passes.specs.declared.passing.Turn.{Turn}
use Rattle.hp_passes.specs.declared.passing.Turn.TheVariants.{On, Past, Last}
use Rattle.hp_passes.specs.Passes as passes
use Rattle.hp_passes.specs.Passes.{Passed, pass, passed_all, with_made}
use Rattle.hp_passes.specs.Passing.{at_end, at_visit, Passes, AtEnd, GoesOn, LeavesOut, Ends}
use Rattle.hp_passes.proofs.PassLemmas.{skipped}

-- the visits that a pass makes, one after the other; none comes after the last that it wants
pub data Meets {S C : Type 0} (meets : S → C → Visit → Turn → S → C → Type 0) : S → C → List Visit → S → C → Type 0 where
  MetNone : (s : S) (c : C) → Meets meets s c [] s c
  MetOne : (s t u : S) (c d e : C) (v : Visit) (vs : List Visit) (x : Turn) → x ≢ Last → meets s c v x t d
      → Meets meets t d vs u e → Meets meets s c (v ∷ vs) u e
  MetLast : (s t : S) (c d : C) (v : Visit) → meets s c v Last t d → Meets meets s c (v ∷ []) t d

on_no_last : On ≢ Last
on_no_last = λ e. cc

past_no_last : Past ≢ Last
past_no_last = λ e. cc

-- what is known of a pass before the visits that are left, and after a visit that was the last
module _ {S C K : Type 0} (meets : S → C → Visit → Turn → S → C → Type 0) (turn : K → Visit → passes.Turn K)
    (Knows : K → S → C → List Visit → Type 0) (Over : K → S → C → Visit → Type 0) where
  -- a pass turns as a function does, and what that knows then is known of the pass
  abbrev pub TurnsAs : passes.Turn K → Turn → S → C → Visit → List Visit → Type 0
  TurnsAs (passes.On k) On t d v vs = Knows k t d vs
  TurnsAs (passes.On k) Past t d v vs = ⊥
  TurnsAs (passes.On k) Last t d v vs = ⊥
  TurnsAs (passes.Past k) On t d v vs = ⊥
  TurnsAs (passes.Past k) Past t d v vs = Knows k t d (skip v.path vs)
  TurnsAs (passes.Past k) Last t d v vs = ⊥
  TurnsAs (passes.Last k) On t d v vs = ⊥
  TurnsAs (passes.Last k) Past t d v vs = ⊥
  TurnsAs (passes.Last k) Last t d v vs = Over k t d v

  -- where the walk stands in the end, and what is known there
  pub data IsEnd : K → List Visit → S → C → Standing → Type 0 where
    Whole : (k : K) (s : S) (c : C) → Knows k s c [] → IsEnd k [] s c at_end
    Ended : (k : K) (ws : List Visit) (s : S) (c : C) (v : Visit) → Over k s c v → IsEnd k ws s c (at_visit v ws)

  -- a pass makes the visits that the function makes, and ends where that does
  pub record IsPassed (p : Passed K) (s : S) (c : C) (u : S) (e : C) (there : Standing) : Type 0 where
    pub made : Meets meets s c p.made u e
    pub end : IsEnd p.knows p.left u e there

  -- one visit more, which isn't the last
  with_one : (s t u : S) (c d e : C) (v : Visit) (there : Standing) (p : Passed K) (x : Turn) → x ≢ Last
      → meets s c v x t d → IsPassed p t d u e there → IsPassed (with_made v p) s c u e there
  with_one s t u c d e v there p x n m h = record {
    made = MetOne s t u c d e v p.made x n m h.made;
    end = h.end;
  }

  module _ (agrees : (k : K) (s t : S) (c d : C) (v : Visit) (vs : List Visit) (x : Turn) → Knows k s c (v ∷ vs)
      → meets s c v x t d → TurnsAs (turn k v) x t d v vs) where
    -- a pass over visits is that of the function
    pub passed : (k : K) (s u : S) (c e : C) (vs : List Visit) (there : Standing) → Knows k s c vs
        → Passes meets s c vs u e there → IsPassed (pass turn None k vs) s c u e there
    passed k _ _ _ _ _ _ h (AtEnd s c) = record { made = MetNone s c; end = Whole k s c h }
    passed k _ _ _ _ _ _ h (GoesOn s t u c d e v vs there m rest) =
        by (turn k v) (agrees k s t c d v vs On h m) (λ j n. passed j t u d e vs there n rest)
      where
        by : (x : passes.Turn K) → TurnsAs x On t d v vs
            → ((j : K) → Knows j t d vs → IsPassed (pass turn None j vs) t d u e there)
            → IsPassed (with_made v (elim x [
              | passes.On j ↦ pass turn None j vs
              | passes.Past j ↦ pass turn (Some v.path) j vs
              | passes.Last j ↦ passed_all j vs
            ])) s c u e there
        by (passes.On j) n after =
            with_one s t u c d e v there (pass turn None j vs) On on_no_last m (after j n)
        by (passes.Past j) n after = absurd n
        by (passes.Last j) n after = absurd n
    passed k _ _ _ _ _ _ h (LeavesOut s t u c d e v vs there m rest) =
        by (turn k v) (agrees k s t c d v vs Past h m) (λ j n. passed j t u d e (skip v.path vs) there n rest)
      where
        by : (x : passes.Turn K) → TurnsAs x Past t d v vs
            → ((j : K) → Knows j t d (skip v.path vs) → IsPassed (pass turn None j (skip v.path vs)) t d u e there)
            → IsPassed (with_made v (elim x [
              | passes.On j ↦ pass turn None j vs
              | passes.Past j ↦ pass turn (Some v.path) j vs
              | passes.Last j ↦ passed_all j vs
            ])) s c u e there
        by (passes.On j) n after = absurd n
        by (passes.Past j) n after =
            with_one s t u c d e v there (pass turn (Some v.path) j vs) Past past_no_last m
            (subst (λ p. IsPassed p t d u e there) (sym (skipped turn v.path j vs)) (after j n))
        by (passes.Last j) n after = absurd n
    passed k _ _ _ _ _ _ h (Ends s t c d v vs m) = by (turn k v) (agrees k s t c d v vs Last h m)
      where
        by : (x : passes.Turn K) → TurnsAs x Last t d v vs
            → IsPassed (with_made v (elim x [
              | passes.On j ↦ pass turn None j vs
              | passes.Past j ↦ pass turn (Some v.path) j vs
              | passes.Last j ↦ passed_all j vs
            ])) s c t d (at_visit v vs)
        by (passes.On j) n = absurd n
        by (passes.Past j) n = absurd n
        by (passes.Last j) n = record { made = MetLast s t c d v m; end = Ended j vs t d v n }
