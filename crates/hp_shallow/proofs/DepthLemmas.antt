-- The depth that decides, among those from one on.
use Rattle.std.proofs.Common.{◌≡◌, ℕ, zero, suc, ◌+◌, ◌<◌, ◌≤◌, Bool, true, false, cond, List, refl, sym, ap, ◌∙◌, arith, ⊎_elim}
use Rattle.std.proofs.lemmas.Bool.{cases_lt, cond-true, cond-false}
use Rattle.hp_syntax.specs.Report.{Ending, Stopped, AtFault, AtCut, AtEnd}
use Rattle.hp_syntax.specs.Walk.{Visit}
use Rattle.hp_shallow.specs.LeastDepth.{deciding, first_end, is_cut_short}

-- a walk that is cut short ends at a cut
pub ends_at_cut : (x : Ending) → is_cut_short x ≡ true → x ≡ AtCut
ends_at_cut Stopped e = absurd (cc)
ends_at_cut (AtFault f) e = absurd (cc)
ends_at_cut AtCut e = refl
ends_at_cut AtEnd e = absurd (cc)

module _ (at : ℕ → List Visit) where
  -- the walk of a depth is cut short
  abbrev pub cut_at : ℕ → Bool
  cut_at depth = is_cut_short (first_end (at depth)).ending

  -- a depth whose walk is cut short leaves it to those behind it; another one decides
  pub passed_by : (depth more : ℕ) → cut_at depth ≡ true
      → deciding at depth (suc more) ≡ deciding at (depth + 1) more
  passed_by depth more e = cond-true (cut_at depth) (deciding at (depth + 1) more) depth e

  pub decides : (depth more : ℕ) → cut_at depth ≡ false → deciding at depth (suc more) ≡ depth
  decides depth more e = cond-false (cut_at depth) (deciding at (depth + 1) more) depth e

  -- what decides is one of so many depths
  within_by : (depth more : ℕ) → deciding at (depth + 1) more ≤ depth + 1 + more → (b : Bool)
      → cond b (deciding at (depth + 1) more) depth ≤ depth + suc more
  within_by depth more h true = omega arith
  within_by depth more h false = omega arith

  pub deciding_within : (depth more : ℕ) → deciding at depth more ≤ depth + more
  deciding_within depth zero = omega arith
  deciding_within depth (suc more) =
      within_by depth more (deciding_within (depth + 1) more) (cut_at depth)

  -- the walk of each depth before it is cut short
  below_by : (depth more d : ℕ) → depth ≤ d
      → (depth + 1 ≤ d → d < deciding at (depth + 1) more → cut_at d ≡ true) → (b : Bool) → cut_at depth ≡ b
      → d < cond b (deciding at (depth + 1) more) depth → cut_at d ≡ true
  below_by depth more d l others true e h =
      ⊎_elim (λ k. others (omega arith) h) (λ k. ap cut_at (omega arith) ∙ e) (cases_lt depth d)
  below_by depth more d l others false e h = absurd (omega arith)

  pub deciding_below : (depth more d : ℕ) → depth ≤ d → d < deciding at depth more → cut_at d ≡ true
  deciding_below depth zero d l h = absurd (omega arith)
  deciding_below depth (suc more) d l h =
      below_by depth more d l (λ m. deciding_below (depth + 1) more d m) (cut_at depth) refl h

  -- where its own is too, it's the last
  last_by : (depth more : ℕ)
      → (cut_at (deciding at (depth + 1) more) ≡ true → deciding at (depth + 1) more ≡ depth + 1 + more) → (b : Bool)
      → cut_at depth ≡ b → cut_at (cond b (deciding at (depth + 1) more) depth) ≡ true
      → cond b (deciding at (depth + 1) more) depth ≡ depth + suc more
  last_by depth more others true e h = let k = others h in omega arith
  last_by depth more others false e h = let never : true ≡ false = sym h ∙ e in absurd (cc)

  pub deciding_last : (depth more : ℕ) → cut_at (deciding at depth more) ≡ true
      → deciding at depth more ≡ depth + more
  deciding_last depth zero h = omega arith
  deciding_last depth (suc more) h =
      last_by depth more (deciding_last (depth + 1) more) (cut_at depth) refl h
