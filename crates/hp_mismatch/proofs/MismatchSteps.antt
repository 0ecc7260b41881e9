-- The first argument that doesn't match, one argument after the other.
use Rattle.std.proofs.Common.{◌≡◌, ℕ, ◌+◌, ◌<◌, ◌≤◌, Bool, true, false, List, [], ◌∷◌, length, drop, get_or, Option, Some, None, refl, sym, ap, ap₂, ◌∙◌, arith}
use Rattle.std.proofs.lemmas.List.{drop_more, drop_all, length-drop}
use Rattle.hp_syntax.specs.declared.pattern.Ground.{Ground}
use Rattle.hp_syntax.specs.declared.pattern.Pat.{Pat}
use Rattle.hp_syntax.specs.declared.pattern.Tail.{Tail}
use Rattle.hp_syntax.specs.GroundViews.{ground_of, grounds_of}
use Rattle.hp_syntax.specs.Matching.{match_pattern}
use Rattle.hp_syntax.specs.Terms.{Term}
use Rattle.hp_syntax.specs.Values.{Bindings}
use Rattle.hp_syntax.specs.Views.{pattern_of, patterns_of}
use Rattle.hp_mismatch.specs.declared.misfit.Misfit.{Misfit}
use Rattle.hp_mismatch.specs.Mismatch.{mismatch, misfit_of, or_here, pattern_count, tail_misfit, term_count}
use Rattle.hp_mismatch.specs.ValueViews.{extended}

-- what is reported of the arguments and the terms from a place on
abbrev pub mismatch_from : List Pat → Option Tail → List Ground → ℕ → Bindings → Option Misfit
mismatch_from ps tail gs i e = mismatch (patterns_of (drop i ps)) tail (grounds_of (drop i gs)) e

module _ (ps : List Pat) (tail : Option Tail) (gs : List Ground) (i : ℕ) (p : Pat) (g : Ground) (more : i < length ps)
    (other : i < length gs) (is : p ≡ get_or ps i p) (is_other : g ≡ get_or gs i g) (t : Term) (shown : t ≡ ground_of g)
    (e f : Bindings) (does : Bool) (answers : match_pattern (pattern_of p) t e ≡ extended does f) where
  -- the first argument is reported where it doesn't match, and what is reported of the others where it does
  step : mismatch_from ps tail gs i e
      ≡ or_here (misfit_of (pattern_of p)) (mismatch_from ps tail gs (i + 1)) (extended does f)
  step =
      ap₂ (λ qs hs. mismatch (patterns_of qs) tail (grounds_of hs) e)
      (drop_more ps i p more ∙ ap (λ q. q ∷ drop (i + 1) ps) (sym is))
      (drop_more gs i g other ∙ ap (λ h. h ∷ drop (i + 1) gs) (sym is_other))
      ∙ ap (or_here (misfit_of (pattern_of p)) (mismatch_from ps tail gs (i + 1)))
      (ap (λ u. match_pattern (pattern_of p) u e) (sym shown) ∙ answers)

  pub reported_here : does ≡ false → mismatch_from ps tail gs i e ≡ Some (misfit_of (pattern_of p))
  reported_here other_one =
      step ∙ ap (λ b. or_here (misfit_of (pattern_of p)) (mismatch_from ps tail gs (i + 1)) (extended b f)) other_one

  pub reported_later : does ≡ true → mismatch_from ps tail gs (i + 1) f ≡ mismatch_from ps tail gs i e
  reported_later this_one =
      sym (step
      ∙ ap (λ b. or_here (misfit_of (pattern_of p)) (mismatch_from ps tail gs (i + 1)) (extended b f)) this_one)

-- where an argument is left and no term, nothing is reported
pub none_reported : (ps : List Pat) (tail : Option Tail) (gs : List Ground) (i : ℕ) (e : Bindings) → i < length ps
    → length gs ≤ i → None ≡ mismatch_from ps tail gs i e
none_reported ps tail gs i e l k =
    sym (by (drop i ps) (omega (arith, l, length-drop i ps)) ∙ refl)
  where
    by : (qs : List Pat) → 0 < length qs → mismatch (patterns_of qs) tail (grounds_of (drop i gs)) e ≡ None
    by [] m = absurd (omega (arith, m))
    by (q ∷ qs) m = ap (λ hs. mismatch (patterns_of (q ∷ qs)) tail (grounds_of hs) e) (drop_all i gs k)

-- after the last argument the tail is
pub tail_left : (ps : List Pat) (tail : Option Tail) (gs : List Ground) (i : ℕ) (e : Bindings) → length ps ≤ i
    → mismatch_from ps tail gs i e ≡ tail_misfit tail (grounds_of (drop i gs)) e
tail_left ps tail gs i e l =
    ap (λ qs. mismatch (patterns_of qs) tail (grounds_of (drop i gs)) e) (drop_all i ps l)

-- ---- numbers of arguments

-- there are as many patterns as they are written with
pub count_patterns : (ps : List Pat) → pattern_count (patterns_of ps) ≡ length ps
count_patterns [] = refl
count_patterns (p ∷ ps) = let h = count_patterns ps in omega (arith, h)

-- and as many terms
pub count_terms : (gs : List Ground) → term_count (grounds_of gs) ≡ length gs
count_terms [] = refl
count_terms (g ∷ gs) = let h = count_terms gs in omega (arith, h)
