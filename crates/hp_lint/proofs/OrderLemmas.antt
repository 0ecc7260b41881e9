-- Remarks in the order of their places.
use Rattle.std.proofs.Common.{◌≡◌, ℕ, Bool, true, false, cond, nat_lt, ◌==◌, List, [], ◌∷◌, map, refl, ap, ◌∙◌}
use Rattle.std.specs.List.Sorted.{IsSortedByKey, IsStableByKey}
use Rattle.std.specs.Ordering.{is_lt, nat_cmp}
use Rattle.std.specs.declared.cmp.Ordering.TheVariants.{Less, Equal, Greater}
use Rattle.std.proofs.lemmas.Cmp.{nat_cmp_total}
use Rattle.std.proofs.lemmas.List.Sorted.{ranks_by}
use Rattle.hp_lint.specs.declared.report.Remark.{Remark}
use Rattle.hp_lint.specs.Remarks.{put_in, in_order}
use Rattle.hp_lint.specs.LintViews.{remark_of}
use Rattle.hp_lint.proofs.StableLemmas as stable
use Rattle.hp_lint.proofs.StableLemmas.{inserted, sorted_in_order}

abbrev start : Remark → ℕ
start r = r.span.from

abbrev before : Remark → Remark → Bool
before r q = is_lt (nat_cmp (start r) (start q))

by_tests : (b c : Bool) → is_lt (cond b Less (cond c Equal Greater)) ≡ b
by_tests true c = refl
by_tests false true = refl
by_tests false false = refl

before-is : (r q : Remark) → before r q ≡ nat_lt (start r) (start q)
before-is r q = by_tests (nat_lt (start r) (start q)) (start r == start q)

map-inserted : (r : Remark) (rs : List Remark)
    → map remark_of (inserted before r rs) ≡ put_in (remark_of r) (map remark_of rs)
map-inserted r [] = refl
map-inserted r (q ∷ rs) =
    by (before q r) (map-inserted r rs)
    ∙ ap (λ b. cond b (remark_of q ∷ put_in (remark_of r) (map remark_of rs))
    (remark_of r ∷ remark_of q ∷ map remark_of rs)) (before-is q r)
  where
    by : (b : Bool) → map remark_of (inserted before r rs) ≡ put_in (remark_of r) (map remark_of rs)
        → map remark_of (cond b (q ∷ inserted before r rs) (r ∷ q ∷ rs))
        ≡ cond b (remark_of q ∷ put_in (remark_of r) (map remark_of rs))
        (remark_of r ∷ remark_of q ∷ map remark_of rs)
    by true rest = ap (λ qs. remark_of q ∷ qs) rest
    by false rest = refl

map-in_order : (rs : List Remark) → map remark_of (stable.in_order before rs) ≡ in_order (map remark_of rs)
map-in_order [] = refl
map-in_order (r ∷ rs) = map-inserted r (stable.in_order before rs) ∙ ap (put_in (remark_of r)) (map-in_order rs)

-- a stable sort of remarks by where they begin puts what they say in order
pub remarks_in_order : (rs qs : List Remark) → IsSortedByKey start nat_cmp qs → IsStableByKey start nat_cmp rs qs
    → map remark_of qs ≡ in_order (map remark_of rs)
remarks_in_order rs qs up keeps =
    ap (map remark_of) (sorted_in_order before (ranks_by nat_cmp_total start) rs qs up keeps) ∙ map-in_order rs
