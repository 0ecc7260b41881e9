-- Variables that are bound in their turn to the cells that they are to stand for.
use Rattle.std.proofs.Common.{◌≡◌, ℕ, zero, suc, ◌+◌, ◌<◌, List, [], ◌∷◌, ◌++◌, length, take, drop, Option, Some, None, refl, sym, ◌∙◌, ap, subst, arith, add-one}
use Rattle.std.specs.Prelude.{slice_get, slice_set}
use Rattle.std.proofs.lemmas.List.{set-get_or}
use Rattle.std.proofs.lemmas.Option.{same_Some, get_or_from_slice_get, slice_get-get_or}
use Rattle.hp_eval.specs.Slotted.{Slotted, Binds, flat, with_bound}
use Rattle.hp_eval.proofs.SlotLemmas.{binds_bound}
use Rattle.hp_eval.proofs.AttemptLemmas.{place_free, place_bound}

-- the cell of one of the variables
stands_for : (values : List (Option ℕ)) (v : ℕ) → v < length values
    → slice_get values v ≡ Some (flat (slice_get values v))
stands_for values v h = let e = slice_get-get_or values v None h in e ∙ ap Some (sym (ap flat e))

-- a variable that stands for a value keeps it
set_itself : (values : List (Option ℕ)) (v : ℕ) (o : Option ℕ) → v < length values → flat (slice_get values v) ≡ o
    → values ≡ slice_set values v o
set_itself values v o l h =
    sym (ap (slice_set values v) (sym (get_or_from_slice_get values v o o (stands_for values v l ∙ ap Some h)))
    ∙ set-get_or values v o)

-- a variable that is to stand for nothing stands for nothing
pub stays_unbound : (values : List (Option ℕ)) (v : ℕ) (o : Option ℕ) → v < length values → o ≡ None
    → ((cell : ℕ) → slice_get values v ≡ Some (Some cell) → o ≡ Some cell) → values ≡ slice_set values v o
stays_unbound values v o l q keeps =
    set_itself values v o l (nothing (flat (slice_get values v)) (stands_for values v l))
  where
    nothing : (p : Option ℕ) → slice_get values v ≡ Some p → p ≡ o
    nothing None h = sym q
    nothing (Some cell) h = sym (keeps cell h)

-- a variable that stands for a cell is to stand for it
pub stays_bound : (s : Slotted) (v cell : ℕ) (o : Option ℕ) → v < length s.values
    → flat (slice_get s.values v) ≡ Some cell
    → ((x : ℕ) → slice_get s.values v ≡ Some (Some x) → o ≡ Some x) → s.values ≡ slice_set s.values v o
stays_bound s v cell o l h keeps =
    set_itself s.values v o l (h ∙ sym (keeps cell (place_bound s v cell h)))

-- a variable that stands for nothing is bound above what stands
pub bound_above : (s t : Slotted) (v cell : ℕ) → v < length s.values → flat (slice_get s.values v) ≡ None
    → t ≡ with_bound v cell s → Binds s t
bound_above s t v cell l h e = subst (Binds s) (sym e) (binds_bound s v cell (place_free s v l h))

-- ---- values with a prefix that is filled

-- with a prefix filled there are as many values
pub length-filled : (v : ℕ) (xs ys : List (Option ℕ)) → length ys ≡ length xs
    → length (take v xs ++ drop v ys) ≡ length xs
length-filled zero xs ys h = h
length-filled (suc v) [] [] h = refl
length-filled (suc v) [] (y ∷ ys) h = absurd (omega arith)
length-filled (suc v) (x ∷ xs) [] h = absurd (omega arith)
length-filled (suc v) (x ∷ xs) (y ∷ ys) h = ap suc (length-filled v xs ys (omega arith))

-- the value behind the prefix is as it was
pub behind_filled : (v : ℕ) (xs ys : List (Option ℕ)) → length ys ≡ length xs
    → slice_get (take v xs ++ drop v ys) v ≡ slice_get ys v
behind_filled zero xs ys h = refl
behind_filled (suc v) [] [] h = refl
behind_filled (suc v) [] (y ∷ ys) h = absurd (omega arith)
behind_filled (suc v) (x ∷ xs) [] h = absurd (omega arith)
behind_filled (suc v) (x ∷ xs) (y ∷ ys) h = behind_filled v xs ys (omega arith)

-- the prefix grows by the value behind it
pub filled_more : (v : ℕ) (xs ys : List (Option ℕ)) (o : Option ℕ) → length ys ≡ length xs → slice_get xs v ≡ Some o
    → slice_set (take v xs ++ drop v ys) v o ≡ take (v + 1) xs ++ drop (v + 1) ys
filled_more v xs ys o h k = at v xs ys h k ∙ ap (λ n. take n xs ++ drop n ys) (sym (add-one v))
  where
    at : (w : ℕ) (us vs : List (Option ℕ)) → length vs ≡ length us → slice_get us w ≡ Some o
        → slice_set (take w us ++ drop w vs) w o ≡ take (suc w) us ++ drop (suc w) vs
    at w [] vs q p = absurd cc
    at w (u ∷ us) [] q p = absurd (omega arith)
    at zero (u ∷ us) (y ∷ vs) q p = ap (λ x. x ∷ vs) (sym (same_Some u o p))
    at (suc w) (u ∷ us) (y ∷ vs) q p = ap (λ zs. u ∷ zs) (at w us vs (omega arith) p)
