-- What is read of lists.
use Rattle.std.proofs.Common.{◌≡◌, ℕ, zero, suc, ◌<◌, ◌≤◌, List, [], ◌∷◌, length, get_or, set, Some, refl, ap, ◌∙◌, arith}
use Rattle.std.specs.Prelude.{slice_get}
use Rattle.std.specs.List.{insert, remove}
use Rattle.std.proofs.lemmas.List.Edits.{length-remove}
use Rattle.hp_links.specs.Turning.{turned_right}

-- what was set is read
pub read_set : {A : Type 0} (xs : List A) (i : ℕ) (x : A) → i < length xs → slice_get (set xs i x) i ≡ Some x
read_set [] i x l = absurd (omega arith)
read_set (y ∷ xs) zero x l = refl
read_set (y ∷ xs) (suc i) x l = read_set xs i x (omega arith)

-- what stands elsewhere stays
pub read_other : {A : Type 0} (xs : List A) (i j : ℕ) (x : A) → (j ≡ i → ⊥)
    → slice_get (set xs i x) j ≡ slice_get xs j
read_other [] i j x n = refl
read_other (y ∷ xs) zero zero x n = absurd (n refl)
read_other (y ∷ xs) zero (suc j) x n = refl
read_other (y ∷ xs) (suc i) zero x n = refl
read_other (y ∷ xs) (suc i) (suc j) x n = read_other xs i j x (λ e. n (ap suc e))

-- within a list something is read
pub some_read : {A : Type 0} (xs : List A) (i : ℕ) → i < length xs → (x : A) × (slice_get xs i ≡ Some x)
some_read [] i l = absurd (omega arith)
some_read (x ∷ xs) zero l = (x, refl)
some_read (x ∷ xs) (suc i) l = some_read xs i (omega arith)

-- before what is removed all stays
pub read_removed_below : {A : Type 0} (xs : List A) (i k : ℕ) → k < i → slice_get (remove xs i) k ≡ slice_get xs k
read_removed_below [] zero k l = absurd (omega arith)
read_removed_below [] (suc i) k l = refl
read_removed_below (x ∷ xs) zero k l = absurd (omega arith)
read_removed_below (x ∷ xs) (suc i) zero l = refl
read_removed_below (x ∷ xs) (suc i) (suc k) l = read_removed_below xs i k (omega arith)

-- behind what is removed all stands one place earlier
pub read_removed_above : {A : Type 0} (xs : List A) (i k : ℕ) → i ≤ k
    → slice_get (remove xs i) k ≡ slice_get xs (suc k)
read_removed_above [] zero k l = refl
read_removed_above [] (suc i) k l = refl
read_removed_above (x ∷ xs) zero k l = refl
read_removed_above (x ∷ xs) (suc i) zero l = absurd (omega arith)
read_removed_above (x ∷ xs) (suc i) (suc k) l = read_removed_above xs i k (omega arith)

-- before what is inserted all stays
pub read_inserted_below : {A : Type 0} (xs : List A) (i k : ℕ) (y : A) → k < i → i ≤ length xs
    → slice_get (insert xs i y) k ≡ slice_get xs k
read_inserted_below [] i k y l m = absurd (omega arith)
read_inserted_below (x ∷ xs) zero k y l m = absurd (omega arith)
read_inserted_below (x ∷ xs) (suc i) zero y l m = refl
read_inserted_below (x ∷ xs) (suc i) (suc k) y l m = read_inserted_below xs i k y (omega arith) (omega arith)

-- what is inserted is read at its place
pub read_inserted_at : {A : Type 0} (xs : List A) (i : ℕ) (y : A) → i ≤ length xs
    → slice_get (insert xs i y) i ≡ Some y
read_inserted_at xs zero y m = refl
read_inserted_at [] (suc i) y m = absurd (omega arith)
read_inserted_at (x ∷ xs) (suc i) y m = read_inserted_at xs i y (omega arith)

-- behind what is inserted all stands one place later
pub read_inserted_above : {A : Type 0} (xs : List A) (i k : ℕ) (y : A) → i ≤ k → i ≤ length xs
    → slice_get (insert xs i y) (suc k) ≡ slice_get xs k
read_inserted_above xs zero k y l m = refl
read_inserted_above [] (suc i) k y l m = absurd (omega arith)
read_inserted_above (x ∷ xs) (suc i) zero y l m = absurd (omega arith)
read_inserted_above (x ∷ xs) (suc i) (suc k) y l m = read_inserted_above xs i k y (omega arith) (omega arith)

-- before a part that is turned all stays
pub turned_below : (rows : List ℕ) (start end k : ℕ) → start ≤ end → end < length rows → k < start
    → slice_get (turned_right start end rows) k ≡ slice_get rows k
turned_below rows start end k l m h =
    let n : start ≤ length (remove rows end) = omega (arith, length-remove rows end m) in
    read_inserted_below (remove rows end) start k (get_or rows end 0) h n
    ∙ read_removed_below rows end k (omega arith)

-- in a part that is turned all but the last stands one place later
pub turned_within : (rows : List ℕ) (start end k : ℕ) → start ≤ end → end < length rows → start ≤ k → k < end
    → slice_get (turned_right start end rows) (suc k) ≡ slice_get rows k
turned_within rows start end k l m h g =
    let n : start ≤ length (remove rows end) = omega (arith, length-remove rows end m) in
    read_inserted_above (remove rows end) start k (get_or rows end 0) h n
    ∙ read_removed_below rows end k (omega arith)

-- behind a part that is turned all stays
pub turned_above : (rows : List ℕ) (start end k : ℕ) → start ≤ end → end < length rows → end ≤ k
    → slice_get (turned_right start end rows) (suc k) ≡ slice_get rows (suc k)
turned_above rows start end k l m h =
    let n : start ≤ length (remove rows end) = omega (arith, length-remove rows end m) in
    read_inserted_above (remove rows end) start k (get_or rows end 0) (omega arith) n
    ∙ read_removed_above rows end k h
