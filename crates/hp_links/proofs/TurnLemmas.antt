-- Rows of which a part is turned.
use Rattle.std.proofs.Common.{◌≡◌, ℕ, zero, suc, ◌+◌, ◌-◌, ◌<◌, ◌≤◌, List, [], ◌∷◌, ◌++◌, length, get_or, take, drop, refl, sym, ap, ap₂, ◌∙◌, arith, append_assoc, length-drop}
use Rattle.std.specs.List.{insert, remove}
use Rattle.std.proofs.lemmas.List.{take-take, length-take-le}
use Rattle.std.proofs.lemmas.List.Edits.{length-remove}
use Rattle.hp_links.specs.Turning.{turned_right, turned_left}

-- of the first so many values the last is read alone
last_taken : (xs : List ℕ) (k : ℕ) → k < length xs → drop k (take (suc k) xs) ≡ get_or xs k 0 ∷ []
last_taken [] k l = absurd (omega arith)
last_taken (x ∷ xs) zero l = refl
last_taken (x ∷ xs) (suc k) l = last_taken xs k (omega arith)

-- a part with its last number put first
right_from : (xs : List ℕ) (a e k : ℕ) → e ≡ a + k → e < length xs
    → take a xs ++ ((drop k (take (suc k) (drop a xs)) ++ take k (take (suc k) (drop a xs))) ++ drop (suc k) (drop a xs))
    ≡ turned_right a e xs
right_from [] a e k h l = absurd (omega arith)
right_from (x ∷ xs) zero e k h l =
    let same : e ≡ k = omega arith in
    ap₂ (λ (us vs : List ℕ). (us ++ vs) ++ drop (suc k) (x ∷ xs)) (last_taken (x ∷ xs) k (omega arith))
    (take-take k (suc k) (x ∷ xs) (omega arith))
    ∙ sym (ap (λ n. turned_right zero n (x ∷ xs)) same)
right_from (x ∷ xs) (suc a) zero k h l = absurd (omega arith)
right_from (x ∷ xs) (suc a) (suc e) k h l = ap (λ ys. x ∷ ys) (right_from xs a e k (omega arith) (omega arith))

-- a part with its first number put last
left_from : (xs : List ℕ) (a e k : ℕ) → e ≡ a + k → e < length xs
    → take a xs ++ ((drop 1 (take (suc k) (drop a xs)) ++ take 1 (take (suc k) (drop a xs))) ++ drop (suc k) (drop a xs))
    ≡ turned_left a e xs
left_from [] a e k h l = absurd (omega arith)
left_from (x ∷ xs) zero e k h l =
    let same : e ≡ k = omega arith in
    append_assoc (take k xs) (x ∷ []) (drop k xs) ∙ sym (ap (λ n. turned_left zero n (x ∷ xs)) same)
left_from (x ∷ xs) (suc a) zero k h l = absurd (omega arith)
left_from (x ∷ xs) (suc a) (suc e) k h l = ap (λ ys. x ∷ ys) (left_from xs a e k (omega arith) (omega arith))

-- what is written over a part whose last number is put first
pub put_right : (xs ys : List ℕ) (a e n : ℕ) → a ≤ e → e < length xs → n ≡ e + 1 - a
    → ys ≡ drop (length (take n (drop a xs)) - 1) (take n (drop a xs))
    ++ take (length (take n (drop a xs)) - 1) (take n (drop a xs))
    → take a xs ++ (ys ++ drop n (drop a xs)) ≡ turned_right a e xs
put_right xs ys a e n l m h is =
    let k = e - a in
    let long : n ≡ suc k = omega arith in
    let size : length (take n (drop a xs)) - 1 ≡ k =
    omega (arith, length-take-le n (drop a xs) (omega (arith, length-drop a xs))) in
    ap (λ (zs : List ℕ). take a xs ++ (zs ++ drop n (drop a xs))) is
    ∙ ap₂
    (λ (i j : ℕ). take a xs ++ ((drop i (take j (drop a xs)) ++ take i (take j (drop a xs))) ++ drop j (drop a xs)))
    size long
    ∙ right_from xs a e k (omega arith) m

-- what is written over a part whose first number is put last
pub put_left : (xs ys : List ℕ) (a e n : ℕ) → a ≤ e → e < length xs → n ≡ e + 1 - a
    → ys ≡ drop 1 (take n (drop a xs)) ++ take 1 (take n (drop a xs))
    → take a xs ++ (ys ++ drop n (drop a xs)) ≡ turned_left a e xs
put_left xs ys a e n l m h is =
    let k = e - a in
    let long : n ≡ suc k = omega arith in
    ap (λ (zs : List ℕ). take a xs ++ (zs ++ drop n (drop a xs))) is
    ∙ ap
    (λ (j : ℕ). take a xs ++ ((drop 1 (take j (drop a xs)) ++ take 1 (take j (drop a xs))) ++ drop j (drop a xs)))
    long
    ∙ left_from xs a e k (omega arith) m

-- behind the numbers before a place the number at it is read
get_or-taken : (xs ys : List ℕ) (x n : ℕ) → n ≤ length xs → get_or (take n xs ++ x ∷ ys) n 0 ≡ x
get_or-taken xs ys x zero l = refl
get_or-taken [] ys x (suc n) l = absurd (omega arith)
get_or-taken (z ∷ xs) ys x (suc n) l = get_or-taken xs ys x n (omega arith)

-- an insertion is taken back by a removal
removed_inserted : (xs : List ℕ) (x n : ℕ) → n ≤ length xs → remove (insert xs n x) n ≡ xs
removed_inserted xs x zero l = refl
removed_inserted [] x (suc n) l = absurd (omega arith)
removed_inserted (z ∷ xs) x (suc n) l = ap (λ ys. z ∷ ys) (removed_inserted xs x n (omega arith))

-- a removal is taken back by an insertion
inserted_removed : (xs : List ℕ) (n : ℕ) → n < length xs → insert (remove xs n) n (get_or xs n 0) ≡ xs
inserted_removed [] n l = absurd (omega arith)
inserted_removed (x ∷ xs) zero l = refl
inserted_removed (x ∷ xs) (suc n) l = ap (λ ys. x ∷ ys) (inserted_removed xs n (omega arith))

-- a part that is turned right and then left is as before
pub turned_both : (rows : List ℕ) (start end : ℕ) → start ≤ end → end < length rows
    → turned_left start end (turned_right start end rows) ≡ rows
turned_both rows start end l m =
    let n : start ≤ length (remove rows end) = omega (arith, length-remove rows end m) in
    ap₂ (λ (xs : List ℕ) (x : ℕ). insert xs end x) (removed_inserted (remove rows end) (get_or rows end 0) start n)
    (get_or-taken (remove rows end) (drop start (remove rows end)) (get_or rows end 0) start n)
    ∙ inserted_removed rows end m
