-- Names that recur among tasks.
use Rattle.std.proofs.Common.{◌≡◌, ℕ, ◌+◌, ◌<◌, Bool, true, false, ◌||◌, cond, List, [], ◌∷◌, ◌++◌, length, map, take, drop, get_or, refl, sym, ap, ◌∙◌, arith, append_assoc, append-nil, ◌≤◌}
use Rattle.std.specs.Prelude.{filter}
use Rattle.std.specs.List.{list_any}
use Rattle.std.proofs.lemmas.List.{drop_all, drop_more, map-append, take_more}
use Rattle.hp_syntax.specs.Terms.{Term}
use Rattle.hp_obstacles.specs.Obstacles.{task_name}
use Rattle.hp_doctor_why.specs.Said.{is_named, recurring_after, recurring_name, times}

-- a test of some value of a list is a test of some value that its elements become
pub any_mapped : {X Y : Type 0} (f : X → Y) (p : Y → Bool) (xs : List X)
    → list_any (λ x. p (f x)) xs ≡ list_any p (map f xs)
any_mapped f p [] = refl
any_mapped f p (x ∷ xs) = ap (λ b. p (f x) || b) (any_mapped f p xs)

-- one task more is counted where it has the name
pub times_more : (name : List ℕ) (ts : List Term) (t : Term)
    → times name (ts ++ t ∷ []) ≡ cond (is_named name t) (times name ts + 1) (times name ts)
times_more name [] t = by (is_named name t)
  where
    by : (b : Bool) → length (cond b (t ∷ []) []) ≡ cond b 1 0
    by true = refl
    by false = refl
times_more name (u ∷ ts) t = by (is_named name u) (is_named name t) (times_more name ts t)
  where
    by : (a b : Bool) → length (filter (is_named name) (ts ++ t ∷ [])) ≡ cond b (times name ts + 1) (times name ts)
        → length (cond a (u ∷ filter (is_named name) (ts ++ t ∷ [])) (filter (is_named name) (ts ++ t ∷ [])))
        ≡ cond b (length (cond a (u ∷ filter (is_named name) ts) (filter (is_named name) ts)) + 1)
        (length (cond a (u ∷ filter (is_named name) ts) (filter (is_named name) ts)))
    by true true e = omega (arith, e)
    by true false e = omega (arith, e)
    by false b e = e

-- ---- by places

-- the task at a place is said after those before it
pub one_recurring : {A : Type 0} (f : A → Term) (all : List Term) (xs : List A) (i : ℕ) (x : A)
    (old new whole : List ℕ) → i < length xs → x ≡ get_or xs i x
    → old ++ recurring_after all (map f (take i xs)) (map f (drop i xs)) ≡ whole
    → new ≡ old ++ recurring_name all (map f (take i xs)) (task_name (f x))
    → new ++ recurring_after all (map f (take (i + 1) xs)) (map f (drop (i + 1) xs)) ≡ whole
one_recurring f all xs i x old new whole l e left put =
    let behind = drop (i + 1) xs in
    let before = map f (take i xs) in
    let part = recurring_name all before (task_name (f x)) in
    let here : drop i xs ≡ x ∷ behind = drop_more xs i x l ∙ ap (λ y. y ∷ behind) (sym e) in
    let more : map f (take (i + 1) xs) ≡ before ++ f x ∷ [] =
    ap (map f) (take_more xs i x l ∙ ap (λ y. take i xs ++ y ∷ []) (sym e)) ∙ map-append f (take i xs) (x ∷ []) in
    let rest = recurring_after all (before ++ f x ∷ []) (map f behind) in
    ap (λ zs. new ++ recurring_after all zs (map f behind)) more
    ∙ (ap (λ zs. zs ++ rest) put
    ∙ (append_assoc old part rest
    ∙ (ap (λ zs. old ++ recurring_after all before zs) (sym (ap (map f) here)) ∙ left)))

-- after the last place all were said
pub all_recurring : {A : Type 0} (f : A → Term) (all : List Term) (xs : List A) (i : ℕ) (out whole : List ℕ)
    → length xs ≤ i → out ++ recurring_after all (map f (take i xs)) (map f (drop i xs)) ≡ whole → out ≡ whole
all_recurring f all xs i out whole l left =
    sym (ap (λ zs. out ++ recurring_after all (map f (take i xs)) (map f zs)) (drop_all i xs l) ∙ append-nil out) ∙ left
