-- What is told of a text, part by part.
use Rattle.std.proofs.Common.{◌≡◌, ℕ, ◌+◌, ◌<◌, List, [], ◌∷◌, ◌++◌, length, take, drop, get_or, refl, ap, sym, ◌∙◌, append_assoc, append-nil}
use Rattle.std.proofs.lemmas.List.{take_more, take-append-drop}
use Rattle.hp_doctor.specs.Explained.{left, next_line, told, told_at}
use Rattle.hp_doctor.specs.Texts.{Texts}

-- the lines of two texts are those of the first, and then those of the second behind what the first left
pub told-append : (t : Texts) (line xs ys : List ℕ)
    → told t line (xs ++ ys) ≡ told t line xs ++ told t (left line xs) ys
told-append t line [] ys = refl
told-append t line (b ∷ bs) ys =
    ap (λ r. told_at t line b ++ r) (told-append t (next_line line b) bs ys)
    ∙ sym (append_assoc (told_at t line b) (told t (next_line line b) bs) (told t (left (next_line line b) bs) ys))

-- what two texts leave is what the second leaves behind what the first left
pub left-append : (line xs ys : List ℕ) → left line (xs ++ ys) ≡ left (left line xs) ys
left-append line [] ys = refl
left-append line (b ∷ bs) ys = left-append (next_line line b) bs ys

-- the lines of one more byte
pub told_more : (t : Texts) (line xs : List ℕ) (i : ℕ) (b : ℕ) → i < length xs → b ≡ get_or xs i 0
    → told t line (take (i + 1) xs) ≡ told t line (take i xs) ++ told_at t (left line (take i xs)) b
told_more t line xs i b h e =
    ap (told t line) (take_more xs i 0 h ∙ ap (λ c. take i xs ++ c ∷ []) (sym e))
    ∙ told-append t line (take i xs) (b ∷ [])
    ∙ ap (λ r. told t line (take i xs) ++ r) (append-nil (told_at t (left line (take i xs)) b))

-- what is left behind one more byte
pub left_more : (line xs : List ℕ) (i : ℕ) (b : ℕ) → i < length xs → b ≡ get_or xs i 0
    → left line (take (i + 1) xs) ≡ next_line (left line (take i xs)) b
left_more line xs i b h e =
    ap (left line) (take_more xs i 0 h ∙ ap (λ c. take i xs ++ c ∷ []) (sym e)) ∙ left-append line (take i xs) (b ∷ [])

-- the lines of a text begin with those up to a byte, and what is told at that byte
pub told_split : (t : Texts) (line xs : List ℕ) (i : ℕ) (b : ℕ) → i < length xs → b ≡ get_or xs i 0
    → told t line xs
    ≡ (told t line (take i xs) ++ told_at t (left line (take i xs)) b)
    ++ told t (left line (take (i + 1) xs)) (drop (i + 1) xs)
told_split t line xs i b h e =
    ap (told t line) (sym (take-append-drop (i + 1) xs)) ∙ told-append t line (take (i + 1) xs) (drop (i + 1) xs)
    ∙ ap (λ r. r ++ told t (left line (take (i + 1) xs)) (drop (i + 1) xs)) (told_more t line xs i b h e)
