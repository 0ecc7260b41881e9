-- The words of paths.
use Rattle.std.specs.Prelude.{ℕ, zero, suc, ◌+◌, Bool, true, false, ◌&&◌, ◌||◌, nat_le, ◌==◌, cond, map, List, [], ◌∷◌, Option, Some, bytes_eq, codes}
use Rattle.hp_words.specs.Numbers.{only_if, is_number, number_from}
use Rattle.hp_words.specs.declared.paths.TheConstants.{MOST_NUMBERS, GREATEST_NUMBER}

-- a number that a walk tells as itself
abbrev pub is_path_number : List ℕ → Bool
is_path_number bs = is_number bs && nat_le (number_from 0 bs) GREATEST_NUMBER

abbrev pub path_number : List ℕ → Option ℕ
path_number bs = only_if (is_path_number bs) (Some (number_from 0 bs))

-- ---- pieces

-- a byte before the first of pieces
abbrev pub in_first : ℕ → List (List ℕ) → List (List ℕ)
in_first b [] = (b ∷ []) ∷ []
in_first b (p ∷ ps) = (b ∷ p) ∷ ps

-- the pieces of a word between its points, one more than there are points
abbrev pub pieces : List ℕ → List (List ℕ)
pieces [] = [] ∷ []
pieces (b ∷ bs) = cond (b == 46) ([] ∷ pieces bs) (in_first b (pieces bs))

-- where the first piece ends, if its first byte has this number
abbrev pub piece_end : ℕ → List ℕ → ℕ
piece_end n [] = n
piece_end n (b ∷ bs) = cond (b == 46) n (piece_end (n + 1) bs)

-- ---- words

-- so many pieces at most, each a number
abbrev pub are_numbers : ℕ → List (List ℕ) → Bool
are_numbers n [] = true
are_numbers zero (p ∷ ps) = false
are_numbers (suc n) (p ∷ ps) = is_path_number p && are_numbers n ps

-- the word of a path: `-`, or numbers joined by points
abbrev pub is_path : List ℕ → Bool
is_path word = bytes_eq word (codes "-") || are_numbers MOST_NUMBERS (pieces word)

-- the numbers of a path's word, in order
abbrev pub path_of : List ℕ → List ℕ
path_of word = cond (bytes_eq word (codes "-")) [] (map (number_from 0) (pieces word))
