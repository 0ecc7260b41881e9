-- The words of a line, which are parted by single blanks, and the numbers among them.
use Rattle.std.specs.Prelude.{ℕ, ◌+◌, ◌-◌, ◌*◌, ◌&&◌, nat_le, ◌==◌, cond, List, [], ◌∷◌, Option, Some, None, option_and_then, bytes_eq, codes}
use Rattle.hp_syntax.specs.declared.pattern.Span.{Span}
use Rattle.hp_syntax.specs.Text.{is_digit}

-- ---- words

-- what stands before the first of these bytes, or all where there is none
abbrev pub before : ℕ → List ℕ → List ℕ
before mark [] = []
before mark (b ∷ bs) = cond (b == mark) [] (b ∷ before mark bs)

-- what stands behind the first of these bytes, or nothing where there is none
abbrev pub behind : ℕ → List ℕ → List ℕ
behind mark [] = []
behind mark (b ∷ bs) = cond (b == mark) bs (behind mark bs)

abbrev pub first_word : List ℕ → List ℕ
first_word line = before 32 line

-- what follows the first word
abbrev pub other_words : List ℕ → List ℕ
other_words line = behind 32 line

-- the first of some things whose word this is
abbrev pub named : {A : Type 0} → (A → List ℕ) → List A → List ℕ → Option A
named word_of [] word = None
named word_of (x ∷ xs) word = cond (bytes_eq word (word_of x)) (Some x) (named word_of xs word)

-- ---- numbers

-- the number that digits go on to spell, up to the most that it may be
abbrev pub number_from : ℕ → ℕ → List ℕ → Option ℕ
number_from most n [] = Some n
number_from most n (b ∷ bs) =
    cond (is_digit b && nat_le (n * 10 + (b - 48)) most) (number_from most (n * 10 + (b - 48)) bs) None

-- a number: digits, one at least
abbrev pub number_of : ℕ → List ℕ → Option ℕ
number_of most [] = None
number_of most (b ∷ bs) = number_from most 0 (b ∷ bs)

-- an offset in a text
abbrev pub offset_of : List ℕ → Option ℕ
offset_of word = number_of 4294967295 word

-- a count
abbrev pub count_of : List ℕ → Option ℕ
count_of word = number_of 18446744073709551615 word

-- a span: `FROM-TO`
abbrev pub span_of : List ℕ → Option Span
span_of word =
    option_and_then
    (λ from. option_and_then (λ to. Some (record { from = from; to = to })) (offset_of (behind 45 word)))
    (offset_of (before 45 word))

-- what follows the word `at`
abbrev pub behind_at : List ℕ → Option (List ℕ)
behind_at words = cond (bytes_eq (first_word words) (codes "at")) (Some (other_words words)) None
