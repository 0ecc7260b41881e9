-- Words and numbers of lines that were written are read.
use Rattle.std.proofs.Common.{◌≡◌, ℕ, ◌+◌, ◌-◌, ◌*◌, ◌^◌, ◌<◌, ◌≤◌, Bool, true, false, cond, not, ◌&&◌, ◌==◌, List, [], ◌∷◌, ◌++◌, length, codes, decimal, Some, None, refl, ap, sym, ◌∙◌, append_assoc, eq-eqb, arith}
use Rattle.std.specs.Int.{IsInRange}
use Rattle.std.specs.List.{list_all}
use Rattle.std.specs.Prelude.{nat_le}
use Rattle.std.proofs.lemmas.Bool.{and_parts, and_from, leb-true, le-leb, ne_eqb}
use Rattle.std.proofs.lemmas.Fmt.{decimal_nonempty, digits_decimal, digits_value-decimal}
use Rattle.std.proofs.lemmas.Str.Parse.{IsDigitsTest, IsNumeralModel, numerals_by_fold}
use Rattle.hp_syntax.specs.declared.pattern.Span.{Span}
use Rattle.hp_syntax.specs.PlaceTexts.{span_text}
use Rattle.hp_syntax.specs.Text.{is_digit}
use Rattle.hp_doctor.specs.Laws.{IsInFile}
use Rattle.hp_doctor.specs.Words.{before, behind, number_from, number_of, offset_of, count_of, span_of}

-- ---- digits

digit_range : (b : ℕ) → is_digit b ≡ true → IsInRange 48 57 b
digit_range b h = let p = and_parts (nat_le 48 b) (nat_le b 57) h in (leb-true 48 b p.0, leb-true b 57 p.1)

abbrev AreDigits : List ℕ → Type 0
AreDigits ds = list_all is_digit ds ≡ true

tells_digits : IsDigitsTest AreDigits
tells_digits = record {
  empty = refl;
  parts = λ c cs h. (let p = and_parts (is_digit c) (list_all is_digit cs) h in (digit_range c p.0, p.1));
  more =
      λ c cs r h. and_from (is_digit c) (list_all is_digit cs)
      (and_from (nat_le 48 c) (nat_le c 57) (le-leb 48 c r.0) (le-leb c 57 r.1)) h;
}

-- the number that digits go on to spell
abbrev value_from : ℕ → List ℕ → ℕ
value_from n [] = n
value_from n (b ∷ bs) = value_from (n * 10 + (b - 48)) bs

digits_are_numerals : IsNumeralModel AreDigits (value_from 0)
digits_are_numerals =
    numerals_by_fold AreDigits tells_digits value_from (record { empty = λ n. refl; more = λ n c cs r. refl })

value_grows : (n : ℕ) (ds : List ℕ) → n ≤ value_from n ds
value_grows n [] = omega arith
value_grows n (b ∷ bs) = omega (arith, value_grows (n * 10 + (b - 48)) bs)

-- ---- numbers

-- digits are read up to the most that they may be
digits_read : (most n : ℕ) (ds : List ℕ) → AreDigits ds → value_from n ds ≤ most
    → number_from most n ds ≡ Some (value_from n ds)
digits_read most n [] h l = refl
digits_read most n (b ∷ bs) h l =
    let p = and_parts (is_digit b) (list_all is_digit bs) h in
    let next = n * 10 + (b - 48) in
    let small : next ≤ most = omega (arith, l, value_grows next bs) in
    let test : (is_digit b && nat_le next most) ≡ true =
    and_from (is_digit b) (nat_le next most) p.0 (le-leb next most small) in
    ap (λ t. cond t (number_from most next bs) None) test ∙ digits_read most next bs p.1 l

number_of_some : (most : ℕ) (ds : List ℕ) → 0 < length ds → number_of most ds ≡ number_from most 0 ds
number_of_some most [] h = absurd (omega arith)
number_of_some most (b ∷ bs) h = refl

number_read : (most n : ℕ) → n < 2 ^ 64 → n ≤ most → number_of most (decimal n) ≡ Some n
number_read most n h l =
    let same : value_from 0 (decimal n) ≡ n = digits_value-decimal digits_are_numerals n h in
    number_of_some most (decimal n) (decimal_nonempty n h)
    ∙ digits_read most 0 (decimal n) (digits_decimal digits_are_numerals n h) (omega (arith, same))
    ∙ ap Some same

pub offset_read : (n : ℕ) → n < 2 ^ 32 → offset_of (decimal n) ≡ Some n
offset_read n h = number_read 4294967295 n (omega arith) (omega arith)

pub count_read : (n : ℕ) → n < 2 ^ 64 → count_of (decimal n) ≡ Some n
count_read n h = number_read 18446744073709551615 n h (omega arith)

-- ---- words

-- no byte is this one
abbrev pub IsFree : ℕ → List ℕ → Type 0
IsFree mark w = list_all (λ b. not (b == mark)) w ≡ true

free_head : (is_mark : Bool) (rest : Bool) → (not is_mark && rest) ≡ true → is_mark ≡ false
free_head true rest h = sym h
free_head false rest h = refl

pub before_mark : (mark : ℕ) (w rest : List ℕ) → IsFree mark w → before mark (w ++ mark ∷ rest) ≡ w
before_mark mark [] rest h = ap (λ t. cond t [] (mark ∷ before mark rest)) (eq-eqb mark mark refl)
before_mark mark (b ∷ bs) rest h =
    let e = free_head (b == mark) (list_all (λ c. not (c == mark)) bs) h in
    let p = and_parts (not (b == mark)) (list_all (λ c. not (c == mark)) bs) h in
    ap (λ t. cond t [] (b ∷ before mark (bs ++ mark ∷ rest))) e ∙ ap (λ r. b ∷ r) (before_mark mark bs rest p.1)

pub behind_mark : (mark : ℕ) (w rest : List ℕ) → IsFree mark w → behind mark (w ++ mark ∷ rest) ≡ rest
behind_mark mark [] rest h = ap (λ t. cond t rest (behind mark rest)) (eq-eqb mark mark refl)
behind_mark mark (b ∷ bs) rest h =
    let e = free_head (b == mark) (list_all (λ c. not (c == mark)) bs) h in
    let p = and_parts (not (b == mark)) (list_all (λ c. not (c == mark)) bs) h in
    ap (λ t. cond t (bs ++ mark ∷ rest) (behind mark (bs ++ mark ∷ rest))) e ∙ behind_mark mark bs rest p.1

-- digits hold neither a blank nor a dash
digits_free : (mark : ℕ) → mark < 48 → (ds : List ℕ) → AreDigits ds → IsFree mark ds
digits_free mark l [] h = refl
digits_free mark l (b ∷ bs) h =
    let p = and_parts (is_digit b) (list_all is_digit bs) h in
    let r = digit_range b p.0 in
    let other : (b == mark) ≡ false = ne_eqb b mark (λ e. omega (arith, r.0)) in
    and_from (not (b == mark)) (list_all (λ c. not (c == mark)) bs) (ap not other) (digits_free mark l bs p.1)

pub decimal_free : (mark n : ℕ) → mark < 48 → n < 2 ^ 64 → IsFree mark (decimal n)
decimal_free mark n l h = digits_free mark l (decimal n) (digits_decimal digits_are_numerals n h)

-- a span is read
pub span_read : (s : Span) → IsInFile s → span_of (span_text s) ≡ Some s
span_read s h =
    let f : s.from < 2 ^ 64 = omega (arith, h.from) in
    let shape : span_text s ≡ decimal s.from ++ 45 ∷ decimal s.to =
    append_assoc (decimal s.from) (codes "-") (decimal s.to) in
    let free = decimal_free 45 s.from (omega arith) f in
    let from : offset_of (before 45 (span_text s)) ≡ Some s.from =
    ap offset_of (ap (before 45) shape ∙ before_mark 45 (decimal s.from) (decimal s.to) free)
    ∙ offset_read s.from h.from in
    let to : offset_of (behind 45 (span_text s)) ≡ Some s.to =
    ap offset_of (ap (behind 45) shape ∙ behind_mark 45 (decimal s.from) (decimal s.to) free) ∙ offset_read s.to h.to in
    rw (from, to) refl
