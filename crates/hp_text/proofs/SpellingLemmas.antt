-- The numbers that tokens spell, by the digits on either side of their point.
use Rattle.std.proofs.Common.{◌≡◌, ℕ, zero, suc, ◌+◌, ◌*◌, ◌<◌, ◌≤◌, ◌^◌, Bool, true, false, cond, ◌&&◌, List, [], ◌∷◌, ◌++◌, length, get_or, drop, take, pos, neg_ℤ, refl, sym, ap, ap₂, ◌∙◌, arith}
use Rattle.std.specs.Prelude.{◌==◌, nat_lt, nat_le, None, codes}
use Rattle.std.specs.List.{list_all}
use Rattle.std.specs.Char.{digit_value}
use Rattle.std.specs.Str.Parse.{AllDigits, digits_value, starts_with_minus, without_leading_sign}
use Rattle.std.proofs.lemmas.Bool.{and_parts, and_right, lt-ltb}
use Rattle.std.proofs.Math.Nat.{le_trans, pow-le-pow_right}
use Rattle.std.proofs.lemmas.Int.Digits.{digits_value-lt, digits_value_more}
use Rattle.std.proofs.lemmas.Str.Parse.{digits_value-take-le}
use Rattle.std.proofs.lemmas.List.{length-take}
use Rattle.std.proofs.lemmas.Bool.Decides.{nat_tests}
use Rattle.hp_syntax.specs.Refusal.{numeral_refusal}
use Rattle.hp_syntax.specs.Text.{AName, ANumber, NoNumber, OutOfRange, is_digit, is_numeral, is_decimal, is_well_spelled, is_in_range, before_point, behind_point, thousandths, number_spelled, spelling_of}
use Rattle.hp_text.specs.Spellings.{IsSplit, parts_value, spelling_by}

-- a digit has a value below ten
digit_below_ten : (b : ℕ) → is_digit b ≡ true → digit_value b < 10
digit_below_ten b h = grind (arith, nat_tests)

-- a digit is no point
digit_no_point : (b : ℕ) → is_digit b ≡ true → b == 46 ≡ false
digit_no_point b h = grind (arith, nat_tests)

-- digits are digits in the radix ten
pub digits_told : (ds : List ℕ) → list_all is_digit ds ≡ true → AllDigits 10 ds
digits_told [] h = tt
digits_told (d ∷ ds) h =
    let p = and_parts (is_digit d) (list_all is_digit ds) h in (digit_below_ten d p.0, digits_told ds p.1)

-- the number of digits is no less than that of the first of them with one more
pub no_less : (ds : List ℕ) (i : ℕ) → i < length ds
    → digits_value 10 (take i ds) * 10 + digit_value (get_or ds i 0) ≤ digits_value 10 ds
no_less ds i l =
    let more = digits_value_more 10 ds i l in
    let part : digits_value 10 (take (i + 1) ds) ≤ digits_value 10 ds = digits_value-take-le 10 ds (i + 1) (omega arith) in
    omega arith

-- where a point stands behind the digits that bytes begin with, it parts these from what is behind it
pub parts_at_point : (bytes : List ℕ) (n : ℕ) → list_all is_digit (take n bytes) ≡ true → n < length bytes
    → get_or bytes n 0 ≡ 46 → (before_point bytes ≡ take n bytes) × (behind_point bytes ≡ drop (suc n) bytes)
parts_at_point [] n h l e = absurd (omega arith)
parts_at_point (b ∷ bs) zero h l e = rw e (refl, refl)
parts_at_point (b ∷ bs) (suc n) h l e =
    let p = and_parts (is_digit b) (list_all is_digit (take n bs)) h in
    let m = parts_at_point bs n p.1 (omega arith) e in
    rw (digit_no_point b p.0) (ap (λ xs. b ∷ xs) m.0, m.1)

-- digits have no point
pub parts_of_digits : (bytes : List ℕ) → list_all is_digit bytes ≡ true
    → (before_point bytes ≡ bytes) × (behind_point bytes ≡ [])
parts_of_digits [] h = (refl, refl)
parts_of_digits (b ∷ bs) h =
    let p = and_parts (is_digit b) (list_all is_digit bs) h in
    let m = parts_of_digits bs p.1 in
    rw (digit_no_point b p.0) (ap (λ xs. b ∷ xs) m.0, m.1)

-- a byte that is neither a digit nor a point before the first point
no_digits_before : (bytes : List ℕ) (n : ℕ) → list_all is_digit (take n bytes) ≡ true → n < length bytes
    → is_digit (get_or bytes n 0) ≡ false → get_or bytes n 0 == 46 ≡ false
    → list_all is_digit (before_point bytes) ≡ false
no_digits_before [] n h l d e = absurd (omega arith)
no_digits_before (b ∷ bs) zero h l d e = rw (e, d) refl
no_digits_before (b ∷ bs) (suc n) h l d e =
    let p = and_parts (is_digit b) (list_all is_digit (take n bs)) h in
    let m = no_digits_before bs n p.1 (omega arith) d e in
    rw (digit_no_point b p.0, m) (and_right (is_digit b) false refl)

-- where another byte stands behind the digits that bytes begin with, they are no decimal
pub no_decimal : (bytes : List ℕ) (n : ℕ) → list_all is_digit (take n bytes) ≡ true → n < length bytes
    → is_digit (get_or bytes n 0) ≡ false → get_or bytes n 0 == 46 ≡ false → is_decimal bytes ≡ false
no_decimal bytes n h l d e = rw (no_digits_before bytes n h l d e) refl

-- of four tests that are met the first two are met
first_two : (a b c d : Bool) → (a && b && c && d) ≡ true → (a ≡ true) × (b ≡ true)
first_two true true c d h = (refl, refl)
first_two true false c d h = absurd cc
first_two false b c d h = absurd cc

-- a decimal is split into digits
pub split_digits : (bytes whole decimals : List ℕ) → IsSplit bytes whole decimals
    → (list_all is_digit whole ≡ true) × (list_all is_digit decimals ≡ true)
split_digits bytes whole decimals s =
    let p = first_two (list_all is_digit (before_point bytes)) (list_all is_digit (behind_point bytes))
    (nat_le (length (behind_point bytes)) 3) (nat_lt 0 (length (before_point bytes) + length (behind_point bytes)))
    s.decimal in
    (rw s.before at p.0, rw s.behind at p.1)

-- three digits, those of the bytes first
three_digits : (ds : List ℕ) → list_all is_digit ds ≡ true → AllDigits 10 (take 3 (ds ++ codes "000"))
three_digits [] h = digits_told (codes "000") refl
three_digits (a ∷ []) h = digits_told (a ∷ codes "00") h
three_digits (a ∷ b ∷ []) h = digits_told (a ∷ b ∷ codes "0") h
three_digits (a ∷ b ∷ c ∷ ds) h =
    let p = and_parts (is_digit a) (list_all is_digit (b ∷ c ∷ ds)) h in
    let q = and_parts (is_digit b) (list_all is_digit (c ∷ ds)) p.1 in
    let r = and_parts (is_digit c) (list_all is_digit ds) q.1 in
    digits_told (a ∷ b ∷ c ∷ []) (rw (p.0, q.0, r.0) refl)

-- they are less than 1000
pub three_digits_value : (ds : List ℕ) → list_all is_digit ds ≡ true → digits_value 10 (take 3 (ds ++ codes "000")) < 1000
three_digits_value ds h =
    let ts = take 3 (ds ++ codes "000") in
    let v : digits_value 10 ts < 10 ^ length ts = digits_value-lt 10 ts (three_digits ds h) in
    let few : length ts ≤ 3 = omega (arith, length-take 3 (ds ++ codes "000")) in
    let most : 10 ^ length ts ≤ 10 ^ 3 = pow-le-pow_right (omega arith) few in
    omega arith

-- what stands before a point is no longer than the whole
before_length : (bytes : List ℕ) → length (before_point bytes) ≤ length bytes
before_length [] = omega arith
before_length (b ∷ bs) =
    let m = before_length bs in
    elim (b == 46) as (λ t. length (cond t [] (b ∷ before_point bs)) ≤ length (b ∷ bs))
    [ true ↦ omega arith | false ↦ omega arith ]

-- bytes of which some are left out are no longer
dropped_length : (s t : Bool) (b : ℕ) (bs : List ℕ)
    → length (cond s (drop 1 (b ∷ bs)) (drop (cond t 1 0) (b ∷ bs))) ≤ length (b ∷ bs)
dropped_length true t b bs = omega arith
dropped_length false true b bs = omega arith
dropped_length false false b bs = omega arith

-- without its sign a token is no longer
unsigned_length : (token : List ℕ) → length (without_leading_sign token) ≤ length token
unsigned_length [] = omega arith
unsigned_length (b ∷ bs) = dropped_length (b == 45) (b == 43) b bs

-- so few thousandths are in range, whatever their sign
small_fits : (minus : Bool) (n : ℕ) → n < 10 ^ 18 → nat_lt n (cond minus (2 ^ 63 + 1) (2 ^ 63)) ≡ true
small_fits true n h = let l : n < 2 ^ 63 + 1 = omega arith in lt-ltb _ _ l
small_fits false n h = let l : n < 2 ^ 63 = omega arith in lt-ltb _ _ l

-- a decimal of so few bytes is less than 10^18 thousandths
small_value : (bytes : List ℕ) → is_decimal bytes ≡ true → length bytes ≤ 15 → thousandths bytes < 10 ^ 18
small_value bytes h short =
    let s = split_digits bytes (before_point bytes) (behind_point bytes) (record { decimal = h; before = refl; behind = refl }) in
    let whole = before_point bytes in
    let v : digits_value 10 whole < 10 ^ length whole = digits_value-lt 10 whole (digits_told whole s.0) in
    let fewer : length whole ≤ 15 = le_trans (before_length bytes) short in
    let most : 10 ^ length whole ≤ 10 ^ 15 = pow-le-pow_right (omega arith) fewer in
    let r = three_digits_value (behind_point bytes) s.1 in
    omega arith

-- a sign and so short a decimal are in range
pub small_in_range : (token : List ℕ) → is_well_spelled token ≡ true → length token ≤ 15 → is_in_range token ≡ true
small_in_range token h short =
    small_fits (starts_with_minus token) (thousandths (without_leading_sign token))
    (small_value (without_leading_sign token) h (le_trans (unsigned_length token) short))

-- a token that begins as no numeral is not refused
pub no_numeral_passes : (token : List ℕ) (from : ℕ) → is_numeral token ≡ false
    → numeral_refusal (spelling_of token) from ≡ None
unfolding spelling_of
no_numeral_passes token from h = rw h refl

-- what a token spells, by the tests on it
spelled_by_tests : (a b c : Bool) (n : ℕ) (m : Bool) → a ≡ true → b ≡ true
    → cond a (cond b (cond c (ANumber (cond m (neg_ℤ (pos n)) (pos n))) OutOfRange) NoNumber) AName
    ≡ cond c (ANumber (cond m (neg_ℤ (pos n)) (pos n))) OutOfRange
spelled_by_tests true true c n m p q = refl
spelled_by_tests _ _ c n m p q = absurd cc

-- a numeral that is a sign and a decimal spells its thousandths
pub decimal_spelled : (token whole decimals : List ℕ) → is_numeral token ≡ true
    → IsSplit (without_leading_sign token) whole decimals
    → spelling_by (starts_with_minus token) (parts_value whole decimals) ≡ spelling_of token
unfolding spelling_of
decimal_spelled token whole decimals n s =
    let same = ap₂ parts_value s.before s.behind in
    ap (spelling_by (starts_with_minus token)) (sym same)
    ∙ sym (spelled_by_tests (is_numeral token) (is_well_spelled token) (is_in_range token)
    (thousandths (without_leading_sign token)) (starts_with_minus token) n s.decimal)

-- another numeral spells no number
pub no_decimal_spelled : (token : List ℕ) → is_numeral token ≡ true
    → is_decimal (without_leading_sign token) ≡ false → NoNumber ≡ spelling_of token
unfolding spelling_of
no_decimal_spelled token n h = rw (n, h) refl

-- a decimal in range is not refused
pub decimal_passes : (token : List ℕ) (from : ℕ) → is_well_spelled token ≡ true → is_in_range token ≡ true
    → numeral_refusal (spelling_of token) from ≡ None
unfolding spelling_of
decimal_passes token from whole fits =
    let read : cond (is_well_spelled token) (cond (is_in_range token) (ANumber (number_spelled token)) OutOfRange)
    NoNumber ≡ ANumber (number_spelled token) = rw (whole, fits) refl in
    elim (is_numeral token) as (λ b. numeral_refusal (cond b (cond (is_well_spelled token) (cond (is_in_range token)
    (ANumber (number_spelled token)) OutOfRange) NoNumber) AName) from ≡ None) [
      | true ↦ rw read refl
      | false ↦ refl
    ]
