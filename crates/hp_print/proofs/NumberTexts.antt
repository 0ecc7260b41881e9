-- The text of a number of the language spells it.
use Rattle.std.proofs.Common.{◌≡◌, ℕ, zero, suc, ◌+◌, ◌*◌, ◌/◌, ◌%◌, ◌<◌, ◌≤◌, ◌^◌, Bool, true, false, cond, ◌&&◌, ◌||◌, List, [], ◌∷◌, ◌++◌, length, take, drop, refl, sym, ◌∙◌, ap, ap₂, arith, lit≤}
use Rattle.std.specs.Prelude.{◌==◌, nat_lt, nat_le, ℤ, pos, negsuc, neg_ℤ, codes}
use Rattle.std.specs.Char.{digit_value}
use Rattle.std.specs.Fmt.{decimal}
use Rattle.std.specs.Int.{IsInRange}
use Rattle.std.specs.List.{list_all}
use Rattle.std.specs.Str.Parse.{digits_value, starts_with_minus, without_leading_sign}
use Rattle.std.proofs.lemmas.Bool.{and_parts, and_from, eqb-true, false≢true, ltb-true, leb-true, le-leb, le-ltb, lt-ltb, ne_eqb, or_left}
use Rattle.std.proofs.lemmas.Fmt.{decimal_nonempty, digits_decimal, digits_value-decimal, length-decimal-le}
use Rattle.std.proofs.lemmas.List.{length-append}
use Rattle.std.proofs.lemmas.List.Folds.{list_all-append}
use Rattle.std.proofs.lemmas.Str.{digit_value_digit}
use Rattle.std.proofs.lemmas.Str.Parse.{IsDigitsTest, IsNumeralModel, numerals_by_value}
use Rattle.hp_syntax.specs.Text.{is_digit, is_name_byte, begins_unsigned, is_numeral, is_decimal, is_well_spelled, is_in_range, before_point, behind_point, thousandths, number_spelled, AName, ANumber, NoNumber, OutOfRange, spelling_of}
use Rattle.hp_syntax.specs.TermTexts.{decimals_text, num_text}
use Rattle.hp_print.proofs.CanSpell.{IsNumber}
use lib.Signed.{mag}

-- a digit lies between 48 and 57
digit_range : (b : ℕ) → is_digit b ≡ true → IsInRange 48 57 b
digit_range b h = let p = and_parts (nat_le 48 b) (nat_le b 57) h in (leb-true 48 b p.0, leb-true b 57 p.1)

-- the test of all bytes for digits tells the digits
tells_all_digits : IsDigitsTest (λ ds. list_all is_digit ds ≡ true)
tells_all_digits = record {
  empty = refl;
  parts = λ c cs h. (let p = and_parts (is_digit c) (list_all is_digit cs) h in (digit_range c p.0, p.1));
  more =
      λ c cs r h. and_from (is_digit c) (list_all is_digit cs)
      (and_from (nat_le 48 c) (nat_le c 57) (le-leb 48 c r.0) (le-leb c 57 r.1)) h;
}

-- digits are digits as the standard library has them
all_digits : IsNumeralModel (λ ds. list_all is_digit ds ≡ true) (digits_value 10)
all_digits = numerals_by_value (λ ds. list_all is_digit ds ≡ true) tells_all_digits

-- a digit is a name byte
digit_is_name : (b : ℕ) → is_digit b ≡ true → is_name_byte b ≡ true
digit_is_name b h =
    let r = digit_range b h in
    let l = r.0 in
    let m = r.1 in
    rw (
      le-leb 33 b (omega arith),
      le-leb b 126 (omega arith),
      ne_eqb b 40 (λ e. omega arith),
      ne_eqb b 41 (λ e. omega arith),
      ne_eqb b 59 (λ e. omega arith),
      ne_eqb b 34 (λ e. omega arith),
    ) refl

-- digits are name bytes
digits_are_names : (ds : List ℕ) → list_all is_digit ds ≡ true → list_all is_name_byte ds ≡ true
digits_are_names [] h = refl
digits_are_names (d ∷ ds) h =
    let p = and_parts (is_digit d) (list_all is_digit ds) h in
    and_from (is_name_byte d) (list_all is_name_byte ds) (digit_is_name d p.0) (digits_are_names ds p.1)

-- bytes that begin with a digit begin as a numeral without a sign
begins_by_digit : (d : ℕ) (ds : List ℕ) → is_digit d ≡ true → begins_unsigned (d ∷ ds) ≡ true
begins_by_digit d [] h = h
begins_by_digit d (c ∷ cs) h = rw h refl

-- a digit is no point
digit_no_point : (d : ℕ) → is_digit d ≡ true → d == 46 ≡ false
digit_no_point d h = let m = (digit_range d h).0 in ne_eqb d 46 (λ e. omega arith)

-- bytes that begin as a numeral without a sign are one behind a minus
numeral_behind_minus : (bytes : List ℕ) → begins_unsigned bytes ≡ true → is_numeral (45 ∷ bytes) ≡ true
numeral_behind_minus [] h = absurd (false≢true h)
numeral_behind_minus (b ∷ bs) h = h

-- digits before what begins with a point, or before nothing, stand before the point
before_of : (ds rest : List ℕ) → list_all is_digit ds ≡ true → before_point rest ≡ [] → before_point (ds ++ rest) ≡ ds
before_of [] rest h e = e
before_of (d ∷ ds) rest h e =
    let p = and_parts (is_digit d) (list_all is_digit ds) h in
    rw (digit_no_point d p.0) (ap (λ xs. d ∷ xs) (before_of ds rest p.1 e))

-- what is behind the point of the rest is behind that of the whole
behind_of : (ds rest : List ℕ) → list_all is_digit ds ≡ true → behind_point (ds ++ rest) ≡ behind_point rest
behind_of [] rest h = refl
behind_of (d ∷ ds) rest h =
    let p = and_parts (is_digit d) (list_all is_digit ds) h in rw (digit_no_point d p.0) (behind_of ds rest p.1)

-- a point and at most three digits behind it that are so many thousandths, or nothing where there are none
record IsPlaces (text : List ℕ) (r : ℕ) : Type 0 where
  before : before_point text ≡ []
  digits : list_all is_digit (behind_point text) ≡ true
  few : length (behind_point text) ≤ 3
  value : digits_value 10 (take 3 (behind_point text ++ codes "000")) ≡ r
  names : list_all is_name_byte text ≡ true
  short : length text ≤ 4

-- the digit of a number below ten
glyph_is_digit : (v : ℕ) → v < 10 → is_digit (48 + v) ≡ true
glyph_is_digit v h = and_from (nat_le 48 (48 + v)) (nat_le (48 + v) 57) (le-leb 48 _ (omega arith)) (le-leb _ 57 (omega arith))

-- its value is the number
glyph_value : (v : ℕ) → v < 10 → digit_value (48 + v) ≡ v
glyph_value v h =
    let e : digit_value (48 + v) + 48 ≡ 48 + v = digit_value_digit (48 + v) (omega arith, omega arith) in omega arith

-- the text of thousandths, by what tests of their remainders say
places : (a b c : Bool) (x y z r : ℕ) → x < 10 → y < 10 → z < 10 → r ≡ x * 100 + y * 10 + z
    → (a ≡ true → r ≡ 0) → (b ≡ true → y * 10 + z ≡ 0) → (c ≡ true → z ≡ 0)
    → IsPlaces (cond a [] (46 ∷ (48 + x) ∷ cond b [] ((48 + y) ∷ cond c [] ((48 + z) ∷ [])))) r
places true b c x y z r p q s e f g h = record {
  before = refl;
  digits = refl;
  few = lit≤ tt;
  value = sym (f refl);
  names = refl;
  short = lit≤ tt;
}
places false true c x y z r p q s e f g h =
    let d = glyph_is_digit x p in
    let v = glyph_value x p in
    let w : r ≡ x * 100 = (let u = g refl in omega arith) in
    record {
      before = refl;
      digits = and_from (is_digit (48 + x)) true d refl;
      few = lit≤ tt;
      value = rw v (omega arith);
      names = and_from (is_name_byte (48 + x)) true (digit_is_name (48 + x) d) refl;
      short = lit≤ tt;
    }
places false false true x y z r p q s e f g h =
    let d = glyph_is_digit x p in
    let d' = glyph_is_digit y q in
    let v = glyph_value x p in
    let v' = glyph_value y q in
    let w : r ≡ (x * 10 + y) * 10 = (let u = h refl in omega arith) in
    record {
      before = refl;
      digits = and_from (is_digit (48 + x)) (is_digit (48 + y) && true) d (and_from (is_digit (48 + y)) true d' refl);
      few = lit≤ tt;
      value = rw (v, v') (omega arith);
      names = and_from (is_name_byte (48 + x)) (is_name_byte (48 + y) && true) (digit_is_name (48 + x) d)
          (and_from (is_name_byte (48 + y)) true (digit_is_name (48 + y) d') refl);
      short = lit≤ tt;
    }
places false false false x y z r p q s e f g h =
    let d = glyph_is_digit x p in
    let d' = glyph_is_digit y q in
    let d'' = glyph_is_digit z s in
    let v = glyph_value x p in
    let v' = glyph_value y q in
    let v'' = glyph_value z s in
    record {
      before = refl;
      digits = and_from (is_digit (48 + x)) (is_digit (48 + y) && (is_digit (48 + z) && true)) d
          (and_from (is_digit (48 + y)) (is_digit (48 + z) && true) d' (and_from (is_digit (48 + z)) true d'' refl));
      few = lit≤ tt;
      value = rw (v, v', v'') (omega arith);
      names = and_from (is_name_byte (48 + x)) (is_name_byte (48 + y) && (is_name_byte (48 + z) && true))
          (digit_is_name (48 + x) d) (and_from (is_name_byte (48 + y)) (is_name_byte (48 + z) && true)
          (digit_is_name (48 + y) d') (and_from (is_name_byte (48 + z)) true (digit_is_name (48 + z) d'') refl));
      short = lit≤ tt;
    }

-- the text of less than 1000 thousandths
decimals_places : (r : ℕ) → r < 1000 → IsPlaces (decimals_text r) r
decimals_places r l =
    places (r == 0) (r % 100 == 0) (r % 10 == 0) (r / 100) (r / 10 % 10) (r % 10) r (omega arith) (omega arith)
    (omega arith) (omega arith) (λ t. eqb-true r 0 t)
    (λ t. (let u = eqb-true (r % 100) 0 t in omega arith)) (λ t. eqb-true (r % 10) 0 t)

-- the digits of whole numbers before the text of thousandths are a decimal
record IsDecimalText (text : List ℕ) (n : ℕ) : Type 0 where
  decimal : is_decimal text ≡ true
  value : thousandths text ≡ n
  names : list_all is_name_byte text ≡ true
  some : 0 < length text
  short : length text ≤ 25

-- four tests that are met
all_four : (a b c d : Bool) → a ≡ true → b ≡ true → c ≡ true → d ≡ true → (a && b && c && d) ≡ true
all_four true true true true p q r s = refl
all_four _ _ _ _ p q r s = absurd cc

-- a decimal is that of its digits and places
decimal_text : (ds rest : List ℕ) (r : ℕ) → list_all is_digit ds ≡ true → 0 < length ds → length ds ≤ 20
    → IsPlaces rest r → IsDecimalText (ds ++ rest) (digits_value 10 ds * 1000 + r)
decimal_text ds rest r h l m p =
    let b = before_of ds rest h p.before in
    let e = behind_of ds rest h in
    let few : length (behind_point rest) ≤ 3 = p.few in
    let short : length rest ≤ 4 = p.short in
    record {
      decimal = rw (b, e) (all_four _ _ _ _ h p.digits (le-leb _ 3 few) (lt-ltb 0 _ (omega arith)));
      value = rw (b, e, p.value) refl;
      names = rw list_all-append (and_from (list_all is_name_byte ds) (list_all is_name_byte rest) (digits_are_names ds h) p.names);
      some = rw length-append (omega arith);
      short = rw length-append (omega arith);
    }

-- the text of so many thousandths
magnitude_text : ℕ → List ℕ
magnitude_text n = decimal (n / 1000) ++ decimals_text (n % 1000)

-- the text of so many thousandths is a decimal of their number
magnitude_spelled : (n : ℕ) → n < 2 ^ 64 → IsDecimalText (magnitude_text n) n
unfolding magnitude_text
magnitude_spelled n l =
    let q : n / 1000 < 2 ^ 64 = omega arith in
    let ds = decimal (n / 1000) in
    let digits = digits_decimal all_digits (n / 1000) q in
    let some = decimal_nonempty (n / 1000) q in
    let short : length ds ≤ 20 = length-decimal-le 20 (n / 1000) (omega arith) (omega arith) q in
    let value : digits_value 10 ds * 1000 + n % 1000 ≡ n =
    (let v = digits_value-decimal all_digits (n / 1000) q in omega arith) in
    let t = decimal_text ds (decimals_text (n % 1000)) (n % 1000) digits some short (decimals_places (n % 1000) (omega arith)) in
    record { decimal = t.decimal; value = t.value ∙ value; names = t.names; some = t.some; short = t.short }

-- bytes that begin as a numeral, without a sign
record IsUnsigned (bytes : List ℕ) : Type 0 where
  begins : begins_unsigned bytes ≡ true
  numeral : is_numeral bytes ≡ true
  minus : starts_with_minus bytes ≡ false
  behind : without_leading_sign bytes ≡ bytes

-- digits have no sign
digits_unsigned : (ds rest : List ℕ) → list_all is_digit ds ≡ true → 0 < length ds → IsUnsigned (ds ++ rest)
digits_unsigned [] rest h s = absurd (omega arith)
digits_unsigned (d ∷ ds) rest h s =
    let g = (and_parts (is_digit d) (list_all is_digit ds) h).0 in
    let m = (digit_range d g).0 in
    let x : d == 45 ≡ false = ne_eqb d 45 (λ e. omega arith) in
    let y : d == 43 ≡ false = ne_eqb d 43 (λ e. omega arith) in
    let b = begins_by_digit d (ds ++ rest) g in
    record {
      begins = b;
      numeral = or_left (begins_unsigned (d ∷ (ds ++ rest))) ((d == 43 || d == 45) && begins_unsigned (ds ++ rest)) b;
      minus = x;
      behind = ap₂ (λ a b. cond a (drop 1 (d ∷ (ds ++ rest))) (drop (cond b 1 0) (d ∷ (ds ++ rest)))) x y;
    }

-- the text of so many thousandths has no sign
magnitude_unsigned : (n : ℕ) → n < 2 ^ 64 → IsUnsigned (magnitude_text n)
unfolding magnitude_text
magnitude_unsigned n l =
    let q : n / 1000 < 2 ^ 64 = omega arith in
    digits_unsigned (decimal (n / 1000)) (decimals_text (n % 1000)) (digits_decimal all_digits (n / 1000) q)
    (decimal_nonempty (n / 1000) q)

-- a numeral in range spells its number
chosen : (a b c : Bool) (m n : ℤ) → a ≡ true → b ≡ true → c ≡ true → m ≡ n
    → cond a (cond b (cond c (ANumber m) OutOfRange) NoNumber) AName ≡ ANumber n
chosen true true true m n p q r e = ap ANumber e
chosen _ _ _ m n p q r e = absurd cc

-- a numeral with this decimal behind its sign spells its number
spelled_by : (token bytes : List ℕ) (minus : Bool) (n : ℕ) → is_numeral token ≡ true → without_leading_sign token ≡ bytes
    → starts_with_minus token ≡ minus → IsDecimalText bytes n → n < cond minus (2 ^ 63 + 1) (2 ^ 63)
    → spelling_of token ≡ ANumber (cond minus (neg_ℤ (pos n)) (pos n))
unfolding spelling_of
spelled_by token bytes minus n h e s t l =
    let v : thousandths (without_leading_sign token) ≡ n = ap thousandths e ∙ t.value in
    chosen (is_numeral token) (is_well_spelled token) (is_in_range token) (number_spelled token) _ h
    (ap is_decimal e ∙ t.decimal)
    (ap₂ (λ x m. nat_lt x (cond m (2 ^ 63 + 1) (2 ^ 63))) v s ∙ lt-ltb n (cond minus (2 ^ 63 + 1) (2 ^ 63)) l)
    (ap₂ (λ x m. cond m (neg_ℤ (pos x)) (pos x)) v s)

-- so many thousandths are spelled by their text
spelled_plain : (n : ℕ) → n < 2 ^ 63 → spelling_of (magnitude_text n) ≡ ANumber (pos n)
spelled_plain n l =
    let u = magnitude_unsigned n (omega arith) in
    spelled_by (magnitude_text n) (magnitude_text n) false n u.numeral u.behind u.minus
    (magnitude_spelled n (omega arith)) l

-- and their opposite by a minus before it
spelled_minus : (n : ℕ) → n < 2 ^ 63 + 1 → spelling_of (45 ∷ magnitude_text n) ≡ ANumber (neg_ℤ (pos n))
spelled_minus n l =
    spelled_by (45 ∷ magnitude_text n) (magnitude_text n) true n
    (numeral_behind_minus (magnitude_text n) (magnitude_unsigned n (omega arith)).begins) refl refl (magnitude_spelled n (omega arith)) l

-- the text of a number has a sign where it is negative
plain_text : (n : ℕ) → num_text (pos n) ≡ magnitude_text n
unfolding magnitude_text
plain_text n =
    ap (λ b. cond b (codes "-") [] ++ decimal (n / 1000) ++ decimals_text (n % 1000)) (le-ltb n 0 (omega arith))

minus_text : (n : ℕ) → num_text (negsuc n) ≡ 45 ∷ magnitude_text (suc n)
unfolding magnitude_text
minus_text n = refl

-- a number is spelled where its text spells it
by_text : (n : ℤ) (text : List ℕ) → num_text n ≡ text → list_all is_name_byte text ≡ true → 0 < length text
    → length text ≤ 26 → spelling_of text ≡ ANumber n → IsNumber n
by_text n text e b s l p =
    let long : length (num_text n) ≡ length text = ap length e in
    record {
      bytes = ap (list_all is_name_byte) e ∙ b;
      some = omega arith;
      short = omega arith;
      spells = ap spelling_of e ∙ p;
    }

-- each number of the language is spelled by its text
pub number_can_spell : (n : ℤ) → mag n < 2 ^ 63 → IsNumber n
number_can_spell (pos n) l =
    let t = magnitude_spelled n (omega arith) in
    let short : length (magnitude_text n) ≤ 25 = t.short in
    by_text (pos n) (magnitude_text n) (plain_text n) t.names t.some (omega arith) (spelled_plain n l)
number_can_spell (negsuc n) l =
    let t = magnitude_spelled (suc n) (omega arith) in
    let short : length (magnitude_text (suc n)) ≤ 25 = t.short in
    by_text (negsuc n) (45 ∷ magnitude_text (suc n)) (minus_text n) t.names (omega arith) (omega arith)
    (spelled_minus (suc n) (omega arith))

-- a number whose thousandths are in range is one of the language
in_range : (minus : Bool) (v : ℕ) → v < cond minus (2 ^ 63 + 1) (2 ^ 63)
    → mag (cond minus (neg_ℤ (pos v)) (pos v)) < 2 ^ 63
in_range true zero l = omega arith
in_range true (suc v) l = omega arith
in_range false v l = l

-- a spelled number is in range, and is that of its token
number_told : (a b c : Bool) (m n : ℤ)
    → cond a (cond b (cond c (ANumber m) OutOfRange) NoNumber) AName ≡ ANumber n → (c ≡ true) × (m ≡ n)
number_told true true true m n e = (refl, cc)
number_told _ _ _ m n e = absurd cc

-- the number that a token spells is one of the language
pub spelled_in_range : (token : List ℕ) (n : ℤ) → spelling_of token ≡ ANumber n → mag n < 2 ^ 63
unfolding spelling_of
spelled_in_range token n h =
    let t = number_told _ (is_well_spelled token) (is_in_range token) (number_spelled token) n h in
    let v = ltb-true _ _ t.0 in
    let m = in_range (starts_with_minus token) _ v in
    rw (← t.1) m
