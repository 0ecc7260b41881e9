-- The kind of each byte of a text, and the tokens and gaps of a text.
use Rattle.std.specs.Prelude.{◌≡◌, ℕ, zero, suc, ◌+◌, ◌*◌, ◌^◌, ◌<◌, ◌≤◌, Bool, false, ◌||◌, ◌&&◌, not, cond, nat_lt, nat_le, ◌==◌, ℤ, pos, neg_ℤ, List, [], ◌∷◌, ◌++◌, length, take, slice_index, codes}
use Rattle.std.specs.List.{list_all}
use Rattle.std.specs.Str.Parse.{digits_value, starts_with_minus, without_leading_sign}

-- a space, a tab, a carriage return or a line feed
abbrev pub is_blank : ℕ → Bool
is_blank b = b == 32 || b == 9 || b == 13 || b == 10

-- a visible byte that is no bracket, semicolon or quotation mark
abbrev pub is_name_byte : ℕ → Bool
is_name_byte b = nat_le 33 b && nat_le b 126 && not (b == 40 || b == 41 || b == 59 || b == 34)

abbrev pub is_digit : ℕ → Bool
is_digit b = nat_le 48 b && nat_le b 57

-- the kinds of bytes, and the end of a text. A byte of a comment is as good as a blank
pub data Kind : Type 0 where
  Blank : Kind
  Opening : Kind
  Closing : Kind
  NameByte : Kind
  Bad : Kind
  End : Kind

-- the kind of a byte outside a comment
abbrev pub byte_kind : ℕ → Kind
byte_kind b =
    cond (is_blank b) Blank (cond (b == 40) Opening (cond (b == 41) Closing (cond (is_name_byte b) NameByte Bad)))

-- whether a comment is open behind a byte: a semicolon opens one, and a line feed ends it
abbrev pub comment_after : Bool → ℕ → Bool
comment_after is_open b = not (b == 10) && (is_open || b == 59)

-- whether a comment is open before an offset
abbrev pub in_comment : List ℕ → ℕ → Bool
in_comment text zero = false
in_comment text (suc i) = comment_after (in_comment text i) (slice_index text i)

-- the kind at an offset, behind which a comment is open or not
unfoldable pub kind_at : List ℕ → ℕ → Kind
kind_at text i =
    cond (nat_lt i (length text))
    (cond (comment_after (in_comment text i) (slice_index text i)) Blank (byte_kind (slice_index text i)))
    End

-- no name byte stands just before the offset, so that a token may begin there
abbrev pub IsOutside : List ℕ → ℕ → Type 0
IsOutside text at' = (i : ℕ) → i + 1 ≡ at' → kind_at text i ≡ NameByte → ⊥

-- a token: a longest run of name bytes
pub record IsToken (text : List ℕ) (from to : ℕ) : Type 0 where
  pub some : from < to
  pub run : (i : ℕ) → from ≤ i → i < to → kind_at text i ≡ NameByte
  pub begins : IsOutside text from
  pub ends : kind_at text to ≡ NameByte → ⊥

-- blanks and comments stand between the two offsets, and nothing else
pub record IsGap (text : List ℕ) (from to : ℕ) : Type 0 where
  pub order : from ≤ to
  pub blank : (i : ℕ) → from ≤ i → i < to → kind_at text i ≡ Blank

-- a digit, or a point and a digit, begins these bytes
abbrev pub begins_unsigned : List ℕ → Bool
begins_unsigned [] = false
begins_unsigned (b ∷ []) = is_digit b
begins_unsigned (b ∷ c ∷ bs) = is_digit b || (b == 46 && is_digit c)

-- a numeral begins with a digit, a point and a digit, or a sign before either
abbrev pub is_numeral : List ℕ → Bool
is_numeral [] = false
is_numeral (b ∷ bs) = begins_unsigned (b ∷ bs) || ((b == 43 || b == 45) && begins_unsigned bs)

-- the bytes before the first point, and those behind it
abbrev pub before_point : List ℕ → List ℕ
before_point [] = []
before_point (b ∷ bs) = cond (b == 46) [] (b ∷ before_point bs)

abbrev pub behind_point : List ℕ → List ℕ
behind_point [] = []
behind_point (b ∷ bs) = cond (b == 46) bs (behind_point bs)

-- digits on either side of a point or of none, at most three behind it and one at least
abbrev pub is_decimal : List ℕ → Bool
is_decimal bytes =
    list_all is_digit (before_point bytes) && list_all is_digit (behind_point bytes)
    && nat_le (length (behind_point bytes)) 3 && nat_lt 0 (length (before_point bytes) + length (behind_point bytes))

-- a sign, where there is one, and a decimal
abbrev pub is_well_spelled : List ℕ → Bool
is_well_spelled token = is_decimal (without_leading_sign token)

-- the count of thousandths of a decimal: three digits behind the point, of which those that are left out are 0
abbrev pub thousandths : List ℕ → ℕ
thousandths bytes = digits_value 10 (before_point bytes) * 1000 + digits_value 10 (take 3 (behind_point bytes ++ codes "000"))

-- the number lies between -2^63 and 2^63 - 1 thousandths
abbrev pub is_in_range : List ℕ → Bool
is_in_range token =
    nat_lt (thousandths (without_leading_sign token)) (cond (starts_with_minus token) (2 ^ 63 + 1) (2 ^ 63))

-- the number of a well spelled token, in thousandths
abbrev pub number_spelled : List ℕ → ℤ
number_spelled token =
    let n : ℕ = thousandths (without_leading_sign token) in cond (starts_with_minus token) (neg_ℤ (pos n)) (pos n)

-- the spelling of a token: a name, a number, or no number though it begins like one
pub data Spelling : Type 0 where
  AName : Spelling
  ANumber : (n : ℤ) → Spelling
  NoNumber : Spelling
  OutOfRange : Spelling

unfoldable pub spelling_of : List ℕ → Spelling
spelling_of token =
    cond (is_numeral token)
    (cond (is_well_spelled token)
    (cond (is_in_range token) (ANumber (number_spelled token)) OutOfRange)
    NoNumber)
    AName
