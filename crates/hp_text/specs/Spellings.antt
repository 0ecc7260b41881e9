-- The views of spellings, and decimals by the digits on either side of their point.
use Rattle.std.specs.Prelude.{◌≡◌, ℕ, ◌+◌, ◌*◌, ◌^◌, Bool, true, cond, nat_lt, pos, neg_ℤ, List, ◌++◌, take, codes}
use Rattle.std.specs.Str.Parse.{digits_value}
use Rattle.hp_syntax.specs.Text as text
use Rattle.hp_text.specs.declared.spelling.Spelling.{Spelling}
use Rattle.hp_text.specs.declared.spelling.Spelling.TheVariants.{Name, Number, NoNumber, OutOfRange}

abbrev pub plain_spelling : Spelling → text.Spelling
plain_spelling Name = text.AName
plain_spelling (Number n) = text.ANumber n
plain_spelling NoNumber = text.NoNumber
plain_spelling OutOfRange = text.OutOfRange

-- bytes that are a decimal, whose digits stand before its point and behind it
pub record IsSplit (bytes whole decimals : List ℕ) : Type 0 where
  pub decimal : text.is_decimal bytes ≡ true
  pub before : text.before_point bytes ≡ whole
  pub behind : text.behind_point bytes ≡ decimals

-- the thousandths of digits before a point and behind it
abbrev pub parts_value : List ℕ → List ℕ → ℕ
parts_value whole decimals = digits_value 10 whole * 1000 + digits_value 10 (take 3 (decimals ++ codes "000"))

-- the spelling of so many thousandths
abbrev pub spelling_by : Bool → ℕ → text.Spelling
spelling_by minus n =
    cond (nat_lt n (cond minus (2 ^ 63 + 1) (2 ^ 63))) (text.ANumber (cond minus (neg_ℤ (pos n)) (pos n))) text.OutOfRange
