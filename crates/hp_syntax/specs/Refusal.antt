-- Why a text is refused: for each offset, what is refused there, and the first of all.
use Rattle.std.specs.Prelude.{◌≡◌, ℕ, zero, suc, ◌+◌, ◌<◌, ◌≤◌, Bool, true, false, ◌&&◌, cond, nat_lt, ◌==◌, List, [], ◌∷◌, length, drop, slice_range, Option, Some, None}
use Rattle.hp_syntax.specs.declared.text.TextKind.{TextKind}
use Rattle.hp_syntax.specs.declared.text.TextKind.TheVariants.{BadByte, BadNumber, NumberRange, TokenLong, Unclosed, ExtraClose, TooNested, TooLarge}
use Rattle.hp_syntax.specs.declared.limits.TheConstants.{LARGEST_TEXT, LONGEST_TOKEN, DEEPEST_NESTING}
use Rattle.hp_syntax.specs.Text.{Kind, Blank, Opening, Closing, NameByte, Bad, End, kind_at, Spelling, AName, ANumber, NoNumber, OutOfRange, spelling_of}

-- a kind of refusal, and the offset that is told with it
pub record Refusal : Type 0 where
  pub kind : TextKind
  pub offset : ℕ

abbrev pub refused : TextKind → ℕ → Option Refusal
refused kind offset = Some (record { kind = kind; offset = offset })

-- a bracket opens itself, or closes the innermost one
abbrev pub opened : Kind → ℕ → List ℕ → List ℕ
opened Opening i open' = i ∷ open'
opened Closing i open' = drop 1 open'
opened _ i open' = open'

-- the offsets of the brackets that are open before an offset, the innermost first
unfoldable pub open_before : List ℕ → ℕ → List ℕ
open_before text zero = []
open_before text (suc i) = opened (kind_at text i) i (open_before text i)

abbrev pub is_name : Kind → Bool
is_name NameByte = true
is_name _ = false

-- where the token begins that a name byte at an offset belongs to
unfoldable pub token_start : List ℕ → ℕ → ℕ
token_start text zero = zero
token_start text (suc i) = cond (is_name (kind_at text i)) (token_start text i) (suc i)

-- a numeral is refused that is no number of the language
abbrev pub numeral_refusal : Spelling → ℕ → Option Refusal
numeral_refusal AName from = None
numeral_refusal (ANumber n) from = None
numeral_refusal NoNumber from = refused BadNumber from
numeral_refusal OutOfRange from = refused NumberRange from

-- a token from an offset on is looked at at its last byte, or refused at its 257th
abbrev pub token_refusal : List ℕ → ℕ → ℕ → Option Refusal
token_refusal text from i =
    cond (nat_lt i (from + LONGEST_TOKEN))
    (cond (is_name (kind_at text (i + 1))) None (numeral_refusal (spelling_of (slice_range text from (i + 1))) from))
    (cond (i == from + LONGEST_TOKEN) (refused TokenLong from) None)

-- the refusal at an offset of a kind, where these brackets are open before it
abbrev pub kind_refusal : List ℕ → ℕ → Kind → List ℕ → Option Refusal
kind_refusal text i Blank open' = None
kind_refusal text i Opening open' = cond (nat_lt (length open') DEEPEST_NESTING) None (refused TooNested i)
kind_refusal text i Closing [] = refused ExtraClose i
kind_refusal text i Closing (o ∷ os) = None
kind_refusal text i NameByte open' = token_refusal text (token_start text i) i
kind_refusal text i Bad open' = refused BadByte i
kind_refusal text i End [] = None
kind_refusal text i End (o ∷ os) = refused Unclosed o

-- the byte behind the largest text is refused before it is looked at
unfoldable pub refusal_at : List ℕ → ℕ → Option Refusal
refusal_at text i =
    cond (i == LARGEST_TEXT && nat_lt i (length text))
    (refused TooLarge i)
    (kind_refusal text i (kind_at text i) (open_before text i))

-- nothing is refused before the offset
abbrev pub IsClear : List ℕ → ℕ → Type 0
IsClear text end = (i : ℕ) → i < end → refusal_at text i ≡ None

-- the refusal of a text is the one that arises at the earliest offset
pub record IsRefused (text : List ℕ) (r : Refusal) : Type 0 where
  pub at : ℕ
  pub within : at ≤ length text
  pub arises : refusal_at text at ≡ Some r
  pub first : IsClear text at
