-- The steps in which the grammar reads a forest: each gives a value, or says what is wanted at which span.
use Rattle.std.specs.Prelude.{ℕ, ◌-◌, Bool, false, cond, List, [], ◌∷◌, ◌++◌, Option, Some, None, Result, Ok, Err, bytes_eq}
use Rattle.std.specs.List.{list_any, position_or_len}
use Rattle.hp_syntax.specs.declared.pattern.Span.{Span}
use Rattle.hp_syntax.specs.declared.form.What.{What}
use Rattle.hp_syntax.specs.declared.form.What.TheVariants as wants
use Rattle.hp_syntax.specs.Forest.{Node, Word, Numeral, Group, Forest, Bare, Grow, span_of}

-- why a forest has no form: something else is wanted at a span
pub data Misform : Type 0 where
  Expected : (what : What) → (span : Span) → Misform

-- the names of a rule's variables so far, by number
abbrev pub Names : Type 0
Names = List (List ℕ)

-- a step of parsing goes on from the names so far
abbrev pub Parse : Type 0 → Type 0
Parse A = Names → Result (A × Names) Misform

abbrev pub and_then : {A B : Type 0} → Result (A × Names) Misform → (A → Parse B) → Result (B × Names) Misform
and_then (Ok p) f = f p.0 p.1
and_then (Err e) f = Err e

infixl 10 ◌>>=◌
abbrev pub ◌>>=◌ : {A B : Type 0} → Parse A → (A → Parse B) → Parse B
p >>= f = λ names. and_then (p names) f

infixl 10 ◌>>◌
abbrev pub ◌>>◌ : {A B : Type 0} → Parse A → Parse B → Parse B
p >> q = p >>= (λ _. q)

abbrev pub pure : {A : Type 0} → A → Parse A
pure x = λ names. Ok (x, names)

infixr 11 ◌<$>◌
abbrev pub ◌<$>◌ : {A B : Type 0} → (A → B) → Parse A → Parse B
f <$> p = p >>= (λ x. pure (f x))

abbrev pub refuse : {A : Type 0} → Misform → Parse A
refuse m = λ names. Err m

abbrev pub expected : {A : Type 0} → What → Span → Parse A
expected what span = refuse (Expected what span)

-- the closing bracket of a list
abbrev pub closing : Span → Span
closing s = record { from = s.to - 1; to = s.to }

-- nothing is left over
abbrev pub ended : Forest → Parse (Unit {0})
ended Bare = pure tt
ended (Grow n f) = expected wants.End (span_of n)

-- the next item; where the list ends, this is wanted there
abbrev pub next : What → Span → Forest → Parse (Node × Forest)
next what end Bare = expected what end
next what end (Grow n f) = pure (n, f)

-- each item in turn
abbrev pub each : {A : Type 0} → (Node → Parse A) → Forest → Parse (List A)
each item Bare = pure []
each item (Grow n f) = do
  x ← item n
  xs ← each item f
  pure (x ∷ xs)

-- a variable's number is its place among the names, to which it is added where it is new
abbrev pub numbered : List ℕ → Parse ℕ
numbered name = λ names.
    Ok (position_or_len (bytes_eq name) names, cond (list_any (bytes_eq name) names) names (names ++ name ∷ []))

-- the names so far
abbrev pub names_so_far : Parse Names
names_so_far = λ names. Ok (names, names)

-- a step with variables of its own
abbrev pub by_itself : {A : Type 0} → Parse A → Parse A
by_itself p = λ names. and_then (p []) (λ x _. pure x names)

abbrev pub value_in : {A : Type 0} → Result (A × Names) Misform → Result A Misform
value_in (Ok x) = Ok x.0
value_in (Err e) = Err e

-- the result of a step from no names on
abbrev pub from_no_names : {A : Type 0} → Parse A → Result A Misform
from_no_names p = value_in (p [])

-- whether a node is this name
abbrev pub is_word : List ℕ → Node → Bool
is_word key (Word s name) = bytes_eq name key
is_word key _ = false

-- the name that a list begins with, and what follows it
abbrev pub begun : Node → Option (List ℕ × Forest)
begun (Word s text) = None
begun (Numeral s n) = None
begun (Group s Bare) = None
begun (Group s (Grow (Word t text) rest)) = Some (text, rest)
begun (Group s (Grow (Numeral t n) rest)) = None
begun (Group s (Grow (Group t parts) rest)) = None

-- by the name that a list begins with; something else is wanted where a node doesn't begin so
abbrev pub if_begun : {A : Type 0} → Option (List ℕ × Forest) → (List ℕ → Forest → Parse A) → Parse A → Parse A
if_begun None by_name other = other
if_begun (Some x) by_name other = by_name x.0 x.1
