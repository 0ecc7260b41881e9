-- The grammar of plan files: the steps of a plan, each an atom without variables, read from left to right, what is
-- inside a node before what follows it. Terms are read as those of a problem are, but that a variable is refused where
-- it stands. So there are no names to number, and a step of reading gives a value or says what is wanted where.
use Rattle.std.specs.Prelude.{ℕ, cond, List, [], ◌∷◌, Option, Some, None, Result, Ok, Err, bytes_eq, codes}
use Rattle.hp_syntax.specs.declared.pattern.Span.{Span}
use Rattle.hp_syntax.specs.declared.form.What.{What}
use Rattle.hp_syntax.specs.declared.form.What.TheVariants as wants
use Rattle.hp_syntax.specs.Forest.{Node, Word, Numeral, Group, Forest, Bare, Grow, span_of}
use Rattle.hp_syntax.specs.Names.{is_plain, is_variable}
use Rattle.hp_syntax.specs.Steps.{Misform, Expected, begun, closing, is_word}
use Rattle.hp_syntax.specs.Grammar.{is_nil}
use Rattle.hp_syntax.specs.Terms.{Term, Terms, Symbol, Number, Listed, NoTerm, More}

-- ---- steps without names

abbrev pub and_then : {A B : Type 0} → Result A Misform → (A → Result B Misform) → Result B Misform
and_then (Ok x) f = f x
and_then (Err e) f = Err e

infixl 10 ◌>>=◌
abbrev pub ◌>>=◌ : {A B : Type 0} → Result A Misform → (A → Result B Misform) → Result B Misform
r >>= f = and_then r f

infixl 10 ◌>>◌
abbrev pub ◌>>◌ : {A B : Type 0} → Result A Misform → Result B Misform → Result B Misform
r >> s = r >>= (λ _. s)

abbrev pub expected : {A : Type 0} → What → Span → Result A Misform
expected what span = Err (Expected what span)

-- nothing is left over
abbrev pub ended : Forest → Result (Unit {0}) Misform
ended Bare = Ok tt
ended (Grow n rest) = expected wants.End (span_of n)

-- ---- terms

-- `nil`, or another name that is no variable
unfoldable pub word_term : Span → List ℕ → Result Term Misform
word_term s text =
    cond (bytes_eq text (codes ".")) (expected wants.Term s)
    (cond (is_nil text) (Ok (Listed NoTerm))
    (cond (is_variable text) (expected wants.Ground s) (Ok (Symbol text))))

-- behind a dot `nil` adds nothing
unfoldable pub word_tail : Span → List ℕ → Result Terms Misform
word_tail s text =
    cond (is_nil text) (Ok NoTerm)
    (cond (is_variable text) (expected wants.Ground s) (expected wants.Tail s))

unfoldable mutual
  pub term : Node → Result Term Misform
  term (Word s text) = word_term s text
  term (Numeral s n) = Ok (Number n)
  term (Group s parts) = list_term s parts

  -- a list that begins with `call` is a call, which is no term of a plan
  pub list_term : Span → Forest → Result Term Misform
  list_term s Bare = Ok (Listed NoTerm)
  list_term s (Grow n rest) =
      cond (is_word (codes "call") n) (expected wants.Ground s)
      (do
        first ← term n
        others ← items (closing s) rest
        Ok (Listed (More first others)))

  -- terms, and then a dot and a tail, where they are
  pub items : Span → Forest → Result Terms Misform
  items end Bare = Ok NoTerm
  items end (Grow n rest) =
      cond (is_word (codes ".") n) (dotted end rest)
      (do
        first ← term n
        others ← items end rest
        Ok (More first others))

  -- the tail behind a dot
  pub dotted : Span → Forest → Result Terms Misform
  dotted end Bare = expected wants.Tail end
  dotted end (Grow n rest) = do
    behind ← tail n
    ended rest
    Ok behind

  -- a tail is a list, whose parts and tail take its place
  pub tail : Node → Result Terms Misform
  tail (Word s text) = word_tail s text
  tail (Numeral s n) = expected wants.Tail s
  tail (Group s parts) = list_tail s parts

  pub list_tail : Span → Forest → Result Terms Misform
  list_tail s Bare = Ok NoTerm
  list_tail s (Grow n rest) =
      cond (is_word (codes "call") n) (expected wants.Tail s)
      (do
        first ← term n
        others ← items (closing s) rest
        Ok (More first others))

-- ---- steps of a plan, and files

-- the list of a name and the terms behind it
abbrev pub headed : List ℕ → Terms → Term
headed name args = Listed (More (Symbol name) args)

-- a step by its name and what follows
unfoldable pub named_step : Span → List ℕ → Forest → Result Term Misform
named_step s name rest = items (closing s) rest >>= (λ args. Ok (headed name args))

-- by the name that a list begins with, which must be a plain one
abbrev pub step_by : Span → Option (List ℕ × Forest) → Result Term Misform
step_by s None = expected wants.Atom s
step_by s (Some x) = cond (is_plain x.0) (named_step s x.0 x.1) (expected wants.Atom s)

-- a step of a plan: an atom without variables, and as a term the list of its name and its arguments
unfoldable pub step : Node → Result Term Misform
step n = step_by (span_of n) (begun n)

-- the steps of a plan, each a node of the file; an empty file is the empty plan
unfoldable pub plan_form : Forest → Result (List Term) Misform
plan_form Bare = Ok []
plan_form (Grow n rest) = do
  first ← step n
  others ← plan_form rest
  Ok (first ∷ others)
