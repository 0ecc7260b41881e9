-- Lists by the word that they begin with.
use Rattle.std.proofs.Common.{◌≡◌, refl, Option, Some, None, Bool, true, false, cond, codes}
use Rattle.hp_syntax.specs.declared.pattern.Span.{Span}
use Rattle.hp_syntax.specs.declared.pattern.Tail.{Tail}
use Rattle.hp_syntax.specs.declared.form.What.TheVariants as wants
use Rattle.hp_syntax.specs.Forest.{Forest, Bare, Grow, Word, Numeral, Group}
use Rattle.hp_syntax.specs.Steps.{Names, Parse, ◌>>=◌, ◌<$>◌, pure, expected, closing, is_word}
use Rattle.hp_syntax.specs.Syntax.{Pattern, Patterns, Plain, First, Listing, Before}
use Rattle.hp_syntax.specs.Grammar.{Setting, term, items, called, expressions, gathered, list_expression, list_precondition, list_tail, list_term, sorted}
use Rattle.hp_terms.specs.Words.{behind}
use Rattle.hp_terms.proofs.Turns.{bind-assoc}

-- by what follows a word, where a list begins with it
abbrev pub by_word : {A : Type 0} → Option Forest → (Forest → Parse A) → Parse A → Parse A
by_word None by other = other
by_word (Some rest) by other = by rest

-- a precondition by the word that it begins with
pub precondition-by_word : (s : Span) (f : Forest) (names : Names)
    → list_precondition s f names
    ≡ by_word (behind (codes ":first") f) (λ rest. (λ es. First (gathered s es)) <$> expressions rest)
    (by_word (behind (codes ":sort-by") f) (sorted s) (Plain <$> list_expression s f)) names
unfolding list_precondition
precondition-by_word s Bare names = refl
precondition-by_word s (Grow (Numeral t n) rest) names = refl
precondition-by_word s (Grow (Group t parts) rest) names = refl
precondition-by_word s (Grow (Word t key) rest) names =
    words (is_word (codes ":first") (Word t key)) (is_word (codes ":sort-by") (Word t key))
  where
    words : (is_first is_sorted : Bool)
        → cond is_first ((λ es. First (gathered s es)) <$> expressions rest) (cond is_sorted (sorted s rest)
        (Plain <$> list_expression s (Grow (Word t key) rest))) names
        ≡ by_word (cond is_first (Some rest) None) (λ rest. (λ es. First (gathered s es)) <$> expressions rest)
        (by_word (cond is_sorted (Some rest) None) (sorted s)
        (Plain <$> list_expression s (Grow (Word t key) rest))) names
    words true is_sorted = refl
    words false true = refl
    words false false = refl

-- the term of some parts and a tail
abbrev pub listing : Span → Patterns × Option Tail → Pattern
listing s x = Listing s x.0 x.1

-- a term that is no call has the parts and the tail that it would have behind a dot
pub term-by_word : (setting : Setting) (s : Span) (f : Forest) (names : Names)
    → list_term setting s f names
    ≡ by_word (behind (codes "call") f) (called setting s)
    (listing s <$> list_tail setting s f) names
unfolding list_term list_tail
term-by_word setting s Bare names = refl
term-by_word setting s (Grow n rest) names = call (is_word (codes "call") n)
  where
    call : (is_call : Bool)
        → cond is_call (called setting s rest) (term setting n >>= (λ first. items setting (closing s) rest >>=
        (λ others. pure (Listing s (Before first others.0) others.1)))) names
        ≡ by_word (cond is_call (Some rest) None) (called setting s) (listing s <$> cond is_call
        (expected wants.Tail s) (term setting n >>= (λ first. items setting (closing s) rest >>=
        (λ others. pure (Before first others.0, others.1))))) names
    call true = refl
    call false = simp bind-assoc
