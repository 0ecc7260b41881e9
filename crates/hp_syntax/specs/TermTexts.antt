-- The text of a term.
use Rattle.std.specs.Prelude.{ℕ, ◌+◌, ◌/◌, ◌%◌, ◌==◌, cond, ℤ, pos, int_lt, unsigned_abs, List, [], ◌∷◌, ◌++◌, codes}
use Rattle.std.specs.Fmt.{decimal}
use Rattle.hp_syntax.specs.Terms.{Term, Terms, Symbol, Number, Listed, NoTerm, More}

-- behind a point the digits of less than 1000 thousandths, without zeros at their end; nothing where there are none
abbrev pub decimals_text : ℕ → List ℕ
decimals_text r =
    cond (r == 0) [] (codes "." ++ ((48 + r / 100) ∷
    cond (r % 100 == 0) [] ((48 + r / 10 % 10) ∷ cond (r % 10 == 0) [] ((48 + r % 10) ∷ []))))

-- a number, by its count of thousandths
abbrev pub num_text : ℤ → List ℕ
num_text n =
    cond (int_lt n (pos 0)) (codes "-") [] ++ decimal (unsigned_abs n / 1000) ++ decimals_text (unsigned_abs n % 1000)

-- a term, with single spaces
abbrev mutual
  pub term_text : Term → List ℕ
  term_text (Symbol name) = name
  term_text (Number n) = num_text n
  term_text (Listed NoTerm) = codes "()"
  term_text (Listed (More t ts)) = codes "(" ++ term_text t ++ terms_text ts

  pub terms_text : Terms → List ℕ
  terms_text NoTerm = codes ")"
  terms_text (More t ts) = codes " " ++ term_text t ++ terms_text ts
