-- Terms without variables, and when two are equal.
use Rattle.std.specs.Prelude.{ℕ, ◌+◌, max, Bool, true, false, ◌&&◌, ◌||◌, ℤ, List, bytes_eq}
use Rattle.std.specs.Ordering.{int_eq}
use Rattle.std.specs.List.{list_any}

-- a term is a symbol, a number or a list of terms
mutual
  pub data Term : Type 0 where
    Symbol : (name : List ℕ) → Term
    Number : (n : ℤ) → Term
    Listed : (parts : Terms) → Term

  pub data Terms : Type 0 where
    NoTerm : Terms
    More : (first : Term) → (rest : Terms) → Terms

-- whether two terms are equal
abbrev mutual
  pub same_term : Term → Term → Bool
  same_term (Symbol a) (Symbol b) = bytes_eq a b
  same_term (Number m) (Number n) = int_eq m n
  same_term (Listed xs) (Listed ys) = same_terms xs ys
  same_term _ _ = false

  pub same_terms : Terms → Terms → Bool
  same_terms NoTerm NoTerm = true
  same_terms (More x xs) (More y ys) = same_term x y && same_terms xs ys
  same_terms _ _ = false

-- how deep a term nests: a list one deeper than its deepest part, and the empty one 1
abbrev mutual
  pub term_nesting : Term → ℕ
  term_nesting (Symbol name) = 0
  term_nesting (Number n) = 0
  term_nesting (Listed ts) = 1 + deepest ts

  pub deepest : Terms → ℕ
  deepest NoTerm = 0
  deepest (More t ts) = max (term_nesting t) (deepest ts)

-- a term is one of the parts of a list
abbrev pub is_part : Term → Terms → Bool
is_part t NoTerm = false
is_part t (More x xs) = same_term t x || is_part t xs

-- a term is one of these
abbrev pub member : Term → List Term → Bool
member x xs = list_any (same_term x) xs
