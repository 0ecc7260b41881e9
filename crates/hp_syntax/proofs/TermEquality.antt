-- The test of terms tells which are equal.
use Rattle.std.proofs.Common.{◌≡◌, true, refl, ap, ap₂, subst}
use Rattle.std.specs.Bool.{Decides}
use Rattle.std.proofs.lemmas.Bool.{false≢true, and_parts, and_from}
use Rattle.std.proofs.lemmas.Bool.Decides.{Decides-int_eq}
use Rattle.std.proofs.lemmas.Slice.Eq.{bytes_eq-Decides}
use Rattle.hp_syntax.specs.Terms.{Term, Terms, Symbol, Number, Listed, NoTerm, More, same_term, same_terms}

-- terms are equal if the test says so
mutual
  pub same_sound : (x y : Term) → same_term x y ≡ true → x ≡ y
  same_sound (Symbol a) (Symbol b) h = ap Symbol ((bytes_eq-Decides a b).0 h)
  same_sound (Number m) (Number n) h = ap Number ((Decides-int_eq m n).0 h)
  same_sound (Listed xs) (Listed ys) h = ap Listed (all_same_sound xs ys h)
  same_sound _ _ h = absurd (false≢true h)

  -- lists of terms are equal if the test says so
  pub all_same_sound : (xs ys : Terms) → same_terms xs ys ≡ true → xs ≡ ys
  all_same_sound NoTerm NoTerm h = refl
  all_same_sound (More x xs) (More y ys) h =
      let p = and_parts (same_term x y) (same_terms xs ys) h in
      ap₂ More (same_sound x y p.0) (all_same_sound xs ys p.1)
  all_same_sound _ _ h = absurd (false≢true h)

-- the test says that a term equals itself
mutual
  pub same_self : (x : Term) → same_term x x ≡ true
  same_self (Symbol a) = (bytes_eq-Decides a a).1 refl
  same_self (Number m) = (Decides-int_eq m m).1 refl
  same_self (Listed xs) = all_same_self xs

  -- the test says that a list of terms equals itself
  pub all_same_self : (xs : Terms) → same_terms xs xs ≡ true
  all_same_self NoTerm = refl
  all_same_self (More x xs) = and_from (same_term x x) (same_terms xs xs) (same_self x) (all_same_self xs)

-- the test tells which terms are equal
pub same_term-Decides : (x y : Term) → Decides (same_term x y) (x ≡ y)
same_term-Decides x y = (same_sound x y, λ e. subst (λ z. same_term x z ≡ true) e (same_self x))
