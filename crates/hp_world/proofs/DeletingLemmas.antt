-- Protections are cancelled and come back.
use Rattle.std.proofs.Common.{◌≡◌, ◌≢◌, ℕ, zero, suc, ◌<◌, cond, eqb, List, [], ◌∷◌, length, get_or, refl, sym, ap, ◌∙◌, arith, eq-eqb}
use Rattle.std.specs.List.{remove, insert, list_any}
use Rattle.std.proofs.lemmas.Bool.{ne_eqb}
use Rattle.std.proofs.lemmas.Bool.Decides.{nat_tests}
use Rattle.hp_syntax.specs.Applying.{without_first, is_among}
use Rattle.hp_world.specs.Deleting.{IsFirstAt}
use Rattle.hp_world.specs.Stages.{same_cell}

-- numbers are compared either way round
eqb_turned : (a b : ℕ) → eqb a b ≡ eqb b a
eqb_turned a b = grind (arith, nat_tests)

-- an atom is among others where one of these is it
pub among_turned : (a : ℕ) (xs : List ℕ) → list_any (λ x. eqb x a) xs ≡ is_among same_cell a xs
among_turned a xs = λ i. list_any (λ x. eqb_turned x a i) xs

-- cancelling changes nothing where the atom is not protected
pub without_first_absent : (a : ℕ) (xs : List ℕ) → ((k : ℕ) → k < length xs → get_or xs k 0 ≢ a)
    → without_first same_cell a xs ≡ xs
without_first_absent a [] h = refl
without_first_absent a (x ∷ xs) h =
    ap (λ t. cond t xs (x ∷ without_first same_cell a xs)) (ne_eqb a x (λ e. h 0 (omega arith) (sym e)))
    ∙ ap (λ ys. x ∷ ys) (without_first_absent a xs (λ k l. h (suc k) (omega arith)))

-- cancelling removes the first protection of the atom
pub without_first_at : (a : ℕ) (xs : List ℕ) (i : ℕ) → IsFirstAt a xs i → without_first same_cell a xs ≡ remove xs i
without_first_at a [] i h = absurd (omega (arith, h.within))
without_first_at a (x ∷ xs) zero h =
    ap (λ t. cond t xs (x ∷ without_first same_cell a xs)) (eq-eqb a x (sym h.stands))
without_first_at a (x ∷ xs) (suc i) h =
    let behind : IsFirstAt a xs i = record {
      within = omega (arith, h.within);
      stands = h.stands;
      first = λ k l. h.first (suc k) (omega arith);
    } in
    ap (λ t. cond t xs (x ∷ without_first same_cell a xs)) (ne_eqb a x (λ e. h.first 0 (omega arith) (sym e)))
    ∙ ap (λ ys. x ∷ ys) (without_first_at a xs i behind)

-- a removed protection comes back where it stood
pub put_back : {A : Type 0} (xs : List A) (i : ℕ) (x : A) → i < length xs → get_or xs i x ≡ x
    → insert (remove xs i) i x ≡ xs
put_back [] i x l e = absurd (omega arith)
put_back (y ∷ xs) zero x l e = ap (λ z. z ∷ xs) (sym e)
put_back (y ∷ xs) (suc i) x l e = ap (λ ys. y ∷ ys) (put_back xs i x (omega arith) e)
