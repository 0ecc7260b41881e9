-- Bindings: what a variable stands for after one is set, and bindings that keep others.
use Rattle.std.proofs.Common.{◌≡◌, ◌≢◌, ℕ, zero, suc, ◌<◌, List, [], ◌∷◌, length, Option, Some, None, refl, sym, ◌∙◌, ap, subst, arith, ⊎_elim}
use Rattle.std.specs.Prelude.{slice_get, slice_set}
use Rattle.std.proofs.lemmas.Bool.{cases_eq}
use Rattle.std.proofs.lemmas.Option.{none-some, slice_get_within}
use Rattle.std.proofs.lemmas.List.{length-set}
use Rattle.hp_syntax.specs.Terms.{Term}
use Rattle.hp_syntax.specs.Values.{Bindings, bound, flat_option, Extends}

-- the value that was set at a place stands there
pub slice_get-set_same : {X : Type 0} (xs : List X) (i : ℕ) (x : X) → i < length xs
    → slice_get (slice_set xs i x) i ≡ Some x
slice_get-set_same [] i x l = absurd (omega arith)
slice_get-set_same (y ∷ xs) zero x l = refl
slice_get-set_same (y ∷ xs) (suc i) x l = slice_get-set_same xs i x (omega arith)

-- the element at another place stays
pub slice_get-set_other : {X : Type 0} (xs : List X) (i j : ℕ) (x : X) → i ≢ j
    → slice_get (slice_set xs i x) j ≡ slice_get xs j
slice_get-set_other [] i j x n = refl
slice_get-set_other (y ∷ xs) zero zero x n = absurd (n refl)
slice_get-set_other (y ∷ xs) zero (suc j) x n = refl
slice_get-set_other (y ∷ xs) (suc i) zero x n = refl
slice_get-set_other (y ∷ xs) (suc i) (suc j) x n = slice_get-set_other xs i j x (λ e. n (ap suc e))

-- there is something at each place within a list
pub slice_get_some : {X : Type 0} (xs : List X) (i : ℕ) → i < length xs → (x : X) × (slice_get xs i ≡ Some x)
slice_get_some [] i l = absurd (omega arith)
slice_get_some (x ∷ xs) zero l = (x, refl)
slice_get_some (x ∷ xs) (suc i) l = slice_get_some xs i (omega arith)

-- a variable that stands for a term has a place in the bindings
pub bound_place : (e : Bindings) (v : ℕ) (t : Term) → bound e v ≡ Some t → slice_get e v ≡ Some (Some t)
bound_place e v t h = of_place (slice_get e v) h
  where
    of_place : (o : Option (Option Term)) → flat_option o ≡ Some t → o ≡ Some (Some t)
    of_place None k = absurd (none-some t k)
    of_place (Some x) k = ap Some k

-- a variable that stands for a term has a number below the bindings' length
pub bound_within : (e : Bindings) (v : ℕ) (t : Term) → bound e v ≡ Some t → v < length e
bound_within e v t h = slice_get_within e v (Some t) (bound_place e v t h)

-- a variable that is set stands for the term that it was set to
pub bound-set_same : (e : Bindings) (v : ℕ) (t : Term) → v < length e → bound (slice_set e v (Some t)) v ≡ Some t
bound-set_same e v t l = ap flat_option (slice_get-set_same e v (Some t) l)

-- another variable stands for what it stood for
pub bound-set_other : (e : Bindings) (v w : ℕ) (t : Term) → v ≢ w → bound (slice_set e v (Some t)) w ≡ bound e w
bound-set_other e v w t n = ap flat_option (slice_get-set_other e v w (Some t) n)

-- bindings keep what they have
pub extends_self : (e : Bindings) → Extends e e
extends_self e = record { as_many = refl; keeps = λ v t h. h }

-- bindings keep what is kept by bindings that they keep
pub extends_through : (e b d : Bindings) → Extends e b → Extends b d → Extends e d
extends_through e b d f g =
    record { as_many = g.as_many ∙ f.as_many; keeps = λ v t h. g.keeps v t (f.keeps v t h) }

-- equal bindings keep each other
pub extends_equal : (e b : Bindings) → e ≡ b → Extends e b
extends_equal e b p = subst (Extends e) p (extends_self e)

-- setting a variable that stands for nothing keeps the others
pub extends_set : (e : Bindings) (v : ℕ) (t : Term) → bound e v ≡ None → Extends e (slice_set e v (Some t))
extends_set e v t h = record {
  as_many = length-set e v (Some t);
  keeps =
      λ w x k. ⊎_elim (λ q. let m : bound e v ≡ Some x = ap (bound e) q ∙ k in absurd (none-some x (sym h ∙ m)))
      (λ n. bound-set_other e v w t n ∙ k) (cases_eq v w);
}

-- bindings that keep others, and in which a variable stands for a term, keep the others with it set
pub set_extends : (e d : Bindings) (v : ℕ) (t : Term) → Extends e d → bound d v ≡ Some t
    → Extends (slice_set e v (Some t)) d
set_extends e d v t g h = record { as_many = g.as_many ∙ sym (length-set e v (Some t)); keeps = keeps_each }
  where
    within : v < length e
    within = subst (λ n. v < n) g.as_many (bound_within d v t h)

    keeps_each : (w : ℕ) (x : Term) → bound (slice_set e v (Some t)) w ≡ Some x → bound d w ≡ Some x
    keeps_each w x k =
        ⊎_elim
        (λ q. let m : bound (slice_set e v (Some t)) v ≡ Some x = ap (bound (slice_set e v (Some t))) q ∙ k in
        ap (bound d) (sym q) ∙ (h ∙ (sym (bound-set_same e v t within) ∙ m)))
        (λ n. g.keeps w x (sym (bound-set_other e v w t n) ∙ k)) (cases_eq v w)
