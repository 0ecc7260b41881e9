-- The heard part of a list: its elements up to and including the first of a kind.
use Rattle.std.proofs.Common.{◌≡◌, ℕ, Bool, true, false, cond, List, [], ◌∷◌, map, refl, ◌∙◌, ap, subst}
use Rattle.std.specs.List.{All}
use Rattle.std.proofs.lemmas.Bool.{cond_both, cond-false}
use Rattle.std.proofs.lemmas.List.Elements.{All-nil, All-cons, All-head, All-tail}
use Rattle.hp_syntax.specs.Lists.{up_to}
use Rattle.hp_syntax.specs.Syntax.{Rule, Pair}
use Rattle.hp_laws.specs.TreeLaws.{IsFaultless}
use Rattle.hp_syntax.specs.Walk.{is_fault_here, root, visits, walk}

module _ {A : Type 0} (is_last : A → Bool) where
  -- a fact of all elements is one of those up to the first of a kind
  pub all_up_to : (P : A → Type 0) (xs : List A) → All P xs → All P (up_to is_last xs)
  all_up_to P [] a = a
  all_up_to P (x ∷ xs) a =
      All-cons P x (cond (is_last x) [] (up_to is_last xs)) (All-head P x xs a)
      (cond_both (is_last x) [] (up_to is_last xs) (All P) (λ e. All-nil P)
      (λ e. all_up_to P xs (All-tail P x xs a)))

  -- where none of those up to the first of a kind is of the kind, they are the whole list
  pub up_to_end : (xs : List A) → All (λ x. is_last x ≡ false) (up_to is_last xs) → up_to is_last xs ≡ xs
  up_to_end [] a = refl
  up_to_end (x ∷ xs) a =
      let rest = cond (is_last x) [] (up_to is_last xs) in
      let e = cond-false (is_last x) [] (up_to is_last xs) (All-head (λ y. is_last y ≡ false) x rest a) in
      ap (λ ys. x ∷ ys)
      (e ∙ up_to_end xs (subst (All (λ y. is_last y ≡ false)) e (All-tail (λ y. is_last y ≡ false) x rest a)))

-- the elements of a mapped list up to the first of a kind are those of the list, mapped
pub up_to-map : {A B : Type 0} (f : A → B) (is_last : B → Bool) (xs : List A)
    → up_to is_last (map f xs) ≡ map f (up_to (λ x. is_last (f x)) xs)
up_to-map f is_last [] = refl
up_to-map f is_last (x ∷ xs) = ap (λ ys. f x ∷ ys) (from (is_last (f x)) (up_to-map f is_last xs))
  where
    from : (b : Bool) → up_to is_last (map f xs) ≡ map f (up_to (λ x. is_last (f x)) xs)
        → cond b [] (up_to is_last (map f xs)) ≡ map f (cond b [] (up_to (λ x. is_last (f x)) xs))
    from true e = refl
    from false e = e

-- a walk without a fault is the whole tree
pub whole_tree : (rules : List Rule) (nest : ℕ) (pair : Pair) (depth : ℕ)
    → All (λ v. IsFaultless v.sight) (walk rules nest pair depth)
    → walk rules nest pair depth ≡ visits rules nest (root pair depth) []
unfolding walk
whole_tree rules nest pair depth a =
    up_to_end (λ v. is_fault_here v.sight) (visits rules nest (root pair depth) []) a
