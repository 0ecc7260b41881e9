-- Terms that are copied, compared and looked for.
use Rattle.std.proofs.Common.{◌≡◌, ℕ, ℤ, ◌+◌, ◌<◌, ◌≤◌, Bool, true, false, ◌&&◌, ◌||◌, not, cond, nat_eq, List, [], ◌∷◌, ◌++◌, length, map, take, drop, get_or, Option, Some, None, Vec, FitsSigned, of_z, to_z, refl, sym, ap, ap₂, ◌∙◌, arith, append-nil}
use Rattle.std.specs.Global.{Global}
use Rattle.std.specs.Int.{w64}
use Rattle.std.specs.Ordering.{int_eq}
use Rattle.std.specs.List.{list_any}
use Rattle.std.specs.Prelude.{MatchOption}
use Rattle.std.proofs.lemmas.Bool.{eq-eqb}
use Rattle.std.proofs.lemmas.Bool.Decides.{Decides-int_eq, nat_tests}
use Rattle.std.proofs.lemmas.Int.{to_z-of_z}
use Rattle.std.proofs.lemmas.List.{drop_more, drop_all, map-append, take_all, take_more}
use Rattle.std.proofs.lemmas.List.Elements.{filter-append}
use Rattle.std.proofs.lemmas.List.Folds.{list_any-append, list_any_at}
use Rattle.hp_syntax.specs.Changes.{added}
use Rattle.hp_syntax.specs.declared.name.Name.{Name}
use Rattle.hp_syntax.specs.declared.pattern.Ground.{Ground}
use Rattle.hp_syntax.specs.declared.pattern.Ground.TheVariants as grounds
use Rattle.hp_syntax.specs.GroundViews.{as_terms, ground_of, grounds_of, ground_of-sym, ground_of-num, ground_of-list}
use Rattle.hp_syntax.specs.Terms.{Term, Symbol, Number, Listed, member, same_term, same_terms}
use Rattle.hp_changes.specs.Changes.{apart, once}
use Rattle.hp_changes.specs.Changing.{unplaced}

-- ---- what a term stands for, by its kind

pub symbol_of : (g : Ground) (name : Name) → g ≡ grounds.Sym name → ground_of g ≡ Symbol name
symbol_of g name h = ap ground_of h ∙ ground_of-sym name

pub number_of : (g : Ground) (n : ℤ) → g ≡ grounds.Num n → ground_of g ≡ Number n
number_of g n h = ap ground_of h ∙ ground_of-num n

pub list_of : (g : Ground) (parts : Vec Ground Global) → g ≡ grounds.List parts
    → ground_of g ≡ Listed (grounds_of parts.items)
list_of g parts h = ap ground_of h ∙ ground_of-list parts

-- a list of equal terms stands for the same
pub list_copied : (g : Ground) (parts own : Vec Ground Global) → g ≡ grounds.List parts
    → map ground_of own.items ≡ map ground_of parts.items → ground_of (grounds.List own) ≡ ground_of g
list_copied g parts own h e =
    ground_of-list own ∙ (ap (λ ts. Listed (as_terms ts)) e ∙ sym (list_of g parts h))

-- ---- lists, term by term

-- the terms from a place on are equal
abbrev pub are_left : List Ground → List Ground → ℕ → Bool
are_left gs hs i = same_terms (grounds_of (drop i gs)) (grounds_of (drop i hs))

-- lists of other lengths differ
pub lengths_differ : (gs hs : List Ground) → (length gs ≡ length hs → ⊥)
    → false ≡ same_terms (grounds_of gs) (grounds_of hs)
lengths_differ [] [] n = absurd (n refl)
lengths_differ [] (h ∷ hs) n = refl
lengths_differ (g ∷ gs) [] n = refl
lengths_differ (g ∷ gs) (h ∷ hs) n =
    by (same_term (ground_of g) (ground_of h)) (lengths_differ gs hs (λ e. n (omega (arith, e))))
  where
    by : (b : Bool) → false ≡ same_terms (grounds_of gs) (grounds_of hs)
        → false ≡ (b && same_terms (grounds_of gs) (grounds_of hs))
    by true e = e
    by false e = refl

module _ (gs hs : List Ground) (i : ℕ) (g h : Ground) (more : i < length gs) (other : i < length hs)
    (is : g ≡ get_or gs i g) (is_other : h ≡ get_or hs i h) where
  -- the first of each are compared, and then the others
  terms_step : are_left gs hs i ≡ (same_term (ground_of g) (ground_of h) && are_left gs hs (i + 1))
  terms_step =
      ap₂ (λ xs ys. same_terms (grounds_of xs) (grounds_of ys))
      (drop_more gs i g more ∙ ap (λ x. x ∷ drop (i + 1) gs) (sym is))
      (drop_more hs i h other ∙ ap (λ x. x ∷ drop (i + 1) hs) (sym is_other))

  pub terms_differ : same_term (ground_of g) (ground_of h) ≡ false → false ≡ are_left gs hs i
  terms_differ e = sym (terms_step ∙ ap (λ b. b && are_left gs hs (i + 1)) e)

  pub terms_same : same_term (ground_of g) (ground_of h) ≡ true → are_left gs hs (i + 1) ≡ are_left gs hs i
  terms_same e = sym (terms_step ∙ ap (λ b. b && are_left gs hs (i + 1)) e)

-- behind the last no more are left
pub terms_end : (gs hs : List Ground) (i : ℕ) → length gs ≤ i → length hs ≤ i → true ≡ are_left gs hs i
terms_end gs hs i l k = sym (ap₂ (λ xs ys. same_terms (grounds_of xs) (grounds_of ys)) (drop_all i gs l) (drop_all i hs k))

-- ---- one term

-- numbers of 64 bits are compared as they are
pub same_numbers : (m n : ℤ) → FitsSigned w64 m → FitsSigned w64 n → nat_eq (of_z w64 m) (of_z w64 n) ≡ int_eq m n
same_numbers m n f g = by (int_eq m n) refl (nat_eq (of_z w64 m) (of_z w64 n)) refl
  where
    by : (a : Bool) → int_eq m n ≡ a → (b : Bool) → nat_eq (of_z w64 m) (of_z w64 n) ≡ b → b ≡ a
    by true e true h = refl
    by true e false h =
        let same : m ≡ n = (Decides-int_eq m n).0 e in
        sym (h) ∙ eq-eqb (of_z w64 m) (of_z w64 n) (ap (of_z w64) same)
    by false e true h =
        let same : of_z w64 m ≡ of_z w64 n = grind (arith, nat_tests) in
        sym ((Decides-int_eq m n).1 (sym (to_z-of_z w64 m f) ∙ (ap (to_z w64) same ∙ to_z-of_z w64 n g))) ∙ e
    by false e false h = refl

-- ---- terms among others

any_mapped : (t : Term) (gs : List Ground) → member t (map ground_of gs) ≡ list_any (λ g. same_term t (ground_of g)) gs
any_mapped t [] = refl
any_mapped t (g ∷ gs) = ap (λ b. same_term t (ground_of g) || b) (any_mapped t gs)

module _ (t : Term) (gs : List Ground) where
  abbrev pub is_it : Ground → Bool
  is_it g = same_term t (ground_of g)

  -- a term that stands at a place is one of them
  pub found_at : (i : ℕ) (g : Ground) → i < length gs → g ≡ get_or gs i g → is_it g ≡ true
      → member t (map ground_of gs) ≡ true
  found_at i g l is e =
      any_mapped t gs ∙ list_any_at is_it gs i g l (ap is_it (sym is) ∙ e)

  -- the terms up to a place are others
  abbrev pub is_above : ℕ → Bool
  is_above i = member t (map ground_of (take i gs))

  pub none_more : (i : ℕ) (g : Ground) → i < length gs → g ≡ get_or gs i g → is_it g ≡ false → is_above i ≡ false
      → is_above (i + 1) ≡ false
  none_more i g l is e h =
      ap (λ xs. member t (map ground_of xs)) (take_more gs i g l ∙ ap (λ x. take i gs ++ x ∷ []) (sym is))
      ∙ (ap (member t) (map-append ground_of (take i gs) (g ∷ []))
      ∙ (list_any-append (same_term t) (map ground_of (take i gs)) (ground_of g ∷ [])
      ∙ ap₂ ◌||◌ h (ap (λ b. b || false) e)))

  pub none_all : (i : ℕ) → length gs ≤ i → is_above i ≡ false → member t (map ground_of gs) ≡ false
  none_all i l h = ap (λ xs. member t (map ground_of xs)) (sym (take_all i gs l)) ∙ h

-- ---- lists

-- where a term was found among others or not
abbrev pub IsPlaced : Option ℕ → Term → List Term → Type 0
IsPlaced place t others = MatchOption place (member t others ≡ false) (λ i. member t others ≡ true)

module _ (others : List Term) (t : Term) where
  kept_one : (place : Option ℕ) → IsPlaced place t others → unplaced place t ≡ apart (t ∷ []) others
  kept_one None h = sym (ap (λ b. cond (not b) (t ∷ []) []) h)
  kept_one (Some i) h = sym (ap (λ b. cond (not b) (t ∷ []) []) h)

  -- one term more is kept where it is none of the others
  pub apart_more : (gs : List Ground) (i : ℕ) (g : Ground) (kept more : List Term) (place : Option ℕ)
      → i < length gs → g ≡ get_or gs i g → ground_of g ≡ t → IsPlaced place t others
      → more ≡ kept ++ unplaced place t → kept ≡ apart (map ground_of (take i gs)) others
      → more ≡ apart (map ground_of (take (i + 1) gs)) others
  apart_more gs i g kept more place l is e p made h =
      made
      ∙ (ap₂ ◌++◌ h (kept_one place p)
      ∙ (sym (filter-append (λ x. not (member x others)) (map ground_of (take i gs)) (t ∷ []))
      ∙ ap (λ ts. apart ts others)
      (ap (λ x. map ground_of (take i gs) ++ x ∷ []) (sym e)
      ∙ (sym (map-append ground_of (take i gs) (g ∷ []))
      ∙ ap (map ground_of) (ap (λ x. take i gs ++ x ∷ []) is ∙ sym (take_more gs i g l))))))

  interned_one : (kept : List Term) (place : Option ℕ) → IsPlaced place t kept
      → kept ++ unplaced place t ≡ cond (member t kept) kept (kept ++ t ∷ [])
  interned_one kept None h = sym (ap (λ b. cond b kept (kept ++ t ∷ [])) h)
  interned_one kept (Some i) h = append-nil kept ∙ sym (ap (λ b. cond b kept (kept ++ t ∷ [])) h)

-- one term more is kept where it wasn't already
pub once_more : (gs : List Ground) (i : ℕ) (g : Ground) (kept more : List Term) (place : Option ℕ) → i < length gs
    → g ≡ get_or gs i g → IsPlaced place (ground_of g) kept → more ≡ kept ++ unplaced place (ground_of g)
    → added more (map ground_of (drop (i + 1) gs)) ≡ added kept (map ground_of (drop i gs))
once_more gs i g kept more place l is p made =
    ap (λ ts. added ts (map ground_of (drop (i + 1) gs))) (made ∙ interned_one [] (ground_of g) kept place p)
    ∙ sym (ap (λ xs. added kept (map ground_of xs)) (drop_more gs i g l ∙ ap (λ x. x ∷ drop (i + 1) gs) (sym is)))

pub once_all : (gs : List Ground) (i : ℕ) (kept : List Term) → length gs ≤ i
    → added kept (map ground_of (drop i gs)) ≡ once (map ground_of gs) → kept ≡ once (map ground_of gs)
once_all gs i kept l h = ap (λ xs. added kept (map ground_of xs)) (sym (drop_all i gs l)) ∙ h
