-- The atoms where one place changes.
use Rattle.std.proofs.Common.{◌≡◌, ◌≢◌, ℕ, zero, suc, ◌+◌, ◌<◌, true, false, cond, not, eqb, ◌||◌, inl, inr, ⊎_elim, List, [], ◌∷◌, ◌++◌, Option, Some, None, length, get_or, set, take, refl, sym, ap, ◌∙◌, arith, eq-eqb}
use Rattle.std.specs.Prelude.{slice_get}
use Rattle.std.specs.Option.{MatchOption, is_some}
use Rattle.std.proofs.lemmas.Bool.{ne_eqb, or_right}
use Rattle.std.proofs.lemmas.List.{take_more, length-append}
use Rattle.std.proofs.lemmas.List.Elements.{All-head, All-tail}
use Rattle.std.proofs.lemmas.Option.{none-some, same_Some}
use Rattle.hp_syntax.specs.Applying.{is_among}
use Rattle.hp_world.specs.Deleting.{without}
use Rattle.hp_world.specs.Indexed.{IsAbsent, IsOnlyAt}
use Rattle.hp_world.specs.Stages.{live_atoms, same_cell, AllBelow, PlacesKept}

-- an absent atom is not among the atoms
pub among_absent : (a : ℕ) (ps : List (Option ℕ)) → IsAbsent a ps → is_among same_cell a (live_atoms ps) ≡ false
among_absent a [] h = refl
among_absent a (None ∷ ps) h = among_absent a ps (λ i. h (suc i))
among_absent a (Some b ∷ ps) h =
    ap (λ t. t || is_among same_cell a (live_atoms ps)) (ne_eqb a b (λ e. h 0 (ap Some (sym e))))
    ∙ among_absent a ps (λ i. h (suc i))

-- an atom at a place is among the atoms
among_present : (a : ℕ) (ps : List (Option ℕ)) (i : ℕ) → get_or ps i None ≡ Some a
    → is_among same_cell a (live_atoms ps) ≡ true
among_present a [] i h = absurd (none-some a h)
among_present a (None ∷ ps) zero h = absurd (none-some a h)
among_present a (None ∷ ps) (suc i) h = among_present a ps i h
among_present a (Some b ∷ ps) zero h =
    ap (λ t. t || is_among same_cell a (live_atoms ps)) (eq-eqb a b (sym (same_Some b a h)))
among_present a (Some b ∷ ps) (suc i) h =
    or_right (eqb a b) (is_among same_cell a (live_atoms ps)) (among_present a ps i h)

-- where the search finds no place, the atom stands nowhere
pub absent_from : (place : Option ℕ) (a : ℕ) (ps : List (Option ℕ)) → is_some place ≡ false
    → MatchOption place (IsAbsent a ps) (IsOnlyAt a ps) → IsAbsent a ps
absent_from None a ps s h = h
absent_from (Some i) a ps s h = absurd (cc)

-- where the search finds a place, the atom is among the atoms
pub present_from : (place : Option ℕ) (a : ℕ) (ps : List (Option ℕ)) → is_some place ≡ true
    → MatchOption place (IsAbsent a ps) (IsOnlyAt a ps) → is_among same_cell a (live_atoms ps) ≡ true
present_from None a ps s h = absurd (cc)
present_from (Some i) a ps s h = among_present a ps i h.stands

-- deleting an absent atom changes nothing
pub without_absent : (a : ℕ) (ps : List (Option ℕ)) → IsAbsent a ps → without a (live_atoms ps) ≡ live_atoms ps
without_absent a [] h = refl
without_absent a (None ∷ ps) h = without_absent a ps (λ i. h (suc i))
without_absent a (Some b ∷ ps) h =
    ap (λ t. cond (not t) (b ∷ without a (live_atoms ps)) (without a (live_atoms ps)))
    (ne_eqb b a (λ e. h 0 (ap Some e)))
    ∙ ap (λ xs. b ∷ xs) (without_absent a ps (λ i. h (suc i)))

-- the only place of an atom behind a first one is its only place among the others
only_behind : {a i : ℕ} {ps : List (Option ℕ)} (p : Option ℕ) → IsOnlyAt a (p ∷ ps) (suc i) → IsOnlyAt a ps i
only_behind p h = record {
  within = omega (arith, h.within);
  stands = h.stands;
  only = λ j x. let e = h.only (suc j) x in omega arith;
}

-- where the only place of an atom is made empty, the others are left
pub live_cleared : (a : ℕ) (ps : List (Option ℕ)) (i : ℕ) → IsOnlyAt a ps i
    → live_atoms (set ps i None) ≡ without a (live_atoms ps)
live_cleared a [] i h = absurd (omega (arith, h.within))
live_cleared a (None ∷ ps) zero h = absurd (none-some a h.stands)
live_cleared a (Some b ∷ ps) zero h =
    let gone : IsAbsent a ps = λ j x. let e : suc j ≡ 0 = h.only (suc j) x in omega arith in
    sym (ap (λ t. cond (not t) (b ∷ without a (live_atoms ps)) (without a (live_atoms ps)))
    (eq-eqb b a (same_Some b a h.stands)) ∙ without_absent a ps gone)
live_cleared a (None ∷ ps) (suc i) h = live_cleared a ps i (only_behind None h)
live_cleared a (Some b ∷ ps) (suc i) h =
    let other : b ≢ a = λ e. let z : 0 ≡ suc i = h.only 0 (ap Some e) in omega arith in
    ap (λ xs. b ∷ xs) (live_cleared a ps i (only_behind (Some b) h))
    ∙ sym (ap (λ t. cond (not t) (b ∷ without a (live_atoms ps)) (without a (live_atoms ps))) (ne_eqb b a other))

-- the atoms of two rows are those of the first, and then those of the second
pub live_joined : (ps qs : List (Option ℕ)) → live_atoms (ps ++ qs) ≡ live_atoms ps ++ live_atoms qs
live_joined [] qs = refl
live_joined (None ∷ ps) qs = live_joined ps qs
live_joined (Some a ∷ ps) qs = ap (λ xs. a ∷ xs) (live_joined ps qs)

-- an atom that comes last is the last of the atoms
pub live_pushed : (ps : List (Option ℕ)) (a : ℕ) → live_atoms (ps ++ Some a ∷ []) ≡ live_atoms ps ++ a ∷ []
live_pushed ps a = live_joined ps (Some a ∷ [])

-- a place is counted where it has an atom
length_one : (p : Option ℕ) → length (live_atoms (p ∷ [])) ≡ cond (is_some p) 1 0
length_one None = refl
length_one (Some a) = refl

-- one more place is counted where it has an atom
pub live_more : (ps : List (Option ℕ)) (i : ℕ) (p : Option ℕ) → i < length ps → p ≡ get_or ps i p
    → length (live_atoms (take (i + 1) ps)) ≡ length (live_atoms (take i ps)) + cond (is_some p) 1 0
live_more ps i p l e =
    ap (λ (qs : List (Option ℕ)). length (live_atoms qs)) (take_more ps i p l)
    ∙ ap length (live_joined (take i ps) (get_or ps i p ∷ []))
    ∙ length-append (live_atoms (take i ps)) (live_atoms (get_or ps i p ∷ []))
    ∙ ap (λ (q : Option ℕ). length (live_atoms (take i ps)) + length (live_atoms (q ∷ []))) (sym e)
    ∙ ap (λ n. length (live_atoms (take i ps)) + n) (length_one p)

-- an atom at a place is below what all atoms are below
pub atom_below : (n : ℕ) (ps : List (Option ℕ)) (i a : ℕ) → AllBelow n (live_atoms ps) → get_or ps i None ≡ Some a
    → a < n
atom_below n [] i a h e = absurd (none-some a e)
atom_below n (None ∷ ps) zero a h e = absurd (none-some a e)
atom_below n (None ∷ ps) (suc i) a h e = atom_below n ps i a h e
atom_below n (Some b ∷ ps) zero a h e =
    let l : b < n = All-head (λ c. c < n) b (live_atoms ps) h in
    let s : b ≡ a = same_Some b a e in
    omega arith
atom_below n (Some b ∷ ps) (suc i) a h e = atom_below n ps i a (All-tail (λ c. c < n) b (live_atoms ps) h) e

-- ---- places are kept

-- equal places are kept
pub kept_same : (ps qs : List (Option ℕ)) → qs ≡ ps → PlacesKept ps qs
kept_same ps qs e i held h = inl (ap (λ (xs : List (Option ℕ)). slice_get xs i) e ∙ h)

-- places kept twice are kept
pub kept_more : (ps qs rs : List (Option ℕ)) → PlacesKept ps qs → PlacesKept qs rs → PlacesKept ps rs
kept_more ps qs rs f g i held h = elim (f i held h) [
  | inl e ↦ g i held e
  | inr e ↦ inr (⊎_elim (λ k. k) (λ k. k) (g i None e))
]

-- where one place is made empty, the places are kept
pub kept_cleared : (ps : List (Option ℕ)) (n : ℕ) → PlacesKept ps (set ps n None)
kept_cleared [] n i held h = absurd (cc)
kept_cleared (p ∷ ps) zero zero held h = inr refl
kept_cleared (p ∷ ps) zero (suc i) held h = inl h
kept_cleared (p ∷ ps) (suc n) zero held h = inl h
kept_cleared (p ∷ ps) (suc n) (suc i) held h = kept_cleared ps n i held h

-- where places come behind others, those are kept
pub kept_joined : (ps qs : List (Option ℕ)) → PlacesKept ps (ps ++ qs)
kept_joined [] qs i held h = absurd (cc)
kept_joined (p ∷ ps) qs zero held h = inl h
kept_joined (p ∷ ps) qs (suc i) held h = kept_joined ps qs i held h
