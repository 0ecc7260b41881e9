-- Atoms at places by their names.
use Rattle.std.proofs.Common.{◌≡◌, ◌<◌, ◌≤◌, ◌↔◌, ℕ, Bool, List, Option, Some, length, slice_get, IsTrue, refl, sym, ap, ◌∙◌, arith}
use Rattle.std.proofs.lemmas.Option.{same_Some, slice_get_within}
use Rattle.hp_syntax.specs.Terms.{Term, Listed, More}
use Rattle.hp_cells.specs.Cells.{AreCells}
use Rattle.hp_cells.specs.Shows.{Shows}
use Rattle.hp_cells.specs.declared.keys.View.{View}
use Rattle.hp_cells.specs.declared.keys.View.TheVariants.{Nil, Sym, Num, Cons}
use Rattle.hp_eval.specs.GoalViews.{term_at}
use Rattle.hp_eval.proofs.CellViews.{named_at}
use Rattle.hp_world.specs.Named.{IsNamedAt}

-- the view is that of an atom with this name
abbrev pub IsNamed : View → ℕ → Type 0
IsNamed Nil name = ⊥
IsNamed (Sym text) name = ⊥
IsNamed (Num n) name = ⊥
IsNamed (Cons head tail) name = head ≡ name

-- an atom at a place has a name exactly where its view has it
named_as_shown : (terms : List Term) (name cell : ℕ) (v : View) (places : List (Option ℕ)) (i : ℕ)
    → AreCells terms → cell < length terms
    → ((t : Term) → slice_get terms cell ≡ Some t → Shows terms v t)
    → slice_get places i ≡ Some (Some cell) → IsNamed v name ↔ IsNamedAt terms name places i
named_as_shown terms name cell v places i cells within shows stands = (there v shown, back v shown)
  where
    t : Term
    t = term_at terms cell

    names : slice_get terms cell ≡ Some t
    names = named_at terms cell within

    shown : Shows terms v t
    shown = shows t names

    there : (u : View) → Shows terms u t → IsNamed u name → IsNamedAt terms name places i
    there Nil h n = absurd n
    there (Sym text) h n = absurd n
    there (Num k) h n = absurd n
    there (Cons head tail) h n = record {
      atom = cell;
      first = h.first;
      rest = h.rest;
      stands = stands;
      names = names ∙ ap Some h.whole;
      same = ap (slice_get terms) (sym n) ∙ h.head_names;
    }

    is_list : (k : IsNamedAt terms name places i) → t ≡ Listed (More k.first k.rest)
    is_list k =
        let e : cell ≡ k.atom = same_Some _ _ (same_Some _ _ (sym stands ∙ k.stands)) in
        same_Some _ _ (sym names ∙ ap (slice_get terms) e ∙ k.names)

    back : (u : View) → Shows terms u t → IsNamedAt terms name places i → IsNamed u name
    back Nil h k = let e = sym h ∙ is_list k in cc
    back (Sym text) h k = let e = sym h ∙ is_list k in cc
    back (Num n) h k = let e = sym h ∙ is_list k in cc
    back (Cons head tail) h k =
        let e = sym h.whole ∙ is_list k in
        let f : h.first ≡ k.first = cc in
        cells.distinct head name k.first (h.head_names ∙ ap Some f) k.same

-- whether an atom has a name may be told from its view, wherever the atom stands
pub named_as_told : (terms : List Term) (name : ℕ) (atom : Option ℕ) (cell : ℕ) (v : View) (b : Bool)
    → AreCells terms → cell < length terms → ((t : Term) → slice_get terms cell ≡ Some t → Shows terms v t)
    → atom ≡ Some cell → IsTrue b ↔ IsNamed v name
    → (places : List (Option ℕ)) (i : ℕ) → slice_get places i ≡ Some atom → IsTrue b ↔ IsNamedAt terms name places i
named_as_told terms name atom cell v b cells within shows is tells places i stands =
    let named = named_as_shown terms name cell v places i cells within shows (stands ∙ ap Some is) in
    (λ e. named.0 (tells.0 e), λ k. tells.1 (named.1 k))

-- a term that is no list with a first part has no name
pub cons_named : (v : View) (name : ℕ) → ((head tail : ℕ) → v ≡ Cons head tail → ⊥) → IsNamed v name → ⊥
cons_named Nil name h n = n
cons_named (Sym text) name h n = n
cons_named (Num k) name h n = n
cons_named (Cons head tail) name h n = h head tail refl

-- behind the last place no atom has a name
pub past_unnamed : (terms : List Term) (name : ℕ) (places : List (Option ℕ)) (i : ℕ) → length places ≤ i
    → IsNamedAt terms name places i → ⊥
past_unnamed terms name places i l k =
    let w = slice_get_within places i (Some k.atom) k.stands in omega arith
