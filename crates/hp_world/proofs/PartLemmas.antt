-- Parts of atoms, found along their cells.
use Rattle.std.proofs.Common.{◌≡◌, ℕ, zero, suc, ◌<◌, ◌⊎◌, inl, inr, List, Option, Some, None, length, take, slice_get, refl, sym, ap, ◌∙◌, subst, arith}
use Rattle.std.proofs.lemmas.Option.{none-some, same_Some, slice_get_within}
use Rattle.std.specs.Option.{IfSome}
use Rattle.hp_syntax.specs.Terms.{Term, Terms, Symbol, Number, Listed, NoTerm, More}
use Rattle.hp_cells.specs.Cells.{AreCells, IsCons, StandsBefore}
use Rattle.hp_cells.proofs.PlaceLemmas.{stays}
use Rattle.hp_cells.specs.Shows.{Shows}
use Rattle.hp_cells.specs.declared.keys.View.{View}
use Rattle.hp_cells.specs.declared.keys.View.TheVariants as views
use Rattle.hp_eval.specs.GoalViews.{term_at}
use Rattle.hp_eval.proofs.CellViews.{named_at}
use Rattle.hp_world.specs.Parts.{part_of, part_of_list, NamesPart, IsKeyOf, IsKnownBy}

-- a cell from which a part of an atom is as far as one from another
pub record LeadsTo (terms : List Term) (n : ℕ) (rest : ℕ) (m : ℕ) (t : Term) : Type 0 where
  pub term : Term
  pub names : slice_get terms rest ≡ Some term
  pub same : part_of m t ≡ part_of n term

-- behind the first part of a list the parts are one nearer
pub leads_on : (terms : List Term) (n rest head tail m : ℕ) (t : Term) → LeadsTo terms (suc n) rest m t
    → ((r : Term) → slice_get terms rest ≡ Some r → IsCons terms head tail r) → LeadsTo terms n tail m t
leads_on terms n rest head tail m t h shows =
    let cons = shows h.term h.names in record {
      term = Listed cons.rest;
      names = cons.tail_names;
      same = h.same ∙ ap (part_of (suc n)) cons.whole;
    }

-- the first part of a list is the part that is looked for where none is before it
pub leads_here : (terms : List Term) (rest head tail m : ℕ) (t : Term) → LeadsTo terms zero rest m t
    → ((r : Term) → slice_get terms rest ≡ Some r → IsCons terms head tail r)
    → NamesPart terms (part_of m t) (Some head)
leads_here terms rest head tail m t h shows =
    let cons = shows h.term h.names in
    subst (λ o. NamesPart terms o (Some head)) (sym (h.same ∙ ap (part_of zero) cons.whole)) cons.head_names

-- a term without parts has none
pub leads_nowhere : (terms : List Term) (n rest m : ℕ) (t : Term) → LeadsTo terms n rest m t
    → ((r : Term) → slice_get terms rest ≡ Some r → part_of n r ≡ None) → NamesPart terms (part_of m t) None
leads_nowhere terms n rest m t h none =
    subst (λ o. NamesPart terms o None) (sym (h.same ∙ none h.term h.names)) tt

-- a view that is no list's with parts shows a term without parts
pub no_part_shown : (terms : List Term) (v : View) (n : ℕ) (r : Term) → Shows terms v r
    → (v ≡ views.Nil) ⊎ (((x : _) × (v ≡ views.Sym x)) ⊎ ((x : _) × (v ≡ views.Num x))) → part_of n r ≡ None
no_part_shown terms v n r shows (inl e) = ap (part_of n) (subst (λ w. Shows terms w r) e shows) ∙ none n
  where
    none : (n : ℕ) → part_of n (Listed NoTerm) ≡ None
    none zero = refl
    none (suc n) = refl
no_part_shown terms v n r shows (inr (inl e)) = ap (part_of n) (subst (λ w. Shows terms w r) e.1 shows)
no_part_shown terms v n r shows (inr (inr e)) = ap (part_of n) (subst (λ w. Shows terms w r) e.1 shows)

-- ---- parts stand before the atom

module _ (terms : List Term) (cells : AreCells terms) where
  -- a part of a list stands before it
  part_of_list_before : (n : ℕ) (ts : Terms) (i : ℕ) (x : Term) → slice_get terms i ≡ Some (Listed ts)
      → part_of_list n ts ≡ Some x → StandsBefore terms i x
  part_of_list_before zero NoTerm i x h e = absurd (none-some x e)
  part_of_list_before (suc n) NoTerm i x h e = absurd (none-some x e)
  part_of_list_before zero (More t ts) i x h e =
      subst (λ y. StandsBefore terms i y) (same_Some t x e) (cells.parts i t ts h).0
  part_of_list_before (suc n) (More t ts) i x h e =
      let rest = (cells.parts i t ts h).1 in
      let found = part_of_list_before n ts rest.0 x rest.2 e in
      (found.0, omega (arith, rest.1, found.1), found.2)

  -- a part of a term stands before it
  part_before : (n : ℕ) (t : Term) (i : ℕ) (x : Term) → slice_get terms i ≡ Some t → part_of n t ≡ Some x
      → StandsBefore terms i x
  part_before n (Symbol name) i x h e = absurd (none-some x e)
  part_before n (Number m) i x h e = absurd (none-some x e)
  part_before n (Listed ts) i x h e = part_of_list_before n ts i x h e

  -- the key of an atom is before it
  key_before : (n atom : ℕ) (key : Option ℕ) → atom < length terms → IsKeyOf terms n atom key
      → IfSome key (λ k. k < atom)
  key_before n atom None l h = tt
  key_before n atom (Some k) l h =
      let t = term_at terms atom in
      let is : slice_get terms atom ≡ Some t = named_at terms atom l in
      by (part_of n t) (h t is) (λ x e. part_before n t atom x is e)
    where
      by : (o : Option Term) → NamesPart terms o (Some k) → ((x : Term) → o ≡ Some x → StandsBefore terms atom x)
          → k < atom
      by None names before = absurd names
      by (Some x) names before =
          let found = before x refl in
          let same : k ≡ found.0 = cells.distinct k found.0 x names found.2 in
          omega (arith, found.1, same)

  -- an atom with a key is known by it
  pub known_by : (n atom : ℕ) (key : Option ℕ) → atom < length terms → IsKeyOf terms n atom key
      → IsKnownBy terms n atom key
  known_by n atom key l h = record { is_cell = l; has_key = h; part_before = key_before n atom key l h }

-- ---- cells that agree

-- an atom below a count is known by its key over all cells that agree below the count
pub known_agrees : (count : ℕ) (c d : List Term) → take count c ≡ take count d → (n atom : ℕ) (key : Option ℕ)
    → atom < count → IsKnownBy c n atom key → IsKnownBy d n atom key
known_agrees count c d same n atom key l h = record {
  is_cell =
      slice_get_within d atom (term_at c atom) (sym (agree atom l) ∙ named_at c atom h.is_cell);
  has_key = λ t e. names (part_of n t) key h.part_before (h.has_key t (agree atom l ∙ e));
  part_before = h.part_before;
}
  where
    agree : (i : ℕ) → i < count → slice_get c i ≡ slice_get d i
    agree i m = sym (stays count c i m) ∙ ap (λ (ts : List Term). slice_get ts i) same ∙ stays count d i m

    names : (o : Option Term) (key : Option ℕ) → IfSome key (λ k. k < atom) → NamesPart c o key → NamesPart d o key
    names None None b k = tt
    names (Some x) (Some key) b k = sym (agree key (omega (arith, l, b))) ∙ k
    names None (Some key) b k = absurd k
    names (Some x) None b k = absurd k
