-- Places that an index has under a key are those whose atoms have that part.
use Rattle.std.proofs.Common.{◌≡◌, ◌↔◌, ◌<◌, ◌≤◌, ℕ, List, Option, Some, None, length, get_or, slice_get, refl, sym, ap, subst, ◌∙◌}
use Rattle.std.proofs.lemmas.Option.{slice_get-get_or, slice_get_within, get_or_from_slice_get, same_Some}
use Rattle.hp_syntax.specs.Terms.{Term, Symbol, Number, Listed, NoTerm, More}
use Rattle.hp_cells.specs.Cells.{AreCells}
use Rattle.hp_chains.proofs.NearestLemmas.{nearest_same}
use Rattle.hp_chains.specs.Entries.{Entry, Bare, Standing, Loose, StandsAt, IsNext, entry_at, standing_again}
use Rattle.hp_eval.specs.GoalViews.{term_at}
use Rattle.hp_eval.proofs.CellViews.{named_at}
use Rattle.hp_world.specs.Following.{Follows}
use Rattle.hp_world.specs.Keyed.{Keyed, KnowsParts, key_of}
use Rattle.hp_world.specs.Named.{IsNamedAt, IsNamedWithAt, IsNextNamed, IsNoLaterThan}
use Rattle.hp_world.specs.Parts.{IsKeyOf, NamesPart, part_of}
use Rattle.hp_world.specs.Stages.{AllBelow, live_atoms}
use Rattle.hp_world.proofs.FollowingLemmas.{stands_has, place_within}
use Rattle.hp_world.proofs.StageLemmas.{atom_below}

-- an entry that stands and has a key stands under it
stands_under : (e : Entry) (k : ℕ) → standing_again e ≡ e → key_of e ≡ Some k → e ≡ Standing k
stands_under Bare k s h = absurd (cc)
stands_under (Standing j) k s h = cc
stands_under (Loose j p n) k s h = absurd (cc)

-- what names the first part of a term names that of a list
first_named : (terms : List Term) (t : Term) (name : ℕ) (P : Type 0) → NamesPart terms (part_of 0 t) (Some name)
    → ((x : Term) (xs : _) → t ≡ Listed (More x xs) → slice_get terms name ≡ Some x → P) → P
first_named terms (Symbol text) name P h f = absurd h
first_named terms (Number n) name P h f = absurd h
first_named terms (Listed NoTerm) name P h f = absurd h
first_named terms (Listed (More x xs)) name P h f = f x xs refl h

module _ (terms : List Term) (cells : AreCells terms) where
  -- an atom has one key by a part
  pub one_key : (n a : ℕ) (key : Option ℕ) (k : ℕ) → a < length terms → IsKeyOf terms n a key
      → IsKeyOf terms n a (Some k) → key ≡ Some k
  one_key n a key k l h g =
      let t = term_at terms a in
      let is : slice_get terms a ≡ Some t = named_at terms a l in
      one (part_of n t) key (h t is) (g t is)
    where
      one : (o : Option Term) (key : Option ℕ) → NamesPart terms o key → NamesPart terms o (Some k) → key ≡ Some k
      one None None h g = absurd g
      one None (Some j) h g = absurd h
      one (Some x) None h g = absurd h
      one (Some x) (Some j) h g = ap Some (cells.distinct j k x h g)

  -- an atom's key by its first part is its name
  pub named_by_key : (name a : ℕ) (places : List (Option ℕ)) (i : ℕ) → a < length terms
      → slice_get places i ≡ Some (Some a) → IsKeyOf terms 0 a (Some name) → IsNamedAt terms name places i
  named_by_key name a places i l stands h =
      let t = term_at terms a in
      let is : slice_get terms a ≡ Some t = named_at terms a l in
      first_named terms t name (IsNamedAt terms name places i) (h t is) (λ x xs e f. record {
        atom = a;
        first = x;
        rest = xs;
        stands = stands;
        names = is ∙ ap Some e;
        same = f;
      })

  -- an atom's name is its key by its first part
  pub key_by_name : (name a : ℕ) (places : List (Option ℕ)) (i : ℕ) → slice_get places i ≡ Some (Some a)
      → IsNamedAt terms name places i → IsKeyOf terms 0 a (Some name)
  key_by_name name a places i stands k = λ t e.
      let same : a ≡ k.atom = same_Some a k.atom (same_Some _ _ (sym stands ∙ k.stands)) in
      let is : t ≡ Listed (More k.first k.rest) =
      same_Some t (Listed (More k.first k.rest)) (sym e ∙ ap (slice_get terms) same ∙ k.names) in
      subst (λ u. NamesPart terms (part_of 0 u) (Some name)) (sym is) k.same

  -- an atom has a name and a part exactly where its keys are these
  pub has_both : (name n k a : ℕ) (first part : Option ℕ) (places : List (Option ℕ)) (i : ℕ) → a < length terms
      → slice_get places i ≡ Some (Some a) → IsKeyOf terms 0 a first → IsKeyOf terms n a part
      → ((first ≡ Some name) × (part ≡ Some k)) ↔ IsNamedWithAt terms name n k places i
  has_both name n k a first part places i l stands f g = (to, back)
    where
      to : (first ≡ Some name) × (part ≡ Some k) → IsNamedWithAt terms name n k places i
      to h =
          let named = named_by_key name a places i l stands (subst (IsKeyOf terms 0 a) h.0 f) in
          let same : a ≡ named.atom = same_Some a named.atom (same_Some _ _ (sym stands ∙ named.stands)) in
          record { named = named; has = subst (λ b. IsKeyOf terms n b (Some k)) same (subst (IsKeyOf terms n a) h.1 g) }

      back : IsNamedWithAt terms name n k places i → (first ≡ Some name) × (part ≡ Some k)
      back h =
          let same : h.named.atom ≡ a = same_Some h.named.atom a (same_Some _ _ (sym h.named.stands ∙ stands)) in (
            one_key 0 a first name l f (key_by_name name a places i stands h.named),
            one_key n a part k l g (subst (λ b. IsKeyOf terms n b (Some k)) same h.has),
          )

module _ (terms : List Term) (cells : AreCells terms) (p : Keyed) (places : List (Option ℕ))
    (follows : Follows p places)
    (known : KnowsParts terms p) (below : AllBelow (length terms) (live_atoms places)) where
  -- a place under a key has an atom with that part
  pub part_at : (key i : ℕ) → StandsAt key p.entries i
      → (a : ℕ) × (slice_get places i ≡ Some (Some a)) × IsKeyOf terms p.part a (Some key)
  part_at key i s =
      let has = stands_has p places key i follows s in
      let within = place_within places i has.atom has.here in
      let atom = (follows.here i has.atom has.here).0 in (
        has.atom,
        slice_get-get_or places i None within ∙ ap Some has.here,
        subst (λ (e : Entry). IsKeyOf terms p.part has.atom (key_of e)) s (known i has.atom atom).has_key,
      )

  -- a place whose atom has a part is under its key
  pub at_part : (key i a : ℕ) (x : Term) → slice_get places i ≡ Some (Some a) → slice_get terms key ≡ Some x
      → ((t : Term) → slice_get terms a ≡ Some t → part_of p.part t ≡ Some x) → StandsAt key p.entries i
  at_part key i a x stands names has =
      let here : get_or places i None ≡ Some a = get_or_from_slice_get places i (Some a) None stands in
      let entry = follows.here i a here in
      let l : a < length terms = atom_below (length terms) places i a below here in
      let t = term_at terms a in
      let is : slice_get terms a ≡ Some t = named_at terms a l in
      let knows : NamesPart terms (Some x) (key_of (entry_at p.entries i)) =
      subst (λ o. NamesPart terms o (key_of (entry_at p.entries i))) (has t is) ((known i a entry.0).has_key t is) in
      by_key (key_of (entry_at p.entries i)) refl knows entry.1
    where
      by_key : (k : Option ℕ) → key_of (entry_at p.entries i) ≡ k → NamesPart terms (Some x) k
          → standing_again (entry_at p.entries i) ≡ entry_at p.entries i → StandsAt key p.entries i
      by_key None e h s = absurd h
      by_key (Some j) e h s =
          let same : j ≡ key = cells.distinct j key x h names in
          stands_under (entry_at p.entries i) key s (e ∙ ap Some same)

  -- where names are keys, the next place under a name is that of the next atom with this name
  pub next_named : p.part ≡ 0 → (name from : ℕ) (r : Option ℕ) → IsNext name p.entries from r
      → IsNextNamed terms name places from r
  next_named zeroth name from r h =
      nearest_same ◌<◌ (λ i. from ≤ i) (StandsAt name p.entries) (IsNamedAt terms name places) r
      (λ i l s.
      let at = part_at name i s in
      let here : get_or places i None ≡ Some at.0 = get_or_from_slice_get places i (Some at.0) None at.1 in
      let within : at.0 < length terms = atom_below (length terms) places i at.0 below here in
      named_by_key terms cells name at.0 places i within at.1
      (subst (λ n. IsKeyOf terms n at.0 (Some name)) zeroth at.2))
      (λ i l k.
      at_part name i k.atom k.first k.stands k.same
      (λ t e.
      let same : t ≡ Listed (More k.first k.rest) = same_Some t (Listed (More k.first k.rest)) (sym e ∙ k.names) in
      ap (λ n. part_of n t) zeroth ∙ ap (part_of 0) same))
      h

  -- a place whose atom has a name and a part is under the key of the part
  under : (name part key : ℕ) (x : Term) → p.part ≡ part → slice_get terms key ≡ Some x → (i : ℕ)
      → IsNamedWithAt terms name part key places i → StandsAt key p.entries i
  under name part key x is names i k =
      at_part key i k.named.atom x k.named.stands names
      (λ t e. part_is (part_of p.part t) (subst (λ n. NamesPart terms (part_of n t) (Some key)) (sym is) (k.has t e)))
    where
      part_is : (o : Option Term) → NamesPart terms o (Some key) → o ≡ Some x
      part_is None h = absurd h
      part_is (Some y) h = sym h ∙ names

  -- before the next place under a part no atom has a name and that part
  pub likely : (name part : ℕ) → p.part ≡ part → (key from : ℕ) (x : Term) → slice_get terms key ≡ Some x
      → (r : Option ℕ) → IsNext key p.entries from r
      → IsNoLaterThan (IsNamedWithAt terms name part key places) (length places) from r
  likely name part is key from x names None h = λ i l k. h i l (under name part key x is names i k)
  likely name part is key from x names (Some r) h = (
    h.0,
    slice_get_within places r (Some (part_at key r h.1).0) (part_at key r h.1).1,
    λ j l m k. h.2 j l m (under name part key x is names j k),
  )

-- before the next atom with a name none has that name and a part
pub likely_named : (terms : List Term) (name part key from : ℕ) (places : List (Option ℕ)) (r : Option ℕ)
    → IsNextNamed terms name places from r
    → IsNoLaterThan (IsNamedWithAt terms name part key places) (length places) from r
likely_named terms name part key from places None h = λ i l k. h i l k.named
likely_named terms name part key from places (Some r) h = (
  h.0,
  slice_get_within places r (Some h.1.atom) h.1.stands,
  λ j l m k. h.2 j l m k.named,
)
