-- Atoms that pass a filter are those of a name, or of a name with an argument.
use Rattle.std.proofs.Common.{◌≡◌, ℕ, ◌<◌, List, length, slice_get, true, Option, Some, None, sym, ap, ◌∙◌, subst}
use Rattle.std.specs.Prelude.{IfSome}
use Rattle.std.proofs.lemmas.Bool.{and_from, and_parts, false≢true}
use Rattle.std.proofs.lemmas.Option.{none-some, same_Some, get_or_from_slice_get}
use Rattle.hp_syntax.specs.Terms.{Term, Terms, Symbol, Number, Listed, NoTerm, More}
use Rattle.hp_syntax.proofs.TermEquality.{same_self, same_sound}
use Rattle.hp_eval.specs.GoalViews.{term_at}
use Rattle.hp_eval.proofs.CellViews.{at_named, named_at}
use Rattle.hp_world.specs.Named.{IsNamedAt, IsNamedWithAt, IsNextAt, IsNextNamed, IsNextNamedWith}
use Rattle.hp_world.specs.Parts.{NamesPart, part_of}
use Rattle.hp_world.specs.Stages.{AllBelow, live_atoms}
use Rattle.hp_world.proofs.StageLemmas.{atom_below}
use Rattle.hp_suspended.specs.declared.places.AtomFilter.{AtomFilter}
use Rattle.hp_suspended.specs.declared.places.KnownPart.{KnownPart}
use Rattle.hp_suspended.specs.Filtered.{FilterBelow, has_known, is_same_part}
use Rattle.hp_suspended.specs.SimpleAtoms.{PassesAt}

-- a part that equals a term is that term
pub part_sound : (o : Option Term) (x : Term) → is_same_part o x ≡ true → o ≡ Some x
part_sound None x h = absurd (false≢true h)
part_sound (Some t) x h = ap Some (same_sound t x h)

-- a part that is a term equals it
pub part_same : (o : Option Term) (x : Term) → o ≡ Some x → is_same_part o x ≡ true
part_same o x h = ap (λ y. is_same_part y x) h ∙ same_self x

-- a term with a first part is a list
first_listed : (t x : Term) → part_of 0 t ≡ Some x → (xs : Terms) × (t ≡ Listed (More x xs))
first_listed (Symbol name) x h = absurd (none-some x h)
first_listed (Number n) x h = absurd (none-some x h)
first_listed (Listed NoTerm) x h = absurd (none-some x h)
first_listed (Listed (More y ys)) x h = (ys, ap (λ z. Listed (More z ys)) (same_Some y x h))

-- the least place is the same for what holds at the same places
next_alike : (P Q : ℕ → Type 0) → ((i : ℕ) → P i → Q i) → ((i : ℕ) → Q i → P i) → (from : ℕ) (r : Option ℕ)
    → IsNextAt P from r → IsNextAt Q from r
next_alike P Q there back from None h = λ i l q. h i l (back i q)
next_alike P Q there back from (Some i) h = (h.0, there i h.1, λ j l m q. h.2 j l m (back j q))

module _ (terms : List Term) (f : AtomFilter) (places : List (Option ℕ))
    (below : AllBelow (length terms) (live_atoms places)) (within : FilterBelow (length terms) f) where
  -- an atom at a place is named by its cell
  atom_named : (i atom : ℕ) → slice_get places i ≡ Some (Some atom) → slice_get terms atom ≡ Some (term_at terms atom)
  atom_named i atom stands =
      named_at terms atom
      (atom_below (length terms) places i atom below (get_or_from_slice_get places i (Some atom) None stands))

  -- an atom that passes has the name
  passing_named : (i : ℕ) → PassesAt terms f places i → IsNamedAt terms f.name places i
  passing_named i p =
      let t = term_at terms p.atom in
      let both = and_parts (is_same_part (part_of 0 t) (term_at terms f.name)) (has_known terms f.known t) p.passes in
      let list = first_listed t (term_at terms f.name) (part_sound (part_of 0 t) (term_at terms f.name) both.0) in
      record {
        atom = p.atom;
        first = term_at terms f.name;
        rest = list.0;
        stands = p.stands;
        names = atom_named i p.atom p.stands ∙ ap Some list.1;
        same = named_at terms f.name within.0;
      }

  -- an atom that has the name has it as its first part
  named_same : (i : ℕ) (h : IsNamedAt terms f.name places i)
      → is_same_part (part_of 0 (term_at terms h.atom)) (term_at terms f.name) ≡ true
  named_same i h =
      part_same (part_of 0 (term_at terms h.atom)) (term_at terms f.name)
      (ap (part_of 0) (at_named terms h.atom (Listed (More h.first h.rest)) h.names)
      ∙ ap Some (sym (at_named terms f.name h.first h.same)))

  -- where no argument is known the atoms that pass are those of the name
  pub next_named : f.known ≡ None → (from : ℕ) (r : Option ℕ) → IsNextNamed terms f.name places from r
      → IsNextAt (PassesAt terms f places) from r
  next_named none from r =
      next_alike (IsNamedAt terms f.name places) (PassesAt terms f places) there passing_named from r
    where
      there : (i : ℕ) → IsNamedAt terms f.name places i → PassesAt terms f places i
      there i h = record {
        atom = h.atom;
        stands = h.stands;
        passes =
            and_from (is_same_part (part_of 0 (term_at terms h.atom)) (term_at terms f.name))
            (has_known terms f.known (term_at terms h.atom)) (named_same i h)
            (ap (λ o. has_known terms o (term_at terms h.atom)) none);
      }

  module _ (part : KnownPart) (known : f.known ≡ Some part) where
    -- the cell of the argument is one of the cells
    pub part_within : part.cell < length terms
    part_within = subst (λ o. IfSome o (λ p. p.cell < length terms)) known within.1

    has_there : (t : Term) → NamesPart terms (part_of part.number t) (Some part.cell)
        → has_known terms f.known t ≡ true
    has_there t h = ap (λ o. has_known terms o t) known ∙ by (part_of part.number t) h
      where
        by : (o : Option Term) → NamesPart terms o (Some part.cell) → is_same_part o (term_at terms part.cell) ≡ true
        by None h = absurd h
        by (Some x) h = part_same (Some x) (term_at terms part.cell) (ap Some (sym (at_named terms part.cell x h)))

    there : (i : ℕ) → IsNamedWithAt terms f.name part.number part.cell places i → PassesAt terms f places i
    there i h =
        let t = term_at terms h.named.atom in record {
          atom = h.named.atom;
          stands = h.named.stands;
          passes =
              and_from (is_same_part (part_of 0 t) (term_at terms f.name)) (has_known terms f.known t)
              (named_same i h.named) (has_there t (h.has t (atom_named i h.named.atom h.named.stands)));
        }

    back : (i : ℕ) → PassesAt terms f places i → IsNamedWithAt terms f.name part.number part.cell places i
    unfolding passing_named
    back i p = record {
      named = passing_named i p;
      has =
          λ t is.
          let u = term_at terms p.atom in
          let both =
          and_parts (is_same_part (part_of 0 u) (term_at terms f.name)) (has_known terms f.known u) p.passes in
          let here : is_same_part (part_of part.number u) (term_at terms part.cell) ≡ true =
          sym (ap (λ o. has_known terms o u) known) ∙ both.1 in
          let same : t ≡ u = same_Some t u (sym is ∙ atom_named i p.atom p.stands) in
          let has = ap (part_of part.number) same ∙ part_sound (part_of part.number u) (term_at terms part.cell) here in
          subst (λ o. NamesPart terms o (Some part.cell)) (sym has) (named_at terms part.cell part_within);
    }

    -- where an argument is known the atoms that pass are those of the name with it
    pub next_with : (from : ℕ) (r : Option ℕ) → IsNextNamedWith terms f.name part.number part.cell places from r
        → IsNextAt (PassesAt terms f places) from r
    next_with from r =
        next_alike (IsNamedWithAt terms f.name part.number part.cell places) (PassesAt terms f places) there back from
        r
