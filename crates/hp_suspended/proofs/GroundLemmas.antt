-- Goals without free variables, and the cells of the atoms that they match.
use Rattle.std.proofs.Common.{◌≡◌, ℕ, zero, suc, ◌+◌, ◌<◌, true, List, [], ◌∷◌, length, drop, get_or, slice_get, Option, Some, None, refl, sym, ap, ap₂, ◌∙◌, subst, arith}
use Rattle.std.specs.Prelude.{option_map, is_some}
use Rattle.std.proofs.lemmas.Option.{none-some, same_Some, option_and_then_some}
use Rattle.std.proofs.lemmas.List.{drop_all}
use Rattle.hp_cells.specs.Cells.{AreCells, IsAbsent, LooksUp}
use Rattle.hp_cells.specs.Keys.{parts_of}
use Rattle.hp_syntax.specs.Terms.{Term, Terms, Listed, NoTerm, More, same_term}
use Rattle.hp_syntax.specs.Values.{Bindings}
use Rattle.hp_syntax.specs.Goals as plain
use Rattle.hp_syntax.specs.Goals.{Fillings, NoFilling, Then, ground_parts, match_filled, match_fillings}
use Rattle.hp_syntax.proofs.TermEquality.{same_sound}
use Rattle.hp_eval.specs.declared.goals.Filled.{Filled}
use Rattle.hp_eval.specs.declared.goals.Goal.{Goal}
use Rattle.hp_eval.specs.Attempts.{ground_part}
use Rattle.hp_eval.specs.FillSteps.{AreKnown, parts_at}
use Rattle.hp_eval.specs.GoalViews.{filled_of, fillings_of}
use Rattle.hp_eval.proofs.CellViews.{at_named}
use Rattle.hp_eval.proofs.FillStepLemmas.{fillings_from, free_not_ground}
use Rattle.hp_suspended.specs.PlaceSteps.{IsGround, ground_of}
use Rattle.hp_suspended.proofs.MatchedLemmas.{extended_passed}

-- what there is by a function there is of what the function takes
mapped : {A B : Type 0} (f : A → B) (o : Option A) (y : B) → option_map f o ≡ Some y
    → (x : A) × (o ≡ Some x) × (f x ≡ y)
mapped f None y h = absurd (none-some y h)
mapped f (Some x) y h = (x, refl, same_Some (f x) y h)

-- parts that are ground match one list alone
pub ground_matches : (fs : Fillings) (tail : Option ℕ) (us ts : Terms) (e b : Bindings)
    → ground_parts fs tail ≡ Some us → match_fillings fs tail ts e ≡ Some b → ts ≡ us
unfolding match_fillings match_filled
ground_matches NoFilling None us NoTerm e b g h = same_Some NoTerm us g
ground_matches NoFilling None us (More t ts) e b g h = absurd (none-some b h)
ground_matches NoFilling (Some v) us ts e b g h = absurd (none-some us g)
ground_matches (Then (plain.Free v) fs) tail us ts e b g h = absurd (none-some us g)
ground_matches (Then (plain.Partly ps t) fs) tail us ts e b g h = absurd (none-some us g)
ground_matches (Then (plain.Known t) fs) tail us NoTerm e b g h = absurd (none-some b h)
ground_matches (Then (plain.Known t) fs) tail us (More x xs) e b g h =
    let m = mapped (More t) (ground_parts fs tail) us g in
    option_and_then_some (match_fillings fs tail xs) (match_filled (plain.Known t) x e) b h
    (λ d is rest.
    ap₂ More (sym (same_sound t x (extended_passed (same_term t x) e d is)))
    (ground_matches fs tail m.0 xs d b m.1 rest)
    ∙ m.2)

-- ground parts are ground without a tail
pub ground_untailed : (fs : Fillings) (tail : Option ℕ) (ts : Terms) → ground_parts fs tail ≡ Some ts
    → ground_parts fs None ≡ Some ts
ground_untailed fs None ts h = h
ground_untailed fs (Some v) ts h = absurd (none-some ts (sym (free_not_ground fs v) ∙ h))

-- ---- parts from a place on

-- the first of ground parts is known, and the others are ground
record IsSplit (x : plain.Filled) (fs : Fillings) (ts : Terms) : Type 0 where
  term : Term
  others : Terms
  known : x ≡ plain.Known term
  ground : ground_parts fs None ≡ Some others
  whole : More term others ≡ ts

split : (x : plain.Filled) (fs : Fillings) (ts : Terms) → ground_parts (Then x fs) None ≡ Some ts → IsSplit x fs ts
split (plain.Known t) fs ts h =
    let m = mapped (More t) (ground_parts fs None) ts h in
    record { term = t; others = m.0; known = refl; ground = m.1; whole = m.2 }
split (plain.Free v) fs ts h = absurd (none-some ts h)
split (plain.Partly ps t) fs ts h = absurd (none-some ts h)

module _ (terms : List Term) where
  -- ground parts are ground from each place on
  pub known_from : (i : ℕ) (fs : List Filled) → AreKnown (fillings_of terms fs)
      → AreKnown (fillings_of terms (drop i fs))
  known_from zero fs k = k
  known_from (suc i) [] k = k
  known_from (suc i) (f ∷ fs) k =
      let s = split (filled_of terms f) (fillings_of terms fs) k.0 k.1 in known_from i fs (s.others, s.ground)

  -- each of ground parts is known
  pub known_at : (fs : List Filled) (i : ℕ) (f : Filled) → AreKnown (fillings_of terms fs) → i < length fs
      → f ≡ get_or fs i f → (t : Term) × (filled_of terms f ≡ plain.Known t)
  known_at fs i f k l is =
      let from = known_from i fs k in
      let s =
      split (filled_of terms f) (fillings_of terms (drop (i + 1) fs)) from.0
      (sym (ap (λ gs. ground_parts gs None) (fillings_from terms fs i f l is)) ∙ from.1) in
      (s.term, s.known)

  -- the parts from a place on are ground where the one there is and those behind it are
  pub ground_before : (fs : List Filled) (i : ℕ) (f : Filled) (t : Term) (us : Terms) → i < length fs
      → f ≡ get_or fs i f → filled_of terms f ≡ plain.Known t
      → ground_parts (fillings_of terms (drop (i + 1) fs)) None ≡ Some us
      → ground_parts (fillings_of terms (drop i fs)) None ≡ Some (More t us)
  ground_before fs i f t us l is known h =
      ap (λ gs. ground_parts gs None)
      (fillings_from terms fs i f l is ∙ ap (λ x. Then x (fillings_of terms (drop (i + 1) fs))) known)
      ∙ ap (option_map (More t)) h

  -- where no cell names the list of ground parts from a place on, none names that of all of them
  pub absent_whole : AreCells terms → (i : ℕ) (fs : List Filled) (ts us : Terms)
      → ground_parts (fillings_of terms fs) None ≡ Some ts
      → ground_parts (fillings_of terms (drop i fs)) None ≡ Some us → IsAbsent terms (Listed us)
      → IsAbsent terms (Listed ts)
  absent_whole cells zero fs ts us g h absent =
      subst (λ xs. IsAbsent terms (Listed xs)) (same_Some us ts (sym h ∙ g)) absent
  absent_whole cells (suc i) [] ts us g h absent =
      subst (λ xs. IsAbsent terms (Listed xs)) (same_Some us ts (sym h ∙ g)) absent
  absent_whole cells (suc i) (f ∷ fs) ts us g h absent =
      let s = split (filled_of terms f) (fillings_of terms fs) ts g in
      λ j is.
      let before = cells.parts j s.term s.others (is ∙ ap (λ xs. Some (Listed xs)) (sym s.whole)) in
      absent_whole cells i fs s.others us s.ground h absent before.1.0 before.1.2

-- ---- the cell of a list

-- the cell names the list of ground parts from a place on
pub record NamesFrom (terms : List Term) (fs : List Filled) (i cell : ℕ) : Type 0 where
  pub parts : Terms
  pub ground : ground_parts (fillings_of terms (drop i fs)) None ≡ Some parts
  pub names : slice_get terms cell ≡ Some (Listed parts)

module _ (terms : List Term) (fs : List Filled) where
  -- behind all parts the empty list is named
  pub names_none : (cell : ℕ) → slice_get terms cell ≡ Some (Listed NoTerm)
      → NamesFrom terms fs (length fs) cell
  names_none cell h = record {
    parts = NoTerm;
    ground = ap (λ gs. ground_parts (fillings_of terms gs) None) (drop_all (length fs) fs (omega arith));
    names = h;
  }

  module _ (i : ℕ) (f : Filled) (list : ℕ) (known : AreKnown (fillings_of terms fs)) (l : i < length fs)
      (is : f ≡ get_or fs i f) (behind : NamesFrom terms fs (i + 1) list) (found : Option ℕ)
      (looks : (t : Term) → ground_part (filled_of terms f) ≡ Some t
      → LooksUp (Listed (More t (parts_at terms list))) terms found) where
    ground_here : (t : Term) → filled_of terms f ≡ plain.Known t
        → ground_parts (fillings_of terms (drop i fs)) None ≡ Some (More t behind.parts)
    ground_here t k = ground_before terms fs i f t behind.parts l is k behind.ground

    looks_here : (t : Term) → filled_of terms f ≡ plain.Known t
        → LooksUp (Listed (More t behind.parts)) terms found
    looks_here t k =
        subst (λ us. LooksUp (Listed (More t us)) terms found)
        (ap parts_of (at_named terms list (Listed behind.parts) behind.names)) (looks t (ap ground_part k))

    -- the cell of a part before the list behind it names the list from there on
    pub names_more : (cell : ℕ) → found ≡ Some cell → NamesFrom terms fs i cell
    names_more cell e =
        let k = known_at terms fs i f known l is in record {
          parts = More k.0 behind.parts;
          ground = ground_here k.0 k.1;
          names = subst (LooksUp (Listed (More k.0 behind.parts)) terms) e (looks_here k.0 k.1);
        }

    -- where there is no such cell, none names the whole list
    pub names_nowhere : AreCells terms → found ≡ None → (ts : Terms)
        → ground_parts (fillings_of terms fs) None ≡ Some ts → IsAbsent terms (Listed ts)
    names_nowhere cells e ts g =
        let k = known_at terms fs i f known l is in
        absent_whole terms cells i fs ts (More k.0 behind.parts) g (ground_here k.0 k.1)
        (subst (LooksUp (Listed (More k.0 behind.parts)) terms) e (looks_here k.0 k.1))

  -- a cell that names the list from the first part on names the whole
  pub names_whole : (cell : ℕ) → NamesFrom terms fs 0 cell → (ts : Terms)
      → ground_parts (fillings_of terms fs) None ≡ Some ts → slice_get terms cell ≡ Some (Listed ts)
  names_whole cell h ts g = h.names ∙ ap (λ us. Some (Listed us)) (same_Some h.parts ts (sym h.ground ∙ g))

-- ---- goals

-- what there is, where there is something
there_is : {A : Type 0} (o : Option A) → is_some o ≡ true → (x : A) × (o ≡ Some x)
there_is None h = absurd (cc)
there_is (Some x) h = (x, refl)

-- the parts of a goal without free variables
pub ground_parts_of : (terms : List Term) (q : Goal) → IsGround terms q → (ts : Terms) × (ground_of terms q ≡ Some ts)
ground_parts_of terms q h = there_is (ground_of terms q) h

-- the parts of a goal without free variables are known
pub ground_known : (terms : List Term) (q : Goal) → IsGround terms q → AreKnown (fillings_of terms q.args.items)
ground_known terms q h =
    let g = ground_parts_of terms q h in (g.0, ground_untailed (fillings_of terms q.args.items) q.tail g.0 g.1)
