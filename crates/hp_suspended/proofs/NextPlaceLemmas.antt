-- The next place for a goal, by the name and the parts of its atom.
use Rattle.std.proofs.Common.{◌≡◌, ℕ, suc, ◌<◌, List, length, slice_get, Option, Some, None, refl, sym, ap, ◌∙◌, subst, arith}
use Rattle.std.proofs.lemmas.Option.{same_Some, get_or_from_slice_get}
use Rattle.hp_cells.specs.Cells.{AreCells, IsAbsent}
use Rattle.hp_syntax.specs.Terms.{Term, Terms, Symbol, Listed, More}
use Rattle.hp_eval.specs.declared.goals.Goal.{Goal}
use Rattle.hp_eval.specs.declared.goals.Filled.TheVariants.{Known}
use Rattle.hp_eval.specs.GoalViews.{term_at, fillings_of, goal_of, GoalBelow}
use Rattle.hp_eval.proofs.CellViews.{named_at}
use Rattle.hp_eval.proofs.GoalViewLemmas.{below_cell, below_place}
use Rattle.hp_world.specs.Named.{IsNamedAt, IsNamedWithAt, IsNextAt, IsNextNamed, IsNextNamedWith}
use Rattle.hp_world.specs.Parts.{NamesPart, part_of}
use Rattle.hp_world.specs.Stages.{AllBelow, live_atoms}
use Rattle.hp_world.proofs.StageLemmas.{atom_below}
use Rattle.hp_suspended.specs.declared.places.KnownPart.{KnownPart}
use Rattle.hp_suspended.specs.PlaceSteps.{MatchesAt, IsFirstKnown, IsNextPlace, ground_of}
use Rattle.hp_suspended.proofs.GroundLemmas.{ground_matches}
use Rattle.hp_suspended.proofs.MatchedLemmas.{goal_matches, known_argument}

-- the cell of a known part of a goal is below what the goal's cells are below
pub known_within : (n : ℕ) (q : Goal) (part : KnownPart) → IsFirstKnown q part → GoalBelow n q → part.cell < n
known_within n q part k below =
    below_cell n (Known part.cell) part.cell (below_place n q.args.items k.argument (Known part.cell) below k.known)
    refl

module _ (terms : List Term) (q : Goal) (places : List (Option ℕ))
    (below : AllBelow (length terms) (live_atoms places)) where
  -- an atom that a goal matches is named by its cell
  matched_names : (i : ℕ) (m : MatchesAt terms (goal_of terms q) places i)
      → slice_get terms m.atom ≡ Some (term_at terms m.atom)
  matched_names i m =
      named_at terms m.atom
      (atom_below (length terms) places i m.atom below
      (get_or_from_slice_get places i (Some m.atom) None m.stands))

  -- a name whose symbol has no cell is that of no atom
  pub none_named : AreCells terms → IsAbsent terms (Symbol q.name) → (i : ℕ)
      → MatchesAt terms (goal_of terms q) places i → ⊥
  none_named cells absent i m =
      let parts = goal_matches (goal_of terms q) (term_at terms m.atom) m.before m.after m.matches in
      let before =
      cells.parts m.atom (Symbol q.name) parts.parts (matched_names i m ∙ ap Some parts.whole) in
      absent before.0.0 before.0.2

  module _ (name : ℕ) (names : slice_get terms name ≡ Some (Symbol q.name)) where
    -- an atom that a goal matches has its name
    abbrev matched_named : (i : ℕ) → MatchesAt terms (goal_of terms q) places i → IsNamedAt terms name places i
    matched_named i m =
        let parts = goal_matches (goal_of terms q) (term_at terms m.atom) m.before m.after m.matches in record {
          atom = m.atom;
          first = Symbol q.name;
          rest = parts.parts;
          stands = m.stands;
          names = matched_names i m ∙ ap Some parts.whole;
          same = names;
        }

    -- before the next atom of its name a goal matches none
    pub next_by_name : (from : ℕ) (r : Option ℕ) → IsNextNamed terms name places from r
        → IsNextPlace terms (goal_of terms q) places from r
    next_by_name from None h = λ i l m. h i l (matched_named i m)
    next_by_name from (Some i) h = record {
      later = h.0;
      atom = h.1.atom;
      stands = h.1.stands;
      passed = λ j l s m. h.2 j l s (matched_named j m);
    }

    module _ (part : KnownPart) (known : IsFirstKnown q part) (within : part.cell < length terms) where
      -- an atom that a goal matches has its known part
      matched_part : (i : ℕ) (m : MatchesAt terms (goal_of terms q) places i) (t : Term)
          → slice_get terms m.atom ≡ Some t → NamesPart terms (part_of part.number t) (Some part.cell)
      matched_part i m t is =
          let parts = goal_matches (goal_of terms q) (term_at terms m.atom) m.before m.after m.matches in
          let whole : t ≡ Listed (More (Symbol q.name) parts.parts) =
          same_Some t (term_at terms m.atom) (sym is ∙ matched_names i m) ∙ parts.whole in
          let behind : part.number ≡ suc known.argument = omega (arith, known.number) in
          let has : part_of part.number t ≡ Some (term_at terms part.cell) =
          ap (λ n. part_of n t) behind
          ∙ ap (part_of (suc known.argument)) whole
          ∙ known_argument terms q.args.items q.tail parts.parts m.before m.after known.argument part.cell known.known
          parts.matches in
          subst (λ o. NamesPart terms o (Some part.cell)) (sym has) (named_at terms part.cell within)

      matched_with : (i : ℕ) → MatchesAt terms (goal_of terms q) places i
          → IsNamedWithAt terms name part.number part.cell places i
      matched_with i m = record { named = matched_named i m; has = matched_part i m }

      -- before the next atom of its name and with its known part a goal matches none
      pub next_by_part : (from : ℕ) (r : Option ℕ) → IsNextNamedWith terms name part.number part.cell places from r
          → IsNextPlace terms (goal_of terms q) places from r
      next_by_part from None h = λ i l m. h i l (matched_with i m)
      next_by_part from (Some i) h = record {
        later = h.0;
        atom = h.1.named.atom;
        stands = h.1.named.stands;
        passed = λ j l s m. h.2 j l s (matched_with j m);
      }

  module _ (ts : Terms) (ground : ground_of terms q ≡ Some ts) where
    -- a goal without free variables matches the list of its name and its parts alone
    matched_whole : (i : ℕ) (m : MatchesAt terms (goal_of terms q) places i)
        → slice_get terms m.atom ≡ Some (Listed (More (Symbol q.name) ts))
    matched_whole i m =
        let parts = goal_matches (goal_of terms q) (term_at terms m.atom) m.before m.after m.matches in
        let same : parts.parts ≡ ts =
        ground_matches (fillings_of terms q.args.items) q.tail ts parts.parts m.before m.after ground parts.matches in
        matched_names i m ∙ ap Some (parts.whole ∙ ap (λ us. Listed (More (Symbol q.name) us)) same)

    -- where no cell names that list a goal matches no atom
    pub none_same : IsAbsent terms (Listed (More (Symbol q.name) ts)) → (i : ℕ)
        → MatchesAt terms (goal_of terms q) places i → ⊥
    none_same absent i m = absent m.atom (matched_whole i m)

    -- before the place of that list's cell a goal matches no atom
    pub next_same : AreCells terms → (atom : ℕ) → slice_get terms atom ≡ Some (Listed (More (Symbol q.name) ts))
        → (from : ℕ) (r : Option ℕ) → IsNextAt (λ i. slice_get places i ≡ Some (Some atom)) from r
        → IsNextPlace terms (goal_of terms q) places from r
    next_same cells atom names from r h = by r h
      where
        here : (i : ℕ) → MatchesAt terms (goal_of terms q) places i → slice_get places i ≡ Some (Some atom)
        here i m =
            m.stands
            ∙ ap (λ a. Some (Some a))
            (cells.distinct m.atom atom (Listed (More (Symbol q.name) ts)) (matched_whole i m) names)

        by : (r : Option ℕ) → IsNextAt (λ i. slice_get places i ≡ Some (Some atom)) from r
            → IsNextPlace terms (goal_of terms q) places from r
        by None h = λ i l m. h i l (here i m)
        by (Some i) h = record {
          later = h.0;
          atom = atom;
          stands = h.1;
          passed = λ j l s m. h.2 j l s (here j m);
        }
