-- Cells below a count: they stay below a greater one, and among terms that agree below it they stand for the same.
use Rattle.std.proofs.Common.{◌≡◌, ℕ, zero, suc, ◌<◌, ◌≤◌, List, [], ◌∷◌, take, drop, true, Option, Some, None, arith, refl, sym, ◌∙◌, ap, ap₂}
use Rattle.std.specs.Prelude.{IfSome, slice_get}
use Rattle.std.proofs.lemmas.List.Elements.{All-head, All-tail}
use Rattle.hp_cells.proofs.PlaceLemmas.{stays}
use Rattle.hp_syntax.specs.Terms.{Term}
use Rattle.hp_syntax.specs.Goals as plain
use Rattle.hp_world.specs.Stages.{AllBelow, live_atoms, terms_at}
use Rattle.hp_eval.specs.declared.goals.Filled.{Filled}
use Rattle.hp_eval.specs.declared.goals.Goal.{Goal}
use Rattle.hp_eval.specs.FillSteps.{AreFilledBelow}
use Rattle.hp_eval.specs.GoalViews.{GoalBelow, fillings_of, goal_of, is_below, term_at, term_or_nil}
use Rattle.hp_eval.specs.Slotted.{Slotted, AreBelow}
use Rattle.hp_suspended.specs.declared.places.AtomFilter.{AtomFilter}
use Rattle.hp_suspended.specs.declared.places.KnownPart.{KnownPart}
use Rattle.hp_suspended.specs.Filtered.{FilterBelow}
use Rattle.hp_eval.proofs.GoalViewLemmas as goals
use Rattle.hp_eval.proofs.GoalViewLemmas.{all_below_grow}

-- a goal stays below a count that grows
pub goal_below_more : (m n : ℕ) (q : Goal) → m ≤ n → GoalBelow m q → GoalBelow n q
goal_below_more m n q l h = all_below_grow m n q.args.items l h

-- slots stay below a count that grows
pub slots_below_more : (m n : ℕ) (s : Slotted) → m ≤ n → AreBelow m s → AreBelow n s
slots_below_more m n s l h = λ v cell e. omega (arith, h v cell e)

-- a filter stays below a count that grows
pub filter_below_more : (m n : ℕ) (f : AtomFilter) → m ≤ n → FilterBelow m f → FilterBelow n f
filter_below_more m n f l h = (omega (arith, h.0), by f.known h.1)
  where
    by : (o : Option KnownPart) → IfSome o (λ p. p.cell < m) → IfSome o (λ p. p.cell < n)
    by None k = tt
    by (Some p) k = omega (arith, k)

-- live atoms of the places from one on are below a count where all are
pub later_atoms_below : (n i : ℕ) (ps : List (Option ℕ)) → AllBelow n (live_atoms ps)
    → AllBelow n (live_atoms (drop i ps))
later_atoms_below n zero ps h = h
later_atoms_below n (suc i) [] h = h
later_atoms_below n (suc i) (None ∷ ps) h = later_atoms_below n i ps h
later_atoms_below n (suc i) (Some a ∷ ps) h =
    later_atoms_below n i ps (All-tail (λ c. c < n) a (live_atoms ps) h)

module _ (n : ℕ) (c d : List Term) (same : take n c ≡ take n d) where
  -- a cell below the count names the same
  pub term_agrees : (i : ℕ) → i < n → term_at c i ≡ term_at d i
  term_agrees i l = ap term_or_nil (sym (stays n c i l) ∙ (ap (λ ts. slice_get ts i) same ∙ stays n d i l))

  -- cells below the count name the same
  pub terms_agree : (cells : List ℕ) → AllBelow n cells → terms_at c cells ≡ terms_at d cells
  terms_agree [] h = refl
  terms_agree (i ∷ is) h =
      ap₂ (λ t ts. t ∷ ts) (term_agrees i (All-head (λ j. j < n) i is h))
      (terms_agree is (All-tail (λ j. j < n) i is h))

  -- parts below the count stand for the same
  pub parts_agree : (fs : List Filled) → AreFilledBelow n fs → fillings_of c fs ≡ fillings_of d fs
  parts_agree [] h = refl
  parts_agree (f ∷ fs) h =
      ap₂ plain.Then (goals.stays n n d c (omega arith) term_agrees f (All-head (λ g. is_below n g ≡ true) f fs h)).1
      (parts_agree fs (All-tail (λ g. is_below n g ≡ true) f fs h))

  -- a goal below the count stands for the same
  pub goal_agrees : (q : Goal) → GoalBelow n q → goal_of c q ≡ goal_of d q
  goal_agrees q h =
      ap (λ (fs : plain.Fillings). record { name = q.name; parts = fs; tail = q.tail }) (parts_agree q.args.items h)
