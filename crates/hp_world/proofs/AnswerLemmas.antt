-- Answers of applying changes.
use Rattle.std.proofs.Common.{◌≡◌, ◌<◌, ℕ, Bool, true, false, cond, not, ◌||◌, List, [], ◌∷◌, ◌++◌, Option, None, Some, option_map, filter, length, refl, sym, ap, ap₂, ◌∙◌, subst, Result, Ok, Err, IfOk, OnErr}
use Rattle.std.specs.List.{All}
use Rattle.std.proofs.lemmas.List.{map-append}
use Rattle.std.proofs.lemmas.List.Elements.{All-append, All-filter}
use Rattle.hp_syntax.specs.Applying.{ChangesOf, AppliedOf, is_among, cancelled, first_guarded, with_added, changed, applied, unless_guarded}
use Rattle.hp_syntax.specs.Changes.{apply}
use Rattle.hp_syntax.specs.Terms.{Term, same_term}
use Rattle.hp_cells.specs.Cells.{AreCells}
use Rattle.hp_eval.specs.GoalViews.{term_at}
use Rattle.hp_eval.proofs.CellViews.{cells_tell}
use Rattle.hp_world.specs.Answers.{Gives, Applies, of_terms}
use Rattle.hp_world.specs.Deleting.{without, deleted}
use Rattle.hp_world.specs.Histories.{History, KeepsPasts}
use Rattle.hp_world.specs.Stages.{Stage, live_atoms, same_cell, terms_at, state_of, guards_of, changes_of, StageBelow, ChangesBelow}
use Rattle.hp_world.specs.declared.store.Applied.{Applied}
use Rattle.hp_world.specs.declared.store.Applied.TheVariants.{Done, Guarded}
use Rattle.hp_world.proofs.ApplyingLemmas.{cancelled_all, changed_all, cancelled-map, first_guarded-map, with_added-map, deleted-map}

-- an atom that a first test takes away needs no further one
one_more : (p : Bool) (a : ℕ) (ds once both : List ℕ) → filter (λ x. not (is_among same_cell x ds)) once ≡ both
    → filter (λ x. not (is_among same_cell x ds)) (cond (not p) (a ∷ once) once)
    ≡ cond (not (p || is_among same_cell a ds)) (a ∷ both) both
one_more true a ds once both h = h
one_more false a ds once both h = ap (λ xs. cond (not (is_among same_cell a ds)) (a ∷ xs) xs) h

-- deleting one atom and then others is deleting all of them
deleted_twice : (d : ℕ) (ds atoms : List ℕ) → filter (λ a. not (is_among same_cell a ds)) (without d atoms)
    ≡ filter (λ a. not (is_among same_cell a (d ∷ ds))) atoms
deleted_twice d ds [] = refl
deleted_twice d ds (a ∷ atoms) = one_more (same_cell a d) a ds _ _ (deleted_twice d ds atoms)

-- deleting nothing changes nothing
deleted_none : (atoms : List ℕ) → atoms ≡ filter (λ a. not (is_among same_cell a [])) atoms
deleted_none [] = refl
deleted_none (a ∷ atoms) = ap (λ xs. a ∷ xs) (deleted_none atoms)

-- deleting atoms in turn leaves the others
pub deleted_is : (atoms ds : List ℕ) → deleted atoms ds ≡ filter (λ a. not (is_among same_cell a ds)) atoms
deleted_is atoms [] = deleted_none atoms
deleted_is atoms (d ∷ ds) = deleted_is (without d atoms) ds ∙ deleted_twice d ds atoms

-- the result of applying the changes where this is the first protected atom to delete, if there is one
abbrev outcome : ChangesOf ℕ → History Stage → Option ℕ → AppliedOf ℕ
outcome c old o =
    unless_guarded o (changed same_cell (live_atoms old.now.places) c)
    (cancelled same_cell old.now.guards c.unguard ++ c.guard)

-- where an atom to delete is protected, it is the answer, and nothing is changed
pub gives_guarded : (a : ℕ) (c : ChangesOf ℕ) (old new : History Stage)
    → first_guarded same_cell (cancelled same_cell old.now.guards c.unguard) c.delete ≡ Some a → new ≡ old
    → Applies (Guarded a) c old new
gives_guarded a c old new e h =
    subst (λ (o : Option ℕ). Gives (Guarded a) (outcome c old o) old new) (sym e) (refl, h)

-- where no atom to delete is protected, the changes are made
pub gives_done : (c : ChangesOf ℕ) (old new : History Stage)
    → first_guarded same_cell (cancelled same_cell old.now.guards c.unguard) c.delete ≡ None
    → live_atoms new.now.places ≡ changed same_cell (live_atoms old.now.places) c
    → new.now.guards ≡ cancelled same_cell old.now.guards c.unguard ++ c.guard → KeepsPasts old new
    → Applies Done c old new
gives_done c old new e atoms guards keeps =
    subst (λ (o : Option ℕ). Gives Done (outcome c old o) old new) (sym e) (atoms, guards, keeps)

-- where the old world and the changes are below a count, so is the new world
gives_below : (n : ℕ) (a : Applied) (o : Option ℕ) (c : ChangesOf ℕ) (old new : History Stage)
    → Gives a (outcome c old o) old new → StageBelow n old.now → ChangesBelow n c → StageBelow n new.now
gives_below n Done None c old new g s b =
    let below : ℕ → Type 0 = λ x. x < n in
    record {
      atoms =
          subst (λ (xs : List ℕ). All below xs) (sym g.0)
          (changed_all same_cell below (live_atoms old.now.places) c s.atoms b.add);
      guards =
          subst (λ (xs : List ℕ). All below xs) (sym g.1)
          (All-append below _ _ (cancelled_all same_cell below old.now.guards c.unguard s.guards) b.guard);
    }
gives_below n (Guarded a) (Some d) c old new g s b = subst (λ (h : History Stage). StageBelow n h.now) (sym g.1) s
gives_below n Done (Some d) c old new g s b = absurd g
gives_below n (Guarded a) None c old new g s b = absurd g

-- whatever the result, what stands is below a count where the old world and the changes were below it
pub applied_below : {E : Type 0} (r : Result Applied E) (c : ChangesOf ℕ) (old new : History Stage)
    → IfOk r (λ a. Applies a c old new) → OnErr r (new ≡ old)
    → (n : ℕ) → StageBelow n old.now → ChangesBelow n c → StageBelow n new.now
applied_below (Ok a) c old new h e n s b =
    gives_below n a (first_guarded same_cell (cancelled same_cell old.now.guards c.unguard) c.delete) c old new h s b
applied_below (Err x) c old new h e n s b = subst (λ (g : History Stage). StageBelow n g.now) (sym e) s

-- ---- the terms that cells name

-- the result on cells names that on the terms of these
of_outcome : (terms : List Term) (o : Option ℕ) (s g : List ℕ)
    → of_terms terms (unless_guarded o s g)
    ≡ unless_guarded (option_map (term_at terms) o) (terms_at terms s) (terms_at terms g)
of_outcome terms None s g = refl
of_outcome terms (Some d) s g = refl

-- applying changes to cells is applying them to the terms that these name
pub applied_to_terms : (terms : List Term) (s : Stage) (c : ChangesOf ℕ) → AreCells terms
    → StageBelow (length terms) s → ChangesBelow (length terms) c
    → of_terms terms (applied same_cell (live_atoms s.places) s.guards c)
    ≡ apply (state_of terms s) (guards_of terms s) (changes_of terms c)
unfolding apply
applied_to_terms terms s c cells h b =
    of_outcome terms (first_guarded same_cell left c.delete) (changed same_cell (live_atoms s.places) c)
    (left ++ c.guard)
    ∙ ap₂ (λ (o : Option Term) (p : List Term × List Term). unless_guarded o p.0 p.1)
    (first_guarded-map same_cell same_term (term_at terms) below tells left c.delete left_below b.delete
    ∙ ap (λ (xs : List Term). first_guarded same_term xs (terms_at terms c.delete)) left_is)
    (ap₂ (λ (xs ys : List Term). (xs, ys)) changed_is guards_is)
  where
    below : ℕ → Type 0
    below x = x < length terms

    tells : (x y : ℕ) → below x → below y → same_cell x y ≡ same_term (term_at terms x) (term_at terms y)
    tells x y p q = cells_tell terms x y cells p q

    left : List ℕ
    left = cancelled same_cell s.guards c.unguard

    left_below : All below left
    left_below = cancelled_all same_cell below s.guards c.unguard h.guards

    left_is : terms_at terms left ≡ cancelled same_term (guards_of terms s) (terms_at terms c.unguard)
    left_is = cancelled-map same_cell same_term (term_at terms) below tells s.guards c.unguard h.guards b.unguard

    guards_is : terms_at terms (left ++ c.guard)
        ≡ cancelled same_term (guards_of terms s) (terms_at terms c.unguard) ++ terms_at terms c.guard
    guards_is =
        map-append (term_at terms) left c.guard ∙ ap (λ (xs : List Term). xs ++ terms_at terms c.guard) left_is

    kept : List ℕ
    kept = filter (λ a. not (is_among same_cell a c.delete)) (live_atoms s.places)

    changed_is : terms_at terms (changed same_cell (live_atoms s.places) c)
        ≡ changed same_term (state_of terms s) (changes_of terms c)
    changed_is =
        with_added-map same_cell same_term (term_at terms) below tells kept c.add
        (All-filter (λ a. not (is_among same_cell a c.delete)) below (live_atoms s.places) h.atoms) b.add
        ∙ ap (λ (xs : List Term). with_added same_term xs (terms_at terms c.add))
        (deleted-map same_cell same_term (term_at terms) below tells (live_atoms s.places) c.delete h.atoms b.delete)
