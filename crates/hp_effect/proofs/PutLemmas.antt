-- Applying changes to the terms that cells name.
use Rattle.std.specs.Prelude.{ℕ, List, length, Result, Ok, Err, IfOk}
use Rattle.std.specs.declared.alloc.AllocError.{AllocError}
use Rattle.std.proofs.Common.{ap, subst}
use Rattle.hp_syntax.specs.Terms.{Term}
use Rattle.hp_syntax.specs.Applying.{ChangesOf, AppliedOf, Now, Guarded, applied}
use Rattle.hp_syntax.specs.Changes.{apply}
use Rattle.hp_cells.specs.Cells.{AreCells}
use Rattle.hp_eval.specs.GoalViews.{term_at}
use Rattle.hp_world.specs.declared.store.Applied.{Applied}
use Rattle.hp_world.specs.declared.store.Applied.TheVariants as answers
use Rattle.hp_world.specs.Stages.{Stage, terms_at, live_atoms, same_cell, state_of, guards_of, changes_of, StageBelow, ChangesBelow}
use Rattle.hp_world.specs.Histories.{History}
use Rattle.hp_world.specs.Answers.{Gives, Applies, of_terms}
use Rattle.hp_world.proofs.AnswerLemmas.{applied_to_terms}
use Rattle.hp_effect.specs.Puts.{IsApplied}

-- the result of applying on cells is that on the terms that they name
pub gives_terms : (terms : List Term) (a : Applied) (x : AppliedOf ℕ) (old new : History Stage) → Gives a x old new
    → IsApplied a terms new.now (of_terms terms x)
gives_terms terms answers.Done (Now atoms guards) old new h = (ap (terms_at terms) h.0, ap (terms_at terms) h.1)
gives_terms terms (answers.Guarded a) (Guarded d) old new h = ap (term_at terms) h.0
gives_terms terms answers.Done (Guarded d) old new h = absurd h
gives_terms terms (answers.Guarded a) (Now atoms guards) old new h = absurd h

-- an application that answers the result on the cells answers that on the terms
pub comes_to_terms : (r : Result Applied AllocError) (c : ChangesOf ℕ) (old new : History Stage)
    → IfOk r (λ a. Applies a c old new)
    → IfOk r (λ a. (terms : List Term) → AreCells terms → StageBelow (length terms) old.now
    → ChangesBelow (length terms) c
    → IsApplied a terms new.now (apply (state_of terms old.now) (guards_of terms old.now) (changes_of terms c)))
comes_to_terms (Ok a) c old new h =
    λ terms cells stage changes.
    subst (IsApplied a terms new.now) (applied_to_terms terms old.now c cells stage changes)
    (gives_terms terms a (applied same_cell (live_atoms old.now.places) old.now.guards c) old new h)
comes_to_terms (Err e) c old new h = tt
