-- The answers of applying changes to a world.
use Rattle.std.specs.Prelude.{◌≡◌, ℕ, List}
use Rattle.hp_syntax.specs.Terms.{Term}
use Rattle.hp_syntax.specs.Applying as plain
use Rattle.hp_syntax.specs.Applying.{ChangesOf, AppliedOf, applied}
use Rattle.hp_eval.specs.GoalViews.{term_at}
use Rattle.hp_world.specs.Stages.{Stage, live_atoms, same_cell, terms_at}
use Rattle.hp_world.specs.Histories.{History, KeepsPasts}
use Rattle.hp_world.specs.declared.store.Applied.{Applied}
use Rattle.hp_world.specs.declared.store.Applied.TheVariants.{Done, Guarded}

-- the answer is this one, and so is the new stage; a guarded application changes nothing
abbrev pub Gives : Applied → AppliedOf ℕ → History Stage → History Stage → Type 0
Gives Done (plain.Now atoms guards) old new =
    (live_atoms new.now.places ≡ atoms) × (new.now.guards ≡ guards) × KeepsPasts old new
Gives (Guarded a) (plain.Guarded d) old new = (a ≡ d) × (new ≡ old)
Gives _ _ old new = ⊥

-- the answer is that of applying the changes to the present
abbrev pub Applies : Applied → ChangesOf ℕ → History Stage → History Stage → Type 0
Applies a c old new = Gives a (applied same_cell (live_atoms old.now.places) old.now.guards c) old new

-- the same of the terms that cells name
abbrev pub of_terms : List Term → AppliedOf ℕ → AppliedOf Term
of_terms terms (plain.Now atoms guards) = plain.Now (terms_at terms atoms) (terms_at terms guards)
of_terms terms (plain.Guarded d) = plain.Guarded (term_at terms d)
