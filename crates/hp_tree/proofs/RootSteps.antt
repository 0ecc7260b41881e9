-- The root of a pair, step by step.
use Rattle.std.proofs.Common.{◌≡◌, ℕ, ◌+◌, ◌<◌, List, [], ◌∷◌, ◌++◌, length, take, get_or, Some, sym, ◌∙◌, ap, subst}
use Rattle.std.specs.List.{All}
use Rattle.std.specs.Prelude.{option_map}
use Rattle.std.proofs.lemmas.List.{map-append, take_more}
use Rattle.std.proofs.lemmas.List.Elements.{All-get_or, All-nil}
use Rattle.std.proofs.lemmas.Option.{get_or_from_slice_get, slice_get-get_or, slice_get-map, slice_get_within}
use Rattle.hp_syntax.specs.declared.pattern.AtomPat.{AtomPat}
use Rattle.hp_syntax.specs.Applying.{ChangesOf, Now, with_added, applied}
use Rattle.hp_syntax.specs.Changes.{added, apply}
use Rattle.hp_syntax.specs.GroundPatterns.{IsGroundAtom, atom_said, atoms_said}
use Rattle.hp_syntax.specs.Terms.{Term}
use Rattle.hp_syntax.specs.Views.{atom_of, atoms_of}
use Rattle.hp_cells.specs.Cells.{AreCells}
use Rattle.hp_world.specs.declared.store.Applied.{Applied}
use Rattle.hp_world.specs.declared.store.Applied.TheVariants as answers
use Rattle.hp_world.specs.Answers.{Applies, Gives}
use Rattle.hp_world.specs.Histories.{History}
use Rattle.hp_world.specs.Pasts.{PastsBelow}
use Rattle.hp_world.specs.Stages.{Stage, AllBelow, live_atoms, same_cell, terms_at}
use Rattle.hp_world.proofs.AnswerLemmas.{applied_to_terms}
use Rattle.hp_tree.specs.Roots.{nothing, untouched}

-- ---- atoms

module _ (atoms : List AtomPat) (i : ℕ) (a : AtomPat) (l : i < length atoms) (is : a ≡ get_or atoms i a) where
  -- each of ground atoms is ground
  pub each_ground : All IsGroundAtom (atoms_of atoms) → IsGroundAtom (atom_of a)
  each_ground h =
      let there = slice_get-map atom_of atoms i ∙ ap (option_map atom_of) (slice_get-get_or atoms i a l
      ∙ ap Some (sym is)) in
      subst IsGroundAtom (get_or_from_slice_get (atoms_of atoms) i (atom_of a) (atom_of a) there)
      (All-get_or IsGroundAtom (atoms_of atoms) i (atom_of a) (slice_get_within (atoms_of atoms) i (atom_of a) there) h)

  -- atoms with one more say the terms before and its term
  pub said_more : atoms_said (atoms_of (take (i + 1) atoms))
      ≡ atoms_said (atoms_of (take i atoms)) ++ atom_said (atom_of a) ∷ []
  said_more =
      ap (λ xs. atoms_said (atoms_of xs)) (take_more atoms i a l ∙ ap (λ b. take i atoms ++ b ∷ []) (sym is))
      ∙ (ap atoms_said (map-append atom_of (take i atoms) (a ∷ []))
      ∙ map-append atom_said (atoms_of (take i atoms)) (atom_of a ∷ []))

-- ---- the world

given : (a : Applied) (xs gs : List ℕ) (old new : History Stage) → Gives a (Now xs gs) old new
    → (live_atoms new.now.places ≡ xs) × (new.now.guards ≡ gs)
given answers.Done xs gs old new h = (h.0, h.1)
given (answers.Guarded d) xs gs old new h = absurd h

now_same : (s t g h : List Term) → Now s g ≡ Now t h → s ≡ t
now_same s t g h e = cc

-- a world to which atoms were added has their terms as its state, each once, and no protections
pub world_begun : (terms : List Term) (atoms : List ℕ) (a : Applied) (old new : History Stage) → old.now ≡ nothing
    → AreCells terms → AllBelow (length terms) atoms
    → Applies a (record { unguard = []; delete = []; add = atoms; guard = [] }) old new
    → (terms_at terms (live_atoms new.now.places) ≡ added [] (terms_at terms atoms)) × (new.now.guards ≡ [])
unfolding apply
world_begun terms atoms a old new begun cells below h =
    let none = All-nil (λ c. c < length terms) in
    let c : ChangesOf ℕ = record { unguard = []; delete = []; add = atoms; guard = [] } in
    let there = given a (with_added same_cell [] atoms) [] old new
    (subst (λ s. Gives a (applied same_cell (live_atoms s.places) s.guards c) old new) begun h) in
    let same = applied_to_terms terms nothing c cells
    (record { atoms = none; guards = none })
    (record { unguard = none; delete = none; add = below; guard = none }) in
    let state =
    ap (terms_at terms) there.0
    ∙ now_same (terms_at terms (with_added same_cell [] atoms)) (added [] (terms_at terms atoms)) [] [] same in
    (state, there.1)

-- where nothing stood, all atoms are below any count
pub untouched_below : (n : ℕ) → PastsBelow n untouched
untouched_below n m = All-nil (λ c. c < n)
