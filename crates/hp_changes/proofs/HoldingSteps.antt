-- The atoms of a world.
use Rattle.std.proofs.Common.{◌≡◌, ℕ, ◌+◌, List, [], ◌∷◌, ◌++◌, Option, Some, take, ◌∙◌, ap}
use Rattle.std.specs.Prelude.{slice_get}
use Rattle.std.proofs.lemmas.List.{take_more}
use Rattle.std.proofs.lemmas.Option.{get_or_from_slice_get, slice_get_within}
use Rattle.hp_world.specs.Stages.{live_atoms}
use Rattle.hp_world.proofs.StageLemmas.{live_joined}

-- the atoms up to a place and those at it are the atoms up to the next one
pub live_next : (ps : List (Option ℕ)) (i : ℕ) (p : Option ℕ) → slice_get ps i ≡ Some p
    → live_atoms (take (i + 1) ps) ≡ live_atoms (take i ps) ++ live_atoms (p ∷ [])
live_next ps i p e =
    ap live_atoms
    (take_more ps i p (slice_get_within ps i p e)
    ∙ ap (λ (q : Option ℕ). take i ps ++ q ∷ []) (get_or_from_slice_get ps i p p e))
    ∙ live_joined (take i ps) (p ∷ [])
