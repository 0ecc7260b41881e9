use Rattle.std.proofs.Common.{◌≡◌, ◌<◌, ℕ, suc, List, [], ◌∷◌, Option, Some, None, length, get_or, refl, arith}
use Rattle.std.proofs.lemmas.List.Elements.{All-nil, All-cons}
use Rattle.hp_world.specs.Stages.{AllBelow, live_atoms}
use Rattle.hp_part_trials.proofs.look_ups.scans.is_within.Goals as goal

-- atoms are below a number where that of each place is
below_each : (n : ℕ) (places : List (Option ℕ))
    → ((i a : ℕ) → i < length places → get_or places i None ≡ Some a → a < n) → AllBelow n (live_atoms places)
below_each n [] h = All-nil (λ c. c < n)
below_each n (None ∷ places) h = below_each n places (λ i a l e. h (suc i) a (omega arith) e)
below_each n (Some a ∷ places) h =
    All-cons (λ c. c < n) a (live_atoms places) (h 0 a (omega arith) refl)
    (below_each n places (λ i b l e. h (suc i) b (omega arith) e))

pub returns : goal.returns
returns c = λ e.
    below_each _ c.args.world.now.now.places
    (λ i a l f. c.loop-place.invariant i a (omega (arith, l, c.places-place-end.ensures, c.loop-place-test.false)) f)
