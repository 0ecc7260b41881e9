use Rattle.std.proofs.Common.{◌≤◌, List, ℕ, [], ◌∷◌, ◌++◌, length, ap, sym, ◌∙◌, arith}
use Rattle.std.proofs.lemmas.List.{take_all}
use Rattle.hp_world.specs.Stages.{live_atoms}
use Rattle.hp_changes.proofs.HoldingSteps.{live_next}
use Rattle.hp_changes.proofs.comparing.live_cells.Goals as goal

pub loop-place-preserved : goal.loop-place-preserved
loop-place-preserved c =
    let places = c.args.world.now.now.places in
    c.in_ok-push_place.ensures
    ∙ (ap (λ (xs : List ℕ). xs ++ live_atoms (c.at.result ∷ [])) c.loop-place.invariant
    ∙ sym (live_next places c.loop-place.place c.at.result c.at.ensures))

pub returns : goal.returns
returns c =
    let places = c.args.world.now.now.places in
    let all : length places ≤ c.loop-place.place =
    omega (arith, c.loop-place-test.false, c.places-place-end.ensures) in
    c.loop-place.invariant ∙ ap live_atoms (take_all c.loop-place.place places all)
