use Rattle.std.proofs.Common.{refl}
use Rattle.hp_suspended.specs.declared.scene.Scene.{Scene}
use Rattle.hp_part_trials.proofs.SceneLemmas.{suits_again}
use Rattle.hp_part_trials.proofs.parts.generators.three_about.Goals as goal

pub next_told-requires-2-clause-base : goal.next_told-requires-2-clause-base
next_told-requires-2-clause-base c =
    let sats = c.next_told.new.sats in
    let base = c.next_told.ensures.base in
    let scene : Scene = record { world = c.delete_for_a_while.new.world; code = c.args.scene.now.code } in
    suits_again sats c.args.scene.now scene c.next_told.new.cells base refl c.in_ok-left.ensures.same
    (c.delete_for_a_while.ensures.knows base.knows) (c.delete_for_a_while.ensures.entries sats.kept base.indexes)
