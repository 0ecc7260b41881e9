use Rattle.std.proofs.Common.{true, ◌∙◌, ap}
use Rattle.hp_world.specs.Recorded.{Recorded}
use Rattle.hp_tree.specs.SearchNodes.{HeldNode}
use Rattle.hp_search.proofs.PathFrames.{mark_within, stage_there}
use Rattle.hp_search.proofs.search.Search.take_world_at.Goals as goal

pub undo_to-requires : goal.undo_to-requires
undo_to-requires c =
    mark_within c.args.self.now true c.requires.search c.args.level c.mark_at-mark.result (c.mark_at-mark.ensures true)

pub returns-clause-stage : goal.returns-clause-stage
returns-clause-stage c = λ live.
    stage_there c.args.self.now live c.requires.search c.args.level c.mark_at-mark.result (c.mark_at-mark.ensures live)
    c.replace.result.now
    (ap (λ (w : Recorded). w.now) c.replace.ensures.value ∙ ap (λ (h : HeldNode). h.stage) c.undo_to.ensures.back)
