use Rattle.std.proofs.Common.{sym, ◌∙◌}
use Rattle.hp_world.proofs.TrailLemmas.{length_pasts}
use Rattle.hp_links.specs.Undoing.{undone, stage_of}
use Rattle.hp_links.proofs.store.Store.mark.Goals as goal

pub returns : goal.returns
returns c =
    c.len.ensures ∙ c.args.self.now.trail.ok.0
    ∙ sym (length_pasts undone c.args.self.now.trail.items (stage_of c.args.self.now))
