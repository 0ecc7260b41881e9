use Rattle.std.proofs.Common.{sym, ◌∙◌}
use Rattle.hp_links.specs.Frames.{frame_in}
use Rattle.hp_links.proofs.HeldLemmas.{first_held}
use Rattle.hp_links.proofs.links.Links.front_below.Goals as goal

pub loop-next-preserved : goal.loop-next-preserved
loop-next-preserved c =
    let next = first_held (frame_in c.args.self.now) c.loop-next.front c.in-Some.next c.loop-next.invariant.held
    (sym c.in-Some.ensures) in
    record { held = next.0; front = sym next.2 ∙ c.loop-next.invariant.front }
