use Rattle.std.proofs.Common.{length, subst, sym}
use Rattle.hp_world.specs.Stages.{AllBelow}
use Rattle.hp_obstacles.proofs.next.next_tasks.Goals as goal

pub to_grounds-requires : goal.to_grounds-requires
to_grounds-requires c =
    let cells = c.as_slice.result.now in
    subst (λ ts. AllBelow (length ts) cells) (sym c.cells.ensures)
    (subst (AllBelow (length c.args.walk.now.terms)) (sym c.as_slice.ensures.value)
    (c.in_ok-cells.ensures.below (length c.args.walk.now.terms) c.net.ensures.below))
