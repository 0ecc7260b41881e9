use Rattle.hp_world.proofs.PartAtLemmas.{has_both, one_key, key_by_name}
use Rattle.hp_world.proofs.world.has_parts.Goals as goal

pub returns-then-is_cell : goal.returns-then-is_cell
returns-then-is_cell c = λ places i stands.
    let both =
    has_both c.args.cells.now c.key_of.ensures.cells c.args.name c.args.part c.args.argument c.args.atom c.key_of.result
    c.key_of-then-is_cell.result places i c.requires stands c.key_of.ensures.key c.key_of-then-is_cell.ensures.key in (
      λ e. both.0 (c.is_cell.ensures.0 c.if-is_cell.true, c.is_cell-then-is_cell.ensures.0 e),
      λ k. c.is_cell-then-is_cell.ensures.1 (both.1 k).1,
    )

pub returns-else-is_cell : goal.returns-else-is_cell
returns-else-is_cell c = λ places i stands. (
  λ e. absurd (cc),
  λ k.
      c.is_cell.ensures.1
      (one_key c.args.cells.now c.key_of.ensures.cells 0 c.args.atom c.key_of.result c.args.name c.requires
      c.key_of.ensures.key (key_by_name c.args.cells.now c.key_of.ensures.cells c.args.name c.args.atom places i
      stands k.named)),
)
