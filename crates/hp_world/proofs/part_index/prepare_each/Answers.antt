use Rattle.std.proofs.Common.{refl, arith}
use Rattle.hp_world.specs.Keyed.{Keyed, IsAsRoomy, Awaits}
use Rattle.hp_world.proofs.ZipLemmas.{changed_more, changed_so_far, all_set}
use Rattle.hp_world.proofs.part_index.prepare_each.Goals as goal

itself : (p : Keyed) → IsAsRoomy p p
itself p = record { part = refl; atoms = refl; entries = refl; keys = omega arith; room = omega arith }

pub returns-in_err-prepare-clause-same : goal.returns-in_err-prepare-clause-same
returns-in_err-prepare-clause-same c =
    changed_so_far IsAsRoomy itself c.args.indexes.now _ _
    (changed_more IsAsRoomy c.args.indexes.now c.loop-number.indexes c.loop-number.number
    c.index-indexes-number.result c.prepare.new.self (omega arith) c.prepare.ensures.same
    c.loop-number.invariant.same)

pub loop-number-preserved : goal.loop-number-preserved
loop-number-preserved c = record {
  same =
      changed_more IsAsRoomy c.args.indexes.now c.loop-number.indexes c.loop-number.number
      c.index-indexes-number.result c.prepare.new.self (omega arith) c.prepare.ensures.same
      c.loop-number.invariant.same;
  awaits =
      all_set (Awaits c.args.cells.now c.args.atoms.now) c.loop-number.indexes c.loop-number.number c.prepare.new.self
      (omega arith) c.loop-number.invariant.awaits c.in_ok-prepare.ensures.awaits;
}
