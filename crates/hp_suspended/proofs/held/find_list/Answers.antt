use Rattle.std.proofs.Common.{◌≡◌, ◌<◌, ◌+◌, ◌-◌, drop, length, subst, arith}
use Rattle.hp_syntax.specs.Views.{patterns_of}
use Rattle.hp_eval.specs.Slotted.{bindings_of}
use Rattle.hp_suspended.specs.HeldAtoms.{IsListOf}
use Rattle.hp_suspended.proofs.HeldCells.{list_more, list_none}
use Rattle.hp_suspended.proofs.held.find_list.Goals as goal

pub loop-left-init : goal.loop-left-init
loop-left-init c = record {
  within = omega arith;
  names = list_none c.args.cells.now (bindings_of c.args.cells.now c.args.slots.now) c.args.parts.now c.nil.result
      c.nil.ensures.names;
}

pub loop-left-preserved : goal.loop-left-preserved
loop-left-preserved c =
    let terms = c.args.cells.now in
    let e = bindings_of terms c.args.slots.now in
    let ps = c.args.parts.now in
    let left = c.loop-left.left in
    let list = c.loop-left.list in
    let some = c.loop-left-test.true in
    let last : left ≡ (left - 1) + 1 = omega (arith, some) in
    let within : left - 1 < length ps = omega (arith, some, c.loop-left.invariant.within) in
    record {
      within = omega (arith, within);
      names = list_more terms e ps (left - 1) c.index-parts-left.result c.in_ok-cell.cell list c.find_longer-list.result within
          c.index-parts-left.is c.in_ok-cell.ensures
          (subst (λ n. IsListOf terms e (patterns_of (drop n ps)) list) last c.loop-left.invariant.names)
          c.find_longer-list.ensures;
    }
