use Rattle.std.proofs.Common.{sym}
use Rattle.hp_syntax.specs.Checks.{branch_faults}
use Rattle.hp_syntax.specs.Views.{branch_of}
use Rattle.hp_check.proofs.FaultLemmas.{earlier-none, seen_more, seen_all}
use Rattle.hp_check.proofs.rules.branches.Goals as goal

pub loop-part-init : goal.loop-part-init
loop-part-init c = sym (earlier-none c.args.watch.now.first)

pub loop-part-preserved : goal.loop-part-preserved
loop-part-preserved c =
    seen_more branch_faults branch_of _ _ _ _ _ _ c.loop-part-test.true c.part-item.is
    c.loop-part.invariant c.branch-watch.ensures

pub returns : goal.returns
returns c =
    seen_all branch_faults branch_of c.args.list.now c.loop-part.part-index _ _ c.loop-part-test.false
    c.loop-part.invariant
