use Rattle.std.proofs.Common.{sym}
use Rattle.hp_syntax.specs.Checks.{clause_faults}
use Rattle.hp_syntax.specs.Views.{clause_of}
use Rattle.hp_check.proofs.FaultLemmas.{earlier-none, seen_more, seen_all}
use Rattle.hp_check.proofs.rules.clauses.Goals as goal

pub loop-part-init : goal.loop-part-init
loop-part-init c = sym (earlier-none c.args.watch.now.first)

pub loop-part-preserved : goal.loop-part-preserved
loop-part-preserved c =
    seen_more clause_faults clause_of _ _ _ _ _ _ c.loop-part-test.true c.part-item.is
    c.loop-part.invariant c.clause.ensures

pub returns : goal.returns
returns c =
    seen_all clause_faults clause_of c.args.list.now c.loop-part.part-index _ _ c.loop-part-test.false
    c.loop-part.invariant
