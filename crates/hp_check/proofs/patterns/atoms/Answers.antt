use Rattle.std.proofs.Common.{sym}
use Rattle.hp_syntax.specs.Checks.{atom_faults}
use Rattle.hp_syntax.specs.Views.{atom_of}
use Rattle.hp_check.specs.Places.{place_of}
use Rattle.hp_check.proofs.FaultLemmas.{earlier-none, seen_more, seen_all}
use Rattle.hp_check.proofs.patterns.atoms.Goals as goal

pub loop-part-init : goal.loop-part-init
loop-part-init c = sym (earlier-none c.args.watch.now.first)

pub loop-part-preserved : goal.loop-part-preserved
loop-part-preserved c =
    seen_more (atom_faults (place_of c.args.place)) atom_of _ _ _ _ _ _ c.loop-part-test.true c.part-item.is
    c.loop-part.invariant c.atom.ensures

pub returns : goal.returns
returns c =
    seen_all (atom_faults (place_of c.args.place)) atom_of c.args.list.now c.loop-part.part-index _ _
    c.loop-part-test.false c.loop-part.invariant
