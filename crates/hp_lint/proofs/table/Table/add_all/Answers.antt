use Rattle.hp_lint.proofs.TableLemmas.{learn_more}
use Rattle.hp_lint.proofs.table.Table.add_all.Goals as goal

pub loop-atom-preserved : goal.loop-atom-preserved
loop-atom-preserved c =
    learn_more c.args.atoms.now c.loop-atom.atom-index c.atom-item.result c.args.self.now c.loop-atom.self c.add.new.self
    c.loop-atom-test.true
    c.atom-item.is c.loop-atom.invariant c.in_ok-add.ensures
