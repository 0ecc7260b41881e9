use Rattle.std.proofs.Common.{◌∙◌}
use Rattle.std.proofs.lemmas.Result.{IfOk-weaker}
use Rattle.hp_plain.proofs.SearchSteps.{moves_over, moves_on, tree_stays}
use Rattle.hp_plain.proofs.search.Search.step.Goals as goal

pub returns-then-self-clause-moves : goal.returns-then-self-clause-moves
returns-then-self-clause-moves c = moves_over c.args.self.now c.requires.search c.if-self.true

pub returns-in_err-next-clause-tree : goal.returns-in_err-next-clause-tree
returns-in_err-next-clause-tree c =
    tree_stays c.args.self.now c.requires.search c.next.new.cells c.in_err-next.ensures.cells c.next.new.self
    c.in_err-next.ensures.node

pub returns-clause-tree : goal.returns-clause-tree
returns-clause-tree c =
    c.take.ensures.tree
    ∙ tree_stays c.args.self.now c.requires.search c.next.new.cells c.in_ok-next.ensures.cells c.next.new.self
    c.in_ok-next.ensures.node

pub returns-clause-moves : goal.returns-clause-moves
returns-clause-moves c =
    let told = c.in_ok-next.ensures in
    IfOk-weaker c.take.result _ _
    (λ o h. moves_on c.args.self.now c.requires.search c.next.new.cells told.cells c.next.new.self told.node
    told.dids told.agenda
    c.if-self.false c.in_ok-next.next told.takes o c.take.new.self h)
    c.take.ensures.taken
