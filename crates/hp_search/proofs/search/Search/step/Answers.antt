use Rattle.std.proofs.Common.{◌∙◌}
use Rattle.std.proofs.lemmas.Result.{IfOk-weaker}
use Rattle.hp_search.proofs.CellSteps.{over_cells, taken_cells}
use Rattle.hp_search.proofs.FrameLevels.{base_alike}
use Rattle.hp_search.proofs.SearchSteps.{Leaves, gives_back, gives_back_over, last_now, moves_on, moves_over, of_each, on_err}
use Rattle.hp_search.proofs.SearchSteps.{tree_is}
use Rattle.hp_search.proofs.search.Search.step.Goals as goal

pub returns-then-self-clause-moves : goal.returns-then-self-clause-moves
returns-then-self-clause-moves c =
    moves_over c.args.self.now c.requires.search c.if-self.true c.rest.new.self c.rest.ensures

pub returns-then-self-clause-tree : goal.returns-then-self-clause-tree
returns-then-self-clause-tree c =
    (moves_over c.args.self.now c.requires.search c.if-self.true c.rest.new.self c.rest.ensures).tree

pub returns-then-self-clause-base : goal.returns-then-self-clause-base
returns-then-self-clause-base c =
    (moves_over c.args.self.now c.requires.search c.if-self.true c.rest.new.self c.rest.ensures).base

pub returns-then-self-clause-given_back : goal.returns-then-self-clause-given_back
returns-then-self-clause-given_back c = gives_back_over c.args.self.now c.requires.search c.rest.new.self c.rest.ensures

pub returns-in_err-next-clause-base : goal.returns-in_err-next-clause-base
returns-in_err-next-clause-base c =
    base_alike c.next.new.self c.args.self.now.top c.args.self.now.above.items c.in_err-next.ensures.base

pub returns-clause-given_back : goal.returns-clause-given_back
returns-clause-given_back c =
    let s = c.args.self.now in
    let told = c.in_ok-next.ensures in
    let leaves : Leaves s c.next.new.site c.next.new.cells c.next.new.self =
    record { grows = told.cells; keeps = told.keeps; mark = told.mark } in
    IfOk-weaker c.take.result _ _
    (λ o h. gives_back s c.requires.search c.next.new.site c.next.new.cells c.next.new.self leaves told.base
    c.in_ok-next.next o c.take.new.self h)
    c.take.ensures.taken

pub returns-clause-base : goal.returns-clause-base
returns-clause-base c =
    let s = c.args.self.now in
    let told = c.in_ok-next.ensures in
    let leaves : Leaves s c.next.new.site c.next.new.cells c.next.new.self =
    record { grows = told.cells; keeps = told.keeps; mark = told.mark } in
    of_each c.take.result
    (IfOk-weaker c.take.result _ _
    (λ o h. (moves_on s c.requires.search c.if-self.false c.next.new.site c.next.new.cells c.next.new.self leaves
    c.in_ok-next.next
    (record {
      good = told.site;
      base = told.base;
      dids = told.dids;
      takes = told.takes;
      agenda = told.agenda;
      floor = told.floor;
      stays = told.stays;
      last = told.last (last_now s c.requires.search);
    })
    o c.take.new.self h).base)
    c.take.ensures.taken)
    (on_err c.take.result (λ e. e ∙ base_alike c.next.new.self s.top s.above.items told.base) c.take.ensures.base)

pub returns-in_err-next-clause-tree : goal.returns-in_err-next-clause-tree
returns-in_err-next-clause-tree c =
    let s = c.args.self.now in
    let told = c.in_err-next.ensures in
    tree_is s c.requires.search c.next.new.site c.next.new.cells c.next.new.self
    (record { grows = told.cells; keeps = told.keeps; mark = told.mark }) s.at_did s.over

pub returns-clause-moves : goal.returns-clause-moves
returns-clause-moves c =
    let s = c.args.self.now in
    let told = c.in_ok-next.ensures in
    let leaves : Leaves s c.next.new.site c.next.new.cells c.next.new.self =
    record { grows = told.cells; keeps = told.keeps; mark = told.mark } in
    IfOk-weaker c.take.result _ _
    (λ o h. moves_on s c.requires.search c.if-self.false c.next.new.site c.next.new.cells c.next.new.self leaves
    c.in_ok-next.next
    (record {
      good = told.site;
      base = told.base;
      dids = told.dids;
      takes = told.takes;
      agenda = told.agenda;
      floor = told.floor;
      stays = told.stays;
      last = told.last (last_now s c.requires.search);
    })
    o c.take.new.self h)
    c.take.ensures.taken

pub returns-clause-tree : goal.returns-clause-tree
returns-clause-tree c =
    let s = c.args.self.now in
    let told = c.in_ok-next.ensures in
    let leaves : Leaves s c.next.new.site c.next.new.cells c.next.new.self =
    record { grows = told.cells; keeps = told.keeps; mark = told.mark } in
    of_each c.take.result
    (IfOk-weaker c.take.result _ _
    (λ o h. (moves_on s c.requires.search c.if-self.false c.next.new.site c.next.new.cells c.next.new.self leaves
    c.in_ok-next.next
    (record {
      good = told.site;
      base = told.base;
      dids = told.dids;
      takes = told.takes;
      agenda = told.agenda;
      floor = told.floor;
      stays = told.stays;
      last = told.last (last_now s c.requires.search);
    })
    o c.take.new.self h).tree)
    c.take.ensures.taken)
    (on_err c.take.result
    (λ e. e ∙ tree_is s c.requires.search c.next.new.site c.next.new.cells c.next.new.self leaves s.at_did s.over)
    c.take.ensures.tree)

pub returns-then-self-clause-cells : goal.returns-then-self-clause-cells
returns-then-self-clause-cells c = over_cells c.args.self.now c.rest.new.self c.rest.ensures

pub returns-clause-cells : goal.returns-clause-cells
returns-clause-cells c =
    let s = c.args.self.now in
    let told = c.in_ok-next.ensures in
    IfOk-weaker c.take.result _ _
    (λ o h. taken_cells s c.next.new.site c.next.new.cells c.next.new.self told.cells told.base
    c.requires.search.top.base c.in_ok-next.next told.floor o c.take.new.self h)
    c.take.ensures.taken
