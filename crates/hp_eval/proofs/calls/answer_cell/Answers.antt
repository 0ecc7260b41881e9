use Rattle.hp_eval.proofs.GrowthLemmas.{grows_self}
use Rattle.hp_eval.proofs.ListSteps.{intern_grows}
use Rattle.hp_eval.proofs.calls.answer_cell.Goals as goal

pub returns-in-Number-clause-cells : goal.returns-in-Number-clause-cells
returns-in-Number-clause-cells c =
    intern_grows _ c.args.cells.now c.num.new.self c.num.result c.num.ensures.ok c.num.ensures.err

pub returns-in_err-name-in-True-clause-cells : goal.returns-in_err-name-in-True-clause-cells
returns-in_err-name-in-True-clause-cells c = grows_self c.args.cells.now

pub returns-in_ok-name-in-True-clause-cells : goal.returns-in_ok-name-in-True-clause-cells
returns-in_ok-name-in-True-clause-cells c =
    intern_grows _ c.args.cells.now c.sym.new.self c.sym.result c.sym.ensures.ok c.sym.ensures.err

pub returns-in-Nothing-clause-cells : goal.returns-in-Nothing-clause-cells
returns-in-Nothing-clause-cells c = grows_self c.args.cells.now
