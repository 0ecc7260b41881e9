use Rattle.std.proofs.Common.{sym, ◌∙◌, subst, map}
use Rattle.std.proofs.lemmas.Result.{err_from_is_err_and}
use Rattle.hp_eval.specs.CallRows.{answer_term, table_row}
use Rattle.hp_eval.specs.GoalViews.{term_at, row_of}
use Rattle.hp_eval.proofs.CallRowLemmas.{named_call}
use Rattle.hp_eval.proofs.Stops.{StopsAt, stop_by, gives_stop}
use Rattle.hp_eval.proofs.calls.call.Goals as goal

pub returns-in_err-answer-clause-gives : goal.returns-in_err-answer-clause-gives
returns-in_err-answer-clause-gives c =
    let ts = row_of (map (term_at c.args.cells.now) c.args.args.now) in
    let p = err_from_is_err_and c.from_residual.result c.from_residual.ensures.1 in
    let e = c.in_err-answer.field-0.0 in
    let is = named_call c.args.name.now ts c.args.span (table_row c.row_named.result) c.row_named.ensures in
    rw (p.1, p.2)
    (gives_stop e _ c.args.cells.now
    (subst (StopsAt e) is (stop_by answer_term e _ c.in_err-answer.ensures)))

pub returns-clause-gives : goal.returns-clause-gives
returns-clause-gives c =
    let ts = row_of (map (term_at c.args.cells.now) c.args.args.now) in
    let is = named_call c.args.name.now ts c.args.span (table_row c.row_named.result) c.row_named.ensures in
    (answer_term c.in_ok-answer.answer, sym is ∙ c.in_ok-answer.ensures, c.in_ok-cell.ensures.names)
