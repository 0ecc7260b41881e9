use Rattle.std.proofs.Common.{sym, ◌∙◌, ap, map, ℤ, Vec}
use Rattle.std.specs.Global.{Global}
use Rattle.std.proofs.lemmas.Result.{err_from_is_err_and}
use Rattle.hp_syntax.specs.Calls as plain
use Rattle.hp_eval.specs.CallRows.{answer_term, table_row, all_numbers}
use Rattle.hp_eval.specs.GoalViews.{term_at, row_of}
use Rattle.hp_eval.proofs.CallRowLemmas.{numbers_fault, numbers_called_are}
use Rattle.hp_eval.proofs.Stops.{stops_too, stop_by, gives_stop_by}
use Rattle.hp_eval.proofs.calls.answer_of.Goals as goal

pub returns-in_err-numbers-in-OfNumbers : goal.returns-in_err-numbers-in-OfNumbers
returns-in_err-numbers-in-OfNumbers c =
    let p = err_from_is_err_and c.from_residual.result c.from_residual.ensures.1 in
    let ts = row_of (map (term_at c.args.cells.now) c.args.args.now) in
    let s = c.args.span in
    let stop = c.in_err-numbers-in-OfNumbers.field-0.0 in
    rw (p.1, p.2)
    (gives_stop_by answer_term stop (plain.called (table_row c.args.row) ts s)
    (stops_too stop (all_numbers s (plain.numbers ts)) (plain.called (table_row c.args.row) ts s)
    (λ f h. ap (λ r. plain.called (table_row r) ts s) c.in-OfNumbers.is ∙ numbers_fault c.in-OfNumbers.function ts s f
    h)
    (stop_by (λ (v : Vec ℤ Global). v.items) stop (all_numbers s (plain.numbers ts))
    c.in_err-numbers-in-OfNumbers.ensures)))

pub returns-in_err-answer-in-OfNumbers : goal.returns-in_err-answer-in-OfNumbers
returns-in_err-answer-in-OfNumbers c =
    let r = c.from_residual-in_err-answer-in-OfNumbers in
    let p = err_from_is_err_and r.result r.ensures.1 in
    let ts = row_of (map (term_at c.args.cells.now) c.args.args.now) in
    let s = c.args.span in
    rw (p.1, p.2)
    (ap (λ r. plain.called (table_row r) ts s) c.in-OfNumbers.is
    ∙ numbers_called_are c.in-OfNumbers.function ts s c.in_ok-numbers-in-OfNumbers.numbers.items c.as_slice.result.now
    c.as_slice.ensures.value c.in_ok-numbers-in-OfNumbers.ensures ∙ sym c.in_err-answer-in-OfNumbers.ensures)

pub returns-in_ok-answer-in-OfNumbers : goal.returns-in_ok-answer-in-OfNumbers
returns-in_ok-answer-in-OfNumbers c =
    let ts = row_of (map (term_at c.args.cells.now) c.args.args.now) in
    let s = c.args.span in
    ap (λ r. plain.called (table_row r) ts s) c.in-OfNumbers.is
    ∙ numbers_called_are c.in-OfNumbers.function ts s c.in_ok-numbers-in-OfNumbers.numbers.items c.as_slice.result.now
    c.as_slice.ensures.value c.in_ok-numbers-in-OfNumbers.ensures ∙ sym c.in_ok-answer-in-OfNumbers.ensures
