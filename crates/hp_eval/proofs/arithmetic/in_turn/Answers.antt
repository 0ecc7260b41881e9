use Rattle.std.proofs.Common.{ap, sym, ◌∙◌, pos, to_z, of_z, FitsSigned, drop, get_or, ◌+◌, Err, rules}
use Rattle.std.specs.Int.{w64}
use Rattle.std.proofs.lemmas.Int.{to_z-of_z}
use Rattle.std.proofs.lemmas.Result.{err_from_is_err_and}
use Rattle.hp_syntax.specs.Calls as plain
use Rattle.hp_eval.specs.CallRows.{step_of, as_number}
use Rattle.hp_eval.proofs.CallRowLemmas.{turned_on, turned_off}
use Rattle.hp_eval.proofs.arithmetic.in_turn.Goals as goal

pub loop-n-preserved : goal.loop-n-preserved
loop-n-preserved c =
    let f = step_of c.args.function in
    let n = get_or c.args.rest.now c.loop-n.n-index (pos 0) in
    let n-fits : FitsSigned w64 n = search rules in
    let total-fits : FitsSigned w64 c.in_ok-total.total = search rules in
    c.loop-n.invariant
    ∙ (turned_on f c.args.span c.args.rest.now c.loop-n.n-index (to_z w64 c.loop-n.total-bits) (to_z w64 (of_z w64 n))
    c.loop-n-test.true (to_z-of_z w64 n n-fits) c.in_ok-total.total (c.in_ok-total.ensures _ c.checked_step.ensures)
    ∙ ap (λ t. plain.in_turn f c.args.span t (drop (c.loop-n.n-index + 1) c.args.rest.now))
    (sym (to_z-of_z w64 c.in_ok-total.total total-fits)))

pub returns-in_err-total : goal.returns-in_err-total
returns-in_err-total c =
    let f = step_of c.args.function in
    let n = get_or c.args.rest.now c.loop-n.n-index (pos 0) in
    let n-fits : FitsSigned w64 n = search rules in
    let p = err_from_is_err_and c.from_residual.result c.from_residual.ensures.1 in
    ap as_number p.1
    ∙ (ap (λ e. as_number (Err e)) p.2
    ∙ (turned_off f c.args.span c.args.rest.now c.loop-n.n-index (to_z w64 c.loop-n.total-bits) (to_z w64 (of_z w64 n))
    c.loop-n-test.true (to_z-of_z w64 n n-fits) c.in_err-total.field-0.0
    (c.in_err-total.ensures _ c.checked_step.ensures)
    ∙ (sym c.loop-n.invariant
    ∙ ap (λ m. plain.in_turn f c.args.span m c.args.rest.now) (to_z-of_z w64 c.args.first c.ranges.first))))
