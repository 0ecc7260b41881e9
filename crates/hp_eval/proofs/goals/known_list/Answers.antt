use Rattle.std.proofs.Common.{Ok, sym, ◌∙◌, ap}
use Rattle.std.proofs.lemmas.Option.{slice_get_within}
use Rattle.std.proofs.lemmas.Result.{err_from_is_err_and}
use Rattle.hp_syntax.specs.Goals as plain
use Rattle.hp_syntax.specs.Values.{on_ok}
use Rattle.hp_eval.specs.FillSteps.{parts_at}
use Rattle.hp_eval.proofs.CellViews.{at_named, names_parts}
use Rattle.hp_eval.proofs.GoalViewLemmas.{filled_of-known, known_below}
use Rattle.hp_eval.proofs.FillStepLemmas.{list_known}
use Rattle.hp_eval.proofs.goals.known_list.Goals as goal

pub returns-in_err-within_depth-clause-gives : goal.returns-in_err-within_depth-clause-gives
returns-in_err-within_depth-clause-gives c =
    let r = c.from_residual-in_err-within_depth in
    let p = err_from_is_err_and r.result r.ensures.1 in
    let terms = c.cons_parts.new.cells in
    let made = c.in_ok-list.ensures in
    rw (p.1, p.2) (list_known terms c.args.span _ c.in_ok-list.list made.joined
    ∙ ap (λ r. on_ok r (λ t. Ok (plain.Known t)))
    (c.in_err-within_depth.ensures (parts_at terms c.in_ok-list.list) (names_parts terms c.in_ok-list.list made.names)))

pub returns-clause-gives : goal.returns-clause-gives
returns-clause-gives c =
    let terms = c.cons_parts.new.cells in
    let made = c.in_ok-list.ensures in
    let cell = c.in_ok-within_depth.field-0 in
    let w =
    c.in_ok-within_depth.ensures (parts_at terms c.in_ok-list.list)
    (names_parts terms c.in_ok-list.list made.names) in
    list_known terms c.args.span _ c.in_ok-list.list made.joined
    ∙ (ap (λ r. on_ok r (λ t. Ok (plain.Known t))) w.1
    ∙ (ap (λ t. Ok (plain.Known t)) (sym (at_named terms cell w.0 w.2)) ∙ ap Ok (sym (filled_of-known terms cell))))

pub returns-clause-below : goal.returns-clause-below
returns-clause-below c =
    let terms = c.cons_parts.new.cells in
    let w =
    c.in_ok-within_depth.ensures (parts_at terms c.in_ok-list.list)
    (names_parts terms c.in_ok-list.list c.in_ok-list.ensures.names) in
    known_below _ c.in_ok-within_depth.field-0 (slice_get_within terms c.in_ok-within_depth.field-0 w.0 w.2)

pub returns-in_err-list-clause-cells : goal.returns-in_err-list-clause-cells
returns-in_err-list-clause-cells c = c.cons_parts.ensures.cells

pub returns-in_err-within_depth-clause-cells : goal.returns-in_err-within_depth-clause-cells
returns-in_err-within_depth-clause-cells c = c.cons_parts.ensures.cells

pub returns-clause-cells : goal.returns-clause-cells
returns-clause-cells c = c.cons_parts.ensures.cells
