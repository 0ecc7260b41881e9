use Rattle.std.proofs.Common.{Ok, None, Some, sym, ◌∙◌, ap, subst}
use Rattle.hp_syntax.specs.Goals.{all_known, list_filled, ground_parts}
use Rattle.hp_eval.specs.GoalViews.{fillings_of}
use Rattle.hp_eval.specs.FillSteps.{joined, before_rest, parts_at, rest_of, ground_depth, RestBelow}
use Rattle.hp_eval.proofs.GoalViewLemmas.{filled_of-list, list_below}
use Rattle.hp_eval.proofs.FillStepLemmas.{depth_known, list_free, list_open}
use Rattle.hp_eval.proofs.GrowthLemmas.{grows_self}
use Rattle.hp_eval.proofs.goals.fill_list.Goals as goal

pub known_list-requires-clause-known : goal.known_list-requires-clause-known
known_list-requires-clause-known c =
    depth_known (fillings_of c.args.cells.now c.args.parts.items) c.in-Some.field-0
    (sym (c.in-Some.ensures ∙ ap (λ fs. ground_depth (fillings_of c.args.cells.now fs)) c.as_slice.ensures.value))

pub returns-in-Free-clause-gives : goal.returns-in-Free-clause-gives
returns-in-Free-clause-gives c =
    let terms = c.args.cells.now in
    let fs = fillings_of terms c.args.parts.items in
    ap (λ r. list_filled c.args.span (before_rest fs (rest_of terms r))
    (ground_parts (joined fs (rest_of terms r).0) (rest_of terms r).1)) c.in-Free.is
    ∙ (list_free c.args.span fs c.in-Free.v ∙ ap Ok (sym (filled_of-list terms c.args.parts (Some c.in-Free.v))))

pub returns-in-Free-clause-below : goal.returns-in-Free-clause-below
returns-in-Free-clause-below c = list_below _ c.args.parts (Some c.in-Free.v) c.requires.parts

pub returns-in_ok-append_list-in-None-clause-gives : goal.returns-in_ok-append_list-in-None-clause-gives
returns-in_ok-append_list-in-None-clause-gives c =
    let terms = c.args.cells.now in
    let fs = fillings_of terms c.args.parts.items in
    let parts = c.append_list.new.parts in
    ap (λ r. list_filled c.args.span (before_rest fs (rest_of terms r))
    (ground_parts (joined fs (rest_of terms r).0) (rest_of terms r).1)) c.in-Listed.is
    ∙ (list_open c.args.span fs (all_known (parts_at terms c.in-Listed.list)) (fillings_of terms parts.items)
    (sym (c.in-None.ensures ∙ ap (λ fs. ground_depth (fillings_of terms fs)) c.as_slice.ensures.value))
    c.in_ok-append_list-in-None.ensures.joined
    ∙ ap Ok (sym (filled_of-list terms parts None)))

pub returns-in_ok-append_list-in-None-clause-below : goal.returns-in_ok-append_list-in-None-clause-below
returns-in_ok-append_list-in-None-clause-below c =
    list_below _ c.append_list.new.parts None c.in_ok-append_list-in-None.ensures.below

pub known_list-requires-clause-list : goal.known_list-requires-clause-list
known_list-requires-clause-list c = subst (RestBelow c.args.cells.now) c.in-Listed.is c.requires.rest

pub append_list-requires-clause-list : goal.append_list-requires-clause-list
append_list-requires-clause-list c = subst (RestBelow c.args.cells.now) c.in-Listed.is c.requires.rest

pub returns-in-Free-clause-cells : goal.returns-in-Free-clause-cells
returns-in-Free-clause-cells c = grows_self c.args.cells.now

pub returns-in-Some-clause-below : goal.returns-in-Some-clause-below
returns-in-Some-clause-below c = c.known_list.ensures.below

pub returns-in-Some-clause-cells : goal.returns-in-Some-clause-cells
returns-in-Some-clause-cells c = c.known_list.ensures.cells

pub returns-in_err-append_list-in-None-clause-cells : goal.returns-in_err-append_list-in-None-clause-cells
returns-in_err-append_list-in-None-clause-cells c = grows_self c.args.cells.now

pub returns-in_ok-append_list-in-None-clause-cells : goal.returns-in_ok-append_list-in-None-clause-cells
returns-in_ok-append_list-in-None-clause-cells c = grows_self c.args.cells.now
