use Rattle.std.proofs.Common.{ap, sym, ◌∙◌, true, Some}
use Rattle.hp_syntax.specs.Matching.{meet}
use Rattle.hp_syntax.specs.Goals.{start_tail}
use Rattle.hp_eval.specs.GoalViews.{term_at}
use Rattle.hp_eval.specs.Slotted.{bindings_of}
use Rattle.hp_eval.proofs.GrowthLemmas.{bindings_stay, below_grows}
use Rattle.hp_eval.proofs.AttemptLemmas.{tries_here, tries_as, list_named}
use Rattle.hp_eval.proofs.starting.start_tail.Goals as goal

pub returns-in-Some-clause-started : goal.returns-in-Some-clause-started
returns-in-Some-clause-started c =
    let old = c.args.cells.now in
    let new = c.ground_list.new.cells in
    let s = c.args.slots.now in
    let list = rw c.in-Some.is at c.in_ok-list.ensures.list in
    tries_as _
    (ap (λ o. start_tail c.args.tail o (bindings_of old s)) list.1
    ∙ (ap (λ t. meet c.args.tail.var t (bindings_of old s)) (sym (list_named new c.in-Some.list list.0))
    ∙ ap (meet c.args.tail.var (term_at new c.in-Some.list))
    (sym (bindings_stay old new c.in_ok-list.ensures.cells s c.requires.slots))))
    c.meet.ensures

pub returns-in-None-clause-started : goal.returns-in-None-clause-started
returns-in-None-clause-started c =
    let old = c.args.cells.now in
    let new = c.ground_list.new.cells in
    let s = c.args.slots.now in
    let none = rw c.in-None.is at c.in_ok-list.ensures.list in
    let grows = c.in_ok-list.ensures.cells in
    tries_here true _ new s (below_grows old new grows s c.requires.slots)
    (ap (λ o. start_tail c.args.tail o (bindings_of old s)) none
    ∙ ap Some (sym (bindings_stay old new grows s c.requires.slots)))

pub meet-requires-clause-slots : goal.meet-requires-clause-slots
meet-requires-clause-slots c =
    below_grows c.args.cells.now c.ground_list.new.cells c.ground_list.ensures.cells c.args.slots.now c.requires.slots

pub returns-in_err-list-clause-cells : goal.returns-in_err-list-clause-cells
returns-in_err-list-clause-cells c = c.ground_list.ensures.cells

pub returns-in-Some-clause-cells : goal.returns-in-Some-clause-cells
returns-in-Some-clause-cells c = c.ground_list.ensures.cells

pub returns-in-None-clause-cells : goal.returns-in-None-clause-cells
returns-in-None-clause-cells c = c.ground_list.ensures.cells
