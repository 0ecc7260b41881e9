use Rattle.std.proofs.Common.{length, sym, ◌∙◌, ap, subst}
use Rattle.std.proofs.lemmas.Result.{IfOk-weaker}
use Rattle.hp_syntax.specs.Preconditions.{heard, up_to_sat}
use Rattle.hp_answers.specs.AnswerViews.{Finds, answer_events, AllFit}
use Rattle.hp_answers.proofs.AnswerLemmas.{finds_same}
use Rattle.hp_satisfiers.proofs.PreconditionSteps.{new_vars, first_heard_whole}
use Rattle.hp_eval.proofs.GrowthLemmas.{grows_self}
use Rattle.hp_eval.specs.Slotted.{no_bindings}
use Rattle.hp_satisfiers.proofs.preconditions.first.Goals as goal

pub returns-clause-finds : goal.returns-clause-finds
returns-clause-finds c =
    let cells = c.args.cells.now in
    let slots = c.in_ok-slots.slots in
    let xs = answer_events cells c.args.found.items in
    let vars = new_vars c.in_ok-slots.slots c.args.vars c.in_ok-slots.ensures in
    let rest =
    ap heard (c.new-sats.ensures.rest tt cells slots ∙ ap up_to_sat (c.new-2.ensures.rest cells slots))
    ∙ first_heard_whole xs in
    IfOk-weaker c.drained.result _ _
    (λ v h.
    subst (λ n. Finds c.drained.new.cells n v.items (up_to_sat (heard xs))) vars
    (finds_same c.drained.new.cells (length slots.values) v.items _ _ rest h))
    c.drained.ensures.finds

pub returns-in_err-slots-clause-cells : goal.returns-in_err-slots-clause-cells
returns-in_err-slots-clause-cells c = grows_self c.args.cells.now

pub new-requires-2-clause-fit : goal.new-requires-2-clause-fit
new-requires-2-clause-fit c =
    let vars = new_vars c.in_ok-slots.slots c.args.vars c.in_ok-slots.ensures in
    subst (λ n. AllFit n (length c.args.cells.now) c.args.found.items) (sym vars) c.requires.fit

pub new-requires-2-clause-blank : goal.new-requires-2-clause-blank
new-requires-2-clause-blank c =
    let vars = new_vars c.in_ok-slots.slots c.args.vars c.in_ok-slots.ensures in
    c.in_ok-slots.ensures ∙ ap no_bindings (sym vars)

pub returns-clause-cells : goal.returns-clause-cells
returns-clause-cells c = c.drained.ensures.cells
