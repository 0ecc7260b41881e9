use Rattle.std.proofs.Common.{length, sym, ◌∙◌, ap, subst}
use Rattle.std.proofs.lemmas.Result.{IfOk-weaker}
use Rattle.hp_syntax.specs.Preconditions.{heard, keyed, sorted_events}
use Rattle.hp_syntax.specs.Views.{key_of}
use Rattle.hp_answers.specs.AnswerViews.{Finds, answer_events, AllFit}
use Rattle.hp_answers.proofs.AnswerLemmas.{finds_same}
use Rattle.hp_satisfiers.proofs.PreconditionSteps.{new_vars, sorted_heard_whole}
use Rattle.hp_eval.proofs.GrowthLemmas.{grows_self}
use Rattle.hp_eval.specs.Slotted.{no_bindings}
use Rattle.hp_satisfiers.proofs.preconditions.sorted.Goals as goal

pub returns-clause-finds : goal.returns-clause-finds
returns-clause-finds c =
    let cells = c.args.cells.now in
    let slots = c.in_ok-slots.slots in
    let k = key_of c.args.key.now in
    let copy = key_of c.in_ok-copy.field-0 in
    let xs = heard (answer_events cells c.args.found.items) in
    let vars = new_vars c.in_ok-slots.slots c.args.vars c.in_ok-slots.ensures in
    let rest =
    ap heard (c.new-sats.ensures.rest tt cells slots
    ∙ (ap (λ ys. sorted_events copy.order (keyed copy ys)) (c.new-listed.ensures.rest cells slots)
    ∙ ap (λ x. sorted_events x.order (keyed x xs)) c.in_ok-copy.ensures.same))
    ∙ sorted_heard_whole k.order (keyed k xs) in
    IfOk-weaker c.drained.result _ _
    (λ v h.
    subst (λ n. Finds c.drained.new.cells n v.items (sorted_events k.order (keyed k xs))) vars
    (finds_same c.drained.new.cells (length slots.values) v.items _ _ rest h))
    c.drained.ensures.finds

pub returns-in_err-slots-clause-cells : goal.returns-in_err-slots-clause-cells
returns-in_err-slots-clause-cells c = grows_self c.args.cells.now

pub returns-in_err-copy-clause-cells : goal.returns-in_err-copy-clause-cells
returns-in_err-copy-clause-cells c = grows_self c.args.cells.now

pub new-listed-requires-clause-fit : goal.new-listed-requires-clause-fit
new-listed-requires-clause-fit c =
    let vars = new_vars c.in_ok-slots.slots c.args.vars c.in_ok-slots.ensures in
    subst (λ n. AllFit n (length c.args.cells.now) c.args.found.items) (sym vars) c.requires.fit

pub new-listed-requires-clause-blank : goal.new-listed-requires-clause-blank
new-listed-requires-clause-blank c =
    let vars = new_vars c.in_ok-slots.slots c.args.vars c.in_ok-slots.ensures in
    c.in_ok-slots.ensures ∙ ap no_bindings (sym vars)

pub returns-clause-cells : goal.returns-clause-cells
returns-clause-cells c = c.drained.ensures.cells
