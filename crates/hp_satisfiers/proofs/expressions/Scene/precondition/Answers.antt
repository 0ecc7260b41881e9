use Rattle.std.proofs.Common.{length, ◌∙◌, ap, sym, subst}
use Rattle.std.proofs.lemmas.Result.{IfOk-weaker}
use Rattle.hp_syntax.specs.Events.{sat}
use Rattle.hp_syntax.specs.Preconditions.{up_to_sat, keyed, sorted_events}
use Rattle.hp_syntax.specs.Views.{key_of, expression_of}
use Rattle.hp_eval.specs.Slotted.{bindings_of}
use Rattle.hp_answers.specs.AnswerViews.{Hears, AllFit}
use Rattle.hp_satisfiers.specs.Scenes.{axioms_in, state_in}
use Rattle.hp_answers.proofs.AnswerLemmas.{finds_same, finds_vars}
use Rattle.hp_satisfiers.proofs.PreconditionSteps.{plain_events, first_events, ordered_events}
use Rattle.hp_eval.proofs.GrowthLemmas.{grows_on}
use Rattle.hp_satisfiers.proofs.expressions.Scene.precondition.Goals as goal

pub returns-in_ok-events-in-Plain-clause-finds : goal.returns-in_ok-events-in-Plain-clause-finds
returns-in_ok-events-in-Plain-clause-finds c =
    let scene = c.args.self.now in
    let state = state_in c.args.cells.now scene in
    let e = bindings_of c.args.cells.now c.args.slots.now in
    let new = c.events.new.cells in
    let vars = length c.args.slots.now.values in
    let found = c.in_ok-events-in-Plain.field-0.items in
    let events = sat (axioms_in scene) c.args.nest state (expression_of c.in-Plain.expr) e in
    let met : Hears new vars found events =
    record { stand = c.in_ok-events-in-Plain.ensures.found; fit = c.in_ok-events-in-Plain.ensures.fit } in
    finds_same new vars c.heard.result.items _ _
    (plain_events (axioms_in scene) c.args.nest state c.args.pre.now e c.in-Plain.expr c.in-Plain.is)
    (c.heard.ensures new vars events met)

pub returns-in_ok-found-in-First-clause-finds : goal.returns-in_ok-found-in-First-clause-finds
returns-in_ok-found-in-First-clause-finds c =
    let scene = c.args.self.now in
    let state = state_in c.args.cells.now scene in
    let e = bindings_of c.args.cells.now c.args.slots.now in
    let new = c.first.new.cells in
    let vars = length c.args.slots.now.values in
    let same =
    ap up_to_sat c.in_ok-found-in-First.ensures.found
    ∙ first_events (axioms_in scene) c.args.nest state c.args.pre.now e c.in-First.expr c.in-First.is in
    IfOk-weaker c.first.result _ _
    (λ v h. finds_same new vars v.items _ _ same (finds_vars new c.vars.result vars v.items _ c.vars.ensures.vars h))
    c.first.ensures.finds

pub returns-in_ok-found-in-Sorted-clause-finds : goal.returns-in_ok-found-in-Sorted-clause-finds
returns-in_ok-found-in-Sorted-clause-finds c =
    let scene = c.args.self.now in
    let state = state_in c.args.cells.now scene in
    let e = bindings_of c.args.cells.now c.args.slots.now in
    let new = c.sorted.new.cells in
    let vars = length c.args.slots.now.values in
    let k = key_of c.in-Sorted.key in
    let same =
    ap (λ xs. sorted_events k.order (keyed k xs)) c.in_ok-found-in-Sorted.ensures.found
    ∙ ordered_events (axioms_in scene) c.args.nest state c.args.pre.now e c.in-Sorted.key c.in-Sorted.expr
    c.in-Sorted.is in
    IfOk-weaker c.sorted.result _ _
    (λ v h.
    finds_same new vars v.items _ _ same
    (finds_vars new c.vars-in-Sorted.result vars v.items _ c.vars-in-Sorted.ensures.vars h))
    c.sorted.ensures.finds

pub returns-in_ok-found-in-First-clause-cells : goal.returns-in_ok-found-in-First-clause-cells
returns-in_ok-found-in-First-clause-cells c =
    let mid = c.in_ok-found-in-First.ensures.cells in
    grows_on c.args.cells.now _ c.first.new.cells mid c.first.ensures.cells

pub returns-in_ok-found-in-Sorted-clause-cells : goal.returns-in_ok-found-in-Sorted-clause-cells
returns-in_ok-found-in-Sorted-clause-cells c =
    let mid = c.in_ok-found-in-Sorted.ensures.cells in
    grows_on c.args.cells.now _ c.sorted.new.cells mid c.sorted.ensures.cells

pub first-requires-clause-fit : goal.first-requires-clause-fit
first-requires-clause-fit c =
    let n = length c.events-in-First.new.cells in
    subst (λ m. AllFit m n c.in_ok-found-in-First.found.items) (sym c.vars.ensures.vars)
    c.in_ok-found-in-First.ensures.fit

pub sorted-requires-clause-fit : goal.sorted-requires-clause-fit
sorted-requires-clause-fit c =
    let n = length c.events-in-Sorted.new.cells in
    subst (λ m. AllFit m n c.in_ok-found-in-Sorted.found.items) (sym c.vars-in-Sorted.ensures.vars)
    c.in_ok-found-in-Sorted.ensures.fit
