use Rattle.std.proofs.Common.{ap, sym, ◌∙◌, true, Some}
use Rattle.hp_syntax.specs.Syntax.{NoPattern}
use Rattle.hp_syntax.specs.Goals.{start_parts}
use Rattle.hp_eval.specs.GoalViews.{fillings_of}
use Rattle.hp_eval.specs.Slotted.{bindings_of}
use Rattle.hp_eval.specs.Attempts.{extended}
use Rattle.hp_eval.proofs.AttemptLemmas.{tries_here, starts_same}
use Rattle.hp_eval.proofs.StartingSteps.{starts_bare, starts_open, starts_tail}
use Rattle.hp_eval.proofs.starting.start_behind.Goals as goal

pub returns-in-None-default-clause-started : goal.returns-in-None-default-clause-started
returns-in-None-default-clause-started c =
    let terms = c.args.cells.now in
    let e = bindings_of terms c.args.slots.now in
    let fs = fillings_of terms c.args.left.now in
    tries_here c.is_empty.result _ terms c.args.slots.now c.requires.slots
    (ap (λ own. start_parts NoPattern own fs c.args.free e) c.in-None-default.is-0
    ∙ (starts_bare terms c.args.left.now c.args.free e ∙ ap (λ does. extended does e) (sym c.is_empty.ensures)))

pub returns-in-Some-Some-clause-started : goal.returns-in-Some-Some-clause-started
returns-in-Some-Some-clause-started c =
    let terms = c.args.cells.now in
    let e = bindings_of terms c.args.slots.now in
    let fs = fillings_of terms c.args.left.now in
    let arm = c.in-Some-Some in
    tries_here true _ terms c.args.slots.now c.requires.slots
    (ap (λ own. start_parts NoPattern own fs c.args.free e) arm.is-0
    ∙ (ap (λ free. start_parts NoPattern (Some arm.field-0-0) fs free e) arm.is-1
    ∙ starts_open arm.field-0-0 fs arm.field-0-1 e))

pub returns-in-Some-None-clause-started : goal.returns-in-Some-None-clause-started
returns-in-Some-None-clause-started c =
    let terms = c.args.cells.now in
    let e = bindings_of terms c.args.slots.now in
    let fs = fillings_of terms c.args.left.now in
    let arm = c.in-Some-None in
    starts_same c.start_tail.result _ c.start_tail.new.cells c.args.slots.now c.start_tail.new.slots
    (ap (λ own. start_parts NoPattern own fs c.args.free e) arm.is-0
    ∙ (ap (λ free. start_parts NoPattern (Some arm.tail) fs free e) arm.is-1 ∙ starts_tail arm.tail fs e))
    c.start_tail.ensures.started
