use Rattle.std.proofs.lemmas.Result.{IfOk-weaker}
use Rattle.hp_syntax.specs.Values.{value}
use Rattle.hp_syntax.specs.Views.{pattern_of}
use Rattle.hp_eval.specs.Slotted.{bindings_of}
use Rattle.hp_answers.proofs.AnswerLemmas.{finds_same}
use Rattle.hp_satisfiers.proofs.MatchSteps.{tested_given}
use Rattle.std.proofs.lemmas.Option.{slice_get_within}
use Rattle.hp_eval.proofs.GrowthLemmas.{below_grows}
use Rattle.hp_satisfiers.proofs.matches.tested.Goals as goal

pub returns-in-Ok-clause-found : goal.returns-in-Ok-clause-found
returns-in-Ok-clause-found c =
    let old = c.args.cells.now in
    let new = c.value.new.cells in
    let s = c.args.slots.now in
    IfOk-weaker c.truth.result _ _
    (λ v h. finds_same new _ v.items _ _
    (tested_given old new c.value.ensures.cells s c.requires.slots c.in-Ok.cell
    (value (pattern_of c.args.call.now) (bindings_of old s)) c.in-Ok.ensures.gives) h)
    c.truth.ensures

pub truth-requires-clause-cell : goal.truth-requires-clause-cell
truth-requires-clause-cell c =
    let g = c.in-Ok.ensures.gives in slice_get_within c.value.new.cells c.in-Ok.cell g.0 g.2

pub truth-requires-clause-slots : goal.truth-requires-clause-slots
truth-requires-clause-slots c =
    below_grows c.args.cells.now c.value.new.cells c.value.ensures.cells c.args.slots.now c.requires.slots

pub returns-in-Ok-clause-cells : goal.returns-in-Ok-clause-cells
returns-in-Ok-clause-cells c = c.value.ensures.cells

pub returns-in-Err-clause-cells : goal.returns-in-Err-clause-cells
returns-in-Err-clause-cells c = c.value.ensures.cells
