use Rattle.std.proofs.Common.{sym, ◌∙◌, ap}
use Rattle.std.proofs.lemmas.Result.{IfOk-weaker}
use Rattle.hp_eval.specs.GoalViews.{filled_of}
use Rattle.hp_eval.proofs.GoalViewLemmas.{filled_of-known, below_cell}
use Rattle.hp_eval.proofs.FillStepLemmas.{consed, interned_parts, cons_grows, free_unknown}
use Rattle.hp_eval.proofs.goals.cons_part.Goals as goal

pub cons-requires-clause-head : goal.cons-requires-clause-head
cons-requires-clause-head c = below_cell _ c.args.part.now c.in-Known.cell c.requires.part c.in-Known.is

pub returns-in-Known-clause-names : goal.returns-in-Known-clause-names
returns-in-Known-clause-names c =
    let old = c.args.cells.now in
    let l = below_cell _ c.args.part.now c.in-Known.cell c.requires.part c.in-Known.is in
    IfOk-weaker c.cons.result _ _
    (λ cell h. (_, (consed old c.cons.new.self c.in-Known.cell c.args.list cell l c.requires.list h).names))
    c.cons.ensures.ok

pub returns-in-Known-clause-parts : goal.returns-in-Known-clause-parts
returns-in-Known-clause-parts c =
    let old = c.args.cells.now in
    let l = below_cell _ c.args.part.now c.in-Known.cell c.requires.part c.in-Known.is in
    IfOk-weaker c.cons.result _ _
    (λ cell h t k. interned_parts old c.cons.new.self c.in-Known.cell c.args.list cell t
    (consed old c.cons.new.self c.in-Known.cell c.args.list cell l c.requires.list h)
    (sym (ap (filled_of old) c.in-Known.is ∙ filled_of-known old c.in-Known.cell) ∙ k))
    c.cons.ensures.ok

pub returns-in-Known-clause-cells : goal.returns-in-Known-clause-cells
returns-in-Known-clause-cells c =
    let l = below_cell _ c.args.part.now c.in-Known.cell c.requires.part c.in-Known.is in
    cons_grows c.args.cells.now c.cons.new.self c.in-Known.cell c.args.list c.cons.result l c.requires.list
    c.cons.ensures.ok c.cons.ensures.err

pub returns-in-Free-clause-parts : goal.returns-in-Free-clause-parts
returns-in-Free-clause-parts c = λ t k. absurd (free_unknown c.args.cells.now c.args.part.now t c.in-Free.is k)
