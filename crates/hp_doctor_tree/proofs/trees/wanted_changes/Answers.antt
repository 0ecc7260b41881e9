use Rattle.std.proofs.lemmas.Result.{IfOk-weaker}
use Rattle.hp_code.specs.CodeViews.{rules_in}
use Rattle.hp_code.specs.Codes.{code_of}
use Rattle.hp_syntax.specs.Views.{pair_of}
use Rattle.hp_syntax.specs.Walk.{root}
use Rattle.hp_doctor_tree.proofs.ChangeSteps.{changes_planned}
use Rattle.hp_doctor_tree.proofs.trees.wanted_changes.Goals as goal

pub returns-in-Plan : goal.returns-in-Plan
returns-in-Plan c =
    let asked = c.args.asked.now in
    IfOk-weaker c.changes_to.result _ _
    (λ v h. changes_planned (rules_in (code_of c.args.code.now)) asked.nest (root (pair_of c.args.pair.now) asked.depth)
    c.in-Plan.field-0 c.args.found.now.way c.in-Plan.is asked.changes c.if-not-asked.false
    c.args.found.now.path.items c.as_slice.result.now c.as_slice.ensures.value v.items c.requires.path h)
    c.changes_to.ensures
