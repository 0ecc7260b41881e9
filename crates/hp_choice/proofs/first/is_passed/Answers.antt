use Rattle.std.proofs.Common.{subst}
use Rattle.std.proofs.lemmas.Result.{IfOk-weaker}
use Rattle.hp_suspended.specs.SceneViews.{code_in, setting_of}
use Rattle.hp_suspended.specs.Settings.{state_in}
use Rattle.hp_eval.specs.Slotted.{bindings_of}
use Rattle.hp_choice.specs.Tests.{CanTest, Passes}
use Rattle.hp_choice.proofs.TestSteps.{node_tested}
use Rattle.hp_choice.proofs.first.is_passed.Goals as goal

pub returns-in-Nothing-clause-is : goal.returns-in-Nothing-clause-is
returns-in-Nothing-clause-is c =
    let s = c.args.scene.now in
    let w = setting_of s c.args.cells.now in
    IfOk-weaker c.is_unmet.result _ _
    (λ b is passes tests.
    node_tested w c.args.nest c.in-Nothing.node (bindings_of c.args.cells.now c.args.slots.now) passes
    (subst (CanTest (code_in s)) c.in-Nothing.is c.requires.test)
    (subst (λ x. Passes (code_in s) c.args.nest (state_in w) x passes) c.in-Nothing.is tests) b is)
    c.is_unmet.ensures.is
