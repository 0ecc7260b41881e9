use Rattle.std.proofs.Common.{Some, length, ap, sym, subst, ◌∙◌}
use Rattle.hp_suspended.specs.Fitting.{Fits}
use Rattle.hp_suspended.specs.SceneViews.{code_in, setting_of}
use Rattle.hp_suspended.specs.Views.{view}
use Rattle.hp_choice.specs.FirstSatisfier.{first_that}
use Rattle.hp_choice.proofs.AskingSteps.{begun_fits}
use Rattle.hp_choice.proofs.StartSteps.{all_left, reached, unreached}
use Rattle.hp_choice.proofs.first.first_under.Goals as goal

pub reach_passing-requires-clause-fits : goal.reach_passing-requires-clause-fits
reach_passing-requires-clause-fits c =
    let s = c.args.scene.now in
    subst (Fits (code_in s) (length c.args.cells.now) (length c.args.slots.now.trail)) (sym c.in_ok-parts.ensures)
    (begun_fits (code_in s) (length c.args.cells.now) c.args.nest c.args.asked.first c.args.asked.end
    (length c.args.slots.now.trail) c.requires.parts)

pub returns-then-not-branch-clause-values : goal.returns-then-not-branch-clause-values
returns-then-not-branch-clause-values c = λ span ps passes is tests.
    sym (sym (ap (first_that passes) (all_left (setting_of c.args.scene.now c.args.cells.now) c.args.nest c.args.asked
    c.args.slots.now (view c.in_ok-parts.parts) c.in_ok-parts.ensures span ps is))
    ∙ unreached _ _ _ c.if-not-branch.true (c.in_ok-reach_passing.ensures.first passes tests))

pub returns-clause-values : goal.returns-clause-values
returns-clause-values c = λ span ps passes is tests.
    ap Some c.in_ok-values.ensures
    ∙ sym (sym (ap (first_that passes) (all_left (setting_of c.args.scene.now c.args.cells.now) c.args.nest c.args.asked
    c.args.slots.now (view c.in_ok-parts.parts) c.in_ok-parts.ensures span ps is))
    ∙ reached _ _ _ c.if-not-branch.false (c.in_ok-reach_passing.ensures.first passes tests))
