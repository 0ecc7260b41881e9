use Rattle.std.proofs.Common.{true, length, refl, sym, subst}
use Rattle.hp_suspended.specs.Fitting.{Fits}
use Rattle.hp_suspended.specs.SceneViews.{code_in, setting_of}
use Rattle.hp_suspended.specs.Views.{view}
use Rattle.hp_choice.proofs.AskingSteps.{begun_fits}
use Rattle.hp_choice.proofs.StartSteps.{first_held, none_held}
use Rattle.hp_choice.proofs.starting.first_from.Goals as goal

pub reach_passing-requires-clause-fits : goal.reach_passing-requires-clause-fits
reach_passing-requires-clause-fits c =
    let s = c.args.scene.now in
    subst (Fits (code_in s) (length c.args.cells.now) (length c.args.slots.trail)) (sym c.in_ok-all.ensures)
    (begun_fits (code_in s) (length c.args.cells.now) c.args.nest c.args.parts.first c.args.parts.end
    (length c.args.slots.trail) c.requires.parts)

pub returns-then-branch-clause-first : goal.returns-then-branch-clause-first
returns-then-branch-clause-first c =
    first_held (setting_of c.args.scene.now c.args.cells.now) c.args.nest c.args.parts c.args.slots
    (view c.in_ok-all.all) c.in_ok-all.ensures c.reach_passing.new.cells c.reach_passing.new.slots _
    (c.in_ok-reach_passing.ensures.first (λ e. true) (λ e. refl)) c.if-branch.true c.reach_passing.ensures.below

pub returns-else-branch-clause-first : goal.returns-else-branch-clause-first
returns-else-branch-clause-first c =
    none_held (setting_of c.args.scene.now c.args.cells.now) c.args.nest c.args.parts c.args.slots
    (view c.in_ok-all.all) c.in_ok-all.ensures c.reach_passing.new.cells c.reach_passing.new.slots _
    (c.in_ok-reach_passing.ensures.first (λ e. true) (λ e. refl)) c.if-branch.false
