use Rattle.std.proofs.Common.{length, ap, sym, subst, ◌∙◌}
use Rattle.std.proofs.lemmas.Result.{IfOk-weaker}
use Rattle.hp_syntax.specs.Events.{finding}
use Rattle.hp_suspended.specs.Fitting.{Fits}
use Rattle.hp_suspended.specs.Left.{left}
use Rattle.hp_suspended.specs.SceneViews.{code_in, setting_of}
use Rattle.hp_choice.proofs.AskingSteps.{begun_fits, left_begun}
use Rattle.hp_choice.proofs.asking.found_under.Goals as goal

pub found_in-requires-clause-fits : goal.found_in-requires-clause-fits
found_in-requires-clause-fits c =
    let s = c.args.scene.now in
    subst (Fits (code_in s) (length c.args.cells.now) (length c.args.slots.now.trail)) (sym c.in_ok-parts.ensures)
    (begun_fits (code_in s) (length c.args.cells.now) c.args.nest c.args.asked.first c.args.asked.end
    (length c.args.slots.now.trail) c.requires.parts)

pub returns-clause-found : goal.returns-clause-found
returns-clause-found c =
    let s = c.args.scene.now in
    let w = setting_of s c.args.cells.now in
    let e = c.args.slots.now in
    IfOk-weaker c.found_in.result _ _
    (λ f own span ps is.
    own
    ∙ ap finding
    (ap (left w e) c.in_ok-parts.ensures
    ∙ left_begun w c.args.nest c.args.asked.first c.args.asked.end e span ps is))
    c.found_in.ensures.found
