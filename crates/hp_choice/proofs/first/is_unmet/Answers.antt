use Rattle.std.proofs.Common.{length}
use Rattle.hp_suspended.specs.SceneViews.{code_in, setting_of}
use Rattle.hp_choice.proofs.TestSteps.{copy_ready, fits_fresh, unmet_is}
use Rattle.hp_choice.proofs.first.is_unmet.Goals as goal

pub found_in-requires-clause-ready : goal.found_in-requires-clause-ready
found_in-requires-clause-ready c =
    copy_ready c.args.scene.now c.args.cells.now c.args.slots.now c.in_ok-own.own c.in_ok-own.ensures c.requires.ready

pub found_in-requires-clause-fits : goal.found_in-requires-clause-fits
found_in-requires-clause-fits c =
    fits_fresh (code_in c.args.scene.now) (length c.args.cells.now) c.mark-mark.result c.args.nest c.args.node
    c.in_ok-own.own c.mark-mark.ensures c.requires.part

pub returns-clause-is : goal.returns-clause-is
returns-clause-is c =
    unmet_is (setting_of c.args.scene.now c.args.cells.now) c.mark-mark.result c.args.nest c.args.node c.args.slots.now
    c.in_ok-own.own c.mark-mark.ensures c.in_ok-own.ensures _ c.in_ok-found_in.ensures.found _ c.in-Nothing.is

pub returns-in-Satisfied-clause-is : goal.returns-in-Satisfied-clause-is
returns-in-Satisfied-clause-is c =
    unmet_is (setting_of c.args.scene.now c.args.cells.now) c.mark-mark.result c.args.nest c.args.node c.args.slots.now
    c.in_ok-own.own c.mark-mark.ensures c.in_ok-own.ensures _ c.in_ok-found_in.ensures.found _ c.in-Satisfied.is

pub returns-in-Undecided-clause-is : goal.returns-in-Undecided-clause-is
returns-in-Undecided-clause-is c =
    unmet_is (setting_of c.args.scene.now c.args.cells.now) c.mark-mark.result c.args.nest c.args.node c.args.slots.now
    c.in_ok-own.own c.mark-mark.ensures c.in_ok-own.ensures _ c.in_ok-found_in.ensures.found _ c.in-Undecided.is

pub returns-in-Faulty-clause-is : goal.returns-in-Faulty-clause-is
returns-in-Faulty-clause-is c =
    unmet_is (setting_of c.args.scene.now c.args.cells.now) c.mark-mark.result c.args.nest c.args.node c.args.slots.now
    c.in_ok-own.own c.mark-mark.ensures c.in_ok-own.ensures _ c.in_ok-found_in.ensures.found _ c.in-Faulty.is
