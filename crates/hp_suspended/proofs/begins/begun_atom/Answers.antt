use Rattle.std.proofs.Common.{None, length}
use Rattle.hp_syntax.specs.Goals.{fill_goal}
use Rattle.hp_syntax.specs.Views.{atom_of}
use Rattle.hp_eval.specs.declared.event.Event.TheVariants as events
use Rattle.hp_eval.specs.GoalViews.{goal_of}
use Rattle.hp_eval.specs.Slotted.{bindings_of}
use Rattle.hp_suspended.proofs.NodeBegins.{fault_made, search_made}
use Rattle.hp_suspended.proofs.Shapes.{view_one, view_search}
use Rattle.hp_suspended.proofs.begins.begun_atom.Goals as goal

pub returns-in-Ok-clause-begins : goal.returns-in-Ok-clause-begins
returns-in-Ok-clause-begins c =
    let terms = c.fill_goal.new.cells in
    search_made (length terms) c.args.mark c.args.nest c.args.from _ (goal_of terms)
    (fill_goal (atom_of c.args.atom.now) (bindings_of c.args.cells.now c.args.slots.now)) c.in-Ok.goal
    (view_search c.args.mark c.args.nest c.in-Ok.goal c.args.from 0 None) c.in-Ok.ensures.below c.in-Ok.ensures.gives

pub returns-in-Err-Fault-clause-begins : goal.returns-in-Err-Fault-clause-begins
returns-in-Err-Fault-clause-begins c =
    let terms = c.fill_goal.new.cells in
    let fault = c.in-Err-Fault.fault in
    fault_made (length terms) c.args.mark c.args.nest c.args.from _ (goal_of terms)
    (fill_goal (atom_of c.args.atom.now) (bindings_of c.args.cells.now c.args.slots.now)) c.in-Err-Fault.field-0 fault
    c.in-Err-Fault.field-0-is (view_one c.args.mark (events.Fault fault)) c.in-Err-Fault.ensures.gives
