use Rattle.std.proofs.Common.{ap, ◌∙◌}
use Rattle.hp_syntax.specs.Events.{sat_if}
use Rattle.hp_syntax.specs.Values.{value}
use Rattle.hp_syntax.specs.Views.{pattern_of}
use Rattle.hp_eval.specs.Attempts.{extended}
use Rattle.hp_eval.specs.Slotted.{bindings_of}
use Rattle.hp_suspended.proofs.BeginSteps.{assigned_faulty, assigned_tried}
use Rattle.hp_suspended.proofs.begins.assigned.Goals as goal

pub returns-then-meet-clause-gives : goal.returns-then-meet-clause-gives
returns-then-meet-clause-gives c = λ terms grows.
    let s = c.meet.new.slots in
    assigned_tried c.args.cells.now c.value.new.cells terms c.value.ensures.cells grows c.args.slots.now
    c.requires.slots (value (pattern_of c.args.pattern.now)) c.args.v c.in-Ok.cell c.meet.result s c.in-Ok.ensures.gives
    c.meet.ensures
    ∙ ap (λ does. sat_if (extended does (bindings_of terms s))) c.if-meet.true

pub returns-else-meet-clause-gives : goal.returns-else-meet-clause-gives
returns-else-meet-clause-gives c = λ terms grows.
    let s = c.meet.new.slots in
    assigned_tried c.args.cells.now c.value.new.cells terms c.value.ensures.cells grows c.args.slots.now
    c.requires.slots (value (pattern_of c.args.pattern.now)) c.args.v c.in-Ok.cell c.meet.result s c.in-Ok.ensures.gives
    c.meet.ensures
    ∙ ap (λ does. sat_if (extended does (bindings_of terms s))) c.if-meet.false

pub returns-in-Err-Fault-clause-gives : goal.returns-in-Err-Fault-clause-gives
returns-in-Err-Fault-clause-gives c = λ terms grows.
    assigned_faulty c.args.cells.now c.value.new.cells terms c.value.ensures.cells grows c.args.slots.now
    c.requires.slots (value (pattern_of c.args.pattern.now)) c.args.v c.in-Err-Fault.field-0 c.in-Err-Fault.fault
    c.in-Err-Fault.field-0-is c.in-Err-Fault.ensures.gives
