use Rattle.std.proofs.Common.{length, sym, ◌∙◌}
use Rattle.hp_satisfiers.proofs.PreconditionSteps.{takes_sat, takes_cut, takes_fault, takes_end}
use Rattle.hp_satisfiers.proofs.preconditions.take_event.Goals as goal

pub returns-in_ok-push-in-Sat-clause-takes : goal.returns-in_ok-push-in-Sat-clause-takes
returns-in_ok-push-in-Sat-clause-takes c =
    λ terms whole left e of_first below h.
    takes_sat terms c.args.found.now.items c.push.new.self.items whole c.args.slots.now c.in_ok-copy-in-Sat.copy
    left (sym c.in-Sat.is ∙ e) of_first below c.in_ok-copy-in-Sat.ensures c.in_ok-push-in-Sat.ensures.items h

pub returns-in_ok-push-in-Cut-clause-takes : goal.returns-in_ok-push-in-Cut-clause-takes
returns-in_ok-push-in-Cut-clause-takes c =
    λ terms whole left e of_first below h.
    takes_cut terms c.args.found.now.items c.push-in-Cut.new.self.items whole (length c.args.slots.now.values) left
    (sym c.in-Cut.is ∙ e) c.in_ok-push-in-Cut.ensures.items h

pub returns-in_ok-push-in-Fault-clause-takes : goal.returns-in_ok-push-in-Fault-clause-takes
returns-in_ok-push-in-Fault-clause-takes c =
    λ terms whole left e of_first below h.
    takes_fault terms c.args.found.now.items c.push-in-Fault.new.self.items whole (length c.args.slots.now.values)
    c.in-Fault.fault left (sym c.in-Fault.is ∙ e) c.in_ok-push-in-Fault.ensures.items h

pub returns-in-End-clause-takes : goal.returns-in-End-clause-takes
returns-in-End-clause-takes c =
    λ terms whole left e of_first below h.
    takes_end terms c.args.found.now.items c.args.found.now.items whole (length c.args.slots.now.values) left
    (sym c.in-End.is ∙ e) h
