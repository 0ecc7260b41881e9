use Rattle.std.proofs.Common.{sym, subst, ◌∙◌}
use Rattle.std.proofs.lemmas.Result.{err_from_is_err_and}
use Rattle.hp_eval.specs.Slotted.{bindings_of}
use Rattle.hp_eval.proofs.GrowthLemmas.{grows_self}
use Rattle.hp_world.specs.Stages.{changes_of}
use Rattle.hp_effect.specs.Gathering.{HasPut}
use Rattle.hp_effect.proofs.GatheringLemmas.{sat_first, sat_stops, cut_next, fault_next, end_next, fewer_behind, nothing_put}
use Rattle.hp_effect.proofs.putting.put_event.Goals as goal

pub returns-in_ok-put_all-in-Sat-clause-puts : goal.returns-in_ok-put_all-in-Sat-clause-puts
returns-in_ok-put_all-in-Sat-clause-puts g c =
    λ xs h k.
    sat_first (g.A.PutAtoms.atoms c.args.atoms.now) (bindings_of c.args.cells.now c.args.slots.now) c.args.side
    c.put_all.new.cells (changes_of c.args.cells.now c.args.changes.now) c.put_all.new.changes xs
    (sym c.in-Sat.is ∙ h) k c.in_ok-put_all-in-Sat.ensures.puts

pub returns-in_err-put_all-in-Sat-clause-puts : goal.returns-in_err-put_all-in-Sat-clause-puts
returns-in_err-put_all-in-Sat-clause-puts g c =
    λ xs h k.
    let p = err_from_is_err_and c.from_residual.result c.from_residual.ensures.1 in
    rw (p.1, p.2) (sat_stops (g.A.PutAtoms.atoms c.args.atoms.now) (bindings_of c.args.cells.now c.args.slots.now)
    c.in_err-put_all-in-Sat.field-0.0 xs (sym c.in-Sat.is ∙ h) k c.in_err-put_all-in-Sat.ensures.puts)

pub returns-in-Cut-clause-puts : goal.returns-in-Cut-clause-puts
returns-in-Cut-clause-puts g c =
    λ xs h k. cut_next (g.A.PutAtoms.atoms c.args.atoms.now) xs (sym c.in-Cut.is ∙ h)

pub returns-in-Fault-clause-puts : goal.returns-in-Fault-clause-puts
returns-in-Fault-clause-puts g c =
    λ xs h k. fault_next (g.A.PutAtoms.atoms c.args.atoms.now) c.in-Fault.fault xs (sym c.in-Fault.is ∙ h)

pub returns-in-End-clause-puts : goal.returns-in-End-clause-puts
returns-in-End-clause-puts g c =
    λ xs h k.
    let cells = c.args.cells.now in
    let changes = c.args.changes.now in
    subst (λ w. HasPut c.args.side w cells (changes_of cells changes) changes)
    (sym (end_next (g.A.PutAtoms.atoms c.args.atoms.now) xs (sym c.in-End.is ∙ h)))
    (nothing_put c.args.side cells changes c.requires.below)

pub returns-in_ok-put_all-in-Sat-clause-fewer : goal.returns-in_ok-put_all-in-Sat-clause-fewer
returns-in_ok-put_all-in-Sat-clause-fewer g c = λ xs h _. fewer_behind xs (sym c.in-Sat.is ∙ h)

pub returns-in-Cut-clause-cells : goal.returns-in-Cut-clause-cells
returns-in-Cut-clause-cells g c = grows_self c.args.cells.now

pub returns-in-Fault-clause-cells : goal.returns-in-Fault-clause-cells
returns-in-Fault-clause-cells g c = grows_self c.args.cells.now

pub returns-in-End-clause-cells : goal.returns-in-End-clause-cells
returns-in-End-clause-cells g c = grows_self c.args.cells.now
