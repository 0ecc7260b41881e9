use Rattle.std.proofs.Common.{subst}
use Rattle.std.proofs.lemmas.Result.{IfOk-weaker}
use Rattle.hp_syntax.specs.Events.{State, axioms_of, sat}
use Rattle.hp_syntax.specs.GroundPatterns.{atom_said}
use Rattle.hp_syntax.specs.Syntax.{And}
use Rattle.hp_syntax.specs.Views.{atom_of}
use Rattle.hp_syntax.specs.Written.{nowhere}
use Rattle.hp_code.specs.CodeViews.{rules_in}
use Rattle.hp_eval.specs.Slotted.{bindings_of}
use Rattle.hp_eval.proofs.GrowthLemmas.{terms_stay}
use Rattle.hp_suspended.specs.SceneViews.{code_in, setting_of}
use Rattle.hp_suspended.specs.Settings.{state_in}
use Rattle.hp_suspended.proofs.CallLemmas.{atoms_grow, knows_grow}
use Rattle.hp_world.specs.Stages.{live_atoms}
use Rattle.hp_choice.specs.FirstSatisfier.{first_sat}
use Rattle.hp_choice.specs.Starting.{Holds, IsBoundByTask}
use Rattle.hp_choice.proofs.StartSteps.{held_after, none_after}
use Rattle.hp_choice.proofs.starting.bound_after.Goals as goal

pub first_from-requires-clause-ready : goal.first_from-requires-clause-ready
first_from-requires-clause-ready c =
    let s = c.args.scene.now in
    let old = c.args.cells.now in
    let new = c.bound_by_task.new.cells in
    let parts = c.requires.parts in
    let bound = subst (IsBoundByTask (code_in s) c.args.parts (atom_said (atom_of c.args.task.now)) new) c.in-Some.is
    c.in_ok-slots.ensures.bound in
    record {
      atoms = atoms_grow s old new c.in_ok-slots.ensures.cells c.requires.atoms;
      knows = knows_grow s old new c.in_ok-slots.ensures.cells c.requires.knows;
      bindings = (bound parts.rule parts.is).below;
    }

pub returns-in-Some-clause-bound : goal.returns-in-Some-clause-bound
returns-in-Some-clause-bound c =
    let s = c.args.scene.now in
    let code = code_in s in
    let old = c.args.cells.now in
    let mid = c.bound_by_task.new.cells in
    let new = c.first_from.new.cells in
    let parts = c.requires.parts in
    let bound = subst (IsBoundByTask code c.args.parts (atom_said (atom_of c.args.task.now)) mid) c.in-Some.is
    c.in_ok-slots.ensures.bound in
    let e = bindings_of mid c.in-Some.slots in
    let stay = terms_stay old mid c.in_ok-slots.ensures.cells (live_atoms s.world.now.places) c.requires.atoms in
    IfOk-weaker c.first_from.result _ _
    (λ o first found after.
    held_after code c.args.nest (state_in (setting_of s old)) c.args.parts (atom_said (atom_of c.args.task.now)) parts
    found after mid c.in-Some.slots new o nowhere (bound parts.rule parts.is)
    (λ ps is. subst (λ (st : State). Holds new o
    (first_sat (sat (axioms_of (rules_in code)) c.args.nest st (And nowhere ps) e))) stay (first nowhere ps is)))
    c.first_from.ensures.first

pub returns-in-None-clause-bound : goal.returns-in-None-clause-bound
returns-in-None-clause-bound c = λ found after.
    let s = c.args.scene.now in
    let code = code_in s in
    let parts = c.requires.parts in
    let new = c.bound_by_task.new.cells in
    let bound = subst (IsBoundByTask code c.args.parts (atom_said (atom_of c.args.task.now)) new) c.in-None.is
    c.in_ok-slots.ensures.bound in
    none_after code c.args.nest (state_in (setting_of s c.args.cells.now)) c.args.parts
    (atom_said (atom_of c.args.task.now)) parts found after new nowhere (bound parts.rule parts.is)
