use Rattle.std.proofs.Common.{None, sym, subst}
use Rattle.std.proofs.lemmas.Result.{IfOk-weaker}
use Rattle.hp_syntax.specs.GroundPatterns.{atom_said}
use Rattle.hp_syntax.specs.Views.{atom_of}
use Rattle.hp_suspended.specs.SceneViews.{code_in, setting_of}
use Rattle.hp_suspended.specs.Settings.{state_in}
use Rattle.hp_choice.specs.Starting.{CanStart, IsBoundAfter, IsBoundBy}
use Rattle.hp_choice.proofs.StartSteps.{by_after, by_goal, by_no_goal, by_task, some_after}
use Rattle.hp_choice.proofs.starting.bound_by.Goals as goal

pub returns-in-Task-clause-bound : goal.returns-in-Task-clause-bound
returns-in-Task-clause-bound c =
    let s = c.args.scene.now in
    IfOk-weaker c.bound_by_task.result _ _
    (λ o own. subst (λ x. IsBoundBy (code_in s) c.args.nest (state_in (setting_of s c.args.cells.now)) c.args.asked x
    c.bound_by_task.new.cells o) (sym c.in-Task.is) (by_task (code_in s) c.args.nest
    (state_in (setting_of s c.args.cells.now)) c.args.asked c.in-Task.task c.bound_by_task.new.cells o own))
    c.bound_by_task.ensures.bound

pub returns-in-After-clause-bound : goal.returns-in-After-clause-bound
returns-in-After-clause-bound c =
    let s = c.args.scene.now in
    IfOk-weaker c.bound_after.result _ _
    (λ o own. subst (λ x. IsBoundBy (code_in s) c.args.nest (state_in (setting_of s c.args.cells.now)) c.args.asked x
    c.bound_after.new.cells o) (sym c.in-After.is) (by_after (code_in s) c.args.nest
    (state_in (setting_of s c.args.cells.now)) c.args.asked c.in-After.task c.in-After.parts
    c.bound_after.new.cells o own))
    c.bound_after.ensures.bound

pub bound_by_goal-requires-clause-below : goal.bound_by_goal-requires-clause-below
bound_by_goal-requires-clause-below c =
    let s = c.args.scene.now in
    let code = code_in s in
    let mid = c.bound_after-in-Goal.new.cells in
    let t = atom_said (atom_of c.in-Goal.task.now) in
    let st = state_in (setting_of s c.args.cells.now) in
    let bound = subst (IsBoundAfter code c.args.nest st c.in-Goal.parts t mid) c.in-Some.is c.in_ok-slots-in-Goal.ensures.bound in
    (some_after code c.args.nest st c.in-Goal.parts t (subst (CanStart code) c.in-Goal.is c.requires.start).1 mid
    c.in-Some.slots bound).1.below

pub returns-in-Some-clause-bound : goal.returns-in-Some-clause-bound
returns-in-Some-clause-bound c =
    let s = c.args.scene.now in
    let code = code_in s in
    let mid = c.bound_after-in-Goal.new.cells in
    let t = atom_said (atom_of c.in-Goal.task.now) in
    let st = state_in (setting_of s c.args.cells.now) in
    let bound = subst (IsBoundAfter code c.args.nest st c.in-Goal.parts t mid) c.in-Some.is c.in_ok-slots-in-Goal.ensures.bound in
    IfOk-weaker c.bound_by_goal.result _ _
    (λ o own. subst (λ x. IsBoundBy code c.args.nest st c.args.asked x c.bound_by_goal.new.cells o) (sym c.in-Goal.is)
    (by_goal code c.args.nest st c.args.asked c.in-Goal.task c.in-Goal.parts c.in-Goal.goal mid
    c.bound_by_goal.new.cells c.in-Some.slots o bound own))
    c.bound_by_goal.ensures.bound

pub returns-in-None-clause-bound : goal.returns-in-None-clause-bound
returns-in-None-clause-bound c =
    let s = c.args.scene.now in
    let code = code_in s in
    let mid = c.bound_after-in-Goal.new.cells in
    let t = atom_said (atom_of c.in-Goal.task.now) in
    let st = state_in (setting_of s c.args.cells.now) in
    let bound = subst (IsBoundAfter code c.args.nest st c.in-Goal.parts t mid) c.in-None.is c.in_ok-slots-in-Goal.ensures.bound in
    subst (λ x. IsBoundBy code c.args.nest st c.args.asked x mid None) (sym c.in-Goal.is)
    (by_no_goal code c.args.nest st c.args.asked c.in-Goal.task c.in-Goal.parts c.in-Goal.goal mid mid bound)
