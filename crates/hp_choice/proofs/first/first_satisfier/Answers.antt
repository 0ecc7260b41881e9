use Rattle.std.proofs.Common.{Option, Some, ap, sym, subst, ◌∙◌}
use Rattle.std.proofs.lemmas.Result.{IfOk-weaker}
use Rattle.hp_syntax.specs.Events.{State}
use Rattle.hp_syntax.specs.Syntax.{And}
use Rattle.hp_syntax.specs.Values.{Bindings}
use Rattle.hp_code.specs.CodeViews.{rules_in}
use Rattle.hp_eval.specs.Slotted.{bindings_of}
use Rattle.hp_eval.proofs.GrowthLemmas.{terms_stay}
use Rattle.hp_suspended.specs.SceneViews.{code_in, setting_of}
use Rattle.hp_suspended.specs.Settings.{state_in}
use Rattle.hp_world.specs.Stages.{live_atoms}
use Rattle.hp_choice.specs.Asking.{events_under}
use Rattle.hp_choice.specs.FirstSatisfier.{first_that}
use Rattle.hp_choice.specs.Starting.{IsBoundBy, levels_from}
use Rattle.hp_choice.specs.Tests.{Passes}
use Rattle.hp_choice.proofs.StartSteps.{bound_ready}
use Rattle.hp_choice.proofs.first.first_satisfier.Goals as goal

pub first_under-requires-clause-ready : goal.first_under-requires-clause-ready
first_under-requires-clause-ready c =
    let s = c.args.scene.now in
    let new = c.bound_by.new.cells in
    let st = state_in (setting_of s c.args.cells.now) in
    let bound = subst (IsBoundBy (code_in s) c.args.nest st c.args.asked c.args.start.now new) c.in-Some.is
    c.in_ok-slots.ensures.bound in
    bound_ready s c.args.cells.now new c.in_ok-slots.ensures.cells c.requires.atoms c.requires.knows c.args.nest st
    c.args.asked c.requires.asked c.args.start.now c.requires.start c.in-Some.slots bound

pub returns-in-Some-clause-values : goal.returns-in-Some-clause-values
returns-in-Some-clause-values c =
    let s = c.args.scene.now in
    let code = code_in s in
    let old = c.args.cells.now in
    let new = c.bound_by.new.cells in
    let st = state_in (setting_of s old) in
    let levels = levels_from c.args.nest c.args.start.now in
    let bound = subst (IsBoundBy code c.args.nest st c.args.asked c.args.start.now new) c.in-Some.is
    c.in_ok-slots.ensures.bound in
    let e = bindings_of new c.in-Some.slots in
    let stay = terms_stay old new c.in_ok-slots.ensures.cells (live_atoms s.world.now.places) c.requires.atoms in
    IfOk-weaker c.first_under.result _ _
    (λ v own r span ps o passes found is from tests.
    let there = subst (λ n. Passes code n (state_in (setting_of s new)) c.args.test.now passes)
    (sym c.levels_from-levels.ensures)
    (subst (λ (u : State). Passes code levels u c.args.test.now passes) (sym stay) tests) in
    own span ps passes is there
    ∙ ap (λ n. first_that passes (events_under (rules_in code) n (state_in (setting_of s new)) (And span ps) (Some e)))
    c.levels_from-levels.ensures
    ∙ ap (λ (u : State). first_that passes (events_under (rules_in code) levels u (And span ps) (Some e))) stay
    ∙ ap (λ (b : Option Bindings). first_that passes (events_under (rules_in code) levels st (And span ps) b))
    (sym (bound r o found from).are))
    c.first_under.ensures.values

pub returns-in-None-clause-values : goal.returns-in-None-clause-values
returns-in-None-clause-values c = λ r span ps o passes found is from tests.
    let s = c.args.scene.now in
    let code = code_in s in
    let st = state_in (setting_of s c.args.cells.now) in
    let bound = subst (IsBoundBy code c.args.nest st c.args.asked c.args.start.now c.bound_by.new.cells) c.in-None.is
    c.in_ok-slots.ensures.bound in
    ap (λ (b : Option Bindings). first_that passes (events_under (rules_in code)
    (levels_from c.args.nest c.args.start.now) st (And span ps) b)) (sym (bound r o found from).are)
