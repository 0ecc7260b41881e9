use Rattle.std.proofs.Common.{Some, option_map, ap, sym, subst, ◌∙◌}
use Rattle.hp_syntax.specs.Events.{State, axioms_of}
use Rattle.hp_code.specs.CodeViews.{rules_in}
use Rattle.hp_eval.specs.Slotted.{bindings_of}
use Rattle.hp_eval.proofs.GrowthLemmas.{terms_stay}
use Rattle.hp_suspended.specs.SceneViews.{code_in, setting_of}
use Rattle.hp_suspended.specs.Settings.{state_in}
use Rattle.hp_world.specs.Stages.{live_atoms}
use Rattle.hp_choice.specs.Asking.{along}
use Rattle.hp_choice.specs.Starting.{IsBoundBy, levels_from}
use Rattle.hp_choice.proofs.StartSteps.{bound_ready}
use Rattle.hp_choice.proofs.asking.ask_along.Goals as goal

pub satisfied_along-requires-clause-ready : goal.satisfied_along-requires-clause-ready
satisfied_along-requires-clause-ready c =
    let s = c.args.scene.now in
    let new = c.bound_by.new.cells in
    let st = state_in (setting_of s c.args.cells.now) in
    let bound = subst (IsBoundBy (code_in s) c.args.nest st c.args.asked c.args.start.now new) c.in-Some.is
    c.in_ok-slots.ensures.bound in
    bound_ready s c.args.cells.now new c.in_ok-slots.ensures.cells c.requires.atoms c.requires.knows c.args.nest st
    c.args.asked c.requires.asked c.args.start.now c.requires.start c.in-Some.slots bound

pub returns-in_ok-prefix-in-Some-clause-along : goal.returns-in_ok-prefix-in-Some-clause-along
returns-in_ok-prefix-in-Some-clause-along c =
    let s = c.args.scene.now in
    let code = code_in s in
    let old = c.args.cells.now in
    let new = c.bound_by.new.cells in
    let st = state_in (setting_of s old) in
    let bound = subst (IsBoundBy code c.args.nest st c.args.asked c.args.start.now new) c.in-Some.is
    c.in_ok-slots.ensures.bound in
    let e = bindings_of new c.in-Some.slots in
    let stay = terms_stay old new c.in_ok-slots.ensures.cells (live_atoms s.world.now.places) c.requires.atoms in
    let prefix = c.in_ok-prefix-in-Some.ensures in
    record {
      count =
          λ r ps o found is from.
          let axioms = axioms_of (rules_in code) in
          let levels = levels_from c.args.nest c.args.start.now in
          let own =
          prefix.count ps is
          ∙ ap (λ n. along axioms n (state_in (setting_of s new)) ps e) c.levels_from-levels.ensures
          ∙ ap (λ (u : State). along axioms levels u ps e) stay in
          ap Some own ∙ sym (ap (option_map (along axioms levels st ps)) (bound r o found from).are);
      end = prefix.end;
    }

pub returns-in-None-clause-along : goal.returns-in-None-clause-along
returns-in-None-clause-along c =
    let s = c.args.scene.now in
    let code = code_in s in
    let st = state_in (setting_of s c.args.cells.now) in
    let bound = subst (IsBoundBy code c.args.nest st c.args.asked c.args.start.now c.bound_by.new.cells) c.in-None.is
    c.in_ok-slots.ensures.bound in
    record {
      count =
          λ r ps o found is from.
          sym (ap (option_map (along (axioms_of (rules_in code)) (levels_from c.args.nest c.args.start.now) st ps))
          (bound r o found from).are);
      end = tt;
    }
