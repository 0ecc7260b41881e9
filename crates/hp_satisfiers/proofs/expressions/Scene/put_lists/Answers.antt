use Rattle.std.proofs.Common.{sym, ◌∙◌, ap, ap₂, subst, FitsSigned, w64, rules}
use Rattle.std.proofs.lemmas.Int.{to_z-of_z}
use Rattle.std.proofs.lemmas.Result.{err_from_is_err_and}
use Rattle.hp_syntax.specs.Changes.{Went, cost_value}
use Rattle.hp_syntax.specs.Views.{pattern_of}
use Rattle.hp_eval.specs.Slotted.{bindings_of}
use Rattle.hp_eval.proofs.GrowthLemmas.{grows_on, below_grows, bindings_stay}
use Rattle.hp_world.specs.Stages.{changes_of}
use Rattle.hp_satisfiers.specs.Scenes.{axioms_in, stage_in, state_in}
use Rattle.hp_effect.specs.Gathering.{obstacle_of, StopsHere}
use Rattle.hp_effect.proofs.GatheringLemmas.{changes_stay, changes_grow}
use Rattle.hp_satisfiers.proofs.EffectSteps.{list_stays, list_going, dels_stop, adds_stop, cost_stop, cost_stops, all_go, gathered_both}
use Rattle.hp_answers.proofs.AnswerLemmas.{stage_below_grows}
use Rattle.hp_satisfiers.proofs.expressions.Scene.put_lists.Goals as goal

pub returns-in_err-put_effects-clause-goes : goal.returns-in_err-put_effects-clause-goes
returns-in_err-put_effects-clause-goes c =
    let scene = c.args.self.now in
    let axioms = axioms_in scene in
    let s = state_in c.args.cells.now scene in
    let o = c.args.operator.now in
    let e = bindings_of c.args.cells.now c.args.slots.now in
    let obstacle = c.in_err-put_effects.field-0.0 in
    let p = err_from_is_err_and c.from_residual.result c.from_residual.ensures.1 in
    rw (p.1, p.2) (dels_stop axioms c.args.nest s o e obstacle
    (subst (λ xs. StopsHere obstacle (list_going axioms c.args.nest s e xs)) c.as_slice-dels.ensures.value
    c.in_err-put_effects.ensures.puts))

pub returns-in_err-put_effects-2-clause-goes : goal.returns-in_err-put_effects-2-clause-goes
returns-in_err-put_effects-2-clause-goes c =
    let scene = c.args.self.now in
    let old = c.args.cells.now in
    let now = c.put_effects.new.cells in
    let axioms = axioms_in scene in
    let nest = c.args.nest in
    let s = state_in old scene in
    let o = c.args.operator.now in
    let e = bindings_of old c.args.slots.now in
    let obstacle = c.in_err-put_effects-2.field-0.0 in
    let put = c.in_ok-put_effects.ensures.puts in
    let dels = sym (ap (list_going axioms nest s e) c.as_slice-dels.ensures.value) ∙ put.went in
    let adds =
    list_stays old now c.put_effects.ensures.cells (stage_in scene) c.requires.world c.args.slots.now c.requires.slots
    axioms nest c.as_slice-adds.result.now o.adds.items c.as_slice-adds.ensures.value in
    let p = err_from_is_err_and c.from_residual-in_err-put_effects-2.result
    c.from_residual-in_err-put_effects-2.ensures.1 in
    rw (p.1, p.2) (adds_stop axioms nest s o e put.values dels obstacle
    (subst (StopsHere obstacle) adds c.in_err-put_effects-2.ensures.puts))

pub cost-requires : goal.cost-requires
cost-requires c =
    let old = c.args.cells.now in
    let new = c.put_effects-2.new.cells in
    let grows =
    grows_on old c.put_effects.new.cells new c.put_effects.ensures.cells c.put_effects-2.ensures.cells in
    record { slots = below_grows old new grows c.args.slots.now c.requires.slots }

pub returns-in_err-cost-clause-goes : goal.returns-in_err-cost-clause-goes
returns-in_err-cost-clause-goes c =
    let scene = c.args.self.now in
    let old = c.args.cells.now in
    let now = c.put_effects.new.cells in
    let later = c.put_effects-2.new.cells in
    let grows = grows_on old now later c.put_effects.ensures.cells c.put_effects-2.ensures.cells in
    let axioms = axioms_in scene in
    let nest = c.args.nest in
    let s = state_in old scene in
    let o = c.args.operator.now in
    let e = bindings_of old c.args.slots.now in
    let put = c.in_ok-put_effects.ensures.puts in
    let dels = sym (ap (list_going axioms nest s e) c.as_slice-dels.ensures.value) ∙ put.went in
    let put2 = c.in_ok-put_effects-2.ensures.puts in
    let adds =
    list_stays old now c.put_effects.ensures.cells (stage_in scene) c.requires.world c.args.slots.now c.requires.slots
    axioms nest c.as_slice-adds.result.now o.adds.items c.as_slice-adds.ensures.value in
    let stop = c.in_err-cost.field-0.0 in
    let p = err_from_is_err_and c.from_residual-in_err-cost.result c.from_residual-in_err-cost.ensures.1 in
    rw (p.1, p.2) (cost_stop axioms nest s o e put.values dels put2.values (sym adds ∙ put2.went) (obstacle_of stop)
    (subst (λ b. StopsHere (obstacle_of stop) (cost_value (pattern_of o.cost) b))
    (bindings_stay old later grows c.args.slots.now c.requires.slots)
    (cost_stops stop (cost_value (pattern_of o.cost) (bindings_of later c.args.slots.now))
    c.in_err-cost.ensures.costs)))

pub returns-clause-goes : goal.returns-clause-goes
returns-clause-goes c =
    let scene = c.args.self.now in
    let old = c.args.cells.now in
    let now = c.put_effects.new.cells in
    let later = c.put_effects-2.new.cells in
    let new = c.cost.new.cells in
    let grows = grows_on old now later c.put_effects.ensures.cells c.put_effects-2.ensures.cells in
    let axioms = axioms_in scene in
    let nest = c.args.nest in
    let s = state_in old scene in
    let o = c.args.operator.now in
    let e = bindings_of old c.args.slots.now in
    let changes = c.put_effects-2.new.changes in
    let put = c.in_ok-put_effects.ensures.puts in
    let dels = sym (ap (list_going axioms nest s e) c.as_slice-dels.ensures.value) ∙ put.went in
    let put2 = c.in_ok-put_effects-2.ensures.puts in
    let adds =
    list_stays old now c.put_effects.ensures.cells (stage_in scene) c.requires.world c.args.slots.now c.requires.slots
    axioms nest c.as_slice-adds.result.now o.adds.items c.as_slice-adds.ensures.value in
    let costs =
    ap (cost_value (pattern_of o.cost)) (sym (bindings_stay old later grows c.args.slots.now c.requires.slots))
    ∙ c.in_ok-cost.ensures.costs in
    let both =
    gathered_both (changes_of old c.args.changes.now) (changes_of now c.put_effects.new.changes)
    (changes_of later changes) put.values put2.values (ap (changes_of old) c.requires.blank) put.puts put2.puts in
    let fits : FitsSigned w64 c.in_ok-cost.cost = search rules in
    let stay = changes_stay later new c.cost.ensures.cells changes put2.below in
    record {
      went =
          all_go axioms nest s o e put.values dels put2.values (sym adds ∙ put2.went) c.in_ok-cost.cost costs
          ∙ ap₂ (λ x n. Went (x, n)) (sym (stay ∙ both)) (sym (to_z-of_z w64 c.in_ok-cost.cost fits));
      below = changes_grow later new c.cost.ensures.cells changes put2.below;
    }

pub put_effects-requires-2 : goal.put_effects-requires-2
put_effects-requires-2 c =
    let old = c.args.cells.now in
    let now = c.put_effects.new.cells in
    let grows = c.put_effects.ensures.cells in
    record {
      slots = below_grows old now grows c.args.slots.now c.requires.slots;
      world = stage_below_grows old now grows (stage_in c.args.self.now) c.requires.world;
      below = c.in_ok-put_effects.ensures.puts.below;
    }

pub returns-in_err-put_effects-2-clause-cells : goal.returns-in_err-put_effects-2-clause-cells
returns-in_err-put_effects-2-clause-cells c =
    grows_on c.args.cells.now c.put_effects.new.cells c.put_effects-2.new.cells c.put_effects.ensures.cells
    c.put_effects-2.ensures.cells

pub returns-in_err-cost-clause-cells : goal.returns-in_err-cost-clause-cells
returns-in_err-cost-clause-cells c =
    let old = c.args.cells.now in
    let later = c.put_effects-2.new.cells in
    grows_on old later c.cost.new.cells
    (grows_on old c.put_effects.new.cells later c.put_effects.ensures.cells c.put_effects-2.ensures.cells)
    c.cost.ensures.cells

pub returns-clause-cells : goal.returns-clause-cells
returns-clause-cells c =
    let old = c.args.cells.now in
    let later = c.put_effects-2.new.cells in
    grows_on old later c.cost.new.cells
    (grows_on old c.put_effects.new.cells later c.put_effects.ensures.cells c.put_effects-2.ensures.cells)
    c.cost.ensures.cells
