use Rattle.std.proofs.Common.{◌+◌, drop, refl, subst}
use Rattle.std.proofs.lemmas.Result.{err_from_is_err_and}
use Rattle.hp_syntax.specs.Changes.{effect_values}
use Rattle.hp_syntax.specs.Views.{effect_of}
use Rattle.hp_eval.specs.Slotted.{bindings_of}
use Rattle.hp_eval.proofs.GrowthLemmas.{grows_self, grows_on, below_grows}
use Rattle.hp_world.specs.Stages.{changes_of}
use Rattle.hp_satisfiers.specs.Scenes.{axioms_in, stage_in, state_in}
use Rattle.hp_effect.specs.Gathering.{HasPut, StopsHere}
use Rattle.hp_effect.proofs.GatheringLemmas.{along_none, along_more, along_stops}
use Rattle.hp_satisfiers.proofs.EffectSteps.{list_going, effects_left, seen_stays}
use Rattle.hp_answers.proofs.AnswerLemmas.{stage_below_grows}
use Rattle.hp_satisfiers.proofs.expressions.Scene.put_effects.Goals as goal

pub loop-effect-init : goal.loop-effect-init
loop-effect-init c =
    let scene = c.args.self.now in
    let old = c.args.cells.now in
    let changes = c.args.changes.now in
    let e = bindings_of old c.args.slots.now in
    let whole = list_going (axioms_in scene) c.args.nest (state_in old scene) e c.args.effects.now in
    record {
      grows = grows_self old;
      along = along_none c.args.side whole (changes_of old changes) old changes refl c.requires.below;
    }

pub loop-effect-preserved : goal.loop-effect-preserved
loop-effect-preserved c =
    let scene = c.args.self.now in
    let axioms = axioms_in scene in
    let nest = c.args.nest in
    let old = c.args.cells.now in
    let now = c.loop-effect.cells in
    let new = c.put_effect.new.cells in
    let grows = c.loop-effect.invariant.grows in
    let effects = c.args.effects.now in
    let i = c.loop-effect.effect-index in
    let x = c.effect-item.result in
    let s = state_in old scene in
    let e = bindings_of old c.args.slots.now in
    let put =
    subst (λ g. HasPut c.args.side g new (changes_of now c.loop-effect.changes) c.put_effect.new.changes)
    (seen_stays old now grows (stage_in scene) c.requires.world c.args.slots.now c.requires.slots
    (λ st b. effect_values axioms nest st (effect_of x) b))
    c.in_ok-put_effect.ensures.puts in
    record {
      grows = grows_on old now new grows c.put_effect.ensures.cells;
      along =
          along_more c.args.side (list_going axioms nest s e effects)
          (changes_of old c.args.changes.now) now new c.loop-effect.changes c.put_effect.new.changes
          (effect_values axioms nest s (effect_of x) e)
          (list_going axioms nest s e (drop i effects))
          (list_going axioms nest s e (drop (i + 1) effects))
          (effects_left axioms nest s e effects i x c.loop-effect-test.true c.effect-item.is)
          c.loop-effect.invariant.along put;
    }

pub returns-in_err-put_effect-clause-puts : goal.returns-in_err-put_effect-clause-puts
returns-in_err-put_effect-clause-puts c =
    let scene = c.args.self.now in
    let axioms = axioms_in scene in
    let nest = c.args.nest in
    let old = c.args.cells.now in
    let now = c.loop-effect.cells in
    let effects = c.args.effects.now in
    let i = c.loop-effect.effect-index in
    let x = c.effect-item.result in
    let s = state_in old scene in
    let e = bindings_of old c.args.slots.now in
    let obstacle = c.in_err-put_effect.field-0.0 in
    let stops =
    subst (StopsHere obstacle)
    (seen_stays old now c.loop-effect.invariant.grows (stage_in scene) c.requires.world c.args.slots.now
    c.requires.slots (λ st b. effect_values axioms nest st (effect_of x) b))
    c.in_err-put_effect.ensures.puts in
    let p = err_from_is_err_and c.from_residual.result c.from_residual.ensures.1 in
    rw (p.1, p.2) (along_stops c.args.side (list_going axioms nest s e effects)
    (changes_of old c.args.changes.now) now c.loop-effect.changes (effect_values axioms nest s (effect_of x) e)
    (list_going axioms nest s e (drop i effects))
    (list_going axioms nest s e (drop (i + 1) effects)) obstacle
    (effects_left axioms nest s e effects i x c.loop-effect-test.true c.effect-item.is)
    c.loop-effect.invariant.along stops)

pub returns-in_err-put_effect-clause-cells : goal.returns-in_err-put_effect-clause-cells
returns-in_err-put_effect-clause-cells c =
    grows_on c.args.cells.now c.loop-effect.cells c.put_effect.new.cells c.loop-effect.invariant.grows
    c.put_effect.ensures.cells

pub put_effect-requires : goal.put_effect-requires
put_effect-requires c =
    let old = c.args.cells.now in
    let now = c.loop-effect.cells in
    let grows = c.loop-effect.invariant.grows in
    record {
      slots = below_grows old now grows c.args.slots.now c.requires.slots;
      world = stage_below_grows old now grows (stage_in c.args.self.now) c.requires.world;
      below = c.loop-effect.invariant.along.below;
    }

pub returns-clause-cells : goal.returns-clause-cells
returns-clause-cells c = c.loop-effect.invariant.grows
