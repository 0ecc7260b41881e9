use Rattle.std.proofs.Common.{drop}
use Rattle.hp_eval.specs.Growth.{Grows}
use Rattle.hp_eval.specs.Slotted.{bindings_of}
use Rattle.hp_world.specs.Stages.{changes_of}
use Rattle.hp_satisfiers.specs.Scenes.{axioms_in, state_in}
use Rattle.hp_effect.proofs.GatheringLemmas.{Along}
use Rattle.hp_satisfiers.proofs.EffectSteps.{list_going}
use Rattle.hp_satisfiers.proofs.expressions.Scene.put_effects.Given as goal

abbrev pub invariant-loop-effect : goal.invariant-loop-effect
invariant-loop-effect l =
    let axioms = axioms_in l.self in
    let state = state_in l.fn.cells l.self in
    let e = bindings_of l.fn.cells l.slots in
    record {
      grows : Grows l.fn.cells l.cells;
      along : Along l.side (list_going axioms l.nest state e l.effects)
          (list_going axioms l.nest state e (drop l.effect-index l.effects)) l.cells
          (changes_of l.fn.cells l.fn.changes) l.changes;
    }
