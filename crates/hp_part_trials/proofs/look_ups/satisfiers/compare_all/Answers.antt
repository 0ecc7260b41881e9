use Rattle.std.proofs.Common.{List, sym, subst}
use Rattle.hp_syntax.specs.Terms.{Term}
use Rattle.hp_world.specs.Recorded.{Knows}
use Rattle.hp_part_trials.proofs.look_ups.satisfiers.compare_all.Goals as goal
use Rattle.hp_part_trials.proofs.look_ups.satisfiers.compare_all.Goals.{in-Axiom+in-Some+in_ok-compare, in-Axiom+in_default-body_of, in_default}

pub loop-rule-preserved : goal.loop-rule-preserved
loop-rule-preserved c =
    let known = λ (cells : List Term). Knows cells c.args.scene.now.world in
    elim c.match-rule.branch [
      | in-Axiom+in-Some+in_ok-compare w ↦ subst known (sym w.cells-is) w.in_ok-compare.ensures.knows
      | in-Axiom+in_default-body_of w ↦ subst known (sym w.cells-is) c.loop-rule.invariant
      | in_default w ↦ subst known (sym w.cells-is) c.loop-rule.invariant
    ]
