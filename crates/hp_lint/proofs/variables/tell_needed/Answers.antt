use Rattle.std.proofs.Common.{refl}
use Rattle.std.specs.List.{flat_map}
use Rattle.hp_lint.proofs.Steps.{made_copied}
use Rattle.hp_lint.specs.Variables.{on_needed}
use Rattle.hp_lint.specs.LintViews.{either_seen}
use Rattle.hp_lint.proofs.variables.tell_needed.Goals as goal

pub loop-part-preserved : goal.loop-part-preserved
loop-part-preserved c =
    made_copied (λ ys. flat_map (on_needed c.args.bound.now.names.now (either_seen c.args.bound.now.around.now c.args.bound.now.own.now)) ys) (λ y. on_needed c.args.bound.now.names.now (either_seen c.args.bound.now.around.now c.args.bound.now.own.now) y) c.args.needed.now c.loop-part.part-index
    _ _ _ _ (λ y ys. refl) c.loop-part-test.true c.loop-part.invariant
    c.in_ok-tell_needed_use.ensures
