use Rattle.std.proofs.Common.{refl}
use Rattle.std.specs.List.{flat_map}
use Rattle.hp_lint.proofs.Steps.{made_copied}
use Rattle.hp_lint.specs.Variables.{on_use}
use Rattle.hp_lint.specs.LintViews.{is_seen_once}
use Rattle.hp_lint.proofs.variables.tell_uses.Goals as goal

pub loop-part-preserved : goal.loop-part-preserved
loop-part-preserved c =
    made_copied (λ ys. flat_map (on_use c.args.names.now (is_seen_once c.args.counts.now)) ys) (λ y. on_use c.args.names.now (is_seen_once c.args.counts.now) y) c.args.found.now c.loop-part.part-index
    _ _ _ _ (λ y ys. refl) c.loop-part-test.true c.loop-part.invariant
    c.in_ok-tell_use.ensures
