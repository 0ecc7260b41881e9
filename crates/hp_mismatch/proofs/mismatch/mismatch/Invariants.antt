use Rattle.std.proofs.Common.{◌≡◌}
use Rattle.hp_mismatch.specs.ValueViews.{bindings_of}
use Rattle.hp_mismatch.proofs.MismatchSteps.{mismatch_from}
use Rattle.hp_mismatch.proofs.mismatch.mismatch.Given as goal

abbrev pub invariant-loop-place : goal.invariant-loop-place
invariant-loop-place l =
    mismatch_from l.args l.tail l.terms l.place (bindings_of l.values.items)
    ≡ mismatch_from l.args l.tail l.terms 0 (bindings_of l.fn.values.items)
