use Rattle.std.proofs.Common.{sym, ◌∙◌, arith}
use Rattle.hp_syntax.specs.GroundViews.{ground_of}
use Rattle.hp_changes.proofs.TermSteps.{found_at}
use Rattle.hp_changes.proofs.terms.first_place.Goals as goal

pub returns-then-is_same : goal.returns-then-is_same
returns-then-is_same c =
    found_at (ground_of c.args.term.now) c.args.terms.now c.loop-place.place c.index-terms-place.result
    (omega arith) c.index-terms-place.is (sym c.is_same.ensures ∙ c.if-is_same.true)
