use Rattle.std.proofs.Common.{sym, ◌∙◌}
use Rattle.hp_syntax.specs.GroundViews.{ground_of}
use Rattle.hp_changes.proofs.TermSteps.{found_at}
use Rattle.hp_changes.proofs.terms.is_at.Goals as goal

pub returns-then-place-terms : goal.returns-then-place-terms
returns-then-place-terms c = λ e.
    found_at (ground_of c.args.term.now) c.args.terms.now c.args.place c.index-terms-place.result
    c.if-place-terms.true c.index-terms-place.is (sym c.is_same.ensures ∙ e)
