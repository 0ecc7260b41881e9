use Rattle.std.proofs.Common.{refl, map}
use Rattle.std.specs.List.{flat_map}
use Rattle.hp_syntax.proofs.ListLemmas.{made_on}
use Rattle.hp_syntax.specs.GroundViews.{ground_of}
use Rattle.hp_doctor_why.specs.Said.{spaced}
use Rattle.hp_doctor_why.proofs.tasks.push_all_spaced.Goals as goal

pub loop-term-preserved : goal.loop-term-preserved
loop-term-preserved c =
    made_on (λ ys. flat_map spaced (map ground_of ys)) (λ y. spaced (ground_of y)) c.args.terms.now
    c.loop-term.term-index c.term-item.result _ _ _ (λ y ys. refl) c.loop-term-test.true c.term-item.is
    c.loop-term.invariant c.in_ok-push_spaced.ensures
