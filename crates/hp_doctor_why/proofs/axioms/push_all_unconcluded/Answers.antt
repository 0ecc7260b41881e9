use Rattle.std.proofs.Common.{refl, map}
use Rattle.std.specs.List.{flat_map}
use Rattle.hp_syntax.proofs.ListLemmas.{made_on}
use Rattle.hp_syntax.specs.Views.{domain_of}
use Rattle.hp_doctor.specs.Texts.{texts_of}
use Rattle.hp_obstacles.specs.Obstacles.{unconcluded_of}
use Rattle.hp_doctor_why.specs.Said.{unconcluded_text}
use Rattle.hp_doctor_why.proofs.axioms.push_all_unconcluded.Goals as goal

pub loop-axiom-preserved : goal.loop-axiom-preserved
loop-axiom-preserved c =
    let text = unconcluded_text (texts_of c.args.files.now) (domain_of c.args.domain.now) in
    made_on (λ ys. flat_map text (map unconcluded_of ys)) (λ y. text (unconcluded_of y)) c.args.axioms.now
    c.loop-axiom.axiom-index c.axiom-item.result _ _ _ (λ y ys. refl) c.loop-axiom-test.true c.axiom-item.is
    c.loop-axiom.invariant c.in_ok-push_unconcluded.ensures
