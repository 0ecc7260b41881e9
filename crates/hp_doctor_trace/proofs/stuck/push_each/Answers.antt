use Rattle.std.proofs.Common.{map, refl}
use Rattle.std.specs.List.{flat_map}
use Rattle.hp_syntax.proofs.ListLemmas.{made_on}
use Rattle.hp_doctor.specs.Texts.{file_of}
use Rattle.hp_syntax.specs.Views.{domain_of}
use Rattle.hp_doctor_trace.specs.Failing.{failing_line, failing_of}
use Rattle.hp_doctor_trace.proofs.stuck.push_each.Goals as goal

pub loop-one-preserved : goal.loop-one-preserved
loop-one-preserved c =
    let text = failing_line (file_of c.args.file.now) (domain_of c.args.domain.now).rules c.args.level in
    made_on (λ ys. flat_map text (map failing_of ys)) (λ y. text (failing_of y)) c.args.failing.now
    c.loop-one.one-index c.one-item.result _ _ _ (λ y ys. refl) c.loop-one-test.true c.one-item.is
    c.loop-one.invariant c.in_ok-push_failing.ensures
