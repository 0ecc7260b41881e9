use Rattle.std.proofs.Common.{refl}
use Rattle.hp_doctor.specs.Accepting.{AreRefused, refusal_status}
use Rattle.hp_doctor.specs.Explained.{explained}
use Rattle.hp_doctor.specs.Linted.{Accepted, Refused, Told, remarks_text}
use Rattle.hp_doctor.specs.Texts.{texts_of}
use Rattle.hp_lint.specs.Remarks.{remarks}
use Rattle.hp_out.specs.RefusalTexts.{refusal_text}
use Rattle.hp_syntax.specs.Views.{domain_of, problem_of}
use Rattle.hp_syntax.specs.declared.status.Status.TheVariants as status
use Rattle.hp_doctor.proofs.linting.lint.Goals as goal

pub returns-in-Ok-clause-lints : goal.returns-in-Ok-clause-lints
returns-in-Ok-clause-lints g c =
    let t = texts_of c.args.files.now in
    let d = domain_of c.in-Ok.pair.domain in
    let p = problem_of c.in-Ok.pair.problem in
    Told (remarks_text t (remarks d p), status.Done) (Accepted d p c.in-Ok.ensures.accepted refl)
    c.lint_pair.ensures.tells

pub returns-in-Err-Refused-clause-lints : goal.returns-in-Err-Refused-clause-lints
returns-in-Err-Refused-clause-lints g c =
    let t = texts_of c.args.files.now in
    let r = c.in-Err-Refused.refusal in
    let stops : AreRefused t r = rw c.in-Err-Refused.field-0-is at c.in-Err-Refused.ensures.stops in
    Told (explained t (refusal_text r), refusal_status r) (Refused r stops refl)
    c.refuse.ensures.tells
