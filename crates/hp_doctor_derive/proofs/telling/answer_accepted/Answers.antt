use Rattle.std.proofs.Common.{refl, subst}
use Rattle.hp_doctor.specs.Accepting.{refusal_status}
use Rattle.hp_doctor.specs.Explained.{explained}
use Rattle.hp_doctor.specs.Linted.{Tells}
use Rattle.hp_doctor.specs.Texts.{texts_of}
use Rattle.hp_out.specs.RefusalTexts.{refusal_text}
use Rattle.hp_out.specs.Writing.{sink_run}
use Rattle.hp_syntax.specs.Views.{domain_of, problem_of}
use Rattle.hp_doctor_tree.specs.TreeTold.{Told}
use Rattle.hp_doctor_derive.specs.Plans.{IsNoPlan, text_given}
use Rattle.hp_doctor_derive.specs.Told.{Planless}
use Rattle.hp_doctor_derive.proofs.telling.answer_accepted.Goals as goal

pub returns-in-Err-Refused-clause-tells : goal.returns-in-Err-Refused-clause-tells
returns-in-Err-Refused-clause-tells g c =
    let t = texts_of c.args.files.now in
    let r = c.in-Err-Refused.refusal in
    let stops : IsNoPlan (text_given t) r =
    rw c.in-Err-Refused.field-0-is at c.in-Err-Refused.ensures.stops in
    Told (explained t (refusal_text r), refusal_status r)
    (Planless (domain_of c.args.accepted.now.domain) (problem_of c.args.accepted.now.problem) r c.requires.accepted
    stops refl) (subst (λ x. Tells (explained t (refusal_text x), refusal_status x) c.refuse.result
    (sink_run (g.K.Sink.faults c.args.out.now) (g.K.Sink.faults c.refuse.new.out) (g.K.Sink.bytes c.args.out.now)
    (g.K.Sink.bytes c.refuse.new.out))) c.in-Err-Refused.refusal-is c.refuse.ensures.tells)
