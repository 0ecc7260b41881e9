use Rattle.std.proofs.Common.{refl}
use Rattle.hp_doctor.specs.Accepting.{AreRefused, refusal_status}
use Rattle.hp_doctor.specs.Explained.{explained}
use Rattle.hp_doctor.specs.Texts.{texts_of}
use Rattle.hp_out.specs.RefusalTexts.{refusal_text}
use Rattle.hp_doctor_tree.specs.TreeTold.{Told}
use Rattle.hp_doctor_trace.specs.TraceTold.{Refused}
use Rattle.hp_doctor_trace.proofs.traces.trace.Goals as goal

pub returns-in-Err-Refused-clause-tells : goal.returns-in-Err-Refused-clause-tells
returns-in-Err-Refused-clause-tells g c =
    let t = texts_of c.args.files.now in
    let r = c.in-Err-Refused.refusal in
    let stops : AreRefused t r = rw c.in-Err-Refused.field-0-is at c.in-Err-Refused.ensures.stops in
    Told (explained t (refusal_text r), refusal_status r) (Refused r stops refl)
    c.refuse.ensures.tells
