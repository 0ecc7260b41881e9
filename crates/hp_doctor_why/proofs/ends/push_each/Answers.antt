use Rattle.std.proofs.Common.{map, option_map}
use Rattle.hp_syntax.specs.Views.{domain_of}
use Rattle.hp_doctor.specs.Texts.{texts_of}
use Rattle.hp_doctor_why.specs.Said.{end_text}
use Rattle.hp_doctor_why.specs.Whys.{kept}
use Rattle.hp_doctor_why.proofs.BesideSteps.{all_beside, one_beside}
use Rattle.hp_doctor_why.proofs.ends.push_each.Goals as goal

pub loop-place-preserved : goal.loop-place-preserved
loop-place-preserved c =
    let text = end_text (texts_of c.args.files.now) (domain_of c.args.domain.now) in
    one_beside text c.args.ends.now (map (option_map kept) c.args.reasons.now) c.loop-place.place
    c.index-ends-place.result _ _ _ c.loop-place-test.true c.index-ends-place.is c.loop-place.invariant
    c.in_ok-push_beside.ensures

pub returns : goal.returns
returns c =
    all_beside (end_text (texts_of c.args.files.now) (domain_of c.args.domain.now)) c.args.ends.now
    (map (option_map kept) c.args.reasons.now) c.loop-place.place _ _ c.loop-place-test.false c.loop-place.invariant
