use Rattle.std.proofs.Common.{refl, map}
use Rattle.std.specs.List.{flat_map}
use Rattle.hp_syntax.proofs.ListLemmas.{made_on}
use Rattle.hp_doctor.specs.Texts.{texts_of}
use Rattle.hp_lint.specs.LintViews.{remark_of}
use Rattle.hp_doctor_why.specs.Said.{unserved_text}
use Rattle.hp_doctor_why.proofs.unserved.push_unserved.Goals as goal

pub loop-remark-preserved : goal.loop-remark-preserved
loop-remark-preserved c =
    let text = unserved_text (texts_of c.args.files.now) in
    made_on (λ ys. flat_map text (map remark_of ys)) (λ y. text (remark_of y)) c.args.remarks.now
    c.loop-remark.remark-index c.remark-item.result _ _ _ (λ y ys. refl)
    c.loop-remark-test.true c.remark-item.is c.loop-remark.invariant
    c.in_ok-push_if_unserved.ensures
