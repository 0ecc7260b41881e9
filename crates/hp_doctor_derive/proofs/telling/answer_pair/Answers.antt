use Rattle.std.proofs.Common.{map, refl, subst}
use Rattle.hp_doctor.specs.Texts.{texts_of}
use Rattle.hp_doctor_derive.specs.Plans.{plan_of}
use Rattle.hp_doctor_derive.specs.Said.{derive_text}
use Rattle.hp_doctor_derive.specs.Stopping.{IsFound}
use Rattle.hp_doctor_derive.specs.Told.{end_status}
use Rattle.hp_doctor_tree.specs.TreeTold.{Told}
use Rattle.hp_doctor_why.specs.Reasons.{tree_of}
use Rattle.hp_syntax.specs.GroundViews.{ground_of}
use Rattle.hp_syntax.specs.Views.{domain_of, pair_of}
use Rattle.hp_doctor_derive.proofs.telling.answer_pair.Goals as goal

pub returns-in-Ok-found_of-clause-tells : goal.returns-in-Ok-found_of-clause-tells
returns-in-Ok-found_of-clause-tells g c =
    let found = c.in-Ok-found_of.found in
    let d = domain_of c.args.domain.now in
    let a = c.args.asked in
    Told
    (derive_text (texts_of c.args.files.now) d (plan_of c.args.plan.now) a.depth found, end_status found.following.end)
    (record {
      found = found;
      right =
          subst (λ gs. IsFound (map ground_of gs) (tree_of d.rules (pair_of c.args.pair.now) a.depth a.nest) found)
          c.as_slice.ensures.value c.in-Ok-found_of.ensures;
      is = refl;
    })
    c.tell_found.ensures.tells
