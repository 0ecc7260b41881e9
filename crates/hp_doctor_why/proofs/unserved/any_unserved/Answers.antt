use Rattle.std.proofs.Common.{rules, tests, option_map, ◌∙◌}
use Rattle.std.proofs.lemmas.Iterator.{YieldsList-from_slice}
use Rattle.std.proofs.lemmas.Iterator.Search.{any_from_yields_List}
use Rattle.hp_doctor_why.specs.Whys.{kept}
use Rattle.hp_doctor_why.specs.Said.{has_unserved}
use Rattle.hp_doctor_why.proofs.RecurSteps.{any_mapped}
use Rattle.hp_doctor_why.proofs.unserved.any_unserved.Goals as goal

pub returns : goal.returns
returns c =
    any_from_yields_List (λ x. has_unserved ((option_map kept) x)) _ _ c.any.result c.any.ensures.ran
    (YieldsList-from_slice c.args.reasons.now cc) (λ x b q k. search (rules, tests))
    ∙ any_mapped (option_map kept) has_unserved c.args.reasons.now
