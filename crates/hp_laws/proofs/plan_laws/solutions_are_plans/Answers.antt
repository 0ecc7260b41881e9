use Rattle.std.proofs.Common.{length, sym, subst}
use Rattle.std.specs.List.{Any}
use Rattle.hp_laws.proofs.Complete.{IsPlanWith, derived_is_found}
use Rattle.hp_laws.proofs.HearingLemmas.{whole_tree}
use Rattle.hp_laws.proofs.plan_laws.solutions_are_plans.Goals as goal

pub returns : goal.returns
returns c = λ rules nest pair depth cs steps cost after faultless h e l.
    subst (Any (IsPlanWith (length cs) steps cost after))
    (sym (whole_tree rules nest pair depth faultless))
    (derived_is_found rules nest pair depth cs steps cost after h e l)
