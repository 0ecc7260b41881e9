use Rattle.std.proofs.Common.{rules, tests, ◌∙◌}
use Rattle.std.proofs.lemmas.Iterator.{YieldsList-from_slice}
use Rattle.std.proofs.lemmas.Iterator.Search.{any_from_yields_List}
use Rattle.hp_syntax.specs.GroundViews.{ground_of}
use Rattle.hp_doctor_why.specs.Said.{is_named}
use Rattle.hp_doctor_why.proofs.RecurSteps.{any_mapped}
use Rattle.hp_doctor_why.proofs.recurring.any_named.Goals as goal

pub returns : goal.returns
returns c =
    any_from_yields_List (λ t. is_named c.args.name.now (ground_of t)) _ _ c.any.result c.any.ensures.ran
    (YieldsList-from_slice c.args.tasks.now cc) (λ x b q k. search (rules, tests))
    ∙ any_mapped ground_of (is_named c.args.name.now) c.args.tasks.now
