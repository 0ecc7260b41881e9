use Rattle.std.proofs.Common.{rules, tests, ◌∙◌}
use Rattle.std.proofs.lemmas.Iterator.{YieldsList-from_slice}
use Rattle.std.proofs.lemmas.Iterator.Search.{any_from_yields_List}
use Rattle.hp_obstacles.specs.Obstacles.{stuck_of}
use Rattle.hp_doctor_why.specs.Said.{lacks_rules}
use Rattle.hp_doctor_why.proofs.RecurSteps.{any_mapped}
use Rattle.hp_doctor_why.proofs.unserved.any_lacks_rules.Goals as goal

pub returns : goal.returns
returns c =
    any_from_yields_List (λ x. lacks_rules (stuck_of x)) _ _ c.any.result c.any.ensures.ran
    (YieldsList-from_slice c.args.tasks.now cc) (λ x b q k. search (rules, tests))
    ∙ any_mapped stuck_of lacks_rules c.args.tasks.now
