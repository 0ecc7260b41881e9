use Rattle.std.proofs.Common.{subst, ◌∙◌}
use Rattle.hp_syntax.specs.GroundViews.{ground_of}
use Rattle.hp_unmet.specs.Said.{SaysIfAtom}
use Rattle.hp_unmet.proofs.unmet.first_unmet.Goals as goal

pub returns-in-None-clause-unmet : goal.returns-in-None-clause-unmet
returns-in-None-clause-unmet c = λ n at.
    c.without_values.ensures.unmet
    ∙ c.unmatched.ensures.unmet c.args.walk.now.nest n.state (ground_of c.args.task.now)
    (subst (λ o. SaysIfAtom o (ground_of c.args.task.now)) c.in-None.is c.in_ok-atom.ensures)
