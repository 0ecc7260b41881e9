-- No head matches a task that is no atom.
use Rattle.std.proofs.Common.{subst}
use Rattle.hp_syntax.specs.GroundViews.{ground_of}
use Rattle.hp_syntax.specs.Views.{domain_of}
use Rattle.hp_unmet.specs.Conjunctions.{asked_in}
use Rattle.hp_unmet.specs.Said.{SaysIfAtom}
use Rattle.hp_unmet.proofs.AgainstSteps.{unmatched_against}
use Rattle.hp_unmet.proofs.against.satisfier_against.Goals as goal

pub returns-in-None-clause-values : goal.returns-in-None-clause-values
returns-in-None-clause-values c = λ n at.
    let rules = (domain_of c.args.domain.now).rules in
    unmatched_against rules c.args.walk.now.nest n.state (ground_of c.args.task.now) c.args.place
    (subst (λ o. SaysIfAtom o (ground_of c.args.task.now)) c.in-None.is c.in_ok-atom.ensures)
    (asked_in rules c.args.spot.rule c.args.spot.branch)
