use Rattle.std.proofs.Common.{ap, subst, sym, ◌∙◌}
use Rattle.hp_syntax.specs.GroundViews.{ground_of}
use Rattle.hp_syntax.specs.Views.{domain_of}
use Rattle.hp_unmet.specs.Clauses.{clause_values}
use Rattle.hp_unmet.specs.Said.{SaysIfAtom}
use Rattle.hp_unmet.proofs.clauses.first_unmet_clause.Goals as goal

pub returns-in-None-clause-unmet : goal.returns-in-None-clause-unmet
returns-in-None-clause-unmet c = λ n at.
    c.without_values.ensures.unmet
    ∙ c.unstarted.ensures.unmet c.args.walk.now.nest n.state (ground_of c.args.task.now)
    (subst (λ o. SaysIfAtom o (ground_of c.args.task.now)) c.in-None.is c.in_ok-atom.ensures)

pub returns-in-None-clause-values : goal.returns-in-None-clause-values
returns-in-None-clause-values c = λ n at.
    c.without_values.ensures.values
    ∙ sym (ap (clause_values (domain_of c.args.domain.now).rules c.args.walk.now.nest n.state (ground_of c.args.task.now)
    c.args.asking.rule c.args.asking.branch c.args.place c.args.spot.rule c.args.spot.branch)
    c.without_values.ensures.unmet
    ∙ c.unstarted.ensures.values c.args.walk.now.nest n.state (ground_of c.args.task.now))
