-- What is asked for stands alone at its node, under the bindings by the first parts.
use Rattle.std.proofs.lemmas.Option.{MatchOption-at_some}
use Rattle.std.proofs.lemmas.Result.{IfOk-weaker}
use Rattle.hp_unmet.proofs.AgainstSteps.{gives_after, may_ask_alone}
use Rattle.hp_unmet.proofs.trial.Trial.first_after.Goals as goal

pub first_satisfier-requires-clause-asked : goal.first_satisfier-requires-clause-asked
first_satisfier-requires-clause-asked c =
    may_ask_alone c.args.self.now c.requires.can c.args.node c.requires.node c.past.result c.past.ensures

pub returns-clause-values : goal.returns-clause-values
returns-clause-values c =
    let s = c.args.self.now in
    IfOk-weaker c.first_satisfier.result _ _
    (λ o h n at.
    gives_after s c.requires.can c.args.walk.now.nest n.state c.args.before c.requires.before c.args.task
    c.nodes_of.result c.nodes_of.ensures.is c.args.node c.past.result c.past.ensures c.args.test.now o
    (MatchOption-at_some _ _ n at h))
    c.first_satisfier.ensures.values
