use Rattle.std.proofs.Common.{refl}
use Rattle.std.proofs.lemmas.Option.{MatchOption-at_some}
use Rattle.std.proofs.lemmas.Result.{IfOk-weaker}
use Rattle.hp_unmet.proofs.TrialLemmas.{may_ask}
use Rattle.hp_blame.specs.Sites.{site_of}
use Rattle.hp_blame.proofs.ValueSteps.{gives_values}
use Rattle.hp_blame.proofs.blames.Question.values_by.Goals as goal

pub first-requires : goal.first-requires
first-requires c = record { can = record { stand = c.nodes_asked.ensures; start = c.requires.ground } }

pub first_satisfier-requires-clause-asked : goal.first_satisfier-requires-clause-asked
first_satisfier-requires-clause-asked c =
    may_ask _ (record { stand = c.nodes_asked.ensures; start = c.requires.ground }) c.first.result
    c.first.ensures.prefix

pub returns-clause-values : goal.returns-clause-values
returns-clause-values c =
    IfOk-weaker c.first_satisfier.result _ _
    (λ o h n at.
    gives_values _ (record { stand = c.nodes_asked.ensures; start = c.requires.ground }) c.first.result
    c.first.ensures.prefix c.args.walk.now.nest n.state c.args.self.now.task c.args.site.pattern c.args.self.now.fault
    (site_of c.args.site) refl refl c.first.ensures.count o (MatchOption-at_some _ _ n at h))
    c.first_satisfier.ensures.values
