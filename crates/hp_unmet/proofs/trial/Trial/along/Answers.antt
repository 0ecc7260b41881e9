use Rattle.std.proofs.lemmas.Result.{IfOk-weaker}
use Rattle.hp_unmet.proofs.TrialLemmas.{met_where, may_go, prefix_where, unmatched_where}
use Rattle.hp_unmet.proofs.trial.Trial.along.Goals as goal

pub ask_along-requires-clause-asked : goal.ask_along-requires-clause-asked
ask_along-requires-clause-asked c = may_go c.args.self.now c.requires.can

pub returns-clause-prefix : goal.returns-clause-prefix
returns-clause-prefix c =
    IfOk-weaker c.ask_along.result _ _ (prefix_where c.args.self.now c.requires.can c.args.walk.now.nest _)
    c.ask_along.ensures.along

pub returns-clause-met : goal.returns-clause-met
returns-clause-met c =
    IfOk-weaker c.ask_along.result _ _ (met_where c.args.self.now c.requires.can c.args.walk.now.nest _)
    c.ask_along.ensures.along

pub returns-clause-none : goal.returns-clause-none
returns-clause-none c =
    IfOk-weaker c.ask_along.result _ _ (unmatched_where c.args.self.now c.requires.can c.args.walk.now.nest _)
    c.ask_along.ensures.along
