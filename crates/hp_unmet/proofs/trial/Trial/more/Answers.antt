use Rattle.std.proofs.Common.{◌∙◌}
use Rattle.hp_unmet.proofs.TrialLemmas.{more_end}
use Rattle.hp_unmet.proofs.trial.Trial.more.Goals as goal

pub returns-clause-prefix : goal.returns-clause-prefix
returns-clause-prefix c = record {
  within = c.requires.within;
  end = c.past.ensures ∙ more_end c.args.self.now c.args.prefix c.requires.prefix c.args.more;
}
