use Rattle.std.proofs.Common.{[], false, sym, ap, subst, ◌∙◌}
use Rattle.hp_net.specs.Standings.{standing}
use Rattle.hp_net.specs.Runs.{MayRun}
use Rattle.hp_part_trials.proofs.TwinLemmas.{twin_visits_are, pruning_calls, may_prune}
use Rattle.hp_part_trials.proofs.parts.prunes.show_visits.Goals as goal

pub make_all-requires-clause-may : goal.make_all-requires-clause-may
make_all-requires-clause-may c =
    subst (MayRun pruning_calls) (sym (c.requires ∙ ap (λ vs. standing [] vs false) twin_visits_are)) may_prune
