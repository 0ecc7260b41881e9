use Rattle.std.proofs.Common.{ap, sym, ◌∙◌}
use Rattle.hp_net.specs.Standings.{Standing, tree_visits}
use Rattle.hp_part_trials.proofs.both.explained.new_walk.Goals as goal

pub returns-clause-rest : goal.returns-clause-rest
returns-clause-rest c =
    let made = c.in_ok-walk.ensures in
    ap (λ (s : Standing). s.rest) made.stands ∙ sym (ap tree_visits made.tree)
