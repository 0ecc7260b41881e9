use Rattle.std.proofs.Common.{ap, sym, pos, ◌≡◌}
use Rattle.hp_part_trials.specs.Twins.{node_of}
use Rattle.hp_part_trials.proofs.TwinLemmas.{at_node}
use Rattle.hp_part_trials.proofs.parts.walks.TwinsWalk.cost.Goals as goal

pub returns-in-Root : goal.returns-in-Root
returns-in-Root c =
    let self = c.args.self.now in
    at_node self.at self.left self.at_did (λ n. pos 0 ≡ n.cost) (ap (λ a. (node_of a).cost) (sym c.in-Root.is))

pub returns-in-First : goal.returns-in-First
returns-in-First c =
    let self = c.args.self.now in
    at_node self.at self.left self.at_did (λ n. pos 1000 ≡ n.cost) (ap (λ a. (node_of a).cost) (sym c.in-First.is))

pub returns-in-Second : goal.returns-in-Second
returns-in-Second c =
    let self = c.args.self.now in
    at_node self.at self.left self.at_did (λ n. pos 1000 ≡ n.cost) (ap (λ a. (node_of a).cost) (sym c.in-Second.is))
