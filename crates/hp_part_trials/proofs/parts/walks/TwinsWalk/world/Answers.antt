use Rattle.std.proofs.Common.{ap, ◌∙◌, ◌≡◌}
use Rattle.hp_world.specs.Stages.{state_of, guards_of}
use Rattle.hp_part_trials.proofs.TwinLemmas.{at_node, no_state, no_guards}
use Rattle.hp_part_trials.proofs.parts.walks.TwinsWalk.world.Goals as goal

pub returns-clause-state : goal.returns-clause-state
returns-clause-state c =
    let self = c.args.self.now in
    at_node self.at self.left self.at_did (λ n. state_of self.cells self.world.now ≡ n.state)
    (ap (λ w. state_of self.cells w.now) self.world_is ∙ no_state self.at)

pub returns-clause-guards : goal.returns-clause-guards
returns-clause-guards c =
    let self = c.args.self.now in
    at_node self.at self.left self.at_did (λ n. guards_of self.cells self.world.now ≡ n.guards)
    (ap (λ w. guards_of self.cells w.now) self.world_is ∙ no_guards self.at)
