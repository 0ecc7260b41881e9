use Rattle.std.proofs.Common.{ap, sym, ◌∙◌, ◌≡◌, List, []}
use Rattle.hp_syntax.specs.Terms.{Term}
use Rattle.hp_world.specs.Stages.{terms_at}
use Rattle.hp_part_trials.specs.Twins.{node_of}
use Rattle.hp_part_trials.proofs.TwinLemmas.{at_node}
use Rattle.hp_part_trials.proofs.parts.walks.TwinsWalk.plan.Goals as goal

pub returns-in-Root-clause-steps : goal.returns-in-Root-clause-steps
returns-in-Root-clause-steps c =
    let self = c.args.self.now in
    at_node self.at self.left self.at_did (λ n. ◌≡◌ {A = List Term} [] n.steps)
    (ap (λ a. (node_of a).steps) (sym c.in-Root.is))

pub returns-in-First-clause-steps : goal.returns-in-First-clause-steps
returns-in-First-clause-steps c =
    let self = c.args.self.now in
    at_node self.at self.left self.at_did (λ n. terms_at self.cells c.as_slice.result.now ≡ n.steps)
    (ap (terms_at self.cells) c.as_slice.ensures.value ∙ self.steps_are
    ∙ ap (λ a. (node_of a).steps) (sym c.in-First.is))

pub returns-in-Second-clause-steps : goal.returns-in-Second-clause-steps
returns-in-Second-clause-steps c =
    let self = c.args.self.now in
    at_node self.at self.left self.at_did (λ n. terms_at self.cells c.as_slice-in-Second.result.now ≡ n.steps)
    (ap (terms_at self.cells) c.as_slice-in-Second.ensures.value ∙ self.steps_are
    ∙ ap (λ a. (node_of a).steps) (sym c.in-Second.is))
