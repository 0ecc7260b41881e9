use Rattle.std.proofs.Common.{pos, neg_ℤ, ◌-◌, ◌≤ℤ◌, ◌<◌, length, ap, sym, ◌∙◌, refl, subst, arith}
use Rattle.std.proofs.lemmas.List.Elements.{All-same}
use Rattle.hp_syntax.specs.Networks.{normal}
use Rattle.hp_eval.specs.GoalViews.{network_of}
use Rattle.hp_world.specs.Stages.{StageBelow, state_of, guards_of, terms_at}
use Rattle.hp_tree.specs.SearchNodes.{most_cost}
use Rattle.hp_tree.proofs.SearchNodeLemmas.{low_stays, high_stays, cost_kept}
use Rattle.hp_plain.proofs.CandidateSteps.{did, expand_given, parts_given}
use Rattle.hp_plain.proofs.candidate.Candidate.expanded.Goals as goal

pub returns : goal.returns
returns c =
    let terms = c.args.cells.now in
    let n = length terms in
    let s = c.args.self.now in
    let node = s.node.now in
    let fits = c.requires.candidate in
    let depth = fits.node.depth in
    let world = c.in_ok-world.ensures in
    let cost = cost_kept node.depth node.cost depth fits.node.low fits.node.high in
    let items = c.in_ok-steps.ensures.items ∙ c.as_slice.ensures.value in
    did terms c.in_ok-world.world c.expand.new.self c.in_ok-steps.steps _ _ _
    (ap (λ w. state_of terms w.now) world) (ap (λ w. guards_of terms w.now) world)
    (expand_given n terms s fits c.in_ok-net.net.now c.expand.new.self.now (ap (λ h. h.now) c.in_ok-net.ensures)
    (normal (network_of terms c.args.tree.now)) (c.in_ok-expand.ensures.net terms))
    (ap (terms_at terms) items) cost refl
    (record {
      stage = subst (λ w. StageBelow n w.now) (sym world) fits.node.stage;
      network =
          parts_given n terms s fits c.in_ok-net.net.now c.expand.new.self.now (ap (λ h. h.now) c.in_ok-net.ensures)
          (λ h. c.in_ok-expand.ensures.below n h c.requires.tree);
      steps = All-same (λ c. c < n) c.in_ok-steps.steps.items node.steps.items items fits.node.steps;
      depth = omega arith;
      low =
          subst (λ z. neg_ℤ (pos (most_cost (node.depth - 1))) ≤ℤ z) (sym cost)
          (low_stays node.depth node.cost fits.deep depth fits.node.low);
      high =
          subst (λ z. z ≤ℤ pos (most_cost (node.depth - 1))) (sym cost)
          (high_stays node.depth node.cost fits.deep depth fits.node.high);
    })
