use Rattle.std.proofs.Common.{w64, pos, neg_ℤ, ◌-◌, ◌≤ℤ◌, ◌∷◌, [], ◌++◌, length, ap, sym, ◌∙◌, refl, subst, arith}
use Rattle.std.proofs.lemmas.Int.{to_z-of_z}
use Rattle.hp_tree.specs.SearchNodes.{most_cost}
use Rattle.hp_tree.proofs.SearchNodeLemmas.{low_after, high_after, cost_added, steps_below, steps_named}
use Rattle.hp_plain.proofs.CandidateSteps.{did, finish_given, parts_given}
use Rattle.hp_plain.proofs.candidate.Candidate.finished.Goals as goal

pub returns : goal.returns
returns c =
    let terms = c.args.cells.now in
    let n = length terms in
    let s = c.args.self.now in
    let node = s.node.now in
    let fits = c.requires.candidate in
    let depth = fits.node.depth in
    let cost = cost_added node.depth node.cost c.args.cost c.from.result depth fits.node.low fits.node.high
    (c.from.ensures ∙ to_z-of_z w64 c.args.cost c.ranges.cost) c.ranges.cost in
    let items = c.in_ok-push.ensures.items
    ∙ ap (λ xs. xs ++ s.task ∷ []) (c.in_ok-steps.ensures.items ∙ c.as_slice.ensures.value) in
    did terms c.args.world c.finish.new.self c.push.new.self _ _ _ refl refl
    (finish_given n terms s fits c.in_ok-net.net.now c.finish.new.self.now (ap (λ h. h.now) c.in_ok-net.ensures)
    (c.in_ok-finish.ensures.net terms))
    (steps_named terms c.push.new.self.items node.steps.items s.task items) cost refl
    (record {
      stage = c.requires.world;
      network =
          parts_given n terms s fits c.in_ok-net.net.now c.finish.new.self.now (ap (λ h. h.now) c.in_ok-net.ensures)
          (c.in_ok-finish.ensures.below n);
      steps = steps_below n c.push.new.self.items node.steps.items s.task items fits.node.steps fits.task;
      depth = omega arith;
      low = subst (λ z. neg_ℤ (pos (most_cost (node.depth - 1))) ≤ℤ z) (sym cost)
          (low_after node.depth node.cost c.args.cost fits.deep depth fits.node.low c.ranges.cost);
      high = subst (λ z. z ≤ℤ pos (most_cost (node.depth - 1))) (sym cost)
          (high_after node.depth node.cost c.args.cost fits.deep depth fits.node.high c.ranges.cost);
    })
