use Rattle.std.proofs.Common.{w64, pos, neg_ℤ, ◌-◌, ◌≤ℤ◌, ◌∷◌, [], length, take, ap, sym, ◌∙◌, refl, subst, arith}
use Rattle.std.proofs.Math.Seq.{take-append_seam, take-length}
use Rattle.std.proofs.lemmas.Int.{to_z-of_z}
use Rattle.std.proofs.lemmas.List.{length_push}
use Rattle.hp_eval.specs.GoalViews.{term_at}
use Rattle.hp_tree.specs.Children.{place_in}
use Rattle.hp_tree.specs.SearchNodes.{most_cost}
use Rattle.hp_tree.proofs.SearchNodeLemmas.{cost_added, high_after, low_after, steps_below, steps_named}
use Rattle.hp_site.proofs.OperatingSteps.{finished}
use Rattle.hp_site.proofs.site.Site.finish.Goals as goal

pub returns-clause-child : goal.returns-clause-child
returns-clause-child c = λ terms.
    let s = c.args.self.now in
    let r = c.requires in
    let cost = cost_added s.depth s.cost c.args.cost c.from.result r.depth r.low r.high
    (c.from.ensures ∙ to_z-of_z w64 c.args.cost c.ranges.cost) c.ranges.cost in
    finished terms s c.finish.new.self c.push.new.self _ (place_in s.net.now c.args.id) (term_at terms c.args.task)
    c.args.cost (c.in_ok-finish.ensures.net terms (place_in s.net.now c.args.id) r.candidate.stands)
    (steps_named terms c.push.new.self.items s.steps.items c.args.task c.in_ok-push.ensures.items) cost

pub returns-clause-site : goal.returns-clause-site
returns-clause-site c = λ terms task is.
    let n = length terms in
    let s = c.args.self.now in
    let r = c.requires in
    let cost = cost_added s.depth s.cost c.args.cost c.from.result r.depth r.low r.high
    (c.from.ensures ∙ to_z-of_z w64 c.args.cost c.ranges.cost) c.ranges.cost in
    record {
      node =
          record {
            stage = is.node.stage;
            network = c.in_ok-finish.ensures.below n is.node.network;
            steps =
                steps_below n c.push.new.self.items s.steps.items c.args.task c.in_ok-push.ensures.items
                is.node.steps task;
            depth = omega arith;
            low =
                subst (λ z. neg_ℤ (pos (most_cost (s.depth - 1))) ≤ℤ z) (sym cost)
                (low_after s.depth s.cost c.args.cost r.deep r.depth r.low c.ranges.cost);
            high =
                subst (λ z. z ≤ℤ pos (most_cost (s.depth - 1))) (sym cost)
                (high_after s.depth s.cost c.args.cost r.deep r.depth r.high c.ranges.cost);
          };
      pasts = is.pasts;
      knows = is.knows;
      stood = is.stood;
    }

pub returns-clause-keeps : goal.returns-clause-keeps
returns-clause-keeps c =
    let old = c.args.self.now.steps.items in
    let items = c.in_ok-push.ensures.items in
    record {
      code = refl;
      mark =
          record {
            world = omega arith;
            net = c.in_ok-finish.ensures.past.mark;
            steps = omega (arith, ap length items, length_push old c.args.task);
          };
      world = λ k l. refl;
      net = c.in_ok-finish.ensures.past.past;
      steps =
          ap (take (length old)) items
          ∙ (take-append_seam old (c.args.task ∷ []) ∙ sym (take-length old));
    }
