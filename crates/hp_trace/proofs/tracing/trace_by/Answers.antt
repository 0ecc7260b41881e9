use Rattle.std.proofs.Common.{◌≡◌, ◌-◌, suc, ap, arith, ◌∙◌}
use Rattle.std.specs.Prelude.{option_map}
use Rattle.hp_after.proofs.Arrivals.{tree_at}
use Rattle.hp_passes.specs.Passing.{sight_of}
use Rattle.hp_search.specs.Planned.{stands_planned, tree_planned}
use Rattle.hp_syntax.specs.Views.{domain_of}
use Rattle.hp_trace.proofs.StuckSteps.{going_over, step_last, step_left, step_on, step_root}
use Rattle.hp_trace.proofs.tracing.trace_by.Goals as goal

pub next_visit-requires-clause-at : goal.next_visit-requires-clause-at
next_visit-requires-clause-at c = tree_at (tree_planned c.args.planner.now) _ c.requires.new

pub returns-in_default : goal.returns-in_default
returns-in_default c =
    going_over (domain_of c.args.domain.now).rules (tree_planned c.args.planner.now) c.args.from.now c.args.most
    c.loop-next.visits.items c.loop-next.left _ _ (ap (option_map sight_of) c.in_default.is) c.loop-next.invariant.going

pub traced-requires-clause-at : goal.traced-requires-clause-at
traced-requires-clause-at c =
    step_left (domain_of c.args.domain.now).rules (tree_planned c.args.planner.now) (tree_planned c.loop-next.planner)
    c.args.from.now c.args.most c.loop-next.visits.items c.loop-next.left (option_map sight_of c.loop-next.next)
    (sight_of c.in-Some.sight) (stands_planned c.loop-next.planner) c.loop-next.invariant.tree
    (ap (option_map sight_of) c.in-Some.is) c.loop-next.invariant.going

pub traced-requires-clause-below : goal.traced-requires-clause-below
traced-requires-clause-below c =
    step_root (domain_of c.args.domain.now).rules (tree_planned c.args.planner.now) (tree_planned c.loop-next.planner)
    c.args.from.now c.args.most c.loop-next.visits.items c.loop-next.left (option_map sight_of c.loop-next.next)
    (sight_of c.in-Some.sight) (stands_planned c.loop-next.planner) c.loop-next.invariant.tree
    (ap (option_map sight_of) c.in-Some.is) c.loop-next.invariant.going

pub returns-then-left-eq0 : goal.returns-then-left-eq0
returns-then-left-eq0 c =
    step_last (domain_of c.args.domain.now).rules (tree_planned c.args.planner.now) (tree_planned c.loop-next.planner)
    c.args.from.now c.args.most c.loop-next.visits.items c.loop-next.left (option_map sight_of c.loop-next.next)
    (sight_of c.in-Some.sight) (stands_planned c.loop-next.planner) c.loop-next.invariant.tree
    (ap (option_map sight_of) c.in-Some.is) c.loop-next.invariant.going c.in_ok-visit.visit
    (option_map sight_of c.in_ok-visit.after) (stands_planned c.traced.new.planner) c.push.new.self.items
    c.in_ok-push.ensures.items c.in_ok-visit.ensures.traces c.if-left-eq0.true

pub loop-next-preserved : goal.loop-next-preserved
loop-next-preserved c =
    let left = c.loop-next.left in
    let one : left ≡ suc (left - 1) = omega (arith, c.if-left-eq0.false) in
    record {
      tree = c.traced.ensures.tree ∙ c.loop-next.invariant.tree;
      live = c.in_ok-visit.ensures.live;
      going =
          step_on (domain_of c.args.domain.now).rules (tree_planned c.args.planner.now)
          (tree_planned c.loop-next.planner) c.args.from.now c.args.most c.loop-next.visits.items left
          (option_map sight_of c.loop-next.next) (sight_of c.in-Some.sight) (stands_planned c.loop-next.planner)
          c.loop-next.invariant.tree (ap (option_map sight_of) c.in-Some.is) c.loop-next.invariant.going
          c.in_ok-visit.visit (option_map sight_of c.in_ok-visit.after) (stands_planned c.traced.new.planner)
          c.push.new.self.items c.in_ok-push.ensures.items c.in_ok-visit.ensures.traces (left - 1) one;
    }
