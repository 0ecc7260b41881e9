use Rattle.std.proofs.Common.{FitsSigned, ℤ, ◌∙◌, List, length, ap, subst, sym, arith, rules}
use Rattle.std.specs.Int.{w128}
use Rattle.std.proofs.lemmas.Int.{to_z-of_z}
use Rattle.hp_eval.specs.GoalViews.{term_at}
use Rattle.hp_syntax.specs.GroundViews.{ground_of}
use Rattle.hp_syntax.specs.Terms.{Term}
use Rattle.hp_way.specs.Along.{IsDeedAt}
use Rattle.hp_way.proofs.WaySteps.{deed_made}
use Rattle.hp_way.proofs.ways.deed_at.Goals as goal

pub to_ground-requires : goal.to_ground-requires
to_ground-requires c = omega (arith, c.decomposition_at-led.ensures.named, ap length c.cells.ensures)

pub returns : goal.returns
returns c =
    let led = c.decomposition_at-led.result in
    let paid : ℤ = c.cost_at.result in
    let fits : FitsSigned w128 paid = search rules in
    subst
    (λ (z : ℤ). IsDeedAt c.args.planner.now c.args.level
    (record {
      candidate = led.candidate;
      task = ground_of c.in_ok-task.task;
      rule = led.rule;
      branch = led.branch;
      cost = z;
    }))
    (sym (to_z-of_z w128 paid fits))
    (deed_made c.args.planner.now c.args.level led (ground_of c.in_ok-task.task) paid c.decomposition_at-led.ensures
    c.requires.level (c.in_ok-task.ensures ∙ ap (λ (ts : List Term). term_at ts led.task) c.cells.ensures)
    c.cost_at.ensures)
