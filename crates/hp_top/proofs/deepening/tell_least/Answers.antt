use Rattle.std.proofs.Common.{[], ℕ, List, sym, subst}
use Rattle.hp_code.specs.CodeViews.{rules_in}
use Rattle.hp_code.specs.Codes.{code_of}
use Rattle.hp_code.specs.Lowered.{lowered_rules}
use Rattle.hp_out.specs.Writing.{sink_run}
use Rattle.hp_search.specs.Planned.{stands_planned, tree_planned}
use Rattle.hp_shallow.specs.LeastDepth.{IsWalkedAt, StandsAtPlan}
use Rattle.hp_syntax.specs.Views.{pair_of}
use Rattle.hp_syntax.specs.Walk.{Visit, root}
use Rattle.hp_top.specs.Outcome.{pair_visits}
use Rattle.hp_top.specs.ShallowReports.{depth_report}
use Rattle.hp_telling.specs.Telling.{IsTold}
use Rattle.hp_top.proofs.ShallowSteps.{walked_at}
use Rattle.hp_top.proofs.deepening.tell_least.Goals as goal

pub returns-clause-told : goal.returns-clause-told
returns-clause-told g c = λ rules by.
    let p = pair_of c.args.pair.now in
    let l = c.in-Ok.least in
    let at : ℕ → List Visit = λ n. pair_visits rules c.args.levels n p in
    let walked : IsWalkedAt (rules_in (code_of c.args.code.now)) c.args.levels p at =
    walked_at rules (lowered_rules rules) c.args.levels p (code_of c.args.code.now)
    (c.compiled_rules_are_a_code.ensures.reads rules (code_of c.args.code.now) by)
    (λ n. c.lowered_rules_have_the_tree.ensures.visits rules c.args.levels (root p n) []) in
    let is = c.in-Ok.ensures.least at walked in
    subst
    (λ d. IsTold (depth_report c.args.states at d) c.tell_depth.result
    (sink_run (g.K.Sink.faults c.args.out.now) (g.K.Sink.faults c.tell_depth.new.out) (g.K.Sink.bytes c.args.out.now)
    (g.K.Sink.bytes c.tell_depth.new.out)))
    is.depth
    (c.tell_depth.ensures.told at c.args.limit is
    (λ e. subst (StandsAtPlan (tree_planned l.walk) (stands_planned l.walk)) (sym (walked l.depth))
    (c.in-Ok.ensures.plan e)))
