use Rattle.std.proofs.Common.{◌≡◌, ◌<◌, ◌∙◌, false, true, refl, sym, subst, arith}
use Rattle.hp_code.specs.CodeViews.{rules_in}
use Rattle.hp_code.specs.Codes.{code_of}
use Rattle.hp_syntax.specs.Report.{Stopped, AtCut, AtEnd}
use Rattle.hp_syntax.specs.Views.{pair_of}
use Rattle.hp_shallow.proofs.Deepened.{at_cut_told, down_first, down_last, down_next, end_told, least_ends, plan_told, root_free, tree_at}
use Rattle.hp_shallow.specs.Deepening.{HasWalked, is_cut}
use Rattle.hp_shallow.specs.LeastDepth.{IsShallowest, visits_at}
use Rattle.hp_shallow.proofs.deepening.shallow.Goals as goal
use Rattle.hp_shallow.proofs.deepening.shallow.Goals.{then-least-limit-via-then-least-limit, then-least-limit-via-else-least-limit+then-not-is_cut}

pub go_deeper-requires-clause-cost : goal.go_deeper-requires-clause-cost
go_deeper-requires-clause-cost c =
    let l = c.loop-least.least in
    root_free (rules_in (code_of c.args.code.now)) c.args.nest (pair_of c.args.pair.now) _ l.depth
    c.loop-least.invariant.walked.tree

pub loop-least-init : goal.loop-least-init
loop-least-init c =
    let told = c.in_ok-least.ensures in
    let rules = rules_in (code_of c.args.code.now) in
    let pair = pair_of c.args.pair.now in
    down_first rules c.args.nest pair c.args.limit c.in_ok-least.least told.depth
    (record {
      tree = told.tree;
      answer = told.answer;
      expansions = told.expansions;
      plan = told.plan;
      root = told.root;
      live = told.live;
    })

pub loop-least-preserved : goal.loop-least-preserved
loop-least-preserved c =
    let rules = rules_in (code_of c.args.code.now) in
    let pair = pair_of c.args.pair.now in
    down_next rules c.args.nest pair c.args.limit c.loop-least.least c.loop-least.invariant c.go_deeper.new.least
    (omega arith) (sym c.is_cut.ensures ∙ c.if-not-is_cut.false) c.in_ok-go_deeper.ensures.depth
    c.in_ok-go_deeper.ensures.walked

pub returns-then-least-limit-clause-least : goal.returns-then-least-limit-clause-least
returns-then-least-limit-clause-least c = λ at walked.
    let l = c.loop-least.least in
    let whole : l.depth < c.args.limit → is_cut l.answer ≡ false =
    elim c.then-least-limit.branch [
      | then-least-limit-via-then-least-limit w ↦ λ below. absurd (omega arith)
      | then-least-limit-via-else-least-limit+then-not-is_cut w ↦ λ below.
          sym w.is_cut.ensures ∙ w.if-not-is_cut.true
    ] in
    down_last (rules_in (code_of c.args.code.now)) c.args.nest (pair_of c.args.pair.now) c.args.limit l
    c.loop-least.invariant whole at walked

pub returns-then-least-limit-clause-shallowest : goal.returns-then-least-limit-clause-shallowest
returns-then-least-limit-clause-shallowest c = λ e.
    let rules = rules_in (code_of c.args.code.now) in
    let pair = pair_of c.args.pair.now in
    let at = visits_at rules c.args.nest pair in
    let least = returns-then-least-limit-clause-least c at (λ d. refl) in
    subst (IsShallowest rules c.args.nest pair) (sym least.depth)
    (c.least_depths_are_least.ensures.plan rules c.args.nest pair at (λ d. refl) c.args.limit
    (least_ends c.loop-least.least at c.args.limit Stopped least (λ y k. plan_told y (k ∙ e))))

pub returns-then-least-limit-clause-none : goal.returns-then-least-limit-clause-none
returns-then-least-limit-clause-none c = λ e.
    let rules = rules_in (code_of c.args.code.now) in
    let pair = pair_of c.args.pair.now in
    let at = visits_at rules c.args.nest pair in
    let least = returns-then-least-limit-clause-least c at (λ d. refl) in
    c.least_depths_are_least.ensures.none rules c.args.nest pair at (λ d. refl) c.args.limit
    (least_ends c.loop-least.least at c.args.limit AtEnd least (λ y k. end_told y (k ∙ e)))

pub returns-then-least-limit-clause-cut : goal.returns-then-least-limit-clause-cut
returns-then-least-limit-clause-cut c = λ e.
    let rules = rules_in (code_of c.args.code.now) in
    let pair = pair_of c.args.pair.now in
    let at = visits_at rules c.args.nest pair in
    let least = returns-then-least-limit-clause-least c at (λ d. refl) in
    c.least_depths_are_least.ensures.cut rules c.args.nest pair at (λ d. refl) c.args.limit
    (least_ends c.loop-least.least at c.args.limit AtCut least (λ y k. at_cut_told y (k ∙ e)))
