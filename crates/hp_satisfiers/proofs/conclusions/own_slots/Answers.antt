use Rattle.std.proofs.Common.{◌≡◌, ℕ, length, Option, None, ap, sym, ◌∙◌, arith}
use Rattle.std.proofs.lemmas.List.{length-replicate}
use Rattle.hp_syntax.specs.Goals.{start_goal}
use Rattle.hp_syntax.specs.Views.{axiom_of}
use Rattle.hp_eval.specs.GoalViews.{goal_of}
use Rattle.hp_satisfiers.proofs.AxiomSteps.{new_bind_none}
use Rattle.hp_eval.proofs.SlotLemmas.{binds_vars, match_failed, match_made}
use Rattle.hp_eval.proofs.GrowthLemmas.{grows_self}
use Rattle.hp_satisfiers.proofs.conclusions.own_slots.Goals as goal

pub new-requires : goal.new-requires
new-requires c = record { few = omega (arith, c.requires.few, c.len.ensures, c.args.rule.now.vars.ok.0) }

pub returns-then-starts-clause-starts : goal.returns-then-starts-clause-starts
returns-then-starts-clause-starts c =
    let old = c.args.cells.now in
    let new = c.start_goal.new.cells in
    let a = c.args.rule.now in
    let x = axiom_of a in
    let own = c.in_ok-own.own in
    let long : c.len.result ≡ length x.vars = omega (arith, c.len.ensures, a.vars.ok.0) in
    let begin = new_bind_none old own c.len.result (length x.vars) c.in_ok-own.ensures long in
    let m =
    match_made c.in_ok-starts.starts _ new own c.start_goal.new.slots c.if-starts.true c.in_ok-starts.ensures.started in
    let vars = binds_vars own c.start_goal.new.slots m.1 in
    let many = ap (λ s. length s.values) c.in_ok-own.ensures in
    let wide = length-replicate {A = Option ℕ} c.len.result None in (
      ap (start_goal x.head (goal_of old c.args.goal.now)) (sym begin) ∙ m.0,
      omega (arith, vars, many, wide, long),
      c.start_goal.ensures.below,
    )

pub returns-else-starts-clause-starts : goal.returns-else-starts-clause-starts
returns-else-starts-clause-starts c =
    let old = c.args.cells.now in
    let new = c.start_goal.new.cells in
    let a = c.args.rule.now in
    let x = axiom_of a in
    let own = c.in_ok-own.own in
    let long : c.len.result ≡ length x.vars = omega (arith, c.len.ensures, a.vars.ok.0) in
    let begin = new_bind_none old own c.len.result (length x.vars) c.in_ok-own.ensures long in
    let m =
    match_failed c.in_ok-starts.starts _ new own c.start_goal.new.slots c.if-starts.false
    c.in_ok-starts.ensures.started in
    ap (start_goal x.head (goal_of old c.args.goal.now)) (sym begin) ∙ m.0

pub returns-in_err-own-clause-cells : goal.returns-in_err-own-clause-cells
returns-in_err-own-clause-cells c = grows_self c.args.cells.now

pub returns-in_err-starts-clause-cells : goal.returns-in_err-starts-clause-cells
returns-in_err-starts-clause-cells c = c.start_goal.ensures.cells
