use Rattle.std.proofs.Common.{◌+◌, ◌||◌, ◌++◌, drop, map, ap, ap₂, sym, ◌∙◌}
use Rattle.hp_syntax.specs.Views.{clause_of}
use Rattle.hp_lint.specs.Branches.{expression_span, hidden_clauses, if_hidden}
use Rattle.hp_lint.specs.LintViews.{remark_of}
use Rattle.hp_lint.proofs.BranchLemmas.{expression_span-of, made_on_from}
use Rattle.hp_lint.proofs.branches.tell_clauses.Goals as goal

pub loop-clause-preserved : goal.loop-clause-preserved
loop-clause-preserved c =
    let x = c.clause-item.result in
    let hidden = c.loop-clause.hidden in
    let behind = map clause_of (drop (c.loop-clause.clause-index + 1) c.args.clauses.now) in
    let here = if_hidden hidden (expression_span (clause_of x).body) x.name in
    made_on_from c.args.clauses.now c.loop-clause.clause-index x c.loop-clause-test.true c.clause-item.is
    (λ b ys. hidden_clauses b (map clause_of ys)) (λ b. here) (λ b. b || c.always-hidden.result) hidden _ _ _
    (ap (λ b. here ++ hidden_clauses (hidden || b) behind) (sym c.always-hidden.ensures)) c.loop-clause.invariant
    (c.in_ok-tell_if.ensures
    ∙ ap₂ (λ s n. map remark_of c.loop-clause.report.list.items ++ if_hidden hidden s n) (sym (expression_span-of x.body))
    c.as_ref.ensures.value)
