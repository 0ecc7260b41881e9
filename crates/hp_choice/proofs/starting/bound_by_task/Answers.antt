use Rattle.std.proofs.Common.{◌≤◌, length, sym, subst}
use Rattle.std.proofs.lemmas.Result.{IfOk-weaker}
use Rattle.hp_syntax.specs.declared.limits.TheConstants.{MOST_VARIABLES}
use Rattle.hp_syntax.specs.Views.{atom_of}
use Rattle.hp_eval.specs.GoalViews.{term_at}
use Rattle.hp_suspended.specs.SceneViews.{code_in}
use Rattle.hp_choice.proofs.HeadLemmas.{bound_by_head}
use Rattle.hp_choice.proofs.RuleReadings.{few_of_rule}
use Rattle.hp_choice.proofs.starting.bound_by_task.Goals as goal

pub matched-requires-clause-few : goal.matched-requires-clause-few
matched-requires-clause-few c =
    let s = c.args.scene.now in
    subst (λ vs. length vs ≤ MOST_VARIABLES) (sym c.vars-vars.ensures)
    (few_of_rule (code_in s) s.code.now.kept c.args.asked.rule c.requires.asked.rule c.requires.asked.is)

pub returns-clause-bound : goal.returns-clause-bound
returns-clause-bound c =
    let s = c.args.scene.now in
    let new = c.ground_atom.new.cells in
    IfOk-weaker c.matched.result _ _
    (bound_by_head (code_in s) s.code.now.kept c.args.asked _ new c.vars-vars.result.now c.vars-vars.ensures
    (atom_of c.head_of.result.now) c.head_of.ensures (term_at new c.in_ok-cell.cell) c.in_ok-cell.ensures.term)
    c.matched.ensures
