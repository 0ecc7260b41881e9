use Rattle.std.proofs.Common.{◌≤◌, Ok, length, refl, sym, subst, ◌∙◌}
use Rattle.hp_syntax.specs.declared.limits.TheConstants.{MOST_VARIABLES}
use Rattle.hp_syntax.specs.Goals.{start_goal}
use Rattle.hp_syntax.specs.Views.{atom_of}
use Rattle.hp_eval.specs.GoalViews.{goal_of}
use Rattle.hp_suspended.specs.SceneViews.{code_in}
use Rattle.hp_choice.proofs.HeadLemmas.{as_many}
use Rattle.hp_choice.proofs.RuleReadings.{few_of_rule}
use Rattle.hp_choice.proofs.StartSteps.{has_started, not_started, rule_starts}
use Rattle.hp_choice.proofs.starting.started_by.Goals as goal

pub new-requires : goal.new-requires
new-requires c =
    let s = c.args.scene.now in
    record {
      few =
          subst (λ vs. length vs ≤ MOST_VARIABLES) (sym c.vars-vars.ensures)
          (few_of_rule (code_in s) s.code.now.kept c.args.rule c.requires.rule.0 c.requires.rule.1);
    }

pub returns-then-branch-clause-bound : goal.returns-then-branch-clause-bound
returns-then-branch-clause-bound c = λ r found.
    let s = c.args.scene.now in
    let mid = c.args.cells.now in
    let own = c.in_ok-own.own in
    let h = atom_of c.head_of.result.now in
    let vars = length c.vars-vars.result.now in
    let q = goal_of mid c.args.goal.now in
    record {
      are =
          rule_starts r h vars q q (Ok q) refl refl (c.head_of.ensures r found)
          (as_many (code_in s) s.code.now.kept c.args.rule r found c.vars-vars.result.now c.vars-vars.ensures)
          ∙ has_started mid c.start_goal.new.cells (start_goal h q) vars own c.start_goal.new.slots _ c.in_ok-own.ensures
          c.in_ok-start_goal.ensures.started c.if-branch.true;
      below = c.start_goal.ensures.below;
    }

pub returns-else-branch-clause-bound : goal.returns-else-branch-clause-bound
returns-else-branch-clause-bound c = λ r found.
    let s = c.args.scene.now in
    let mid = c.args.cells.now in
    let own = c.in_ok-own.own in
    let h = atom_of c.head_of.result.now in
    let vars = length c.vars-vars.result.now in
    let q = goal_of mid c.args.goal.now in
    record {
      are =
          rule_starts r h vars q q (Ok q) refl refl (c.head_of.ensures r found)
          (as_many (code_in s) s.code.now.kept c.args.rule r found c.vars-vars.result.now c.vars-vars.ensures)
          ∙ not_started mid c.start_goal.new.cells (start_goal h q) vars own c.start_goal.new.slots _ c.in_ok-own.ensures
          c.in_ok-start_goal.ensures.started c.if-branch.false;
      below = tt;
    }
