use Rattle.std.proofs.Common.{ap, subst, ◌∙◌}
use Rattle.hp_syntax.specs.Goals.{start_goal}
use Rattle.hp_syntax.specs.Views.{atom_of}
use Rattle.hp_eval.specs.GoalViews.{goal_of}
use Rattle.hp_eval.specs.Slotted.{Matched, bindings_of}
use Rattle.hp_suspended.specs.Views.{level_at, level_of}
use Rattle.hp_suspended.proofs.RuleSteps.{idle_begins, level_begins, named_axiom, named_few}
use Rattle.hp_suspended.proofs.Shapes.{level_is}
use Rattle.hp_suspended.proofs.begins.started.Goals as goal

pub new-requires : goal.new-requires
new-requires c =
    let s = c.args.scene.now in
    record {
      few =
          named_few s s.code.now.kept c.args.nest c.args.goal.now c.args.node c.requires.named c.vars-vars.result.now
          c.vars-vars.ensures;
    }

pub head_of-requires : goal.head_of-requires
head_of-requires c =
    let s = c.args.scene.now in
    named_axiom s s.code.now.kept c.args.nest c.args.goal.now c.args.node c.requires.named

pub returns-then-not-branch-clause-begins : goal.returns-then-not-branch-clause-begins
returns-then-not-branch-clause-begins c =
    let s = c.args.scene.now in
    let old = c.args.cells.now in
    let own = c.in_ok-own.own in
    let new = c.start_goal.new.cells in
    let h = atom_of c.head_of.result.now in
    idle_begins s s.code.now.kept c.args.nest c.args.goal.now c.args.node c.requires.named c.vars-vars.result.now
    c.vars-vars.ensures h c.head_of.ensures old new c.start_goal.ensures.cells c.requires.goal own c.in_ok-own.ensures
    c.start_goal.new.slots
    (subst (λ b. Matched b (start_goal h (goal_of old c.args.goal.now) (bindings_of old own)) new own
    c.start_goal.new.slots) c.if-not-branch.true c.in_ok-start_goal.ensures.started)

pub returns-clause-begins : goal.returns-clause-begins
returns-clause-begins c =
    let s = c.args.scene.now in
    let old = c.args.cells.now in
    let own = c.in_ok-own.own in
    let new = c.start_goal.new.cells in
    let h = atom_of c.head_of.result.now in
    let run = c.in_ok-run.run'.value in
    level_begins s s.code.now.kept c.args.nest c.args.goal.now c.args.node c.requires.named c.vars-vars.result.now
    c.vars-vars.ensures h c.head_of.ensures old new c.start_goal.ensures.cells c.requires.goal own c.in_ok-own.ensures
    c.start_goal.new.slots c.start_goal.ensures.below
    (subst (λ b. Matched b (start_goal h (goal_of old c.args.goal.now) (bindings_of old own)) new own
    c.start_goal.new.slots) c.if-not-branch.false c.in_ok-start_goal.ensures.started)
    (level_of run)
    (λ l there. level_is run ∙ (ap level_at c.in_ok-run.ensures.ok ∙ c.running_of.ensures l there))
