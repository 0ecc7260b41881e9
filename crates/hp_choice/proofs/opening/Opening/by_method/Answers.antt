use Rattle.std.proofs.Common.{◌≡◌, ◌+◌, List, Some, IfSome, is_some, length, ap, sym, subst, ◌∙◌, arith}
use Rattle.hp_syntax.specs.Events.{State}
use Rattle.hp_syntax.specs.Syntax.{Branch, Refines}
use Rattle.hp_syntax.specs.Walk.{branch_children, chosen_branch}
use Rattle.hp_nodes.specs.NodeViews.{laid_of}
use Rattle.hp_code.specs.CodeViews.{rules_in}
use Rattle.hp_eval.specs.Slotted.{bindings_of}
use Rattle.hp_eval.proofs.GrowthLemmas.{grows_length}
use Rattle.hp_suspended.specs.SceneViews.{code_in, setting_of}
use Rattle.hp_suspended.specs.Settings.{state_in}
use Rattle.hp_method.specs.declared.chosen.Chosen.{Chosen}
use Rattle.hp_choice.specs.declared.choice.Choice.{Choice}
use Rattle.hp_method.specs.Branches.{Chooses, ChosenFits, IsChosenAt, branches_at}
use Rattle.hp_choice.specs.Choices.{IsChoice, choice_children}
use Rattle.hp_choice.proofs.OpeningLemmas.{method_choice, method_left}
use Rattle.hp_choice.proofs.RuleReadings.{rule_node, rule_within}
use Rattle.hp_choice.proofs.opening.Opening.by_method.Goals as goal

pub node_at-requires : goal.node_at-requires
node_at-requires c =
    let s = c.args.self.now.scene.now in
    rule_within (code_in s) s.code.now.kept c.args.rule (Refines c.requires.rule.0) c.requires.rule.1

pub chosen_branch-requires-clause-branches : goal.chosen_branch-requires-clause-branches
chosen_branch-requires-clause-branches c =
    let s = c.args.self.now.scene.now in
    (rule_node (code_in s) s.code.now.kept c.args.rule (laid_of c.node_at.result.now) c.node_at.ensures.is
    (Refines c.requires.rule.0) c.requires.rule.1).nodes

pub returns-in_ok-open-in-Some-clause-children : goal.returns-in_ok-open-in-Some-clause-children
returns-in_ok-open-in-Some-clause-children c = λ m n p found state.
    let me = c.args.self.now in
    let s = me.scene.now in
    let new = c.chosen_branch.new.cells in
    let slots = c.chosen_branch.new.slots in
    let x = c.in-Some.field-0 in
    let nodes = rule_node (code_in s) s.code.now.kept c.args.rule (laid_of c.node_at.result.now) c.node_at.ensures.is
    (Refines m) found in
    let whole = λ (w : State).
    chosen_branch (rules_in (code_in s)) me.nest w m.branches (bindings_of c.args.cells.now c.args.slots) in
    let here = state_in (setting_of s c.args.cells.now) in
    let h = subst (λ o. Chooses s new slots o (whole here)) c.in-Some.is
    (c.in_ok-chosen.ensures.chooses m.branches nodes.branches) in
    ap (choice_children s me.nest new s.world.now n p) c.in_ok-open-in-Some.ensures
    ∙ method_left s me.nest new me.id me.task c.args.rule x.number slots x.sats x.tasks x.first n p (whole here) h
    ∙ ap (λ w. branch_children n p (whole w)) (sym state)

pub returns-in_ok-open-in-Some-clause-choice : goal.returns-in_ok-open-in-Some-clause-choice
returns-in_ok-open-in-Some-clause-choice c =
    let me = c.args.self.now in
    let s = me.scene.now in
    let new = c.chosen_branch.new.cells in
    let slots = c.chosen_branch.new.slots in
    let x = c.in-Some.field-0 in
    let m = c.requires.rule.0 in
    let nodes = rule_node (code_in s) s.code.now.kept c.args.rule (laid_of c.node_at.result.now) c.node_at.ensures.is
    (Refines m) c.requires.rule.1 in
    let here = state_in (setting_of s c.args.cells.now) in
    let whole =
    chosen_branch (rules_in (code_in s)) me.nest here m.branches (bindings_of c.args.cells.now c.args.slots) in
    let h = subst (λ o. Chooses s new slots o whole) c.in-Some.is
    (c.in_ok-chosen.ensures.chooses m.branches nodes.branches) in
    let fits = subst (λ o. IfSome o (ChosenFits s new slots)) c.in-Some.is c.in_ok-chosen.ensures.fits in
    let more = grows_length c.args.cells.now new c.in_ok-chosen.ensures.cells in
    let below = c.requires.task in
    subst (IsChoice s new (length new) s.world.now) (sym c.in_ok-open-in-Some.ensures)
    (method_choice s me.nest new me.id me.task c.args.rule x.number slots x.sats x.tasks x.first
    (omega (arith, below, more)) (ap is_some h.tasks) fits)

pub returns-in_ok-open-in-Some-clause-branch : goal.returns-in_ok-open-in-Some-clause-branch
returns-in_ok-open-in-Some-clause-branch c = λ m n found state.
    let me = c.args.self.now in
    let s = me.scene.now in
    let code = code_in s in
    let e = bindings_of c.args.cells.now c.args.slots in
    let nodes = rule_node code s.code.now.kept c.args.rule (laid_of c.node_at.result.now) c.node_at.ensures.is
    (Refines m) found in
    let told = subst (λ o. IfSome o (λ (x : Chosen). (bs : List Branch)
    → branches_at code (c.args.rule + 1) c.node_at.result.now.to ≡ Some bs
    → IsChosenAt (rules_in code) me.nest (state_in (setting_of s c.args.cells.now)) e bs x.number)) c.in-Some.is
    c.in_ok-chosen.ensures.number in
    subst (λ (x : Choice). IsChosenAt (rules_in code) me.nest n.state e m.branches x.branch)
    (sym c.in_ok-open-in-Some.ensures)
    (subst (λ w. IsChosenAt (rules_in code) me.nest w e m.branches c.in-Some.field-0.number) (sym state)
    (told m.branches nodes.branches))

pub returns-in-None-clause-children : goal.returns-in-None-clause-children
returns-in-None-clause-children c = λ m n p found state.
    let me = c.args.self.now in
    let s = me.scene.now in
    let new = c.chosen_branch.new.cells in
    let slots = c.chosen_branch.new.slots in
    let nodes = rule_node (code_in s) s.code.now.kept c.args.rule (laid_of c.node_at.result.now) c.node_at.ensures.is
    (Refines m) found in
    let whole = λ (w : State).
    chosen_branch (rules_in (code_in s)) me.nest w m.branches (bindings_of c.args.cells.now c.args.slots) in
    let here = state_in (setting_of s c.args.cells.now) in
    let h = subst (λ o. Chooses s new slots o (whole here)) c.in-None.is
    (c.in_ok-chosen.ensures.chooses m.branches nodes.branches) in
    sym (ap (λ w. branch_children n p (whole w)) state ∙ ap (branch_children n p) h)
