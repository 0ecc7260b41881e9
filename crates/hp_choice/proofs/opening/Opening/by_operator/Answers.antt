use Rattle.std.proofs.Common.{◌≡◌, ◌+◌, Some, is_some, length, ap, sym, subst, ◌∙◌}
use Rattle.std.proofs.lemmas.Option.{same_Some, slice_get_within}
use Rattle.hp_syntax.specs.Events.{axioms_of}
use Rattle.hp_syntax.specs.Preconditions.{precondition_events}
use Rattle.hp_syntax.specs.Syntax.{Does}
use Rattle.hp_nodes.specs.NodeViews.{laid_of}
use Rattle.hp_nodes.specs.Trees.{Laid}
use Rattle.hp_code.specs.CodeViews.{rules_in}
use Rattle.hp_eval.specs.Slotted.{bindings_of}
use Rattle.hp_operator.specs.Bodies.{IsBodyIn, body_at}
use Rattle.hp_suspended.specs.SceneViews.{code_in}
use Rattle.hp_choice.specs.Choices.{IsChoice, choice_children}
use Rattle.hp_choice.proofs.OpeningLemmas.{operator_choice, operator_left}
use Rattle.hp_choice.proofs.RuleReadings.{rule_node, rule_within}
use Rattle.hp_choice.proofs.opening.Opening.by_operator.Goals as goal

pub node_at-requires : goal.node_at-requires
node_at-requires c =
    let s = c.args.self.now.scene.now in
    rule_within (code_in s) s.code.now.kept c.args.rule (Does c.requires.rule.0) c.requires.rule.1

pub satisfiers-requires-clause-node : goal.satisfiers-requires-clause-node
satisfiers-requires-clause-node c =
    let s = c.args.self.now.scene.now in
    let nodes = rule_node (code_in s) s.code.now.kept c.args.rule (laid_of c.node_at.result.now) c.node_at.ensures.is
    (Does c.requires.rule.0) c.requires.rule.1 in
    ap is_some nodes.pre

pub node_at-requires-2 : goal.node_at-requires-2
node_at-requires-2 c =
    let s = c.args.self.now.scene.now in
    let nodes = rule_node (code_in s) s.code.now.kept c.args.rule (laid_of c.node_at.result.now) c.node_at.ensures.is
    (Does c.requires.rule.0) c.requires.rule.1 in
    slice_get_within (code_in s).nodes (c.args.rule + 1) nodes.node nodes.there

pub returns-clause-children : goal.returns-clause-children
returns-clause-children c = λ o n p found state.
    let me = c.args.self.now in
    let s = me.scene.now in
    let terms = c.args.cells.now in
    let slots = c.args.slots in
    let nodes = rule_node (code_in s) s.code.now.kept c.args.rule (laid_of c.node_at.result.now) c.node_at.ensures.is
    (Does o) found in
    let start = c.node_at-2.result.now.to in
    let end = c.node_at.result.now.to in
    let same = same_Some nodes.node (laid_of c.node_at-2.result.now) (sym nodes.there ∙ c.node_at-2.ensures.is) in
    let is = subst (λ (l : Laid). body_at (code_in s) l.to end ≡ Some nodes.body) same nodes.is in
    ap (choice_children s me.nest terms s.world.now n p) c.in_ok-open.ensures
    ∙ operator_left s me.nest terms me.id me.task c.args.rule 0 slots c.in_ok-sats.sats start end o nodes.body is
    (λ axioms w e. c.operators_come_to_what_their_bodies_do.ensures axioms me.nest w o nodes.body e nodes.dels
    nodes.adds nodes.cost)
    n p
    (c.in_ok-sats.ensures.rest o.pre nodes.pre
    ∙ ap (λ w. precondition_events (axioms_of (rules_in (code_in s))) me.nest w o.pre (bindings_of terms slots))
    (sym state))

pub returns-clause-choice : goal.returns-clause-choice
returns-clause-choice c =
    let me = c.args.self.now in
    let s = me.scene.now in
    let nodes = rule_node (code_in s) s.code.now.kept c.args.rule (laid_of c.node_at.result.now) c.node_at.ensures.is
    (Does c.requires.rule.0) c.requires.rule.1 in
    let start = c.node_at-2.result.now.to in
    let end = c.node_at.result.now.to in
    let same = same_Some nodes.node (laid_of c.node_at-2.result.now) (sym nodes.there ∙ c.node_at-2.ensures.is) in
    let body = subst (λ (l : Laid). IsBodyIn (code_in s) l.to end) same nodes.nodes in
    let sats = c.in_ok-sats.ensures in
    subst (IsChoice s c.args.cells.now (length c.args.cells.now) s.world.now) (sym c.in_ok-open.ensures)
    (operator_choice s me.nest c.args.cells.now me.id me.task c.args.rule 0 c.args.slots c.in_ok-sats.sats start end
    c.requires.task body sats.suits sats.fits sats.kept sats.live sats.open)
