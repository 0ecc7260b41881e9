use Rattle.std.proofs.Common.{refl}
use Rattle.hp_syntax.specs.ViewLaws.{expression_of-forall}
use Rattle.hp_syntax.specs.Views.{expression_of, expressions_of}
use Rattle.hp_nodes.specs.Compiled.{expression_tree, expression_trees, only}
use Rattle.hp_nodes.proofs.LayingLemmas.{open_within, open_within_more, node_lays, node_lays_more}
use Rattle.hp_nodes.proofs.LayingSteps.{laid_one_more, all_parts_laid}
use Rattle.hp_nodes.proofs.expressions.+expression.Goals as goal

pub lay_expressions-loop-part-preserved : goal.lay_expressions-loop-part-preserved
unfolding expression_tree expression_trees
lay_expressions-loop-part-preserved t c =
    laid_one_more (λ es. expression_trees (expressions_of es)) (λ e. expression_tree (expression_of e))
    c.args.parts.now c.loop-part.part-index c.part-item.result c.loop-part.nodes.items c.lay_expression.new.nodes.items
    (λ e es. refl) c.loop-part-test.true c.part-item.is c.in_ok-lay_expression.ensures _ c.loop-part.invariant

pub lay_expressions-returns : goal.lay_expressions-returns
unfolding expression_tree expression_trees
lay_expressions-returns t c =
    all_parts_laid (λ es. expression_trees (expressions_of es)) c.args.parts.now c.loop-part.part-index
    c.loop-part-test.false refl c.loop-part.nodes.items _ c.loop-part.invariant

pub lay_parts-close_node-requires : goal.lay_parts-close_node-requires
lay_parts-close_node-requires t c =
    open_within c.in_ok-at.ensures _ c.lay_expressions.new.nodes.items c.in_ok-lay_expressions.ensures

pub lay_parts-returns : goal.lay_parts-returns
lay_parts-returns t c =
    node_lays c.in_ok-at.ensures _ c.lay_expressions.new.nodes.items c.close_node.new.nodes.items
    c.in_ok-lay_expressions.ensures c.close_node.ensures

pub lay_part-close_node-requires : goal.lay_part-close_node-requires
lay_part-close_node-requires t c =
    open_within c.in_ok-at.ensures _ c.lay_expression.new.nodes.items c.in_ok-lay_expression.ensures

pub lay_part-returns : goal.lay_part-returns
lay_part-returns t c =
    node_lays c.in_ok-at.ensures _ c.lay_expression.new.nodes.items c.close_node.new.nodes.items
    c.in_ok-lay_expression.ensures c.close_node.ensures

pub lay_expression-close_node-requires : goal.lay_expression-close_node-requires
lay_expression-close_node-requires t c =
    open_within_more c.in_ok-at-in-Forall.ensures _ _ c.lay_expression.new.nodes.items
    c.lay_expression-in-Forall.new.nodes.items c.in_ok-lay_expression-in-Forall.ensures
    c.in_ok-lay_expression-in-Forall-2.ensures

pub lay_expression-returns-in_ok-lay_expression-in-Forall-2 :
    goal.lay_expression-returns-in_ok-lay_expression-in-Forall-2
unfolding expression_tree expression_trees
lay_expression-returns-in_ok-lay_expression-in-Forall-2 t c =
    let f = c.in-Forall in
    rw (expression_of-forall c.args.expr.now f.field-0 f.range f.body f.is)
    (node_lays_more c.in_ok-at-in-Forall.ensures (expression_tree (expression_of f.range.value))
    (only (expression_tree (expression_of f.body.value))) c.lay_expression.new.nodes.items
    c.lay_expression-in-Forall.new.nodes.items c.close_node.new.nodes.items
    (rw c.deref-in-Forall.ensures at c.in_ok-lay_expression-in-Forall.ensures)
    (rw c.deref-in-Forall-2.ensures at c.in_ok-lay_expression-in-Forall-2.ensures) c.close_node.ensures)
