use Rattle.std.proofs.Common.{◌<◌, length, codes, append_assoc, arith, rules, refl}
use Rattle.std.proofs.lemmas.Result.{IfOk-equal}
use Rattle.std.proofs.lemmas.Grind.{common_steps}
use Rattle.hp_syntax.specs.ViewLaws.{expression_of-or, expression_of-not, expression_of-forall}
use Rattle.hp_syntax.specs.Views.{expression_of, expressions_of}
use Rattle.hp_syntax.specs.Written as written
use Rattle.hp_syntax.specs.Written.{expression, node_text, rest_text}
use Rattle.hp_print.proofs.WrittenTexts.{conjunction_of_some}
use Rattle.hp_print.proofs.WrittenLists.{spaced_on, all_and_more}
use Rattle.hp_print.proofs.expressions.+expression.Goals as goal

pub push_conjunction-returns : goal.push_conjunction-returns
unfolding node_text
push_conjunction-returns t c =
    let some : 0 < length c.args.parts.now = grind (arith, common_steps) in
    rw (conjunction_of_some c.args.vars.now c.args.parts.now some) (grind (arith, common_steps))

pub push_expression-returns-in_ok-push_begun-in-Or : goal.push_expression-returns-in_ok-push_begun-in-Or
unfolding expression node_text
push_expression-returns-in_ok-push_begun-in-Or t c =
    rw (expression_of-or c.args.expr.now c.in-Or.parts c.in-Or.is) (grind (arith, common_steps))

pub push_expression-returns-in_ok-push_expression-in-Not : goal.push_expression-returns-in_ok-push_expression-in-Not
unfolding expression node_text
push_expression-returns-in_ok-push_expression-in-Not t c =
    rw (expression_of-not c.args.expr.now c.in-Not.part c.in-Not.is) (grind (arith, common_steps))

pub push_expression-returns-in_ok-push_expression-in-Forall-2 :
    goal.push_expression-returns-in_ok-push_expression-in-Forall-2
unfolding expression node_text
push_expression-returns-in_ok-push_expression-in-Forall-2 t c =
    let f = c.in-Forall in
    rw (expression_of-forall c.args.expr.now f.list f.range f.body f.is) (search (rules, IfOk-equal, append_assoc))

pub push_expressions-loop-part-preserved : goal.push_expressions-loop-part-preserved
unfolding expression rest_text
push_expressions-loop-part-preserved t c =
    let vars = c.args.vars.now in
    spaced_on (λ es. rest_text (written.expressions vars (expressions_of es)))
    (λ e. node_text (written.expression vars (expression_of e))) c.args.parts.now c.loop-part.part-index
    c.part-item.result c.loop-part.text.items c.push.new.self.items _ _ (λ e es. refl) c.loop-part-test.true
    c.part-item.is c.loop-part.invariant c.in_ok-push.ensures.items c.in_ok-push_expression.ensures

pub push_expressions-returns : goal.push_expressions-returns
unfolding expression rest_text
push_expressions-returns t c =
    all_and_more c.extend_from_slice.result
    (λ es. rest_text (written.expressions c.args.vars.now (expressions_of es))) c.args.parts.now
    c.loop-part.part-index c.loop-part.text.items _ _ c.loop-part-test.false c.loop-part.invariant (codes ")") refl
    c.extend_from_slice.ensures.items
