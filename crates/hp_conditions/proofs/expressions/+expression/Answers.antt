use Rattle.std.proofs.Common.{◌≡◌, ◌<◌, ◌≤◌, true, ap, arith, length, refl, rules, sym, ◌∙◌}
use Rattle.std.proofs.lemmas.Result.{err_from_is_err_and}
use Rattle.hp_syntax.specs.declared.expression.ExprKind.TheVariants as exprs
use Rattle.hp_syntax.specs.Grammar as grammar
use Rattle.hp_syntax.specs.Steps.{and_then, pure}
use Rattle.hp_syntax.specs.Syntax.{Or, Not, Test, Holds}
use Rattle.hp_syntax.specs.ViewLaws.{expression_of-atom, expression_of-call, expression_of-not, expression_of-or}
use Rattle.hp_syntax.specs.Views.{expression_of}
use Rattle.hp_text.specs.Nodes.{nodes_of}
use Rattle.hp_terms.proofs.Turns.{one_viewed, refused_next, refused_same}
use Rattle.hp_terms.proofs.PartSteps.{expressions_read, expressions_refused, reads_same, conjunction-list, conjunction-nil, word_first}
use Rattle.hp_terms.proofs.Sizes.{item-smaller}
use Rattle.hp_conditions.proofs.KeyLemmas.{one_alone, one_too_many, one_refused, seen_as, by_nothing, by_and, by_or, by_not, by_imply, by_forall, by_assign, by_call, by_name, by_no_name}
use Rattle.hp_conditions.proofs.expressions.+expression.Goals as goal

pub expressions-expression-requires : goal.expressions-expression-requires
expressions-expression-requires t c =
    let smaller = item-smaller c.args.nodes.now c.loop-node.node-index c.node-item.result c.loop-node-test.true
    c.node-item.is in
    (omega (arith, c.decreases, smaller), tt)

pub expressions-returns-in_err-expression : goal.expressions-returns-in_err-expression
expressions-returns-in_err-expression t c =
    let p = err_from_is_err_and c.from_residual-in_err-expression.result c.from_residual-in_err-expression.ensures.1 in
    rw (p.1, p.2) (expressions_refused c.args.nodes.now c.loop-node.node-index c.node-item.result
    c.loop-node.expressions.items c.in_err-expression.field-0.0 _ _ c.loop-node-test.true c.loop-node.invariant
    c.node-item.is c.in_err-expression.ensures)

pub expressions-loop-node-preserved : goal.expressions-loop-node-preserved
expressions-loop-node-preserved t c =
    let more = one_viewed expression_of grammar.expression c.args.nodes.now c.loop-node.node-index c.node-item.result
    c.loop-node.expressions.items _ _ _ _ c.loop-node-test.true c.loop-node.invariant
    (rw (← c.node-item.is) c.in_ok-expression.ensures) in
    rw c.in_ok-push.ensures.items more

pub expressions-returns : goal.expressions-returns
expressions-returns t c =
    expressions_read c.args.nodes.now c.loop-node.node-index c.loop-node.expressions.items _ _
    c.loop-node-test.false c.loop-node.invariant

pub list_kind-returns-in-List : goal.list_kind-returns-in-List
list_kind-returns-in-List t c =
    reads_same _ c.conjunction.result _ _ _ _
    (conjunction-list c.args.span c.args.nodes.now c.in-Some.rest.now c.in-Some.first.now _ _
    c.in-Some.ensures.cases.0 c.in-List.is)
    c.conjunction.ensures

pub implied-returns : goal.implied-returns
implied-returns t c =
    let both = rw c.closing.ensures at c.in_ok-first.ensures in
    rw c.in_ok-implication.ensures (ap (λ r. and_then r (λ both. pure (grammar.implied c.args.span both))) both)

pub keyed-returns-then-is : goal.keyed-returns-then-is
keyed-returns-then-is t c = λ s.
    reads_same _ c.conjunction.result _ _ _ _
    (by_and c.args.span s c.args.key.now (nodes_of c.args.rest.now) c.args.scope.now.names.keys c.requires
    (sym c.is.ensures ∙ c.if-is.true))
    c.conjunction.ensures

pub keyed-returns-then-is-4 : goal.keyed-returns-then-is-4
keyed-returns-then-is-4 t c = λ s.
    reads_same _ c.implied.result _ _ _ _
    (by_imply c.args.span s c.args.key.now (nodes_of c.args.rest.now) c.args.scope.now.names.keys c.requires
    (sym c.is.ensures ∙ c.if-is.false) (sym c.is-else-is.ensures ∙ c.if-is-2.false)
    (sym c.is-else-is-2.ensures ∙ c.if-is-3.false) (sym c.is-else-is-3.ensures ∙ c.if-is-4.true))
    c.implied.ensures

pub keyed-returns-then-is-5 : goal.keyed-returns-then-is-5
keyed-returns-then-is-5 t c = λ s.
    reads_same _ c.quantified.result _ _ _ _
    (by_forall c.args.span s c.args.key.now (nodes_of c.args.rest.now) c.args.scope.now.names.keys c.requires
    (sym c.is.ensures ∙ c.if-is.false) (sym c.is-else-is.ensures ∙ c.if-is-2.false)
    (sym c.is-else-is-2.ensures ∙ c.if-is-3.false) (sym c.is-else-is-3.ensures ∙ c.if-is-4.false)
    (sym c.is-else-is-4.ensures ∙ c.if-is-5.true))
    c.quantified.ensures

pub keyed-returns-then-is-6 : goal.keyed-returns-then-is-6
keyed-returns-then-is-6 t c = λ s.
    reads_same _ c.assigned.result _ _ _ _
    (by_assign c.args.span s c.args.key.now (nodes_of c.args.rest.now) c.args.scope.now.names.keys c.requires
    (sym c.is.ensures ∙ c.if-is.false) (sym c.is-else-is.ensures ∙ c.if-is-2.false)
    (sym c.is-else-is-2.ensures ∙ c.if-is-3.false) (sym c.is-else-is-3.ensures ∙ c.if-is-4.false)
    (sym c.is-else-is-4.ensures ∙ c.if-is-5.false) (sym c.is-else-is-5.ensures ∙ c.if-is-6.true))
    c.assigned.ensures

pub keyed-returns-in_ok-expressions : goal.keyed-returns-in_ok-expressions
keyed-returns-in_ok-expressions t c = λ s.
    let es = c.in_ok-expressions.field-0 in
    by_or c.args.span s c.args.key.now (nodes_of c.args.rest.now) c.args.scope.now.names.keys c.requires
    (sym c.is.ensures ∙ c.if-is.false) (sym c.is-else-is.ensures ∙ c.if-is-2.true)
    ∙ seen_as (Or c.args.span) _ _ _ _ c.in_ok-expressions.ensures
    (sym (expression_of-or (record { span = c.args.span; kind = exprs.Or es }) es refl))

pub keyed-returns-in_ok-new : goal.keyed-returns-in_ok-new
keyed-returns-in_ok-new t c = λ s.
    let not = c.in_ok-new.field-0 in
    by_not c.args.span s c.args.key.now (nodes_of c.args.rest.now) c.args.scope.now.names.keys c.requires
    (sym c.is.ensures ∙ c.if-is.false) (sym c.is-else-is.ensures ∙ c.if-is-2.false)
    (sym c.is-else-is-2.ensures ∙ c.if-is-3.true)
    ∙ seen_as (Not c.args.span) _ _ _ _ (rw c.closing.ensures at c.in_ok-part.ensures)
    (sym (expression_of-not (record { span = c.args.span; kind = exprs.Not not }) not refl
    ∙ ap (λ e. Not c.args.span (expression_of e)) c.in_ok-new.ensures.ok))

pub keyed-returns-in_ok-called : goal.keyed-returns-in_ok-called
keyed-returns-in_ok-called t c = λ s.
    let call = c.in_ok-called.field-0 in
    by_call c.args.span s c.args.key.now (nodes_of c.args.rest.now) c.args.scope.now.names.keys c.requires
    (sym c.is.ensures ∙ c.if-is.false) (sym c.is-else-is.ensures ∙ c.if-is-2.false)
    (sym c.is-else-is-2.ensures ∙ c.if-is-3.false) (sym c.is-else-is-3.ensures ∙ c.if-is-4.false)
    (sym c.is-else-is-4.ensures ∙ c.if-is-5.false) (sym c.is-else-is-5.ensures ∙ c.if-is-6.false)
    (sym c.is-else-is-6.ensures ∙ c.if-is-7.true)
    ∙ seen_as (Test c.args.span) _ _ _ _ c.in_ok-called.ensures
    (sym (expression_of-call (record { span = c.args.span; kind = exprs.Call call }) call refl))

pub keyed-returns-in_err-called : goal.keyed-returns-in_err-called
keyed-returns-in_err-called t c = λ s.
    let why = c.in_err-called.field-0.0 in
    let p = err_from_is_err_and c.from_residual-in_err-called.result c.from_residual-in_err-called.ensures.1 in
    rw (p.1, p.2) (refused_same why _ _
    (by_call c.args.span s c.args.key.now (nodes_of c.args.rest.now) c.args.scope.now.names.keys c.requires
    (sym c.is.ensures ∙ c.if-is.false) (sym c.is-else-is.ensures ∙ c.if-is-2.false)
    (sym c.is-else-is-2.ensures ∙ c.if-is-3.false) (sym c.is-else-is-3.ensures ∙ c.if-is-4.false)
    (sym c.is-else-is-4.ensures ∙ c.if-is-5.false) (sym c.is-else-is-5.ensures ∙ c.if-is-6.false)
    (sym c.is-else-is-6.ensures ∙ c.if-is-7.true))
    (refused_next why _ _ c.in_err-called.ensures))

pub keyed-returns-in_ok-named_atom : goal.keyed-returns-in_ok-named_atom
keyed-returns-in_ok-named_atom t c = λ s.
    let atom = c.in_ok-named_atom.field-0 in
    by_name c.args.span s c.args.key.now (nodes_of c.args.rest.now) c.args.scope.now.names.keys c.requires
    (sym c.is.ensures ∙ c.if-is.false) (sym c.is-else-is.ensures ∙ c.if-is-2.false)
    (sym c.is-else-is-2.ensures ∙ c.if-is-3.false) (sym c.is-else-is-3.ensures ∙ c.if-is-4.false)
    (sym c.is-else-is-4.ensures ∙ c.if-is-5.false) (sym c.is-else-is-5.ensures ∙ c.if-is-6.false)
    (sym c.is-else-is-6.ensures ∙ c.if-is-7.false) (sym c.is_plain.ensures ∙ c.if-is_plain.true)
    ∙ seen_as (Holds c.args.span) _ _ _ _ c.in_ok-named_atom.ensures
    (sym (expression_of-atom (record { span = c.args.span; kind = exprs.Atom atom }) atom refl))

pub keyed-returns-in_err-named_atom : goal.keyed-returns-in_err-named_atom
keyed-returns-in_err-named_atom t c = λ s.
    let why = c.in_err-named_atom.field-0.0 in
    let p = err_from_is_err_and c.from_residual-in_err-named_atom.result c.from_residual-in_err-named_atom.ensures.1 in
    rw (p.1, p.2) (refused_same why _ _
    (by_name c.args.span s c.args.key.now (nodes_of c.args.rest.now) c.args.scope.now.names.keys c.requires
    (sym c.is.ensures ∙ c.if-is.false) (sym c.is-else-is.ensures ∙ c.if-is-2.false)
    (sym c.is-else-is-2.ensures ∙ c.if-is-3.false) (sym c.is-else-is-3.ensures ∙ c.if-is-4.false)
    (sym c.is-else-is-4.ensures ∙ c.if-is-5.false) (sym c.is-else-is-5.ensures ∙ c.if-is-6.false)
    (sym c.is-else-is-6.ensures ∙ c.if-is-7.false) (sym c.is_plain.ensures ∙ c.if-is_plain.true))
    (refused_next why _ _ c.in_err-named_atom.ensures))

pub keyed-returns-else-is_plain : goal.keyed-returns-else-is_plain
keyed-returns-else-is_plain t c = λ s.
    rw c.expected.ensures (by_no_name c.args.span s c.args.key.now (nodes_of c.args.rest.now)
    c.args.scope.now.names.keys c.requires
    (sym c.is.ensures ∙ c.if-is.false) (sym c.is-else-is.ensures ∙ c.if-is-2.false)
    (sym c.is-else-is-2.ensures ∙ c.if-is-3.false) (sym c.is-else-is-3.ensures ∙ c.if-is-4.false)
    (sym c.is-else-is-4.ensures ∙ c.if-is-5.false) (sym c.is-else-is-5.ensures ∙ c.if-is-6.false)
    (sym c.is-else-is-6.ensures ∙ c.if-is-7.false) (sym c.is_plain.ensures ∙ c.if-is_plain.false))

-- the first of some nodes is smaller than all of them
pub one_expression-expression-requires : goal.one_expression-expression-requires
one_expression-expression-requires t c =
    let least : 1 ≤ length c.args.nodes.now = c.in-len1.len_at_least in
    let some : 0 < length c.args.nodes.now = omega arith in
    let smaller = item-smaller c.args.nodes.now 0 c.only-item.result some c.only-item.is in
    (omega (arith, c.decreases, smaller), tt)

pub one_expression-expression-requires-in-len2-up : goal.one_expression-expression-requires-in-len2-up
one_expression-expression-requires-in-len2-up t c =
    let least : 2 ≤ length c.args.nodes.now = c.in-len2-up.len_at_least in
    let some : 0 < length c.args.nodes.now = omega arith in
    let smaller = item-smaller c.args.nodes.now 0 c.first-item.result some c.first-item.is in
    (omega (arith, c.decreases, smaller), tt)

pub list_kind-returns-in_default : goal.list_kind-returns-in_default
list_kind-returns-in_default t c =
    let none : length c.args.nodes.now ≡ 0 = search rules in
    by_nothing c.args.span c.args.nodes.now c.new.result c.args.scope.now.names.keys none c.new.ensures.items

-- ---- calls that go to something smaller

pub list_expression-list_kind-requires : goal.list_expression-list_kind-requires
list_expression-list_kind-requires t c = (omega (arith, c.decreases), tt)

pub list_kind-conjunction-requires : goal.list_kind-conjunction-requires
list_kind-conjunction-requires t c = (omega (arith, c.decreases), tt)

pub list_kind-conjunction-requires-in-Name : goal.list_kind-conjunction-requires-in-Name
list_kind-conjunction-requires-in-Name t c = (omega (arith, c.decreases), tt)

pub conjunction-expressions-requires : goal.conjunction-expressions-requires
conjunction-expressions-requires t c = (omega (arith, c.decreases), tt)

pub keyed-conjunction-requires : goal.keyed-conjunction-requires
keyed-conjunction-requires t c = (omega (arith, c.decreases), tt)

pub keyed-expressions-requires : goal.keyed-expressions-requires
keyed-expressions-requires t c = (omega (arith, c.decreases), tt)

pub keyed-one_expression-requires : goal.keyed-one_expression-requires
keyed-one_expression-requires t c = (omega (arith, c.decreases), tt)

pub keyed-implied-requires : goal.keyed-implied-requires
keyed-implied-requires t c = (omega (arith, c.decreases), tt)

pub keyed-quantified-requires : goal.keyed-quantified-requires
keyed-quantified-requires t c = (omega (arith, c.decreases), tt)

pub implied-two_expressions-requires : goal.implied-two_expressions-requires
implied-two_expressions-requires t c = (omega (arith, c.decreases), tt)

-- ---- refusals, and lists that begin with a word

pub list_kind-returns-in-Name : goal.list_kind-returns-in-Name
list_kind-returns-in-Name t c =
    let nil : grammar.is_nil c.in-Name.key ≡ true = sym c.is.ensures ∙ c.if-is.true in
    reads_same _ c.conjunction-in-Name.result _ _ _ _
    (conjunction-nil c.args.span c.args.nodes.now c.in-Some.rest.now c.in-Some.first.now c.in-Name.key _
    c.in-Some.ensures.cases.0 c.in-Name.is nil)
    c.conjunction-in-Name.ensures

pub list_kind-returns-in-Name-2 : goal.list_kind-returns-in-Name-2
list_kind-returns-in-Name-2 t c =
    reads_same _ c.keyed.result _ _ _ _
    (ap (λ f. grammar.list_expression c.args.span f c.args.scope.now.names.keys)
    (word_first c.args.nodes.now c.in-Some.rest.now c.in-Some.first.now c.in-Name-2.key
    c.in-Some.ensures.cases.0 c.in-Name-2.is))
    (c.keyed.ensures c.in-Some.first.now.span)

pub keyed-returns-in_err-expressions : goal.keyed-returns-in_err-expressions
keyed-returns-in_err-expressions t c = λ s.
    let why = c.in_err-expressions.field-0.0 in
    let p = err_from_is_err_and c.from_residual.result c.from_residual.ensures.1 in
    rw (p.1, p.2) (refused_same why _ _
    (by_or c.args.span s c.args.key.now (nodes_of c.args.rest.now) c.args.scope.now.names.keys c.requires
    (sym c.is.ensures ∙ c.if-is.false) (sym c.is-else-is.ensures ∙ c.if-is-2.true))
    (refused_next why _ _ c.in_err-expressions.ensures))

pub keyed-returns-in_err-part : goal.keyed-returns-in_err-part
keyed-returns-in_err-part t c = λ s.
    let why = c.in_err-part.field-0.0 in
    let p = err_from_is_err_and c.from_residual-in_err-part.result c.from_residual-in_err-part.ensures.1 in
    rw (p.1, p.2) (refused_same why _ _
    (by_not c.args.span s c.args.key.now (nodes_of c.args.rest.now) c.args.scope.now.names.keys c.requires
    (sym c.is.ensures ∙ c.if-is.false) (sym c.is-else-is.ensures ∙ c.if-is-2.false)
    (sym c.is-else-is-2.ensures ∙ c.if-is-3.true))
    (refused_next why _ _ (rw c.closing.ensures at c.in_err-part.ensures)))

pub one_expression-returns-in-len1 : goal.one_expression-returns-in-len1
one_expression-returns-in-len1 t c =
    reads_same _ c.expression.result _ _ _ _
    (one_alone c.args.end c.args.nodes.now c.only-item.result c.args.scope.now.names.keys c.in-len1.len_at_least
    c.in-len1.len_below c.only-item.is)
    c.expression.ensures

pub one_expression-returns-in_ok-expression-in-len2-up : goal.one_expression-returns-in_ok-expression-in-len2-up
one_expression-returns-in_ok-expression-in-len2-up t c =
    rw c.expected-in-len2-up.ensures (one_too_many c.args.end c.args.nodes.now c.first-item.result c.second-item.result _ _ _
    c.in-len2-up.len_at_least c.first-item.is c.second-item.is c.in_ok-expression-in-len2-up.ensures)

pub one_expression-returns-in_err-expression-in-len2-up : goal.one_expression-returns-in_err-expression-in-len2-up
one_expression-returns-in_err-expression-in-len2-up t c =
    let p = err_from_is_err_and c.from_residual.result c.from_residual.ensures.1 in
    let least : 2 ≤ length c.args.nodes.now = c.in-len2-up.len_at_least in
    rw (p.1, p.2) (one_refused c.in_err-expression-in-len2-up.field-0.0 c.args.end c.args.nodes.now
    c.first-item.result c.args.scope.now.names.keys (omega arith) c.first-item.is
    c.in_err-expression-in-len2-up.ensures)
