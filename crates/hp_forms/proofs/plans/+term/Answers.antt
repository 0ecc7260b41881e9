use Rattle.std.proofs.Common.{◌≡◌, ◌<◌, ◌≤◌, arith, ◌∙◌, ap, sym, refl, length, codes, is_some, Ok, ◌++◌, true, false, rules}
use Rattle.std.proofs.lemmas.Result.{err_from_is_err_and}
use Rattle.hp_syntax.specs.GroundViews.{grounds_of, ground_of-list, ground_of-num}
use Rattle.hp_syntax.specs.Terms.{Listed}
use Rattle.hp_text.specs.Nodes.{nodes_of}
use Rattle.hp_text.specs.NodeLaws.{node_of-name, node_of-number, node_of-list}
use Rattle.hp_terms.specs.Words.{behind}
use Rattle.hp_terms.proofs.Turns.{refused_same}
use Rattle.hp_terms.proofs.Sizes.{forest_size, item-smaller, rest-smaller, parts-smaller, taken-smaller, others_left-smaller, call-smaller, term_call-smaller, step-smaller}
use Rattle.hp_forms.specs.PlanForms as plans
use Rattle.hp_forms.specs.PlanForms.{and_then}
use Rattle.hp_forms.proofs.PlanSteps.{refused_next, item_read, item_refused, tail_added, none_added, nothing_added, list-call, list-parts, is_some-seen}
use Rattle.hp_forms.proofs.plans.+term.Goals as goal

-- ---- that each call goes to something smaller

pub term-list_term-requires : goal.term-list_term-requires
term-list_term-requires t c =
    term_call-smaller
    (parts-smaller c.args.node.now c.in-List.nodes c.as_slice.result.now c.in-List.is c.as_slice.ensures.value)
    c.decreases

pub list_term-list_tail-requires : goal.list_term-list_tail-requires
list_term-list_tail-requires t c =
    step-smaller (forest_size (nodes_of c.args.nodes.now)) c.decreases

pub items-dotted-requires : goal.items-dotted-requires
items-dotted-requires t c =
    call-smaller
    (others_left-smaller c.loop-first.rest.now c.in-Some.others.now c.in-Some.first.now
    (forest_size (nodes_of c.args.nodes.now)) c.in-Some.ensures.cases.0 c.loop-first.invariant.smaller)
    c.decreases

pub items-term-requires : goal.items-term-requires
items-term-requires t c =
    call-smaller
    (taken-smaller c.loop-first.rest.now c.in-Some.others.now c.in-Some.first.now
    (forest_size (nodes_of c.args.nodes.now)) c.in-Some.ensures.cases.0 c.loop-first.invariant.smaller)
    c.decreases

-- the item behind a dot is smaller than what stands there
pub dotted-tail-requires : goal.dotted-tail-requires
dotted-tail-requires t c =
    let some : 0 < length c.args.nodes.now = c.in-len1.len_at_least in
    call-smaller (item-smaller c.args.nodes.now 0 c.only-item.result some c.only-item.is) c.decreases

pub dotted-tail-requires-in-len2-up : goal.dotted-tail-requires-in-len2-up
dotted-tail-requires-in-len2-up t c =
    let least : 2 ≤ length c.args.nodes.now = c.in-len2-up.len_at_least in
    let some : 0 < length c.args.nodes.now = omega arith in
    call-smaller (item-smaller c.args.nodes.now 0 c.first-item.result some c.first-item.is) c.decreases

pub tail-list_tail-requires : goal.tail-list_tail-requires
tail-list_tail-requires t c =
    call-smaller
    (parts-smaller c.args.node.now c.in-List.nodes c.as_slice.result.now c.in-List.is c.as_slice.ensures.value)
    c.decreases

pub list_tail-term-requires : goal.list_tail-term-requires
list_tail-term-requires t c =
    let some : 0 < length c.args.nodes.now = c.in-len1-up.len_at_least in
    call-smaller (item-smaller c.args.nodes.now 0 c.first-item-2.result some c.first-item-2.is) c.decreases

-- the items behind the first of a list are smaller than the list
pub list_tail-items-requires : goal.list_tail-items-requires
list_tail-items-requires t c =
    call-smaller (rest-smaller c.args.nodes.now c.in-len1-up.len_at_least) c.decreases

-- ---- what is read

pub term-returns-in-Name : goal.term-returns-in-Name
unfolding plans.term
term-returns-in-Name t c =
    rw (node_of-name c.args.node.now c.in-Name.name c.in-Name.is) c.word_term.ensures

pub term-returns-in-Num : goal.term-returns-in-Num
unfolding plans.term
term-returns-in-Num t c =
    rw (node_of-number c.args.node.now _ c.in-Num.is, ground_of-num _) (search rules)

pub term-returns-in-List : goal.term-returns-in-List
unfolding plans.term
term-returns-in-List t c =
    rw (node_of-list c.args.node.now c.in-List.nodes c.in-List.is)
    (rw c.as_slice.ensures.value at c.list_term.ensures)

pub list_term-returns-then-is_some : goal.list_term-returns-then-is_some
list_term-returns-then-is_some t c =
    let call : is_some (behind (codes "call") (nodes_of c.args.nodes.now)) ≡ true =
    ap is_some (sym c.behind.ensures) ∙ is_some-seen (λ rest. nodes_of rest.now) c.behind.result
    ∙ sym c.is_some.ensures ∙ c.if-is_some.true in
    rw c.expected.ensures (list-call c.args.span (nodes_of c.args.nodes.now) call)

pub list_term-returns-in_err-list_tail : goal.list_term-returns-in_err-list_tail
list_term-returns-in_err-list_tail t c =
    let other : is_some (behind (codes "call") (nodes_of c.args.nodes.now)) ≡ false =
    ap is_some (sym c.behind.ensures) ∙ is_some-seen (λ rest. nodes_of rest.now) c.behind.result
    ∙ sym c.is_some.ensures ∙ c.if-is_some.false in
    let p = err_from_is_err_and c.from_residual-in_err-list_tail.result c.from_residual-in_err-list_tail.ensures.1 in
    rw (p.1, p.2) (refused_same c.in_err-list_tail.field-0.0 _ _
    (list-parts c.args.span (nodes_of c.args.nodes.now) other)
    (refused_next c.in_err-list_tail.field-0.0 _ _ c.in_err-list_tail.ensures))

pub list_term-returns : goal.list_term-returns
list_term-returns t c =
    let other : is_some (behind (codes "call") (nodes_of c.args.nodes.now)) ≡ false =
    ap is_some (sym c.behind.ensures) ∙ is_some-seen (λ rest. nodes_of rest.now) c.behind.result
    ∙ sym c.is_some.ensures ∙ c.if-is_some.false in
    let new = c.list_tail.new.parts in
    let added : new.items ≡ c.in_ok-list_tail.ensures.0 =
    c.in_ok-list_tail.ensures.1 ∙ ap (λ gs. gs ++ c.in_ok-list_tail.ensures.0) c.in_ok-parts.ensures.items in
    list-parts c.args.span (nodes_of c.args.nodes.now) other
    ∙ ap (λ r. and_then r (λ ts. Ok (Listed ts))) c.in_ok-list_tail.ensures.2
    ∙ ap (λ gs. Ok (Listed (grounds_of gs))) (sym added) ∙ ap Ok (sym (ground_of-list new))

pub items-returns-then-is_word : goal.items-returns-then-is_word
items-returns-then-is_word t c =
    tail_added c.args.end (plans.items c.args.end (nodes_of c.args.nodes.now)) _ c.loop-first.rest.now
    c.in-Some.others.now c.in-Some.first.now c.in-Some.ensures.cases.0 c.dotted.result _ _
    (sym c.is_word.ensures ∙ c.if-is_word.true) c.loop-first.invariant.read c.dotted.ensures

pub items-returns-in_err-term : goal.items-returns-in_err-term
items-returns-in_err-term t c =
    let p = err_from_is_err_and c.from_residual.result c.from_residual.ensures.1 in
    rw (p.1, p.2) (item_refused c.args.end (plans.items c.args.end (nodes_of c.args.nodes.now)) _ c.loop-first.rest.now
    c.in-Some.others.now c.in-Some.first.now c.in-Some.ensures.cases.0 _ (sym c.is_word.ensures ∙ c.if-is_word.false)
    c.loop-first.invariant.read c.in_err-term.field-0.0 c.in_err-term.ensures)

pub items-loop-first-preserved : goal.items-loop-first-preserved
items-loop-first-preserved t c = record {
  read = item_read c.args.end (plans.items c.args.end (nodes_of c.args.nodes.now)) _ c.loop-first.rest.now
      c.in-Some.others.now c.in-Some.first.now c.in-Some.ensures.cases.0 _
      (sym c.is_word.ensures ∙ c.if-is_word.false) c.loop-first.invariant.read _ _ c.in_ok-term.ensures
      c.in_ok-push.ensures.items;
  smaller = search rules;
}

pub items-returns : goal.items-returns
items-returns t c =
    let none : length c.loop-first.rest.now ≡ 0 = search rules in
    none_added c.args.end (plans.items c.args.end (nodes_of c.args.nodes.now)) _ _ c.loop-first.rest.now none
    c.loop-first.invariant.read

pub tail-returns-in-Name : goal.tail-returns-in-Name
unfolding plans.tail
tail-returns-in-Name t c =
    rw (node_of-name c.args.node.now c.in-Name.name c.in-Name.is)
    (nothing_added c.word_tail.result _ _ c.word_tail.ensures)

pub tail-returns-in-Num : goal.tail-returns-in-Num
unfolding plans.tail
tail-returns-in-Num t c =
    rw (node_of-number c.args.node.now _ c.in-Num.is, c.expected.ensures) refl

pub tail-returns-in-List : goal.tail-returns-in-List
unfolding plans.tail
tail-returns-in-List t c =
    rw (node_of-list c.args.node.now c.in-List.nodes c.in-List.is)
    (rw c.as_slice.ensures.value at c.list_tail.ensures)
