use Rattle.std.proofs.Common.{◌≡◌, ◌<◌, ◌≤◌, arith, ◌∙◌, ap, sym, refl, length, codes, option_map, Some, None, Ok, ◌++◌, rules}
use Rattle.std.proofs.lemmas.Result.{err_from_is_err_and}
use Rattle.hp_syntax.specs.Grammar as grammar
use Rattle.hp_syntax.specs.Steps.{and_then, pure}
use Rattle.hp_syntax.specs.Syntax.{Listing}
use Rattle.hp_syntax.specs.Views.{pattern_of, patterns_of}
use Rattle.hp_syntax.specs.ViewLaws.{pattern_of-list}
use Rattle.hp_text.specs.Nodes.{node_of, nodes_of}
use Rattle.hp_text.specs.NodeLaws.{node_of-name, node_of-number, node_of-list}
use Rattle.hp_terms.specs.Words.{behind}
use Rattle.hp_terms.proofs.PartSteps.{reads_same}
use Rattle.hp_terms.proofs.Turns.{refused_same, refused_next, one_viewed}
use Rattle.hp_terms.proofs.WordLemmas.{term-by_word, listing}
use Rattle.hp_terms.specs.FormReads.{setting_of}
use Rattle.hp_terms.proofs.ItemSteps.{item_read, tail_added, none_added, terms_read, terms_refused}
use Rattle.hp_terms.proofs.Sizes.{forest_size, item-smaller, rest-smaller, parts-smaller, behind-smaller, taken-smaller, others_left-smaller, behind_first-smaller, call-smaller, term_call-smaller, called-smaller, step-smaller}
use Rattle.hp_terms.proofs.terms.+term.Goals as goal

pub term-returns-in-Name : goal.term-returns-in-Name
unfolding grammar.term
term-returns-in-Name t c =
    rw (node_of-name c.args.node.now c.in-Name.name c.in-Name.is) c.word_term.ensures

pub list_term-returns-in-Some : goal.list_term-returns-in-Some
list_term-returns-in-Some t c =
    let f = nodes_of c.args.nodes.now in
    let call : behind (codes "call") f ≡ Some (nodes_of c.in-Some.rest.now) =
    sym c.behind.ensures ∙ ap (option_map (λ rest. nodes_of rest.now)) c.in-Some.is in
    reads_same pattern_of c.called.result _ _ _ _
    (rw call at (term-by_word (setting_of c.args.setting) c.args.span f c.args.scope.now.names.keys)) c.called.ensures

pub list_term-returns-in_err-tail : goal.list_term-returns-in_err-tail
list_term-returns-in_err-tail t c =
    let f = nodes_of c.args.nodes.now in
    let call : behind (codes "call") f ≡ None =
    sym c.behind.ensures ∙ ap (option_map (λ rest. nodes_of rest.now)) c.in_default.is in
    let p = err_from_is_err_and c.from_residual-in_err-tail.result c.from_residual-in_err-tail.ensures.1 in
    rw (p.1, p.2) (refused_same c.in_err-tail.field-0.0 _ _
    (rw call at (term-by_word (setting_of c.args.setting) c.args.span f c.args.scope.now.names.keys))
    (refused_next c.in_err-tail.field-0.0 _ _ c.in_err-tail.ensures))

pub list_term-returns : goal.list_term-returns
list_term-returns t c =
    let f = nodes_of c.args.nodes.now in
    let call : behind (codes "call") f ≡ None =
    sym c.behind.ensures ∙ ap (option_map (λ rest. nodes_of rest.now)) c.in_default.is in
    let new = c.list_tail.new.parts in
    let added : new.items ≡ c.in_ok-tail.ensures.0 =
    c.in_ok-tail.ensures.1 ∙ ap (λ ps. ps ++ c.in_ok-tail.ensures.0) c.in_ok-parts.ensures.items in
    rw call at (term-by_word (setting_of c.args.setting) c.args.span f c.args.scope.now.names.keys)
    ∙ ap (λ r. and_then r (λ x. pure (listing c.args.span x))) c.in_ok-tail.ensures.2
    ∙ ap (λ ps. Ok (Listing c.args.span (patterns_of ps) c.in_ok-tail.tail, c.list_tail.new.scope.names.keys))
    (sym added)
    ∙ ap (λ x. Ok (x, c.list_tail.new.scope.names.keys))
    (sym (pattern_of-list _ new c.in_ok-tail.tail refl))

pub items-returns-then-is_word : goal.items-returns-then-is_word
items-returns-then-is_word t c =
    tail_added (setting_of c.args.setting) c.args.end
    (grammar.items (setting_of c.args.setting) c.args.end (nodes_of c.args.nodes.now)) c.dotted.result
    _ _ _ _ _ _ c.loop-first.rest.now c.in-Some.others.now c.in-Some.first.now c.in-Some.ensures.cases.0
    (sym c.is_word.ensures ∙ c.if-is_word.true) c.loop-first.invariant.read c.dotted.ensures

pub items-loop-first-preserved : goal.items-loop-first-preserved
items-loop-first-preserved t c = record {
  read = item_read (setting_of c.args.setting) c.args.end
      (grammar.items (setting_of c.args.setting) c.args.end (nodes_of c.args.nodes.now))
      _ _ _ _ _ _ c.loop-first.rest.now c.in-Some.others.now c.in-Some.first.now _ c.in-Some.ensures.cases.0
      (sym c.is_word.ensures ∙ c.if-is_word.false) c.loop-first.invariant.read c.in_ok-term.ensures
      c.in_ok-push.ensures.items;
  smaller = search rules;
}

pub items-returns : goal.items-returns
items-returns t c =
    let none : length c.loop-first.rest.now ≡ 0 = search rules in
    none_added (setting_of c.args.setting) c.args.end
    (grammar.items (setting_of c.args.setting) c.args.end (nodes_of c.args.nodes.now))
    _ _ _ _ c.loop-first.rest.now none c.loop-first.invariant.read

pub terms-term-requires : goal.terms-term-requires
terms-term-requires t c =
    let smaller = item-smaller c.args.nodes.now c.loop-node.node-index c.node-item.result c.loop-node-test.true
    c.node-item.is in
    call-smaller smaller c.decreases

pub terms-returns-in_err-term : goal.terms-returns-in_err-term
terms-returns-in_err-term t c =
    let p = err_from_is_err_and c.from_residual-in_err-term.result c.from_residual-in_err-term.ensures.1 in
    rw (p.1, p.2) (terms_refused c.args.nodes.now c.loop-node.node-index c.node-item.result c.loop-node.terms.items
    c.in_err-term.field-0.0 _ _ c.loop-node-test.true c.loop-node.invariant c.node-item.is c.in_err-term.ensures)

pub terms-loop-node-preserved : goal.terms-loop-node-preserved
terms-loop-node-preserved t c =
    let more = one_viewed pattern_of (grammar.term grammar.InRule) c.args.nodes.now c.loop-node.node-index
    c.node-item.result c.loop-node.terms.items _ _ _ _ c.loop-node-test.true c.loop-node.invariant
    (rw (← c.node-item.is) c.in_ok-term.ensures) in
    rw c.in_ok-push.ensures.items more

pub terms-returns : goal.terms-returns
terms-returns t c =
    terms_read c.args.nodes.now c.loop-node.node-index c.loop-node.terms.items _ _ c.loop-node-test.false
    c.loop-node.invariant

pub called-returns-in-Problem : goal.called-returns-in-Problem
unfolding grammar.called
called-returns-in-Problem t c = search rules

-- the item behind a dot is smaller than what stands there
pub dotted-tail-requires : goal.dotted-tail-requires
dotted-tail-requires t c =
    let some : 0 < length c.args.nodes.now = c.in-len1.len_at_least in
    call-smaller (item-smaller c.args.nodes.now 0 c.only-item.result some c.only-item.is) c.decreases

pub dotted-tail-requires-in-len2-up : goal.dotted-tail-requires-in-len2-up
dotted-tail-requires-in-len2-up t c =
    let least : 2 ≤ length c.args.nodes.now = c.in-len2-up.len_at_least in
    let some : 0 < length c.args.nodes.now = omega arith in
    call-smaller (item-smaller c.args.nodes.now 0 c.first-item.result some c.first-item.is) c.decreases

-- the items behind the first of a list are smaller than the list
pub list_tail-items-requires : goal.list_tail-items-requires
list_tail-items-requires t c =
    call-smaller (rest-smaller c.args.nodes.now c.in-len1-up.len_at_least) c.decreases

pub term-list_term-requires : goal.term-list_term-requires
term-list_term-requires t c =
    term_call-smaller
    (parts-smaller c.args.node.now c.in-List.parts c.as_slice.result.now c.in-List.is c.as_slice.ensures.value)
    c.decreases

pub list_term-called-requires : goal.list_term-called-requires
list_term-called-requires t c =
    let f = nodes_of c.args.nodes.now in
    let call : behind (codes "call") f ≡ Some (nodes_of c.in-Some.rest.now) =
    sym c.behind.ensures ∙ ap (option_map (λ rest. nodes_of rest.now)) c.in-Some.is in
    called-smaller (behind-smaller (codes "call") f (nodes_of c.in-Some.rest.now) call) c.decreases

pub list_term-list_tail-requires : goal.list_term-list_tail-requires
list_term-list_tail-requires t c =
    step-smaller (forest_size (nodes_of c.args.nodes.now)) c.decreases

pub items-dotted-requires : goal.items-dotted-requires
items-dotted-requires t c =
    call-smaller
    (others_left-smaller c.loop-first.rest.now c.in-Some.others.now c.in-Some.first.now
    (forest_size (nodes_of c.args.nodes.now)) c.in-Some.ensures.cases.0 c.loop-first.invariant.smaller)
    c.decreases

pub items-term-requires : goal.items-term-requires
items-term-requires t c =
    call-smaller
    (taken-smaller c.loop-first.rest.now c.in-Some.others.now c.in-Some.first.now
    (forest_size (nodes_of c.args.nodes.now)) c.in-Some.ensures.cases.0 c.loop-first.invariant.smaller)
    c.decreases

pub tail-list_tail-requires : goal.tail-list_tail-requires
tail-list_tail-requires t c =
    call-smaller
    (parts-smaller c.args.node.now c.in-List.nodes c.as_slice.result.now c.in-List.is c.as_slice.ensures.value)
    c.decreases

pub list_tail-term-requires : goal.list_tail-term-requires
list_tail-term-requires t c =
    let some : 0 < length c.args.nodes.now = c.in-len1-up.len_at_least in
    call-smaller (item-smaller c.args.nodes.now 0 c.first-item-2.result some c.first-item-2.is) c.decreases

pub called-call-requires : goal.called-call-requires
called-call-requires t c =
    step-smaller (forest_size (nodes_of c.args.nodes.now)) c.decreases

pub call-terms-requires : goal.call-terms-requires
call-terms-requires t c =
    let first = node_of c.in_ok-first.first.now in
    let rest = nodes_of c.in_ok-first.rest.now in
    call-smaller (behind_first-smaller (nodes_of c.args.nodes.now) rest first c.in_ok-first.ensures.ok) c.decreases

pub term-returns-in-List : goal.term-returns-in-List
unfolding grammar.term
term-returns-in-List t c =
    rw (node_of-list c.args.node.now c.in-List.parts c.in-List.is)
    (rw c.as_slice.ensures.value at c.list_term.ensures)

pub tail-returns-in-Name : goal.tail-returns-in-Name
unfolding grammar.tail
tail-returns-in-Name t c =
    rw (node_of-name c.args.node.now c.in-Name.name c.in-Name.is) c.word_tail.ensures

pub tail-returns-in-Num : goal.tail-returns-in-Num
unfolding grammar.tail
tail-returns-in-Num t c =
    rw (node_of-number c.args.node.now _ c.in-Num.is, c.expected.ensures) refl

pub tail-returns-in-List : goal.tail-returns-in-List
unfolding grammar.tail
tail-returns-in-List t c =
    rw (node_of-list c.args.node.now c.in-List.nodes c.in-List.is)
    (rw c.as_slice.ensures.value at c.list_tail.ensures)

pub called-returns-in-Rule : goal.called-returns-in-Rule
called-returns-in-Rule t c = rw c.in-Rule.is c.call.ensures
