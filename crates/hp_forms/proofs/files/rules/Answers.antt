use Rattle.std.proofs.Common.{◌∙◌, ap, sym, map}
use Rattle.hp_syntax.specs.Steps as steps
use Rattle.hp_syntax.specs.Grammar as grammar
use Rattle.hp_syntax.specs.Views.{rule_of}
use Rattle.hp_text.specs.Nodes.{nodes_of}
use Rattle.hp_terms.proofs.Turns.{prepend, prepend-nil, first_taken, none_taken, first_read, none_is_left}
use Rattle.hp_forms.proofs.files.rules.Goals as goal

pub loop-node-init : goal.loop-node-init
loop-node-init c = λ names.
    let all = c.into_iter-node-iterator.ensures.into_iter_gives.0 in
    let empty = c.in_ok-rules.ensures.items in
    prepend-nil (steps.each grammar.rule (nodes_of c.args.nodes.items) names)
    ∙ ap (λ rs. prepend (map rule_of rs) (steps.each grammar.rule (nodes_of c.args.nodes.items) names)) (sym empty)
    ∙ ap (λ ns. prepend (map rule_of c.in_ok-rules.rules.items) (steps.each grammar.rule (nodes_of ns) names)) (sym all)

pub loop-node-preserved : goal.loop-node-preserved
loop-node-preserved c = λ names.
    let taken = first_taken c.loop-node.node-iterator c.next.new.self _ c.in-Some.node
    c.in-Some.is c.next.ensures.steps in
    rw c.in_ok-push.ensures.items (first_read rule_of grammar.rule c.loop-node.rules.items _ names _
    (c.loop-node.invariant names) _ _ _ _ taken (c.in_ok-rule.ensures names))

pub returns : goal.returns
returns c = λ names.
    let none = none_taken c.loop-node.node-iterator c.next.new.self _ c.in-None.is c.next.ensures.steps in
    none_is_left rule_of grammar.rule c.loop-node.rules.items _ names _ (c.loop-node.invariant names) none
