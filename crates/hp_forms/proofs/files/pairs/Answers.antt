use Rattle.std.proofs.Common.{◌≡◌, ◌≢◌, ◌∙◌, sym, false, length}
use Rattle.std.proofs.lemmas.Result.{err_from_is_err_and}
use Rattle.std.specs.Vec.Iter.{into_iter_items}
use Rattle.hp_syntax.specs.Grammar as grammar
use Rattle.hp_syntax.specs.Views.{pair_of}
use Rattle.hp_text.specs.Nodes.{nodes_of}
use Rattle.hp_rules.proofs.RuleSteps.{turn_read, turn_refused}
use Rattle.hp_forms.specs.Pairs.{pair}
use Rattle.hp_forms.proofs.PairSteps.{pairs-turn, pairs_done, pairs_go_on}
use Rattle.hp_forms.proofs.files.pairs.Goals as goal

pub returns-in_err-next : goal.returns-in_err-next
returns-in_err-next c =
    let p = err_from_is_err_and c.from_residual-in_err-next.result c.from_residual-in_err-next.ensures.1 in
    let left = nodes_of (into_iter_items c.loop-left.left) in
    rw (p.1, p.2) (turn_refused c.in_err-next.field-0.0 (pair c.args.end left)
    (grammar.pairs c.args.end false) _ _ _ _ c.loop-left.invariant
    (pairs-turn c.args.end left c.loop-left.scope.names.keys)
    c.in_err-next.ensures.reads)

pub returns-then-len-eq0 : goal.returns-then-len-eq0
returns-then-len-eq0 c =
    let left = nodes_of (into_iter_items c.loop-left.left) in
    let more = turn_read pair_of (pair c.args.end left)
    (grammar.pairs c.args.end false) (nodes_of (into_iter_items c.pair.new.left)) c.loop-left.pairs.items
    c.in_ok-next.next c.loop-left.scope.names.keys _ _ _ c.loop-left.invariant
    (pairs-turn c.args.end left c.loop-left.scope.names.keys)
    c.in_ok-next.ensures.reads in
    let none : length (into_iter_items c.pair.new.left) ≡ 0 =
    sym c.pair.new.left.rest.ok.0 ∙ (sym c.len-in-loop-left.ensures ∙ c.if-len-eq0.true) in
    rw c.in_ok-push.ensures.items
    (pairs_done c.args.end (into_iter_items c.pair.new.left) _ _ _ none more)

pub loop-left-preserved : goal.loop-left-preserved
loop-left-preserved c =
    let left = nodes_of (into_iter_items c.loop-left.left) in
    let more = turn_read pair_of (pair c.args.end left)
    (grammar.pairs c.args.end false) (nodes_of (into_iter_items c.pair.new.left)) c.loop-left.pairs.items
    c.in_ok-next.next c.loop-left.scope.names.keys _ _ _ c.loop-left.invariant
    (pairs-turn c.args.end left c.loop-left.scope.names.keys)
    c.in_ok-next.ensures.reads in
    let some : length (into_iter_items c.pair.new.left) ≢ 0 =
    λ e. c.if-len-eq0.false (c.len-in-loop-left.ensures ∙ (c.pair.new.left.rest.ok.0 ∙ e)) in
    rw (
      c.in_ok-push.ensures.items,
      ← (pairs_go_on c.args.end (into_iter_items c.pair.new.left)
          c.pair.new.scope.names.keys some),
    ) more
