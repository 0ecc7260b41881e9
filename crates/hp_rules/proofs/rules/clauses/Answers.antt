use Rattle.std.proofs.Common.{◌≡◌, ◌≢◌, rules, false, length}
use Rattle.std.proofs.lemmas.Result.{err_from_is_err_and}
use Rattle.hp_syntax.specs.Grammar as grammar
use Rattle.hp_syntax.specs.Views.{clause_of}
use Rattle.hp_text.specs.Nodes.{nodes_of}
use Rattle.hp_rules.specs.Branches.{clause}
use Rattle.hp_rules.proofs.RuleSteps.{turn_read, turn_refused, clauses-turn, clauses_done, clauses_go_on}
use Rattle.hp_rules.proofs.rules.clauses.Goals as goal

pub returns-in_err-next : goal.returns-in_err-next
returns-in_err-next c =
    let p = err_from_is_err_and c.from_residual-in_err-next.result c.from_residual-in_err-next.ensures.1 in
    rw (p.1, p.2) (turn_refused c.in_err-next.field-0.0 (clause c.args.end (nodes_of c.loop-clauses.rest.now))
    (grammar.clauses c.args.end false) _ _ _ _ c.loop-clauses.invariant
    (clauses-turn c.args.end (nodes_of c.loop-clauses.rest.now) c.loop-clauses.scope.names.keys)
    c.in_err-next.ensures.reads)

pub returns-then-is_empty : goal.returns-then-is_empty
returns-then-is_empty c =
    let more = turn_read clause_of (clause c.args.end (nodes_of c.loop-clauses.rest.now))
    (grammar.clauses c.args.end false) (nodes_of c.in_ok-next.others.now) c.loop-clauses.clauses.items
    c.in_ok-next.next c.loop-clauses.scope.names.keys _ _ _ c.loop-clauses.invariant
    (clauses-turn c.args.end (nodes_of c.loop-clauses.rest.now) c.loop-clauses.scope.names.keys)
    c.in_ok-next.ensures.reads in
    let none : length c.in_ok-next.others.now ≡ 0 = search rules in
    rw (c.shrink_to_fit.ensures.items, c.in_ok-push.ensures.items)
    (clauses_done c.args.end c.in_ok-next.others.now _ _ _ none more)

pub loop-clauses-preserved : goal.loop-clauses-preserved
loop-clauses-preserved c =
    let more = turn_read clause_of (clause c.args.end (nodes_of c.loop-clauses.rest.now))
    (grammar.clauses c.args.end false) (nodes_of c.in_ok-next.others.now) c.loop-clauses.clauses.items
    c.in_ok-next.next c.loop-clauses.scope.names.keys _ _ _ c.loop-clauses.invariant
    (clauses-turn c.args.end (nodes_of c.loop-clauses.rest.now) c.loop-clauses.scope.names.keys)
    c.in_ok-next.ensures.reads in
    let some : length c.in_ok-next.others.now ≢ 0 = search rules in
    rw (
      c.in_ok-push.ensures.items,
      ← (clauses_go_on c.args.end c.in_ok-next.others.now c.clause.new.scope.names.keys
          some),
    ) more
