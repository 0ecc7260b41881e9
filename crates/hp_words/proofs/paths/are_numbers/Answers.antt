use Rattle.std.proofs.Common.{◌≡◌, ◌∙◌, length, sym, arith, rules}
use Rattle.hp_words.proofs.PieceLemmas.{no_number, no_number_there, none_may_come, number_there, one_number, only_number}
use Rattle.hp_words.proofs.paths.are_numbers.Goals as goal

pub returns-then-is_none : goal.returns-then-is_none
returns-then-is_none c =
    sym (no_number c.loop-left.rest.now c.split_at.result.0.now c.split_at.result.1.now c.piece_end.result
    c.piece_end.ensures.end c.split_at.ensures.front c.split_at.ensures.back c.loop-left.left
    (no_number_there c.split_at.result.0.now c.path_number.result c.is_none.result c.path_number.ensures
    c.is_none.ensures c.if-is_none.true))
    ∙ c.loop-left.invariant

pub returns-in_default : goal.returns-in_default
returns-in_default c =
    let none : length c.split_at.result.1.now ≡ 0 = search rules in
    sym (only_number c.loop-left.rest.now c.split_at.result.0.now c.split_at.result.1.now c.piece_end.result
    c.piece_end.ensures.end c.split_at.ensures.front c.split_at.ensures.back c.loop-left.left (omega arith)
    (number_there c.split_at.result.0.now c.path_number.result c.is_none.result c.path_number.ensures
    c.is_none.ensures c.if-is_none.false) none)
    ∙ c.loop-left.invariant

pub loop-left-preserved : goal.loop-left-preserved
loop-left-preserved c =
    one_number c.loop-left.rest.now c.split_at.result.0.now c.split_at.result.1.now c.piece_end.result
    c.piece_end.ensures.end c.split_at.ensures.front c.split_at.ensures.back c.loop-left.left _ _
    c.in-Some.others.now (omega arith)
    (number_there c.split_at.result.0.now c.path_number.result c.is_none.result c.path_number.ensures
    c.is_none.ensures c.if-is_none.false) c.in-Some.ensures.cases.0
    ∙ c.loop-left.invariant

pub returns : goal.returns
returns c = sym (none_may_come c.loop-left.rest.now c.loop-left.left (omega arith)) ∙ c.loop-left.invariant
