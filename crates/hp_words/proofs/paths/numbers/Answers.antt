use Rattle.std.proofs.Common.{◌≡◌, ◌<◌, ◌-◌, ◌^◌, length, map, subst, sym, rules}
use Rattle.std.specs.List.{All}
use Rattle.hp_words.specs.Numbers.{number_from}
use Rattle.hp_words.specs.PathWords.{pieces}
use Rattle.hp_words.proofs.PieceLemmas.{first_is_number, last_one, numbers_small, one_more, others_are_numbers}
use Rattle.hp_words.proofs.paths.numbers.Goals as goal

pub number-requires : goal.number-requires
number-requires c =
    first_is_number c.loop-numbers.rest.now c.split_at.result.0.now c.split_at.result.1.now c.piece_end.result
    c.piece_end.ensures.end c.split_at.ensures.front c.split_at.ensures.back c.loop-numbers.invariant.numbers

pub returns-in_default-clause-items : goal.returns-in_default-clause-items
returns-in_default-clause-items c =
    let none : length c.split_at.result.1.now ≡ 0 = search rules in
    last_one c.loop-numbers.rest.now c.split_at.result.0.now c.split_at.result.1.now c.piece_end.result
    c.piece_end.ensures.end c.split_at.ensures.front c.split_at.ensures.back c.loop-numbers.numbers.items _
    c.number.result (map (number_from 0) (pieces c.args.word.now)) c.loop-numbers.invariant.so_far
    c.in_ok-push.ensures.items c.number.ensures none

pub returns-in_default-clause-small : goal.returns-in_default-clause-small
returns-in_default-clause-small c =
    subst (All (λ i. i < 2 ^ 64 - 1)) (sym (returns-in_default-clause-items c))
    (numbers_small (pieces c.args.word.now) c.requires)

pub loop-numbers-preserved : goal.loop-numbers-preserved
loop-numbers-preserved c = record {
  so_far =
      one_more c.loop-numbers.rest.now c.split_at.result.0.now c.split_at.result.1.now c.piece_end.result
      c.piece_end.ensures.end c.split_at.ensures.front c.split_at.ensures.back c.loop-numbers.numbers.items _
      c.number.result _ c.in-Some.others.now (map (number_from 0) (pieces c.args.word.now))
      c.loop-numbers.invariant.so_far c.in_ok-push.ensures.items c.number.ensures c.in-Some.ensures.cases.0;
  numbers =
      others_are_numbers c.loop-numbers.rest.now c.split_at.result.0.now c.split_at.result.1.now c.piece_end.result
      c.piece_end.ensures.end c.split_at.ensures.front c.split_at.ensures.back _ c.in-Some.others.now
      c.in-Some.ensures.cases.0 c.loop-numbers.invariant.numbers;
}
