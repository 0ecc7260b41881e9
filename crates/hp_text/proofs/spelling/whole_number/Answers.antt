use Rattle.std.proofs.Common.{arith}
use Rattle.std.proofs.lemmas.Int.Digits.{digits_value_more}
use Rattle.hp_text.proofs.SpellingLemmas.{no_less}
use Rattle.hp_text.proofs.spelling.whole_number.Goals as goal

-- with one more digit it is out of range, and the number of all digits is no less
pub returns-then-number-ge-GREAT-clause-none : goal.returns-then-number-ge-GREAT-clause-none
returns-then-number-ge-GREAT-clause-none c =
    let same = c.loop-digit.invariant.same in
    let less = no_less c.args.digits.now c.loop-digit.digit-index c.loop-digit-test.true in
    omega arith

-- one more digit is read
pub loop-digit-preserved : goal.loop-digit-preserved
loop-digit-preserved c =
    let same = c.loop-digit.invariant.same in
    let more = digits_value_more 10 c.args.digits.now c.loop-digit.digit-index c.loop-digit-test.true in
    let digit = c.digit_number.ensures.value in
    let few = c.digit_number.ensures.few in
    record { same = omega arith; few = omega arith }
