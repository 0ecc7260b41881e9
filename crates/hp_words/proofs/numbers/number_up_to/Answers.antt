use Rattle.std.proofs.Common.{arith}
use Rattle.std.proofs.lemmas.Grind.{common_steps}
use Rattle.hp_words.proofs.NumberSteps.{over_most}
use Rattle.hp_words.proofs.numbers.number_up_to.Goals as goal

pub returns-then-number-most : goal.returns-then-number-most
returns-then-number-most c =
    over_most c.args.digits.now c.loop-digit.digit-index c.loop-digit.number _ c.args.most c.loop-digit.invariant.left
    (omega arith) (grind (arith, common_steps)) c.if-number-most.true
