use Rattle.std.proofs.Common.{ap, arith}
use Rattle.hp_mismatch.proofs.ValueSteps.{lengths_differ, term_size, term_smaller}
use Rattle.hp_mismatch.proofs.values.+same.Goals as goal

pub are_same-returns-then-a-b : goal.are_same-returns-then-a-b
are_same-returns-then-a-b t c = lengths_differ c.args.a.now c.args.b.now (λ e. c.if-a-b.true e)

pub are_same-is_same-requires : goal.are_same-is_same-requires
are_same-is_same-requires t c =
    let smaller = term_smaller c.args.a.now c.loop-place.place c.index-a-place.result c.loop-place-test.true
    c.index-a-place.is in
    let shown = ap term_size c.as_value.ensures in
    let whole = c.decreases in
    (omega (arith, smaller, shown, whole), tt)
