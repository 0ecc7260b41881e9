use Rattle.std.specs.Int.{w64}
use Rattle.std.proofs.lemmas.Int.{to_z-of_z}
use Rattle.hp_eval.proofs.arithmetic.of_both.Goals as goal

pub returns-in-Difference : goal.returns-in-Difference
returns-in-Difference c =
    let m = to_z-of_z w64 c.args.m c.ranges.m in
    let n = to_z-of_z w64 c.args.n c.ranges.n in
    rw (c.in-Difference.is, ← m, ← n) (c.number.ensures _ c.checked_sub.ensures)

pub returns-in-Quotient : goal.returns-in-Quotient
returns-in-Quotient c =
    let m = to_z-of_z w64 c.args.m c.ranges.m in
    let n = to_z-of_z w64 c.args.n c.ranges.n in
    rw (c.in-Quotient.is, ← m, ← n) c.quotient.ensures

pub returns-in-Remainder : goal.returns-in-Remainder
returns-in-Remainder c =
    let m = to_z-of_z w64 c.args.m c.ranges.m in
    let n = to_z-of_z w64 c.args.n c.ranges.n in
    rw (c.in-Remainder.is, ← m, ← n) c.remainder.ensures

pub returns-in-Power : goal.returns-in-Power
returns-in-Power c =
    let m = to_z-of_z w64 c.args.m c.ranges.m in
    let n = to_z-of_z w64 c.args.n c.ranges.n in
    rw (c.in-Power.is, ← m, ← n) c.power.ensures
