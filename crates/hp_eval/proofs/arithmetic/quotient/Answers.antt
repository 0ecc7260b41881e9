use Rattle.std.proofs.Common.{◌≡◌, pos, Err, ap, sym, ◌∙◌, to_z}
use Rattle.std.specs.Int.{w64}
use Rattle.std.proofs.lemmas.Int.{to_z-of_z}
use Rattle.hp_eval.proofs.CallRowLemmas.{quotient_by_zero}
use Rattle.hp_eval.proofs.arithmetic.quotient.Goals as goal

pub returns-then-n-eq0 : goal.returns-then-n-eq0
returns-then-n-eq0 c =
    let zero : c.args.n ≡ pos 0 = sym (to_z-of_z w64 c.args.n c.ranges.n) ∙ ap (to_z w64) c.if-n-eq0.true in
    ap Err c.fault.ensures ∙ sym (quotient_by_zero c.args.span c.args.m c.args.n zero)
