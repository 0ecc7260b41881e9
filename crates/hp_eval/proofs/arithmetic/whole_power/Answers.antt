use Rattle.std.specs.Prelude.{negsuc}
use Rattle.std.proofs.Common.{◌≡◌, pos, int_lt, int_rem, to_z, of_z, ap, sym, ◌∙◌}
use Rattle.std.specs.Int.{w64}
use Rattle.std.proofs.lemmas.Int.{to_z-of_z}
use Rattle.hp_eval.proofs.PowerTotals.{even_power, odd_power}
use Rattle.hp_eval.proofs.arithmetic.whole_power.Goals as goal

pub returns-then-times-eq0 : goal.returns-then-times-eq0
returns-then-times-eq0 c =
    let is : c.args.m ≡ negsuc 999 =
    sym (to_z-of_z w64 c.args.m c.ranges.m) ∙ ap (to_z w64) c.if-m-eqminus1000.true in
    let times = to_z-of_z w64 c.args.times c.ranges.times in
    even_power c.args.span c.args.m c.args.times is (ap (λ t. int_lt t (pos 0)) (sym times) ∙ c.if-times-lt0.false)
    (ap (λ t. of_z w64 (int_rem t (pos 2))) (sym times) ∙ c.if-times-eq0.true)

pub returns-else-times-eq0 : goal.returns-else-times-eq0
returns-else-times-eq0 c =
    let is : c.args.m ≡ negsuc 999 =
    sym (to_z-of_z w64 c.args.m c.ranges.m) ∙ ap (to_z w64) c.if-m-eqminus1000.true in
    let times = to_z-of_z w64 c.args.times c.ranges.times in
    odd_power c.args.span c.args.m c.args.times is (ap (λ t. int_lt t (pos 0)) (sym times) ∙ c.if-times-lt0.false)
    (λ e. c.if-times-eq0.false (ap (λ t. of_z w64 (int_rem t (pos 2))) times ∙ e))
