use Rattle.std.proofs.Common.{rules, ◌≡◌, ◌-◌, ◌+◌, Ok, Err, FitsSigned, pos, replicate, to_z, of_z, ap, sym, ◌∙◌, arith}
use Rattle.std.specs.Int.{w64}
use Rattle.std.proofs.lemmas.Int.{to_z-of_z}
use Rattle.std.proofs.lemmas.Result.{err_from_is_err_and}
use Rattle.hp_syntax.specs.Calls.{in_turn, product}
use Rattle.hp_eval.specs.CallRows.{as_number}
use Rattle.hp_eval.proofs.CallRowLemmas.{goes_on, ends_off}
use Rattle.hp_eval.proofs.PowerTotals.{next_factor, repeats}
use Rattle.hp_eval.proofs.arithmetic.repeated.Goals as goal

pub loop-init : goal.loop-init
loop-init c =
    let all : c.args.times ≡ c.args.times - 0 = omega arith in
    ap (λ k. in_turn product c.args.span (pos 1000) (replicate k (to_z w64 (of_z w64 c.args.m)))) all

pub returns-in_err-next : goal.returns-in_err-next
returns-in_err-next c =
    let m = to_z w64 (of_z w64 c.args.m) in
    let total = to_z w64 c.loop.total-bits in
    let left = replicate (c.args.times - (c.loop.counter + 1)) m in
    let p = err_from_is_err_and c.from_residual.result c.from_residual.ensures.1 in
    ap as_number p.1
    ∙ (ap (λ e. as_number (Err e)) p.2
    ∙ (ends_off product c.args.span total m left c.in_err-next.field-0.0 (c.in_err-next.ensures _ c.product.ensures)
    ∙ (sym (ap (in_turn product c.args.span total) (next_factor m c.args.times c.loop.counter c.loop-test.true))
    ∙ (sym c.loop.invariant
    ∙ ap (λ k. in_turn product c.args.span (pos 1000) (replicate c.args.times k)) (to_z-of_z w64 c.args.m c.ranges.m)))))

pub loop-preserved : goal.loop-preserved
loop-preserved c =
    let m = to_z w64 (of_z w64 c.args.m) in
    let total = to_z w64 c.loop.total-bits in
    let left = replicate (c.args.times - (c.loop.counter + 1)) m in
    let next-fits : FitsSigned w64 c.in_ok-next.next = search rules in
    c.loop.invariant
    ∙ (ap (in_turn product c.args.span total) (next_factor m c.args.times c.loop.counter c.loop-test.true)
    ∙ (goes_on product c.args.span total m left c.in_ok-next.next (c.in_ok-next.ensures _ c.product.ensures)
    ∙ ap (λ t. in_turn product c.args.span t left) (sym (to_z-of_z w64 c.in_ok-next.next next-fits))))

pub returns-after-loop : goal.returns-after-loop
returns-after-loop c =
    let none : c.args.times - c.loop.counter ≡ 0 = omega (arith, c.loop-test.false) in
    let total = to_z w64 c.loop.total-bits in
    sym (ap (λ k. in_turn product c.args.span total (replicate k (to_z w64 (of_z w64 c.args.m)))) none)
    ∙ (sym c.loop.invariant
    ∙ ap (λ k. in_turn product c.args.span (pos 1000) (replicate c.args.times k)) (to_z-of_z w64 c.args.m c.ranges.m))

pub returns-then-next-total : goal.returns-then-next-total
returns-then-next-total c =
    let m = to_z w64 (of_z w64 c.args.m) in
    let next-fits : FitsSigned w64 c.in_ok-next.next = search rules in
    let same : to_z w64 c.loop.total-bits ≡ c.in_ok-next.next =
    sym (ap (to_z w64) c.if-next-total.true) ∙ to_z-of_z w64 c.in_ok-next.next next-fits in
    sym (repeats c.args.span m (to_z w64 c.loop.total-bits) (c.args.times - c.loop.counter)
    (ap Ok same ∙ c.in_ok-next.ensures _ c.product.ensures))
    ∙ (sym c.loop.invariant
    ∙ ap (λ k. in_turn product c.args.span (pos 1000) (replicate c.args.times k)) (to_z-of_z w64 c.args.m c.ranges.m))
