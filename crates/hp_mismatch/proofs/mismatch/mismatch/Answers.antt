use Rattle.std.proofs.Common.{◌≡◌, drop, sym, ap, ◌∙◌, arith}
use Rattle.hp_syntax.specs.GroundViews.{grounds_of}
use Rattle.hp_mismatch.specs.Mismatch.{tail_misfit}
use Rattle.hp_mismatch.specs.ValueViews.{bindings_of}
use Rattle.hp_mismatch.proofs.MatchSteps.{left_slice}
use Rattle.hp_mismatch.proofs.MismatchSteps.{none_reported, tail_left}
use Rattle.hp_mismatch.proofs.mismatch.mismatch.Goals as goal

pub returns-then-count-args : goal.returns-then-count-args
returns-then-count-args c =
    let few = c.if-count-args.true in
    let m = c.min-count.ensures in
    let l = c.loop-place-test.false in
    none_reported c.args.args.now c.args.tail c.args.terms.now c.loop-place.place
    (bindings_of c.loop-place.values.items) (omega (arith, few, m, l)) (omega (arith, few, m, l))
    ∙ c.loop-place.invariant

pub returns : goal.returns
returns c =
    let e = bindings_of c.loop-place.values.items in
    let at : c.loop-place.place ≡ c.min-count.result = omega arith in
    c.tail_misfit.ensures
    ∙ (ap (λ gs. tail_misfit c.args.tail (grounds_of gs) e)
    (left_slice c.args.terms.now c.min-count.result ∙ ap (λ i. drop i c.args.terms.now) (sym at))
    ∙ (sym (tail_left c.args.args.now c.args.tail c.args.terms.now c.loop-place.place e (omega arith))
    ∙ c.loop-place.invariant))
