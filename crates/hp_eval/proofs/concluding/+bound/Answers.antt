use Rattle.std.proofs.Common.{◌≡◌, true, false, ◌&&◌, ap, sym, ◌∙◌, rules, arith}
use Rattle.hp_syntax.specs.Events.{parts_bound, tail_is_bound}
use Rattle.hp_syntax.specs.Views.{patterns_of}
use Rattle.hp_eval.specs.Slotted.{bindings_of}
use Rattle.hp_eval.proofs.ConcludeSteps.{all_bound-var, all_bound-sym, all_bound-num, all_bound-list, all_bound-call, bound_fails, bound_goes_on, bound_to_the_end}
use Rattle.hp_eval.proofs.Sizes.{pattern-smaller, list-size, call-size}
use Rattle.hp_eval.proofs.concluding.+bound.Goals as goal

pub are_bound-returns-then-not-is_all_bound : goal.are_bound-returns-then-not-is_all_bound
are_bound-returns-then-not-is_all_bound t c =
    let no : c.is_all_bound.result ≡ false = search rules in
    λ terms below. bound_fails c.args.pats.now c.loop-pat.pat-index (bindings_of terms c.args.slots.now) _
    (c.loop-pat.invariant terms below) c.pat-item.result c.loop-pat-test.true c.pat-item.is
    (sym (c.is_all_bound.ensures terms below) ∙ no)

pub are_bound-loop-pat-preserved : goal.are_bound-loop-pat-preserved
are_bound-loop-pat-preserved t c =
    let yes : c.is_all_bound.result ≡ true = search rules in
    λ terms below. bound_goes_on c.args.pats.now c.loop-pat.pat-index (bindings_of terms c.args.slots.now) _
    (c.loop-pat.invariant terms below) c.pat-item.result c.loop-pat-test.true c.pat-item.is
    (sym (c.is_all_bound.ensures terms below) ∙ yes)

pub are_bound-returns : goal.are_bound-returns
are_bound-returns t c =
    λ terms below. bound_to_the_end c.args.pats.now c.loop-pat.pat-index (bindings_of terms c.args.slots.now) _
    (c.loop-pat.invariant terms below) c.loop-pat-test.false

pub is_all_bound-returns-in-Var : goal.is_all_bound-returns-in-Var
is_all_bound-returns-in-Var t c =
    λ terms below. c.is_bound.ensures terms below
    ∙ sym (all_bound-var c.args.pat.now (bindings_of terms c.args.slots.now) c.in-Var.v c.in-Var.is)

pub is_all_bound-returns-in-Sym : goal.is_all_bound-returns-in-Sym
is_all_bound-returns-in-Sym t c =
    λ terms below.
    sym (all_bound-sym c.args.pat.now (bindings_of terms c.args.slots.now) c.in-Sym.field-0 c.in-Sym.is)

pub is_all_bound-returns-in-Num : goal.is_all_bound-returns-in-Num
is_all_bound-returns-in-Num t c =
    λ terms below.
    sym (all_bound-num c.args.pat.now (bindings_of terms c.args.slots.now) c.in-Num.field-0 c.in-Num.is)

pub is_all_bound-returns-then-are_bound : goal.is_all_bound-returns-then-are_bound
is_all_bound-returns-then-are_bound t c =
    λ terms below.
    let e = bindings_of terms c.args.slots.now in
    let yes =
    ap (λ ps. parts_bound (patterns_of ps) e) (sym c.as_slice.ensures.value)
    ∙ (sym (c.are_bound.ensures terms below) ∙ c.if-are_bound.true) in
    c.is_tail_bound.ensures terms below
    ∙ sym (all_bound-list c.args.pat.now e c.in-List.parts c.in-List.tail c.in-List.is
    ∙ ap (λ b. b && tail_is_bound c.in-List.tail e) yes)

pub is_all_bound-returns-else-are_bound : goal.is_all_bound-returns-else-are_bound
is_all_bound-returns-else-are_bound t c =
    λ terms below.
    let e = bindings_of terms c.args.slots.now in
    let no =
    ap (λ ps. parts_bound (patterns_of ps) e) (sym c.as_slice.ensures.value)
    ∙ (sym (c.are_bound.ensures terms below) ∙ c.if-are_bound.false) in
    c.if-are_bound.false
    ∙ sym (all_bound-list c.args.pat.now e c.in-List.parts c.in-List.tail c.in-List.is
    ∙ ap (λ b. b && tail_is_bound c.in-List.tail e) no)

pub is_all_bound-returns-in-Call : goal.is_all_bound-returns-in-Call
is_all_bound-returns-in-Call t c =
    λ terms below.
    let e = bindings_of terms c.args.slots.now in
    c.are_bound-in-Call.ensures terms below
    ∙ (ap (λ ps. parts_bound (patterns_of ps) e) c.as_slice-in-Call.ensures.value
    ∙ sym (all_bound-call c.args.pat.now e c.in-Call.field-0 c.in-Call.args c.in-Call.is))

-- ---- recursion goes to smaller patterns

pub are_bound-is_all_bound-requires : goal.are_bound-is_all_bound-requires
are_bound-is_all_bound-requires t c =
    let smaller = pattern-smaller c.args.pats.now c.loop-pat.pat-index c.pat-item.result c.loop-pat-test.true
    c.pat-item.is in
    let whole = c.decreases in
    omega (arith, smaller, whole)

pub is_all_bound-are_bound-requires : goal.is_all_bound-are_bound-requires
is_all_bound-are_bound-requires t c =
    let size = list-size c.args.pat.now c.as_slice.result.now c.in-List.parts c.in-List.tail c.in-List.is
    c.as_slice.ensures.value in
    let whole = c.decreases in
    omega (arith, size, whole)

pub is_all_bound-are_bound-requires-in-Call : goal.is_all_bound-are_bound-requires-in-Call
is_all_bound-are_bound-requires-in-Call t c =
    let args = c.as_slice-in-Call in
    let size = call-size c.args.pat.now args.result.now c.in-Call.field-0 c.in-Call.args c.in-Call.is
    args.ensures.value in
    let whole = c.decreases in
    omega (arith, size, whole)

pub are_bound-loop-pat-smaller : goal.are_bound-loop-pat-smaller
are_bound-loop-pat-smaller t c = omega arith
