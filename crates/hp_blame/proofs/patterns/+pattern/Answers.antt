use Rattle.std.proofs.Common.{Bor, refl, sym, ap, ◌∙◌}
use Rattle.std.specs.Prelude.{option_map}
use Rattle.std.proofs.lemmas.List.{at_drop_all}
use Rattle.hp_syntax.specs.declared.pattern.Pat.{Pat}
use Rattle.hp_syntax.specs.ViewLaws.{pattern_of-call, pattern_of-list, pattern_of-num, pattern_of-sym, pattern_of-var}
use Rattle.hp_syntax.specs.Views.{pattern_of, patterns_of}
use Rattle.hp_blame.specs.Patterns.{pattern_at, patterns_at}
use Rattle.hp_blame.proofs.FirstLemmas.{none_here, some_here}
use Rattle.hp_blame.proofs.PatternLemmas.{is_inside, is_there}
use Rattle.hp_blame.proofs.patterns.+pattern.Goals as goal

pub pattern_at-returns-then-is_span : goal.pattern_at-returns-then-is_span
pattern_at-returns-then-is_span t c =
    is_there c.args.span c.args.pattern.now c.is_span.result c.is_span.ensures c.if-is_span.true

pub pattern_at-returns-in-List : goal.pattern_at-returns-in-List
pattern_at-returns-in-List t c =
    c.patterns_at.ensures
    ∙ (ap (λ ps. patterns_at c.args.span (patterns_of ps)) c.as_slice.ensures.value
    ∙ is_inside c.args.span c.args.pattern.now c.is_span.result c.is_span.ensures c.if-is_span.false _
    (pattern_of-list c.args.pattern.now _ _ c.in-List.is))

pub pattern_at-returns-in-Call : goal.pattern_at-returns-in-Call
pattern_at-returns-in-Call t c =
    c.patterns_at-in-Call.ensures
    ∙ (ap (λ ps. patterns_at c.args.span (patterns_of ps)) c.as_slice-in-Call.ensures.value
    ∙ is_inside c.args.span c.args.pattern.now c.is_span.result c.is_span.ensures c.if-is_span.false _
    (pattern_of-call c.args.pattern.now _ _ c.in-Call.is))

pub pattern_at-returns-in-Var : goal.pattern_at-returns-in-Var
pattern_at-returns-in-Var t c =
    is_inside c.args.span c.args.pattern.now c.is_span.result c.is_span.ensures c.if-is_span.false _
    (pattern_of-var c.args.pattern.now _ c.in-Var.is)

pub pattern_at-returns-in-Sym : goal.pattern_at-returns-in-Sym
pattern_at-returns-in-Sym t c =
    is_inside c.args.span c.args.pattern.now c.is_span.result c.is_span.ensures c.if-is_span.false _
    (pattern_of-sym c.args.pattern.now _ c.in-Sym.is)

pub pattern_at-returns-in-Num : goal.pattern_at-returns-in-Num
pattern_at-returns-in-Num t c =
    is_inside c.args.span c.args.pattern.now c.is_span.result c.is_span.ensures c.if-is_span.false _
    (pattern_of-num c.args.pattern.now _ c.in-Num.is)

pub patterns_at-returns-in-Some : goal.patterns_at-returns-in-Some
unfolding pattern_at
patterns_at-returns-in-Some t c =
    some_here (λ xs. patterns_at c.args.span (patterns_of xs)) (λ x. pattern_at c.args.span (pattern_of x)) (λ y ys. refl) c.args.patterns.now
    c.loop-pattern.pattern-index c.pattern-item.result c.loop-pattern-test.true c.pattern-item.is _ c.loop-pattern.invariant _
    (sym c.pattern_at.ensures ∙ ap (option_map (λ (p : Bor Pat). pattern_of p.now)) c.in-Some.is)

pub patterns_at-loop-pattern-preserved : goal.patterns_at-loop-pattern-preserved
unfolding pattern_at
patterns_at-loop-pattern-preserved t c =
    none_here (λ xs. patterns_at c.args.span (patterns_of xs)) (λ x. pattern_at c.args.span (pattern_of x)) (λ y ys. refl) c.args.patterns.now
    c.loop-pattern.pattern-index c.pattern-item.result c.loop-pattern-test.true c.pattern-item.is _ c.loop-pattern.invariant
    (sym c.pattern_at.ensures ∙ ap (option_map (λ (p : Bor Pat). pattern_of p.now)) c.in-None.is)

pub patterns_at-returns : goal.patterns_at-returns
unfolding pattern_at
patterns_at-returns t c =
    sym (at_drop_all (λ xs. patterns_at c.args.span (patterns_of xs)) c.args.patterns.now c.loop-pattern.pattern-index c.loop-pattern-test.false)
    ∙ c.loop-pattern.invariant
