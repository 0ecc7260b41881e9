use Rattle.std.proofs.Common.{◌||◌, refl, sym, ap, ◌∙◌}
use Rattle.std.proofs.lemmas.List.{at_drop_all}
use Rattle.hp_syntax.specs.ViewLaws.{pattern_of-call, pattern_of-list, pattern_of-num, pattern_of-sym, pattern_of-var}
use Rattle.hp_syntax.specs.Views.{pattern_of, patterns_of}
use Rattle.hp_blame.specs.Patterns.{any_mentions, is_tail, mentions}
use Rattle.hp_blame.proofs.FirstLemmas.{none_passes, one_passes}
use Rattle.hp_blame.proofs.patterns.+mentions.Goals as goal

pub mentions-returns-in-Var : goal.mentions-returns-in-Var
unfolding mentions
mentions-returns-in-Var t c = sym (ap (mentions c.args.variable) (pattern_of-var c.args.pattern.now _ c.in-Var.is))

pub mentions-returns-in-Sym : goal.mentions-returns-in-Sym
unfolding mentions
mentions-returns-in-Sym t c = sym (ap (mentions c.args.variable) (pattern_of-sym c.args.pattern.now _ c.in-Sym.is))

pub mentions-returns-in-Num : goal.mentions-returns-in-Num
unfolding mentions
mentions-returns-in-Num t c = sym (ap (mentions c.args.variable) (pattern_of-num c.args.pattern.now _ c.in-Num.is))

pub mentions-returns-then-any_mentions : goal.mentions-returns-then-any_mentions
unfolding mentions
mentions-returns-then-any_mentions t c =
    c.if-any_mentions.true
    ∙ sym (ap (mentions c.args.variable) (pattern_of-list c.args.pattern.now _ _ c.in-List.is)
    ∙ ap (λ b. b || is_tail c.args.variable c.in-List.tail)
    (sym (c.any_mentions.ensures ∙ ap (λ ps. any_mentions c.args.variable (patterns_of ps)) c.as_slice.ensures.value)
    ∙ c.if-any_mentions.true))

pub mentions-returns-else-any_mentions : goal.mentions-returns-else-any_mentions
unfolding mentions
mentions-returns-else-any_mentions t c =
    c.is_tail.ensures
    ∙ sym (ap (mentions c.args.variable) (pattern_of-list c.args.pattern.now _ _ c.in-List.is)
    ∙ ap (λ b. b || is_tail c.args.variable c.in-List.tail)
    (sym (c.any_mentions.ensures ∙ ap (λ ps. any_mentions c.args.variable (patterns_of ps)) c.as_slice.ensures.value)
    ∙ c.if-any_mentions.false))

pub mentions-returns-in-Call : goal.mentions-returns-in-Call
unfolding mentions
mentions-returns-in-Call t c =
    c.any_mentions-in-Call.ensures
    ∙ (ap (λ ps. any_mentions c.args.variable (patterns_of ps)) c.as_slice-in-Call.ensures.value
    ∙ sym (ap (mentions c.args.variable) (pattern_of-call c.args.pattern.now _ _ c.in-Call.is)))

pub any_mentions-returns-then-mentions : goal.any_mentions-returns-then-mentions
unfolding mentions
any_mentions-returns-then-mentions t c =
    one_passes (λ xs. any_mentions c.args.variable (patterns_of xs)) (λ x. mentions c.args.variable (pattern_of x))
    (λ y ys. refl) c.args.patterns.now c.loop-pattern.pattern-index c.pattern-item.result c.loop-pattern-test.true
    c.pattern-item.is _ c.loop-pattern.invariant (sym c.mentions.ensures ∙ c.if-mentions.true)

pub any_mentions-loop-pattern-preserved : goal.any_mentions-loop-pattern-preserved
unfolding mentions
any_mentions-loop-pattern-preserved t c =
    none_passes (λ xs. any_mentions c.args.variable (patterns_of xs)) (λ x. mentions c.args.variable (pattern_of x))
    (λ y ys. refl) c.args.patterns.now c.loop-pattern.pattern-index c.pattern-item.result c.loop-pattern-test.true
    c.pattern-item.is _ c.loop-pattern.invariant (sym c.mentions.ensures ∙ c.if-mentions.false)

pub any_mentions-returns : goal.any_mentions-returns
unfolding mentions
any_mentions-returns t c =
    sym (at_drop_all (λ xs. any_mentions c.args.variable (patterns_of xs)) c.args.patterns.now
    c.loop-pattern.pattern-index c.loop-pattern-test.false)
    ∙ c.loop-pattern.invariant
