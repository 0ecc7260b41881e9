use Rattle.std.proofs.Common.{refl}
use Rattle.std.proofs.lemmas.Result.{on_ok_weaker}
use Rattle.hp_syntax.specs.ViewLaws.{pattern_of-list}
use Rattle.hp_syntax.specs.Views.{pattern_of, patterns_of}
use Rattle.hp_nodes.specs.Asked.{all_variables, tail_variables, variables}
use Rattle.hp_nodes.proofs.MarkLemmas.{all_marked, marked_one_more, marks_both}
use Rattle.hp_nodes.proofs.marks.+pattern.Goals as goal

pub mark_pattern-returns-in_ok-mark_patterns-in-List : goal.mark_pattern-returns-in_ok-mark_patterns-in-List
unfolding variables
mark_pattern-returns-in_ok-mark_patterns-in-List t c =
    let parts = c.in-List.parts in
    let marked = rw c.as_slice.ensures.value at c.in_ok-mark_patterns-in-List.ensures in
    rw (pattern_of-list c.args.pattern.now parts c.in-List.tail c.in-List.is)
    (on_ok_weaker c.mark_tail.result
    (λ tail. marks_both (all_variables (patterns_of parts.items)) (tail_variables c.in-List.tail)
    c.args.marks.now.items c.mark_patterns.new.marks.items c.mark_tail.new.marks.items marked tail) c.mark_tail.ensures)

pub mark_patterns-loop-pattern-preserved : goal.mark_patterns-loop-pattern-preserved
unfolding all_variables
mark_patterns-loop-pattern-preserved t c =
    marked_one_more (λ ps. all_variables (patterns_of ps)) (λ p. variables (pattern_of p)) c.args.patterns.now
    c.loop-pattern.pattern-index c.pattern-item.result c.loop-pattern.marks.items c.mark_pattern.new.marks.items
    (λ p ps. refl) c.loop-pattern-test.true c.pattern-item.is c.in_ok-mark_pattern.ensures _ c.loop-pattern.invariant

pub mark_patterns-returns : goal.mark_patterns-returns
unfolding all_variables
mark_patterns-returns t c =
    all_marked (λ ps. all_variables (patterns_of ps)) c.args.patterns.now c.loop-pattern.pattern-index
    c.loop-pattern.marks.items _ c.loop-pattern-test.false refl c.loop-pattern.invariant
