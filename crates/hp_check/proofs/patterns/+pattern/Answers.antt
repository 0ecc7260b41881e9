use Rattle.std.proofs.Common.{length, ◌++◌, arith}
use Rattle.std.proofs.lemmas.Grind.{common_steps}
use Rattle.hp_syntax.specs.Calls.{arity_of}
use Rattle.hp_syntax.specs.Checks.{pattern_faults, patterns_faults, arity_faults, head_faults}
use Rattle.hp_syntax.specs.ViewLaws.{pattern_of-list, pattern_of-call}
use Rattle.hp_syntax.specs.Views.{pattern_of, patterns_of}
use Rattle.hp_check.specs.Places.{place_of}
use Rattle.hp_check.proofs.FaultLemmas.{joined, seen_both, seen_more}
use Rattle.hp_check.proofs.PartLemmas.{count-length, patterns_faults-each}
use Rattle.hp_check.proofs.patterns.+pattern.Goals as goal

pub pattern-returns-in-List : goal.pattern-returns-in-List
unfolding pattern_faults
pattern-returns-in-List t c =
    rw (pattern_of-list c.args.pat.now c.in-List.parts c.in-List.end c.in-List.is) (grind (arith, common_steps, joined))

pub pattern-returns-in-Call : goal.pattern-returns-in-Call
unfolding pattern_faults
pattern-returns-in-Call t c =
    let place = place_of c.args.place in
    let s = c.args.pat.now.span in
    let name = c.in-Call.name in
    let args = c.in-Call.args.items in
    let known = rw (c.len.ensures, c.in-Call.args.ok.0) at c.arity.ensures in
    let parts = rw c.as_slice-in-Call.ensures.value at c.patterns-in-Call.ensures in
    rw (pattern_of-call c.args.pat.now name c.in-Call.args c.in-Call.is, count-length)
    (seen_both c.args.watch.now.first c.head.new.watch.first _
    (arity_faults (arity_of name) (length args) place s ++ head_faults place s)
    (patterns_faults place (patterns_of args))
    (seen_both c.args.watch.now.first c.arity.new.watch.first _ (arity_faults (arity_of name) (length args) place s)
    (head_faults place s) known c.head.ensures) parts)

pub patterns-loop-pat-preserved : goal.patterns-loop-pat-preserved
patterns-loop-pat-preserved t c =
    seen_more (pattern_faults (place_of c.args.place)) pattern_of _ _ _ _ _ _ c.loop-pat-test.true
    c.pat-item.is c.loop-pat.invariant c.pattern.ensures

pub patterns-returns : goal.patterns-returns
patterns-returns t c = rw patterns_faults-each (grind (arith, common_steps))
