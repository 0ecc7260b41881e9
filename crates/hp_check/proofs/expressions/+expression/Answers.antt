use Rattle.std.proofs.Common.{◌+◌, ◌++◌, inl, inr, ap, arith}
use Rattle.std.proofs.lemmas.Grind.{common_steps}
use Rattle.hp_syntax.specs.Checks.{InBody, level_faults, atom_faults, pattern_faults, expression_faults, expressions_faults}
use Rattle.hp_syntax.specs.Views.{pattern_of, atom_of, expression_of, expressions_of}
use Rattle.hp_syntax.specs.ViewLaws.{expression_of-atom, expression_of-and, expression_of-or, expression_of-not, expression_of-forall, expression_of-assign, expression_of-call}
use Rattle.hp_check.proofs.FaultLemmas.{seen_both, seen_more}
use Rattle.hp_check.proofs.LevelLemmas.{seen_next, all_seen_next}
use Rattle.hp_check.proofs.PartLemmas.{expressions_faults-each}
use Rattle.hp_check.proofs.expressions.+expression.Goals as goal

pub expression-returns-in-Atom : goal.expression-returns-in-Atom
unfolding expression_faults
expression-returns-in-Atom t c =
    rw (expression_of-atom c.args.part.now c.in-Atom.held c.in-Atom.is)
    (seen_both c.args.watch.now.first c.found_if.new.self.first _ (level_faults c.args.level c.args.part.now.span)
    (atom_faults InBody (atom_of c.in-Atom.held)) c.found_if.ensures c.atom.ensures)

pub expression-returns-in-Assign : goal.expression-returns-in-Assign
unfolding expression_faults
expression-returns-in-Assign t c =
    rw (expression_of-assign c.args.part.now c.in-Assign.field-0 c.in-Assign.value c.in-Assign.is)
    (seen_both c.args.watch.now.first c.found_if.new.self.first _ (level_faults c.args.level c.args.part.now.span)
    (pattern_faults InBody (pattern_of c.in-Assign.value)) c.found_if.ensures c.pattern.ensures)

pub expression-returns-in-Call : goal.expression-returns-in-Call
unfolding expression_faults
expression-returns-in-Call t c =
    rw (expression_of-call c.args.part.now c.in-Call.call c.in-Call.is)
    (seen_both c.args.watch.now.first c.found_if.new.self.first _ (level_faults c.args.level c.args.part.now.span)
    (pattern_faults InBody (pattern_of c.in-Call.call)) c.found_if.ensures c.pattern-in-Call.ensures)

pub expression-returns-in-Not : goal.expression-returns-in-Not
unfolding expression_faults
expression-returns-in-Not t c =
    let e = expression_of c.in-Not.part.value in
    let seen = seen_next c.found_if.new.self.first _ c.args.level c.saturating_add-deeper.result _ e
    c.saturating_add-deeper.ensures (ap expression_of c.deref.ensures) c.expression.ensures in
    rw (expression_of-not c.args.part.now c.in-Not.part c.in-Not.is)
    (seen_both c.args.watch.now.first c.found_if.new.self.first _ (level_faults c.args.level c.args.part.now.span)
    (expression_faults (c.args.level + 1) e) c.found_if.ensures seen)

pub expression-returns-in-Forall : goal.expression-returns-in-Forall
unfolding expression_faults
expression-returns-in-Forall t c =
    let start = c.args.watch.now.first in
    let level = level_faults c.args.level c.args.part.now.span in
    let range = expression_of c.in-Forall.range.value in
    let body = expression_of c.in-Forall.body.value in
    let middle = c.expression-in-Forall.new.watch.first in
    let range_seen = seen_next c.found_if.new.self.first middle c.args.level c.saturating_add-deeper.result _ range
    c.saturating_add-deeper.ensures (ap expression_of c.deref-in-Forall.ensures) c.expression-in-Forall.ensures in
    let body_seen = seen_next middle _ c.args.level c.saturating_add-deeper.result _ body
    c.saturating_add-deeper.ensures (ap expression_of c.deref-in-Forall-2.ensures)
    c.expression-in-Forall-2.ensures in
    rw (expression_of-forall c.args.part.now c.in-Forall.field-0 c.in-Forall.range c.in-Forall.body c.in-Forall.is)
    (seen_both start middle _ (level ++ expression_faults (c.args.level + 1) range)
    (expression_faults (c.args.level + 1) body)
    (seen_both start c.found_if.new.self.first middle level (expression_faults (c.args.level + 1) range)
    c.found_if.ensures range_seen) body_seen)

pub expression-returns-in-And : goal.expression-returns-in-And
unfolding expression_faults
expression-returns-in-And t c =
    let es = expressions_of c.in-And.parts.items in
    let seen = all_seen_next c.found_if.new.self.first _ c.args.level c.saturating_add-deeper.result _ es
    c.saturating_add-deeper.ensures (ap expressions_of c.as_slice.ensures.value) c.expressions.ensures in
    let both = seen_both c.args.watch.now.first c.found_if.new.self.first _
    (level_faults c.args.level c.args.part.now.span) (expressions_faults (c.args.level + 1) es)
    c.found_if.ensures seen in
    elim c.in-And.is [
      | inl h ↦ rw (expression_of-and c.args.part.now c.in-And.parts h) both
      | inr h ↦ rw (expression_of-or c.args.part.now c.in-And.parts h) both
    ]

pub expressions-loop-part-preserved : goal.expressions-loop-part-preserved
expressions-loop-part-preserved t c =
    seen_more (expression_faults c.args.level) expression_of _ _ _ _ _ _ c.loop-part-test.true c.part-item.is
    c.loop-part.invariant c.expression.ensures

pub expressions-returns : goal.expressions-returns
expressions-returns t c = rw expressions_faults-each (grind (arith, common_steps))
