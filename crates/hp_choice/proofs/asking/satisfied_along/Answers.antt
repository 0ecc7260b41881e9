use Rattle.std.proofs.Common.{arith}
use Rattle.hp_nodes.specs.NodeViews.{laid_of}
use Rattle.hp_eval.specs.Slotted.{bindings_of}
use Rattle.hp_eval.proofs.GrowthLemmas.{grows_on}
use Rattle.hp_suspended.specs.SceneViews.{code_in, setting_of}
use Rattle.hp_suspended.proofs.RangeLemmas.{first_expression}
use Rattle.hp_choice.proofs.AlongSteps.{along_ended, along_parts, first_part, part_satisfied, part_unsatisfied, past_one}
use Rattle.hp_choice.proofs.asking.satisfied_along.Goals as goal

pub first_satisfies-requires-clause-part : goal.first_satisfies-requires-clause-part
first_satisfies-requires-clause-part c =
    let s = c.args.scene.now in
    let l = c.loop-next in
    first_part s c.args.cells.now l.cells c.requires.ready.atoms l.invariant.grows s.code.now.kept c.args.nest l.next
    c.args.asked.end l.invariant.range c.loop-next-test.true

pub returns-then-not-branch-clause-count : goal.returns-then-not-branch-clause-count
returns-then-not-branch-clause-count c = λ ps is.
    let s = c.args.scene.now in
    let old = c.args.cells.now in
    let l = c.loop-next in
    let w = setting_of s old in
    let none = part_unsatisfied s old l.cells c.requires.ready.atoms l.invariant.grows s.code.now.kept c.args.nest
    l.next c.args.asked.end l.invariant.range c.loop-next-test.true (bindings_of l.cells l.slots) _ _
    c.in_ok-first_satisfies.ensures.first c.if-not-branch.true in
    let same = along_parts w c.args.nest c.args.asked.first c.args.asked.end ps is (bindings_of old c.args.slots.now) in
    let so_far = l.invariant.along in
    omega (arith, none, same, so_far)

pub loop-next-smaller : goal.loop-next-smaller
loop-next-smaller c =
    let s = c.args.scene.now in
    let l = c.loop-next in
    let b = first_expression (setting_of s l.cells) c.args.nest l.next c.args.asked.end s.code.now.kept
    l.invariant.range c.loop-next-test.true (laid_of c.node_at.result.now) c.node_at.ensures.is in
    omega (arith, b.more, c.loop-next-test.true)

pub loop-next-preserved : goal.loop-next-preserved
loop-next-preserved c =
    let s = c.args.scene.now in
    let old = c.args.cells.now in
    let l = c.loop-next in
    let node = laid_of c.node_at.result.now in
    let b = first_expression (setting_of s l.cells) c.args.nest l.next c.args.asked.end s.code.now.kept
    l.invariant.range c.loop-next-test.true node c.node_at.ensures.is in
    let more = part_satisfied s old l.cells c.requires.ready.atoms l.invariant.grows s.code.now.kept c.args.nest l.next
    c.args.asked.end l.invariant.range c.loop-next-test.true node c.node_at.ensures.is (bindings_of l.cells l.slots) _ _
    c.in_ok-first_satisfies.ensures.first c.if-not-branch.false in
    let so_far = l.invariant.along in
    record {
      ready = c.first_satisfies.ensures.ready;
      grows = grows_on old l.cells c.first_satisfies.new.cells l.invariant.grows c.first_satisfies.ensures.cells;
      range = b.others;
      along = omega (arith, more, so_far);
      past =
          past_one (code_in s).nodes c.args.asked.first l.count l.next node l.invariant.past c.node_at.ensures.is;
      few = omega (arith, b.more, l.invariant.few);
    }

pub returns-clause-count : goal.returns-clause-count
returns-clause-count c = λ ps is.
    let s = c.args.scene.now in
    let old = c.args.cells.now in
    let l = c.loop-next in
    let w = setting_of s old in
    let none = along_ended w c.args.nest l.next c.args.asked.end s.code.now.kept l.invariant.range
    c.loop-next-test.false (bindings_of l.cells l.slots) in
    let same = along_parts w c.args.nest c.args.asked.first c.args.asked.end ps is (bindings_of old c.args.slots.now) in
    let so_far = l.invariant.along in
    omega (arith, none, same, so_far)
