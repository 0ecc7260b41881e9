use Rattle.std.proofs.Common.{sym, ◌∙◌, arith}
use Rattle.hp_eval.specs.GoalViews.{term_at}
use Rattle.hp_eval.proofs.CellViews.{named_at, part_found, part_left, no_part}
use Rattle.hp_eval.proofs.calls.is_member.Goals as goal

pub returns-then-are_same : goal.returns-then-are_same
returns-then-are_same c = λ ys whole.
    let terms = c.args.cells.now in
    let t = term_at terms c.loop-head.rest in
    let left = c.loop-head.invariant.left ys whole in
    let k = c.in-Cons.ensures.shows t (named_at terms c.loop-head.rest c.loop-head.invariant.within) in
    part_found terms c.in-Cons.head c.in-Cons.tail (term_at terms c.args.item) t left.0 k left.1
    (sym c.are_same.ensures ∙ c.if-are_same.true)
    ∙ left.2

pub loop-head-preserved : goal.loop-head-preserved
loop-head-preserved c = record {
  within = omega (arith, c.in-Cons.ensures.earlier.1, c.loop-head.invariant.within);
  left =
      λ ys whole.
      let terms = c.args.cells.now in
      let t = term_at terms c.loop-head.rest in
      let left = c.loop-head.invariant.left ys whole in
      let k = c.in-Cons.ensures.shows t (named_at terms c.loop-head.rest c.loop-head.invariant.within) in
      let more =
      part_left terms c.in-Cons.head c.in-Cons.tail (term_at terms c.args.item) t left.0 k left.1
      (sym c.are_same.ensures ∙ c.if-are_same.false) in
      (more.0, more.1, more.2 ∙ left.2);
}

pub returns : goal.returns
returns c = λ ys whole.
    let terms = c.args.cells.now in
    let t = term_at terms c.loop-head.rest in
    let left = c.loop-head.invariant.left ys whole in
    no_part terms c.get.result (term_at terms c.args.item) t left.0 c.in_default.not-Cons
    (c.get.ensures.shows t (named_at terms c.loop-head.rest c.loop-head.invariant.within)) left.1
    ∙ left.2
