use Rattle.std.proofs.lemmas.List.Elements.{All-push}
use Rattle.std.proofs.Common.{◌≡◌, true, length}
use Rattle.std.proofs.lemmas.Option.{slice_get_within}
use Rattle.hp_eval.specs.GoalViews.{is_below}
use Rattle.hp_eval.proofs.GoalViewLemmas.{known_below}
use Rattle.hp_eval.proofs.FillStepLemmas.{list_appended, list_all_appended}
use Rattle.hp_eval.proofs.goals.append_list.Goals as goal

pub loop-head-preserved : goal.loop-head-preserved
loop-head-preserved c =
    let n = c.loop-head.invariant.0 in
    let k = c.in-Cons.ensures.shows _ n.1 in
    let l = slice_get_within c.args.cells.now c.in-Cons.head k.first k.head_names in
    rw c.in_ok-push.ensures.items (
      (k.rest, k.tail_names),
      All-push (λ f. is_below (length c.args.cells.now) f ≡ true) c.loop-head.parts.items _ c.loop-head.invariant.1
          (known_below (length c.args.cells.now) c.in-Cons.head l),
      list_appended c.args.cells.now _ c.loop-head.parts.items c.loop-head.left c.in-Cons.head c.in-Cons.tail _ n.1 k
          c.loop-head.invariant.2,
    )

pub returns : goal.returns
returns c = record {
  joined =
      let n = c.loop-head.invariant.0 in
      list_all_appended c.args.cells.now _ c.loop-head.parts.items c.loop-head.left c.get.result n.0 n.1
      (c.get.ensures.shows _ n.1) c.in_default.not-Cons c.loop-head.invariant.2;
  below = c.loop-head.invariant.1;
}
