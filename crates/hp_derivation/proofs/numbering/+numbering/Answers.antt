use Rattle.std.proofs.Common.{◌≡◌, [], refl, ◌∷◌, ◌++◌, ap, sym, ◌∙◌, subst, length, map, arith}
use Rattle.std.proofs.lemmas.List.{map_push}
use Rattle.hp_syntax.specs.Networks.{And, Task, Ordered, Unordered}
use Rattle.hp_syntax.specs.Views.{tasks_of, task_list_of}
use Rattle.hp_eval.specs.GoalViews.{network_of}
use Rattle.hp_eval.specs.Steps.{in_front}
use Rattle.hp_eval.proofs.CellViews.{at_named}
use Rattle.hp_eval.proofs.GrowthLemmas.{grows_on, grows_self, still_names}
use Rattle.hp_eval.proofs.TreeViews.{network_of-task, network_of-ordered, network_of-unordered}
use Rattle.hp_eval.proofs.Sizes.{tasks-smaller, ordered-size, unordered-size}
use Rattle.hp_derivation.specs.Numbering.{list_count, list_numbered}
use Rattle.hp_derivation.proofs.NumberSteps.{count_all, count_more, count-ordered, count-task, count-unordered, numbered_all, numbered_more, numbered-ordered, numbered-task, numbered-unordered}
use Rattle.hp_derivation.proofs.numbering.+numbering.Goals as goal

-- ---- the parts of a list

pub numbered_parts-loop-part-preserved : goal.numbered_parts-loop-part-preserved
numbered_parts-loop-part-preserved t c =
    let old = c.loop-part.cells in
    let new = c.numbered.new.cells in
    let ts = c.args.parts.now in
    let i = c.loop-part.part-index in
    let part = c.part-item.result in
    let found = c.loop-part.found.items in
    let pushed = c.push_reserved.new.self.items in
    let tree = c.in_ok-tree.tree in
    let held = c.loop-part.invariant in
    let got = c.in_ok-tree.ensures in
    let more = count_more ts i part c.loop-part-test.true c.part-item.is in
    record {
      grows = grows_on c.args.cells.now old new held.grows got.cells;
      room = omega arith;
      count = omega (arith, held.count, more, got.next);
      so_far =
          λ terms grows.
          numbered_more ts i part c.loop-part-test.true c.part-item.is c.loop-part.next c.numbered.new.next got.next
          (map (network_of terms) found) (map (network_of terms) pushed) _
          (held.so_far terms (grows_on old new terms got.cells grows))
          (ap (map (network_of terms)) c.push_reserved.ensures.items
          ∙ (map_push (network_of terms) found tree
          ∙ ap (λ n. map (network_of terms) found ++ n ∷ []) (got.tree terms grows)));
    }

pub numbered_parts-returns-clause-trees : goal.numbered_parts-returns-clause-trees
numbered_parts-returns-clause-trees t c = λ terms grows.
    numbered_all c.args.parts.now c.loop-part.part-index c.loop-part.next
    (map (network_of terms) c.loop-part.found.items) _ c.loop-part-test.false (c.loop-part.invariant.so_far terms grows)

pub numbered_parts-returns-clause-next : goal.numbered_parts-returns-clause-next
numbered_parts-returns-clause-next t c =
    let none = count_all c.args.parts.now c.loop-part.part-index c.loop-part-test.false in
    omega (arith, none, c.loop-part.invariant.count)

pub numbered_parts-returns-clause-cells : goal.numbered_parts-returns-clause-cells
numbered_parts-returns-clause-cells t c = c.loop-part.invariant.grows

pub numbered_parts-returns-in_err-found-clause-cells : goal.numbered_parts-returns-in_err-found-clause-cells
numbered_parts-returns-in_err-found-clause-cells t c = grows_self c.args.cells.now

pub numbered_parts-returns-in_err-tree-clause-cells : goal.numbered_parts-returns-in_err-tree-clause-cells
numbered_parts-returns-in_err-tree-clause-cells t c =
    grows_on c.args.cells.now c.loop-part.cells c.numbered.new.cells c.loop-part.invariant.grows
    c.numbered.ensures.cells

-- ---- a task

pub numbered-returns-in_ok-cell-in-Task-clause-tree : goal.numbered-returns-in_ok-cell-in-Task-clause-tree
numbered-returns-in_ok-cell-in-Task-clause-tree t c = λ terms grows.
    let task = c.in-Task.task in
    network_of-task terms c.in_ok-cell-in-Task.cell task.immediate
    ∙ (ap (λ x. Task x task.immediate)
    (at_named terms c.in_ok-cell-in-Task.cell _
    (still_names c.next_cell.new.cells terms grows c.in_ok-cell-in-Task.cell _ c.in_ok-cell-in-Task.ensures.names))
    ∙ sym (numbered-task c.args.tasks.now c.args.next.now task c.in-Task.is))

pub numbered-returns-in_ok-cell-in-Task-clause-next : goal.numbered-returns-in_ok-cell-in-Task-clause-next
numbered-returns-in_ok-cell-in-Task-clause-next t c =
    let one = count-task c.args.tasks.now 0 c.in-Task.task c.in-Task.is in
    omega (arith, one, c.in_ok-cell-in-Task.ensures.next)

-- ---- lists

pub numbered-returns-in_ok-trees-in-Ordered-clause-tree : goal.numbered-returns-in_ok-trees-in-Ordered-clause-tree
numbered-returns-in_ok-trees-in-Ordered-clause-tree t c = λ terms grows.
    network_of-ordered terms c.in_ok-trees-in-Ordered.trees
    ∙ (ap Ordered (c.in_ok-trees-in-Ordered.ensures.trees terms grows)
    ∙ (ap (λ ts. Ordered (list_numbered c.args.next.now (task_list_of ts))) c.as_slice.ensures.value
    ∙ sym (numbered-ordered c.args.tasks.now c.args.next.now c.in-Ordered.parts c.in-Ordered.is)))

pub numbered-returns-in_ok-trees-in-Ordered-clause-next : goal.numbered-returns-in_ok-trees-in-Ordered-clause-next
numbered-returns-in_ok-trees-in-Ordered-clause-next t c =
    let same = ap (λ ts. list_count (task_list_of ts)) c.as_slice.ensures.value in
    let all = count-ordered c.args.tasks.now 0 c.in-Ordered.parts c.in-Ordered.is in
    omega (arith, same, all, c.in_ok-trees-in-Ordered.ensures.next)

pub numbered-returns-in_ok-trees-in-Unordered-clause-tree :
    goal.numbered-returns-in_ok-trees-in-Unordered-clause-tree
numbered-returns-in_ok-trees-in-Unordered-clause-tree t c = λ terms grows.
    network_of-unordered terms c.in_ok-trees-in-Unordered.trees
    ∙ (ap Unordered (c.in_ok-trees-in-Unordered.ensures.trees terms grows)
    ∙ (ap (λ ts. Unordered (list_numbered c.args.next.now (task_list_of ts))) c.as_slice-in-Unordered.ensures.value
    ∙ sym (numbered-unordered c.args.tasks.now c.args.next.now c.in-Unordered.parts c.in-Unordered.is)))

pub numbered-returns-in_ok-trees-in-Unordered-clause-next :
    goal.numbered-returns-in_ok-trees-in-Unordered-clause-next
numbered-returns-in_ok-trees-in-Unordered-clause-next t c =
    let same = ap (λ ts. list_count (task_list_of ts)) c.as_slice-in-Unordered.ensures.value in
    let all = count-unordered c.args.tasks.now 0 c.in-Unordered.parts c.in-Unordered.is in
    omega (arith, same, all, c.in_ok-trees-in-Unordered.ensures.next)

pub numbered-numbered_parts-requires : goal.numbered-numbered_parts-requires
numbered-numbered_parts-requires t c =
    let size = ordered-size c.args.tasks.now c.as_slice.result.now c.in-Ordered.parts c.in-Ordered.is
    c.as_slice.ensures.value in
    let whole = c.decreases in (omega (arith, size, whole), tt)

pub numbered-numbered_parts-requires-in-Unordered : goal.numbered-numbered_parts-requires-in-Unordered
numbered-numbered_parts-requires-in-Unordered t c =
    let parts = c.as_slice-in-Unordered in
    let size = unordered-size c.args.tasks.now parts.result.now c.in-Unordered.parts c.in-Unordered.is
    parts.ensures.value in
    let whole = c.decreases in (omega (arith, size, whole), tt)

-- ---- recursion goes to smaller task lists

pub numbered_parts-numbered-requires : goal.numbered_parts-numbered-requires
numbered_parts-numbered-requires t c =
    let i = c.loop-part.part-index in
    let part = c.part-item.result in
    let smaller = tasks-smaller c.args.parts.now i part c.loop-part-test.true c.part-item.is in
    let whole = c.decreases in (omega (arith, smaller, whole), tt)

pub numbered_parts-loop-part-init : goal.numbered_parts-loop-part-init
numbered_parts-loop-part-init t c =
    let made = c.in_ok-found.ensures in
    let items = made.items in
    let n = c.args.next.now in
    record {
      grows = grows_self c.args.cells.now;
      room = (made.len, made.capacity);
      count = refl;
      so_far =
          λ terms grows.
          let said = list_numbered n (task_list_of c.args.parts.now) in
          subst (λ ts. said ≡ in_front And (map (network_of terms) ts) said) (sym items) refl;
    }

pub numbered_parts-loop-part-smaller : goal.numbered_parts-loop-part-smaller
numbered_parts-loop-part-smaller t c = omega arith
