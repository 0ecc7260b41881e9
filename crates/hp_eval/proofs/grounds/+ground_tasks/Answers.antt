use Rattle.std.proofs.Common.{◌≡◌, [], refl, ◌∷◌, ◌++◌, ap, sym, ◌∙◌, subst, length, map, arith}
use Rattle.hp_syntax.specs.GroundPatterns.{IsGroundTaskList, networks_said}
use Rattle.hp_syntax.specs.Networks.{And, Task, Ordered, Unordered}
use Rattle.hp_syntax.specs.Views.{task_list_of}
use Rattle.hp_eval.specs.GoalViews.{network_of, TreesBelow}
use Rattle.hp_eval.specs.Steps.{in_front}
use Rattle.hp_eval.proofs.GroundSteps.{first_task_ground, tasks_said_more, tasks_said_all, said-task, said-ordered, said-unordered, ground-task, ground-ordered, ground-unordered}
use Rattle.hp_eval.proofs.GrowthLemmas.{grows_on, grows_self}
use Rattle.hp_eval.proofs.TreeViews.{network_of-task, network_of-ordered, network_of-unordered, below-task, below-ordered, below-unordered, trees_pushed, trees_below_pushed}
use Rattle.hp_eval.proofs.Sizes.{tasks-smaller, ordered-size, unordered-size}
use Rattle.hp_eval.proofs.grounds.+ground_tasks.Goals as goal

-- ---- the parts of a list

pub ground_task_list-loop-part-preserved : goal.ground_task_list-loop-part-preserved
ground_task_list-loop-part-preserved t c =
    let old = c.loop-part.cells in
    let new = c.ground_tasks.new.cells in
    let ts = c.args.tasks.now in
    let i = c.loop-part.part-index in
    let part = c.part-item.result in
    let found = c.loop-part.found.items in
    let pushed = c.push_reserved.new.self.items in
    let tree = c.in_ok-tree.tree in
    let held = c.loop-part.invariant in
    let got = c.in_ok-tree.ensures in
    record {
      grows = grows_on c.args.cells.now old new held.grows got.cells;
      room = omega arith;
      below = trees_below_pushed old new got.cells found pushed tree held.below c.push_reserved.ensures.items got.below;
      left = (first_task_ground ts i part c.loop-part-test.true c.part-item.is held.left).1;
      so_far =
          tasks_said_more ts i part c.loop-part-test.true c.part-item.is (map (network_of old) found)
          (map (network_of new) pushed) (networks_said (task_list_of ts)) held.so_far
          (trees_pushed old new got.cells found pushed tree held.below c.push_reserved.ensures.items
          ∙ ap (λ n. map (network_of old) found ++ n ∷ []) got.tree);
    }

pub ground_task_list-returns-clause-trees : goal.ground_task_list-returns-clause-trees
ground_task_list-returns-clause-trees t c =
    tasks_said_all c.args.tasks.now c.loop-part.part-index
    (map (network_of c.loop-part.cells) c.loop-part.found.items) _ c.loop-part-test.false
    c.loop-part.invariant.so_far

pub ground_task_list-returns-clause-below : goal.ground_task_list-returns-clause-below
ground_task_list-returns-clause-below t c = c.loop-part.invariant.below

pub ground_task_list-returns-clause-cells : goal.ground_task_list-returns-clause-cells
ground_task_list-returns-clause-cells t c = c.loop-part.invariant.grows

pub ground_task_list-returns-in_err-found-clause-cells : goal.ground_task_list-returns-in_err-found-clause-cells
ground_task_list-returns-in_err-found-clause-cells t c = grows_self c.args.cells.now

pub ground_task_list-returns-in_err-tree-clause-cells : goal.ground_task_list-returns-in_err-tree-clause-cells
ground_task_list-returns-in_err-tree-clause-cells t c =
    grows_on c.args.cells.now c.loop-part.cells c.ground_tasks.new.cells c.loop-part.invariant.grows
    c.ground_tasks.ensures.cells

-- ---- a task

pub ground_tasks-returns-in_ok-cell-in-Task-clause-tree : goal.ground_tasks-returns-in_ok-cell-in-Task-clause-tree
ground_tasks-returns-in_ok-cell-in-Task-clause-tree t c =
    let task = c.in-Task.task in
    network_of-task c.ground_atom.new.cells c.in_ok-cell-in-Task.cell task.immediate
    ∙ (ap (λ x. Task x task.immediate) c.in_ok-cell-in-Task.ensures.term
    ∙ sym (said-task c.args.tasks.now task c.in-Task.is))

pub ground_tasks-returns-in_ok-cell-in-Task-clause-below : goal.ground_tasks-returns-in_ok-cell-in-Task-clause-below
ground_tasks-returns-in_ok-cell-in-Task-clause-below t c =
    below-task (length c.ground_atom.new.cells) c.in_ok-cell-in-Task.cell c.in-Task.task.immediate
    c.in_ok-cell-in-Task.ensures.below

-- ---- lists

pub ground_tasks-returns-in_ok-trees-in-Ordered-clause-tree :
    goal.ground_tasks-returns-in_ok-trees-in-Ordered-clause-tree
ground_tasks-returns-in_ok-trees-in-Ordered-clause-tree t c =
    network_of-ordered c.ground_task_list.new.cells c.in_ok-trees-in-Ordered.trees
    ∙ (ap Ordered c.in_ok-trees-in-Ordered.ensures.trees
    ∙ (ap (λ ts. Ordered (networks_said (task_list_of ts))) c.as_slice.ensures.value
    ∙ sym (said-ordered c.args.tasks.now c.in-Ordered.parts c.in-Ordered.is)))

pub ground_tasks-returns-in_ok-trees-in-Ordered-clause-below :
    goal.ground_tasks-returns-in_ok-trees-in-Ordered-clause-below
ground_tasks-returns-in_ok-trees-in-Ordered-clause-below t c =
    below-ordered (length c.ground_task_list.new.cells) c.in_ok-trees-in-Ordered.trees
    c.in_ok-trees-in-Ordered.ensures.below

pub ground_tasks-returns-in_ok-trees-in-Unordered-clause-tree :
    goal.ground_tasks-returns-in_ok-trees-in-Unordered-clause-tree
ground_tasks-returns-in_ok-trees-in-Unordered-clause-tree t c =
    network_of-unordered c.ground_task_list-in-Unordered.new.cells c.in_ok-trees-in-Unordered.trees
    ∙ (ap Unordered c.in_ok-trees-in-Unordered.ensures.trees
    ∙ (ap (λ ts. Unordered (networks_said (task_list_of ts))) c.as_slice-in-Unordered.ensures.value
    ∙ sym (said-unordered c.args.tasks.now c.in-Unordered.parts c.in-Unordered.is)))

pub ground_tasks-returns-in_ok-trees-in-Unordered-clause-below :
    goal.ground_tasks-returns-in_ok-trees-in-Unordered-clause-below
ground_tasks-returns-in_ok-trees-in-Unordered-clause-below t c =
    below-unordered (length c.ground_task_list-in-Unordered.new.cells) c.in_ok-trees-in-Unordered.trees
    c.in_ok-trees-in-Unordered.ensures.below

-- ---- ground lists

pub ground_tasks-ground_atom-requires : goal.ground_tasks-ground_atom-requires
ground_tasks-ground_atom-requires t c = record {
  ground = ground-task c.args.tasks.now c.requires.ground c.in-Task.task c.in-Task.is;
}

pub ground_tasks-ground_task_list-requires : goal.ground_tasks-ground_task_list-requires
ground_tasks-ground_task_list-requires t c =
    let size = ordered-size c.args.tasks.now c.as_slice.result.now c.in-Ordered.parts c.in-Ordered.is
    c.as_slice.ensures.value in
    let whole = c.decreases in (
      omega (arith, size, whole),
      subst (λ ts. IsGroundTaskList (task_list_of ts)) (sym c.as_slice.ensures.value)
          (ground-ordered c.args.tasks.now c.requires.ground c.in-Ordered.parts c.in-Ordered.is),
    )

pub ground_tasks-ground_task_list-requires-in-Unordered :
    goal.ground_tasks-ground_task_list-requires-in-Unordered
ground_tasks-ground_task_list-requires-in-Unordered t c =
    let parts = c.as_slice-in-Unordered in
    let size = unordered-size c.args.tasks.now parts.result.now c.in-Unordered.parts c.in-Unordered.is
    parts.ensures.value in
    let whole = c.decreases in (
      omega (arith, size, whole),
      subst (λ ts. IsGroundTaskList (task_list_of ts)) (sym c.as_slice-in-Unordered.ensures.value)
          (ground-unordered c.args.tasks.now c.requires.ground c.in-Unordered.parts c.in-Unordered.is),
    )

-- ---- recursion goes to smaller task lists

pub ground_task_list-ground_tasks-requires : goal.ground_task_list-ground_tasks-requires
ground_task_list-ground_tasks-requires t c =
    let i = c.loop-part.part-index in
    let part = c.part-item.result in
    let smaller = tasks-smaller c.args.tasks.now i part c.loop-part-test.true c.part-item.is in
    let whole = c.decreases in (
      omega (arith, smaller, whole),
      (first_task_ground c.args.tasks.now i part c.loop-part-test.true c.part-item.is c.loop-part.invariant.left).0,
    )

pub ground_task_list-loop-part-init : goal.ground_task_list-loop-part-init
ground_task_list-loop-part-init t c =
    let old = c.args.cells.now in
    let said = networks_said (task_list_of c.args.tasks.now) in
    let made = c.in_ok-found.ensures in
    let items = made.items in
    record {
      grows = grows_self old;
      room = (made.len, made.capacity);
      below = subst (TreesBelow (length old)) (sym items) refl;
      left = c.requires.ground;
      so_far = subst (λ ts. said ≡ in_front And (map (network_of old) ts) said) (sym items) refl;
    }

pub ground_task_list-loop-part-smaller : goal.ground_task_list-loop-part-smaller
ground_task_list-loop-part-smaller t c = omega arith
