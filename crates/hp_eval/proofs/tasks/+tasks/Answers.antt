use Rattle.std.proofs.Common.{◌≡◌, refl, ap, subst, sym, ◌∙◌, List, length, map, Ok, Result, Vec, arith}
use Rattle.std.specs.Global.{Global}
use Rattle.std.proofs.lemmas.Option.{slice_get_within}
use Rattle.std.proofs.lemmas.Result.{err_from_is_err_and}
use Rattle.hp_syntax.specs.declared.fault.RunFault.{RunFault}
use Rattle.hp_syntax.specs.declared.tasks.NetPat.{NetPat}
use Rattle.hp_syntax.specs.Networks.{Network, Networks, NoNetwork, And, Task, Ordered, Unordered, tasks_value, task_list_value}
use Rattle.hp_syntax.specs.Terms.{Term}
use Rattle.hp_syntax.specs.Values.{Bindings, on_ok, atom_value}
use Rattle.hp_syntax.specs.Views.{atom_of, tasks_of, task_list_of}
use Rattle.hp_eval.specs.declared.tasks.TaskTree.{TaskTree}
use Rattle.hp_eval.specs.GoalViews.{network_of, networks_of, TreesBelow}
use Rattle.hp_eval.specs.Slotted.{bindings_of}
use Rattle.hp_eval.proofs.CellViews.{at_named}
use Rattle.hp_eval.proofs.GrowthLemmas.{bindings_stay, below_grows, grows_on, grows_self}
use Rattle.hp_eval.proofs.Loops.{behind, behind_none, values_more, values_stop, values_all}
use Rattle.hp_eval.proofs.Stops.{stop_by, stop_of_cell, stops_too, gives_stop_by}
use Rattle.hp_eval.proofs.TaskSteps.{tasks_step, tasks_none, networks_in_front, value_of-task, value_of-ordered, value_of-unordered}
use Rattle.hp_eval.proofs.TreeViews.{network_of-task, network_of-ordered, network_of-unordered, below-task, below-ordered, below-unordered, trees_pushed, trees_below_pushed}
use Rattle.hp_eval.proofs.Sizes.{tasks-smaller, ordered-size, unordered-size}
use Rattle.hp_eval.proofs.tasks.+tasks.Goals as goal

-- the networks of trees
abbrev all_networks : List Term → Vec TaskTree Global → Networks
all_networks terms v = networks_of terms v.items

-- ---- the parts of a list

pub task_list_value-returns-in_err-tree-clause-gives : goal.task_list_value-returns-in_err-tree-clause-gives
task_list_value-returns-in_err-tree-clause-gives t c =
    let p = err_from_is_err_and c.from_residual-in_err-tree.result c.from_residual-in_err-tree.ensures.1 in
    let old = c.loop-part.cells in
    let s = c.args.slots.now in
    let e = bindings_of c.args.cells.now s in
    let ts = c.args.tasks.now in
    let part = tasks_of c.part-item.result in
    let stop = c.in_err-tree.field-0.0 in
    let same = bindings_stay c.args.cells.now old c.loop-part.invariant.grows s c.requires.slots in
    rw (p.1, p.2)
    (gives_stop_by (all_networks c.tasks_value.new.cells) stop (task_list_value (task_list_of ts) e)
    (stops_too stop (tasks_value part (bindings_of old s)) (task_list_value (task_list_of ts) e)
    (λ f h.
    values_stop (λ n. tasks_value (tasks_of n) e) (λ ns. task_list_value (task_list_of ns) e) And (tasks_step e) ts
    c.loop-part.part-index c.part-item.result (map (network_of old) c.loop-part.found.items)
    (task_list_value (task_list_of ts) e) c.loop-part-test.true c.part-item.is c.loop-part.invariant.so_far f
    (ap (tasks_value part) (sym same) ∙ h))
    (stop_by (network_of c.tasks_value.new.cells) stop (tasks_value part (bindings_of old s))
    c.in_err-tree.ensures.gives)))

pub task_list_value-loop-part-preserved : goal.task_list_value-loop-part-preserved
task_list_value-loop-part-preserved t c =
    let old = c.loop-part.cells in
    let new = c.tasks_value.new.cells in
    let s = c.args.slots.now in
    let e = bindings_of c.args.cells.now s in
    let ts = c.args.tasks.now in
    let part = tasks_of c.part-item.result in
    let found = c.loop-part.found.items in
    let pushed = c.push_reserved.new.self.items in
    let tree = c.in_ok-tree.tree in
    let held = c.loop-part.invariant in
    let got = c.in_ok-tree.ensures in
    let same = bindings_stay c.args.cells.now old held.grows s c.requires.slots in
    record {
      grows = grows_on c.args.cells.now old new held.grows got.cells;
      room = omega arith;
      below = trees_below_pushed old new got.cells found pushed tree held.below c.push_reserved.ensures.items got.below;
      so_far =
          values_more (λ n. tasks_value (tasks_of n) e) (λ ns. task_list_value (task_list_of ns) e) And
          (tasks_step e) ts
          c.loop-part.part-index c.part-item.result (map (network_of old) found) (task_list_value (task_list_of ts) e)
          c.loop-part-test.true c.part-item.is held.so_far (network_of new tree) (map (network_of new) pushed)
          (ap (tasks_value part) (sym same) ∙ got.gives)
          (trees_pushed old new got.cells found pushed tree held.below c.push_reserved.ensures.items);
    }

pub task_list_value-returns-clause-gives : goal.task_list_value-returns-clause-gives
task_list_value-returns-clause-gives t c =
    let e = bindings_of c.args.cells.now c.args.slots.now in
    let ts = c.args.tasks.now in
    let networks = map (network_of c.loop-part.cells) c.loop-part.found.items in
    values_all (λ n. tasks_value (tasks_of n) e) (λ ns. task_list_value (task_list_of ns) e) And (tasks_step e)
    (Ok NoNetwork) ts c.loop-part.part-index networks (task_list_value (task_list_of ts) e) (tasks_none e)
    c.loop-part-test.false c.loop-part.invariant.so_far
    ∙ ap Ok (networks_in_front networks)

-- ---- a task

pub tasks_value-returns-in_err-cell-in-Task-clause-gives : goal.tasks_value-returns-in_err-cell-in-Task-clause-gives
tasks_value-returns-in_err-cell-in-Task-clause-gives t c =
    let p = err_from_is_err_and c.from_residual.result c.from_residual.ensures.1 in
    let e = bindings_of c.args.cells.now c.args.slots.now in
    let n = c.args.tasks.now in
    let task = c.in-Task.task in
    let stop = c.in_err-cell-in-Task.field-0.0 in
    let value = atom_value (atom_of task.atom) e in
    rw (p.1, p.2)
    (gives_stop_by (network_of c.atom_value.new.cells) stop (tasks_value (tasks_of n) e)
    (stops_too stop value (tasks_value (tasks_of n) e)
    (λ f h. value_of-task n e task c.in-Task.is ∙ ap (λ r. on_ok r (λ x. Ok (Task x task.immediate))) h)
    (stop_of_cell stop value c.atom_value.new.cells c.in_err-cell-in-Task.ensures.gives)))

pub tasks_value-returns-in_ok-cell-in-Task-clause-gives : goal.tasks_value-returns-in_ok-cell-in-Task-clause-gives
tasks_value-returns-in_ok-cell-in-Task-clause-gives t c =
    let e = bindings_of c.args.cells.now c.args.slots.now in
    let terms = c.atom_value.new.cells in
    let task = c.in-Task.task in
    let cell = c.in_ok-cell-in-Task.cell in
    let got = c.in_ok-cell-in-Task.ensures.gives in
    value_of-task c.args.tasks.now e task c.in-Task.is
    ∙ (ap (λ r. on_ok r (λ x. Ok (Task x task.immediate))) got.1
    ∙ ap Ok
    (ap (λ x. Task x task.immediate) (sym (at_named terms cell got.0 got.2))
    ∙ sym (network_of-task terms cell task.immediate)))

pub tasks_value-returns-in_ok-cell-in-Task-clause-below : goal.tasks_value-returns-in_ok-cell-in-Task-clause-below
tasks_value-returns-in_ok-cell-in-Task-clause-below t c =
    let terms = c.atom_value.new.cells in
    let cell = c.in_ok-cell-in-Task.cell in
    let got = c.in_ok-cell-in-Task.ensures.gives in
    below-task (length terms) cell c.in-Task.task.immediate (slice_get_within terms cell got.0 got.2)

-- ---- lists

-- the list of parts
abbrev listed : (Networks → Network) → Bindings → List NetPat → Result Network RunFault
listed list e ts = on_ok (task_list_value (task_list_of ts) e) (λ ns. Ok (list ns))

pub tasks_value-returns-in_err-trees-in-Ordered-clause-gives :
    goal.tasks_value-returns-in_err-trees-in-Ordered-clause-gives
tasks_value-returns-in_err-trees-in-Ordered-clause-gives t c =
    let p =
    err_from_is_err_and c.from_residual-in_err-trees-in-Ordered.result
    c.from_residual-in_err-trees-in-Ordered.ensures.1 in
    let e = bindings_of c.args.cells.now c.args.slots.now in
    let n = c.args.tasks.now in
    let new = c.task_list_value.new.cells in
    let stop = c.in_err-trees-in-Ordered.field-0.0 in
    let parts = task_list_value (task_list_of c.as_slice.result.now) e in
    rw (p.1, p.2)
    (gives_stop_by (network_of new) stop (tasks_value (tasks_of n) e)
    (stops_too stop parts (tasks_value (tasks_of n) e)
    (λ f h.
    value_of-ordered n e c.in-Ordered.parts c.in-Ordered.is
    ∙ (ap (listed Ordered e) (sym c.as_slice.ensures.value) ∙ ap (λ r. on_ok r (λ ns. Ok (Ordered ns))) h))
    (stop_by (all_networks new) stop parts c.in_err-trees-in-Ordered.ensures.gives)))

pub tasks_value-returns-in_ok-trees-in-Ordered-clause-gives :
    goal.tasks_value-returns-in_ok-trees-in-Ordered-clause-gives
tasks_value-returns-in_ok-trees-in-Ordered-clause-gives t c =
    let e = bindings_of c.args.cells.now c.args.slots.now in
    value_of-ordered c.args.tasks.now e c.in-Ordered.parts c.in-Ordered.is
    ∙ (ap (listed Ordered e) (sym c.as_slice.ensures.value)
    ∙ (ap (λ r. on_ok r (λ ns. Ok (Ordered ns))) c.in_ok-trees-in-Ordered.ensures.gives
    ∙ ap Ok (sym (network_of-ordered c.task_list_value.new.cells c.in_ok-trees-in-Ordered.trees))))

pub tasks_value-returns-in_ok-trees-in-Ordered-clause-below :
    goal.tasks_value-returns-in_ok-trees-in-Ordered-clause-below
tasks_value-returns-in_ok-trees-in-Ordered-clause-below t c =
    below-ordered (length c.task_list_value.new.cells) c.in_ok-trees-in-Ordered.trees
    c.in_ok-trees-in-Ordered.ensures.below

pub tasks_value-returns-in_err-trees-in-Unordered-clause-gives :
    goal.tasks_value-returns-in_err-trees-in-Unordered-clause-gives
tasks_value-returns-in_err-trees-in-Unordered-clause-gives t c =
    let p =
    err_from_is_err_and c.from_residual-in_err-trees-in-Unordered.result
    c.from_residual-in_err-trees-in-Unordered.ensures.1 in
    let e = bindings_of c.args.cells.now c.args.slots.now in
    let n = c.args.tasks.now in
    let new = c.task_list_value-in-Unordered.new.cells in
    let stop = c.in_err-trees-in-Unordered.field-0.0 in
    let parts = task_list_value (task_list_of c.as_slice-in-Unordered.result.now) e in
    rw (p.1, p.2)
    (gives_stop_by (network_of new) stop (tasks_value (tasks_of n) e)
    (stops_too stop parts (tasks_value (tasks_of n) e)
    (λ f h.
    value_of-unordered n e c.in-Unordered.parts c.in-Unordered.is
    ∙ (ap (listed Unordered e) (sym c.as_slice-in-Unordered.ensures.value)
    ∙ ap (λ r. on_ok r (λ ns. Ok (Unordered ns))) h))
    (stop_by (all_networks new) stop parts c.in_err-trees-in-Unordered.ensures.gives)))

pub tasks_value-returns-in_ok-trees-in-Unordered-clause-gives :
    goal.tasks_value-returns-in_ok-trees-in-Unordered-clause-gives
tasks_value-returns-in_ok-trees-in-Unordered-clause-gives t c =
    let e = bindings_of c.args.cells.now c.args.slots.now in
    value_of-unordered c.args.tasks.now e c.in-Unordered.parts c.in-Unordered.is
    ∙ (ap (listed Unordered e) (sym c.as_slice-in-Unordered.ensures.value)
    ∙ (ap (λ r. on_ok r (λ ns. Ok (Unordered ns))) c.in_ok-trees-in-Unordered.ensures.gives
    ∙ ap Ok (sym (network_of-unordered c.task_list_value-in-Unordered.new.cells c.in_ok-trees-in-Unordered.trees))))

pub tasks_value-returns-in_ok-trees-in-Unordered-clause-below :
    goal.tasks_value-returns-in_ok-trees-in-Unordered-clause-below
tasks_value-returns-in_ok-trees-in-Unordered-clause-below t c =
    below-unordered (length c.task_list_value-in-Unordered.new.cells) c.in_ok-trees-in-Unordered.trees
    c.in_ok-trees-in-Unordered.ensures.below

-- ---- terms only grow

pub task_list_value-returns-in_err-found-clause-cells : goal.task_list_value-returns-in_err-found-clause-cells
task_list_value-returns-in_err-found-clause-cells t c = grows_self c.args.cells.now

pub task_list_value-returns-in_err-tree-clause-cells : goal.task_list_value-returns-in_err-tree-clause-cells
task_list_value-returns-in_err-tree-clause-cells t c =
    grows_on c.args.cells.now c.loop-part.cells c.tasks_value.new.cells c.loop-part.invariant.grows
    c.tasks_value.ensures.cells

pub task_list_value-returns-clause-cells : goal.task_list_value-returns-clause-cells
task_list_value-returns-clause-cells t c = c.loop-part.invariant.grows

pub tasks_value-returns-in_err-cell-in-Task-clause-cells : goal.tasks_value-returns-in_err-cell-in-Task-clause-cells
tasks_value-returns-in_err-cell-in-Task-clause-cells t c = c.atom_value.ensures.cells

pub tasks_value-returns-in_ok-cell-in-Task-clause-cells : goal.tasks_value-returns-in_ok-cell-in-Task-clause-cells
tasks_value-returns-in_ok-cell-in-Task-clause-cells t c = c.atom_value.ensures.cells

pub tasks_value-returns-in_err-trees-in-Ordered-clause-cells :
    goal.tasks_value-returns-in_err-trees-in-Ordered-clause-cells
tasks_value-returns-in_err-trees-in-Ordered-clause-cells t c = c.task_list_value.ensures.cells

pub tasks_value-returns-in_ok-trees-in-Ordered-clause-cells :
    goal.tasks_value-returns-in_ok-trees-in-Ordered-clause-cells
tasks_value-returns-in_ok-trees-in-Ordered-clause-cells t c = c.task_list_value.ensures.cells

pub tasks_value-returns-in_err-trees-in-Unordered-clause-cells :
    goal.tasks_value-returns-in_err-trees-in-Unordered-clause-cells
tasks_value-returns-in_err-trees-in-Unordered-clause-cells t c = c.task_list_value-in-Unordered.ensures.cells

pub tasks_value-returns-in_ok-trees-in-Unordered-clause-cells :
    goal.tasks_value-returns-in_ok-trees-in-Unordered-clause-cells
tasks_value-returns-in_ok-trees-in-Unordered-clause-cells t c = c.task_list_value-in-Unordered.ensures.cells

-- ---- the trees that were found

pub task_list_value-returns-clause-below : goal.task_list_value-returns-clause-below
task_list_value-returns-clause-below t c = c.loop-part.invariant.below

-- ---- recursion goes to smaller task lists

pub tasks_value-task_list_value-requires : goal.tasks_value-task_list_value-requires
tasks_value-task_list_value-requires t c =
    let size = ordered-size c.args.tasks.now c.as_slice.result.now c.in-Ordered.parts c.in-Ordered.is
    c.as_slice.ensures.value in
    let whole = c.decreases in
    (omega (arith, size, whole), c.requires.slots)

pub tasks_value-task_list_value-requires-in-Unordered : goal.tasks_value-task_list_value-requires-in-Unordered
tasks_value-task_list_value-requires-in-Unordered t c =
    let parts = c.as_slice-in-Unordered in
    let size = unordered-size c.args.tasks.now parts.result.now c.in-Unordered.parts c.in-Unordered.is
    parts.ensures.value in
    let whole = c.decreases in
    (omega (arith, size, whole), c.requires.slots)

pub task_list_value-tasks_value-requires : goal.task_list_value-tasks_value-requires
task_list_value-tasks_value-requires t c =
    let grows = c.loop-part.invariant.grows in
    let smaller = tasks-smaller c.args.tasks.now c.loop-part.part-index c.part-item.result c.loop-part-test.true
    c.part-item.is in
    let whole = c.decreases in (
      omega (arith, smaller, whole),
      below_grows c.args.cells.now c.loop-part.cells grows c.args.slots.now c.requires.slots,
    )

pub task_list_value-loop-part-init : goal.task_list_value-loop-part-init
task_list_value-loop-part-init t c =
    let old = c.args.cells.now in
    let value = task_list_value (task_list_of c.args.tasks.now) (bindings_of old c.args.slots.now) in
    let made = c.in_ok-found.ensures in
    let items = made.items in
    record {
      grows = grows_self old;
      room = (made.len, made.capacity);
      below = subst (TreesBelow (length old)) (sym items) refl;
      so_far =
          subst (λ ts. value ≡ behind And (map (network_of old) ts) value) (sym items) (behind_none And value);
    }

pub task_list_value-loop-part-smaller : goal.task_list_value-loop-part-smaller
task_list_value-loop-part-smaller t c = omega arith
