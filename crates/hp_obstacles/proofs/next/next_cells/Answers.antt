use Rattle.std.proofs.Common.{◌≡◌, ◌+◌, ◌<◌, ◌∙◌, ap, subst, sym, take}
use Rattle.std.specs.List.{All}
use Rattle.std.proofs.lemmas.List.{take_all}
use Rattle.std.proofs.lemmas.List.Elements.{All-get_or, All-push}
use Rattle.hp_links.specs.Linked.{NamesTask}
use Rattle.hp_world.specs.Stages.{AllBelow, terms_at}
use Rattle.hp_obstacles.proofs.TaskSteps.{named_more, named_next, task_named, tasks_named}
use Rattle.hp_obstacles.proofs.next.next_cells.Goals as goal

-- the task of one number more
pub loop-id-preserved : goal.loop-id-preserved
loop-id-preserved c =
    let s = c.args.net.now.now in
    let ids = c.deref-id-items.result.now in
    let i = c.loop-id.id-index in
    let id = c.id-item.result in
    let cells = c.loop-id.cells.items in
    let cell = c.task.result in
    let names : NamesTask s id =
    subst (NamesTask s) (sym c.id-item.is)
    (All-get_or (NamesTask s) ids i id c.loop-id-test.true
    (subst (All (NamesTask s)) (sym c.deref-id-items.ensures.value) c.in_ok-ids.ensures.tasks)) in
    record {
      tasks = λ terms.
          subst (λ cs. terms_at terms cs ≡ tasks_named terms s (take (i + 1) ids)) (sym c.in_ok-push.ensures.items)
          (named_more terms s ids cells i id cell c.loop-id-test.true c.id-item.is (c.loop-id.invariant.tasks terms)
          (task_named terms s id cell (c.tasks_have_places.ensures.places s id names)
          (λ p e. c.task.ensures.task terms p e)));
      below = λ k a.
          subst (AllBelow k) (sym c.in_ok-push.ensures.items)
          (All-push (λ x. x < k) cells cell (c.loop-id.invariant.below k a) (c.task.ensures.below k a));
    }

pub returns-clause-tasks : goal.returns-clause-tasks
returns-clause-tasks c = λ terms.
    let s = c.args.net.now.now in
    c.loop-id.invariant.tasks terms
    ∙ (ap (tasks_named terms s) (take_all c.loop-id.id-index c.deref-id-items.result.now c.loop-id-test.false
    ∙ c.deref-id-items.ensures.value)
    ∙ named_next terms s c.in_ok-ids.ids.items (c.in_ok-ids.ensures.places terms))

pub returns-clause-below : goal.returns-clause-below
returns-clause-below c = c.loop-id.invariant.below
