use Rattle.std.proofs.Common.{◌≡◌, Some, subst, sym}
use Rattle.std.specs.List.{All}
use Rattle.hp_world.specs.Histories.{History}
use Rattle.hp_links.specs.Labelled.{Leaf, part_in}
use Rattle.hp_links.specs.Linked.{Linked, whole, PartBelow}
use Rattle.hp_net.proofs.NetSteps.{task_at_place}
use Rattle.hp_net.proofs.net.Net.task.Goals as goal

pub returns-clause-task : goal.returns-clause-task
returns-clause-task c = λ terms p h.
    let immediate = c.task.ensures.task.0 in
    let is = subst
    (λ (h : History Linked). part_in c.args.id (whole h.now) ≡ Some (Leaf c.args.id c.task.result immediate))
    c.self.view_is c.task.ensures.task.1 in
    (immediate, task_at_place terms c.args.self.now.now c.args.id c.task.result immediate p is h)

pub returns-clause-below : goal.returns-clause-below
returns-clause-below c = λ k h.
    c.task.ensures.below k (subst (λ (h : History Linked). All (PartBelow k) h.now.parts) (sym c.self.view_is) h)
