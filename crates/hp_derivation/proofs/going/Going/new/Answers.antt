use Rattle.std.proofs.Common.{refl, zero-add, ◌∙◌}
use Rattle.hp_syntax.specs.Views.{tasks_of}
use Rattle.hp_derivation.specs.Numbering.{task_count}
use Rattle.hp_derivation.proofs.GoingSteps.{begin_stands}
use Rattle.hp_derivation.proofs.going.Going.new.Goals as goal

pub returns : goal.returns
returns c =
    begin_stands _ (tasks_of c.args.tasks.now) c.in_ok-tree.tree c.new-roll.result c.come_from.result _
    (c.in_ok-tree.ensures.next ∙ zero-add (task_count (tasks_of c.args.tasks.now))) refl
    c.come_from.ensures c.in_ok-tree.ensures.tree c.in_ok-net.ensures.net
    c.new-roll.ensures c.in_ok-put_all.ensures
