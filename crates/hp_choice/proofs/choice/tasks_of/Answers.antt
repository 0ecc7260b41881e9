use Rattle.hp_suspended.specs.SceneViews.{code_in}
use Rattle.hp_choice.proofs.TasksNodes.{no_tasks, tasks_there, tasks_within}
use Rattle.hp_choice.proofs.choice.tasks_of.Goals as goal

pub node_at-requires : goal.node_at-requires
node_at-requires c = tasks_within (code_in c.args.scene.now) c.args.node c.requires

pub unreachable-requires : goal.unreachable-requires
unreachable-requires c =
    no_tasks (code_in c.args.scene.now) c.args.node c.node_at.result.now c.node_at.ensures.is c.requires
    c.in_default.not-Tasks

pub returns : goal.returns
returns c =
    tasks_there (code_in c.args.scene.now) c.args.node c.node_at.result.now c.in-Tasks.tasks c.node_at.ensures.is
    c.requires c.in-Tasks.is
