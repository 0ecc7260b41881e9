use Rattle.hp_syntax.specs.Views.{tasks_of}
use Rattle.hp_eval.specs.GoalViews.{network_of}
use Rattle.hp_choice.proofs.DeedSteps.{decompose_did}
use Rattle.hp_choice.proofs.SiteSteps.{site_grows}
use Rattle.hp_choice.proofs.choice.Choice.decomposed.Goals as goal

pub decompose-requires-clause-site : goal.decompose-requires-clause-site
decompose-requires-clause-site c =
    site_grows c.args.cells.now c.tasks_value.new.cells c.in-Ok.ensures.cells c.args.site.now c.requires.site

pub returns-in_ok-decompose-in-Ok-clause-gives : goal.returns-in_ok-decompose-in-Ok-clause-gives
returns-in_ok-decompose-in-Ok-clause-gives c =
    decompose_did c.args.cells.now c.tasks_value.new.cells c.in-Ok.ensures.cells c.args.nest c.args.site.now
    c.requires.site c.args.self.now c.requires.choice.task c.len-floor.result c.len-floor.ensures.count c.args.tasks
    (tasks_of c.tasks_of.result.now) c.tasks_of.ensures (network_of c.tasks_value.new.cells c.in-Ok.tree)
    c.decompose.new.self c.in-Ok.ensures.gives c.in_ok-decompose-in-Ok.ensures.child

pub returns-in-Err-Fault-clause-site : goal.returns-in-Err-Fault-clause-site
returns-in-Err-Fault-clause-site c =
    site_grows c.args.cells.now c.tasks_value.new.cells c.in-Err-Fault.ensures.cells c.args.site.now c.requires.site
