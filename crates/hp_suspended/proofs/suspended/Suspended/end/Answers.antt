use Rattle.std.proofs.Common.{ap, ◌∙◌}
use Rattle.hp_suspended.specs.Views.{view}
use Rattle.hp_suspended.proofs.Shapes.{view_one}
use Rattle.hp_eval.specs.declared.event.Event.TheVariants as events
use Rattle.hp_suspended.proofs.suspended.Suspended.end.Goals as goal

pub returns : goal.returns
returns c = ap view c.put.ensures ∙ view_one c.args.mark events.End
