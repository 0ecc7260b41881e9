use Rattle.std.proofs.Common.{ap, ap₂, ◌∙◌}
use Rattle.hp_eval.specs.declared.event.Event.TheVariants as events
use Rattle.hp_suspended.specs.Views.{Conj, view, views}
use Rattle.hp_suspended.proofs.Shapes.{view_conj, view_one}
use Rattle.hp_choice.proofs.AskingSteps.{begun_view}
use Rattle.hp_choice.proofs.starting.begun.Goals as goal

pub returns : goal.returns
returns c =
    let mark = c.mark-mark.result in
    view_conj mark c.args.nest c.args.first c.args.end c.new-2.result c.in_ok-here.here
    ∙ ap₂ (Conj mark c.args.nest c.args.first c.args.end) (ap views c.new-2.ensures.items)
    (ap view c.in_ok-here.ensures.ok ∙ view_one mark events.Sat)
    ∙ ap (λ m. begun_view m c.args.nest c.args.first c.args.end) c.mark-mark.ensures
