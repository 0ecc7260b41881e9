use Rattle.std.proofs.Common.{◌≡◌, Some, ap, sym, ◌∙◌, subst}
use Rattle.hp_suspended.specs.Answering.{told_view}
use Rattle.hp_suspended.specs.Views.{view}
use Rattle.hp_suspended.proofs.Shapes.{view_one}
use Rattle.hp_eval.specs.declared.event.Event.TheVariants as events
use Rattle.hp_suspended.proofs.suspended.Suspended.tell.Goals as goal

pub returns-in-Some-Sat : goal.returns-in-Some-Sat
returns-in-Some-Sat c =
    let sat : c.in-Some-Sat.field-0 ≡ events.Sat = rw c.in-Some-Sat.is at c.in-Some-Sat.field-0-is in
    rw c.in-Some-Sat.is
    (subst (λ x. view c.put.new.self ≡ told_view c.args.mark (Some x) (view c.args.self.now)) (sym sat)
    (ap view c.put.ensures ∙ view_one c.args.mark events.Sat))
