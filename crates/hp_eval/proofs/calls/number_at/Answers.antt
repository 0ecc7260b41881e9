use Rattle.std.proofs.Common.{◌≡◌, ap, sym, ◌∙◌, inl, inr, Err}
use Rattle.hp_syntax.specs.declared.fault.FaultKind.TheVariants.{NotNumber}
use Rattle.hp_syntax.specs.Calls.{fault_at}
use Rattle.hp_eval.specs.GoalViews.{term_at}
use Rattle.hp_eval.proofs.CellViews.{named_at, number_seen, number_shown}
use Rattle.hp_eval.proofs.calls.number_at.Goals as goal

pub returns-in-Nil : goal.returns-in-Nil
returns-in-Nil c =
    let terms = c.args.cells.now in
    let t = term_at terms c.args.cell in
    let seen : Err (fault_at NotNumber c.args.span) ≡ number_seen c.args.span c.get.result =
    elim c.in-Nil.is [
      | inl e ↦ sym (ap (number_seen c.args.span) e)
      | inr s ↦ elim s [
        | inl e ↦ sym (ap (number_seen c.args.span) e.1)
        | inr e ↦ sym (ap (number_seen c.args.span) e.2)
      ]
    ] in
    seen
    ∙ number_shown c.args.span terms c.get.result t (c.get.ensures.shows t (named_at terms c.args.cell c.requires.cell))
