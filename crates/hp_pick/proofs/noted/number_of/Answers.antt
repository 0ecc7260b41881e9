use Rattle.std.proofs.Common.{◌≡◌, ap, sym, ◌∙◌, inl, inr, Err}
use Rattle.hp_syntax.specs.declared.fault.FaultKind.TheVariants.{NotNumber}
use Rattle.hp_syntax.specs.Calls.{fault_at}
use Rattle.hp_eval.specs.GoalViews.{term_at}
use Rattle.hp_eval.proofs.CellViews.{named_at, number_seen, number_shown}
use Rattle.hp_eval.proofs.FillStepLemmas.{bound_below, bound_cell_named}
use Rattle.hp_pick.specs.Noted.{number_at}
use Rattle.hp_pick.proofs.noted.number_of.Goals as goal

pub returns-in-Nil : goal.returns-in-Nil
returns-in-Nil c =
    let terms = c.args.cells.now in
    let slots = c.args.slots.now in
    let key = c.args.key.now in
    let cell = c.in-Some.cell in
    let t = term_at terms cell in
    let is = sym c.value_of.ensures ∙ c.in-Some.is in
    let within = bound_below _ slots key.var cell c.requires.below is in
    let seen : Err (fault_at NotNumber key.span) ≡ number_seen key.span c.get.result =
    elim c.in-Nil.is [
      | inl e ↦ sym (ap (number_seen key.span) e)
      | inr s ↦ elim s [
        | inl e ↦ sym (ap (number_seen key.span) e.1)
        | inr e ↦ sym (ap (number_seen key.span) e.2)
      ]
    ] in
    seen
    ∙ (number_shown key.span terms c.get.result t (c.get.ensures.shows t (named_at terms cell within))
    ∙ ap (number_at key.span) (sym (bound_cell_named terms slots key.var cell c.requires.below is)))
