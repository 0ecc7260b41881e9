use Rattle.std.proofs.Common.{sym, ◌∙◌}
use Rattle.hp_choice.proofs.FirstSteps.{cell_below, value_bound, value_free}
use Rattle.hp_choice.proofs.first.value_at.Goals as goal

pub to_ground-requires : goal.to_ground-requires
to_ground-requires c =
    cell_below c.args.cells.now c.args.slots.now c.args.variable c.in-Some.cell c.requires.below
    (sym c.get.ensures ∙ c.in-Some.is)

pub returns-in_ok-value-in-Some : goal.returns-in_ok-value-in-Some
returns-in_ok-value-in-Some c =
    value_bound c.args.cells.now c.args.slots.now c.args.variable c.in-Some.cell c.requires.below
    (sym c.get.ensures ∙ c.in-Some.is) c.in_ok-value-in-Some.value c.in_ok-value-in-Some.ensures

pub returns-in-None : goal.returns-in-None
returns-in-None c =
    value_free c.args.cells.now c.args.slots.now c.args.variable c.requires.variable (sym c.get.ensures ∙ c.in-None.is)
