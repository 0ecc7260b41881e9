use Rattle.std.proofs.Common.{inl, inr}
use Rattle.hp_eval.proofs.StartingSteps.{known_part, free_part, list_part}
use Rattle.hp_suspended.proofs.known.known_cell.Goals as goal

pub returns-in-Known-clause-term : goal.returns-in-Known-clause-term
returns-in-Known-clause-term c terms = known_part terms c.args.part.now c.in-Known.cell c.in-Known.is

pub returns-in-Free-clause-term : goal.returns-in-Free-clause-term
returns-in-Free-clause-term c terms =
    elim c.in-Free.is [
      | inl p ↦ free_part terms c.args.part.now p.0 p.1
      | inr p ↦ list_part terms c.args.part.now p.0 p.1 p.2
    ]
