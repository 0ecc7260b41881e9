use Rattle.hp_suspended.proofs.BranchLemmas.{first_body}
use Rattle.hp_suspended.proofs.laws.branches_hold_expressions.Goals as goal

pub returns : goal.returns
returns c = first_body
