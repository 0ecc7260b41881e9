-- Calls that are made of a walk.
use Rattle.std.specs.Prelude.{List, [], ◌∷◌, Option, Some, None}
use Rattle.hp_net.specs.Runs as runs
use Rattle.hp_net.specs.declared.walk.Step.{Step}
use Rattle.hp_net.specs.declared.walk.Step.TheVariants as steps
use Rattle.hp_part_trials.specs.declared.parts.walks.Move.{Move}
use Rattle.hp_part_trials.specs.declared.parts.walks.Move.TheVariants as moves

abbrev pub call_of : Move → runs.Call
call_of moves.Step = runs.Step
call_of moves.Back = runs.Back
call_of moves.Next = runs.Next
call_of moves.Prune = runs.Prune

-- a step, unless it tells the end
abbrev pub no_end : Step → Option Step
no_end steps.End = None
no_end steps.Did = Some steps.Did
no_end steps.Plan = Some steps.Plan
no_end steps.Cut = Some steps.Cut
no_end (steps.Fault f) = Some (steps.Fault f)

abbrev pub if_some : Option Step → List Step
if_some None = []
if_some (Some x) = x ∷ []
