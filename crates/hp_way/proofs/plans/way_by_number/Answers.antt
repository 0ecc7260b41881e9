use Rattle.hp_after.proofs.Arrivals.{tree_at}
use Rattle.hp_search.specs.Planned.{tree_planned}
use Rattle.hp_way.proofs.plans.way_by_number.Goals as goal

pub go_to_plan-requires-clause-at : goal.go_to_plan-requires-clause-at
go_to_plan-requires-clause-at c = tree_at (tree_planned c.args.planner.now) _ c.requires.new
