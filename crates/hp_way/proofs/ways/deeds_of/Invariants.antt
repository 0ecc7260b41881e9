use Rattle.std.proofs.Common.{map}
use Rattle.hp_way.specs.Along.{LeadSoFar}
use Rattle.hp_way.specs.Ways.{deed_of}
use Rattle.hp_way.proofs.ways.deeds_of.Given as goal

abbrev pub invariant-loop-level : goal.invariant-loop-level
invariant-loop-level l = LeadSoFar l.planner l.level (map deed_of l.deeds.items)
