use Rattle.std.proofs.Common.{◌≡◌, drop}
use Rattle.hp_syntax.specs.Views.{patterns_of}
use Rattle.hp_suspended.specs.SimpleAtoms.{are_simple}
use Rattle.hp_suspended.proofs.simple.are_simple.Given as goal

abbrev pub invariant-loop-part : goal.invariant-loop-part
invariant-loop-part l = are_simple (patterns_of (drop l.part-index l.parts)) ≡ are_simple (patterns_of l.parts)
