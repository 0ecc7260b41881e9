use Rattle.std.proofs.Common.{◌≡◌, None, map}
use Rattle.hp_syntax.specs.Views.{expression_of}
use Rattle.hp_blame.specs.Firsts.{first_below}
use Rattle.hp_doctor_why.specs.Blamed.{source_at}
use Rattle.hp_doctor_why.proofs.blamed.source.Given as goal

abbrev pub invariant-loop-place : goal.invariant-loop-place
invariant-loop-place l = first_below (source_at l.variable (map expression_of l.parts)) l.place ≡ None
