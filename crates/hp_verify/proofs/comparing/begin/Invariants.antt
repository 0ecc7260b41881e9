use Rattle.std.proofs.Common.{◌≡◌, map}
use Rattle.hp_syntax.specs.GroundViews.{ground_of}
use Rattle.hp_world.specs.Stages.{terms_at}
use Rattle.hp_verify.specs.Kept.{steps_begin}
use Rattle.hp_verify.proofs.ComparedSteps.{begin_left}
use Rattle.hp_verify.proofs.comparing.begin.Given as goal

abbrev pub invariant-loop-i : goal.invariant-loop-i
invariant-loop-i l =
    begin_left l.cells l.steps l.plan l.i ≡ steps_begin (terms_at l.cells l.steps) (map ground_of l.plan)
