use Rattle.std.proofs.Common.{ap}
use Rattle.hp_passes.specs.Passing.{sight_of}
use Rattle.hp_changes.proofs.ChangingSteps.{meets_did}
use Rattle.hp_changes.proofs.changing.ChangingPassUnit.meet.Goals as goal

pub returns-in_ok-note_by-in-Did-clause-meets : goal.returns-in_ok-note_by-in-Did-clause-meets
returns-in_ok-note_by-in-Did-clause-meets g c = λ n at.
    let q = (g.W.Walk.stands c.args.walk.now).path in
    meets_did c.args.self.now c.note_by.new.self q n (sight_of c.args.sight) c.turn_after-turn.result _ _
    (ap sight_of c.in-Did.is) (c.turn_after-turn.ensures q c.path.ensures)
    (c.in_ok-note_by-in-Did.ensures n at)
