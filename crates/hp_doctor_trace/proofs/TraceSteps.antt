-- What is told of the pair of a number is what is told of the files.
use Rattle.std.proofs.Common.{◌≡◌, Some}
use Rattle.hp_doctor.specs.Accepting.{IsAccepted}
use Rattle.hp_doctor.specs.Texts.{Texts}
use Rattle.hp_out.specs.Writing.{SinkRun}
use Rattle.hp_syntax.specs.declared.status.Status.{Status}
use Rattle.hp_syntax.specs.Syntax.{Domain, Pair, Problem}
use Rattle.hp_doctor_tree.specs.TreeTold.{TellsOf, Told, Unknown, pair_at}
use Rattle.hp_doctor_trace.specs.declared.traces.Asked.{Asked}
use Rattle.hp_doctor_trace.specs.TraceTold.{Accepted, IsTraceOf, TellsTrace}

pub tells_accepted : (t : Texts) (a : Asked) (d : Domain) (p : Problem) (pair : Pair) (s : Status) (r : SinkRun)
    → IsAccepted t d p → pair_at a.pair p.pairs ≡ Some pair → TellsOf (IsTraceOf t a d.rules pair) s r
    → TellsTrace t a s r
tells_accepted t a d p pair s r acc e (Told answer is tells) = Told answer (Accepted d p pair acc e is) tells
tells_accepted t a d p pair s r acc e (Unknown x y) = Unknown x y
