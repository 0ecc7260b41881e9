-- What is told of a plan of files that are accepted.
use Rattle.std.proofs.Common.{◌≡◌, ℕ, Some}
use Rattle.hp_doctor.specs.Accepting.{IsAccepted}
use Rattle.hp_doctor.specs.Texts.{Texts}
use Rattle.hp_doctor_derive.specs.declared.telling.Asked.{Asked}
use Rattle.hp_doctor_derive.specs.Plans.{IsPlanIf, Plan, text_given}
use Rattle.hp_doctor_derive.specs.Told.{Accepted, IsDeriveOf, TellsDerived}
use Rattle.hp_doctor_tree.specs.TreeTold.{TellsOf, Told, Unknown, pair_at}
use Rattle.hp_out.specs.Writing.{SinkRun}
use Rattle.hp_syntax.specs.declared.status.Status.{Status}
use Rattle.hp_syntax.specs.Syntax.{Domain, Pair, Problem}

-- what is told of the pair of a number is what is told of the files
pub tells_accepted : (t : Texts) (a : Asked) (d : Domain) (p : Problem) (plan : Plan) (pair : Pair) (s : Status)
    (r : SinkRun) → IsAccepted t d p → IsPlanIf (text_given t) plan → pair_at a.pair p.pairs ≡ Some pair
    → TellsOf (IsDeriveOf t a d pair plan) s r → TellsDerived t a s r
tells_accepted t a d p plan pair s r acc read e (Told answer is tells) =
    Told answer (Accepted d p plan pair acc read e is) tells
tells_accepted t a d p plan pair s r acc read e (Unknown x y) = Unknown x y
