-- What `derive` writes of three files: what they are refused for, or how far the plan can be derived.
use Rattle.std.specs.Prelude.{◌≡◌, ℕ, List, [], length, Some, None}
use Rattle.hp_doctor.specs.Accepting.{AreRefused, IsAccepted, refusal_status}
use Rattle.hp_doctor.specs.Explained.{explained}
use Rattle.hp_doctor.specs.Linted.{Tells}
use Rattle.hp_doctor.specs.Texts.{Texts}
use Rattle.hp_doctor_derive.specs.declared.stops.Found.{Found}
use Rattle.hp_doctor_derive.specs.declared.telling.Asked.{Asked}
use Rattle.hp_doctor_derive.specs.Plans.{IsNoPlan, IsPlanIf, Plan, text_given}
use Rattle.hp_doctor_derive.specs.Said.{derive_text}
use Rattle.hp_doctor_derive.specs.Stopping.{IsFound}
use Rattle.hp_doctor_tree.specs.TreeTold.{TellsOf, pair_at}
use Rattle.hp_doctor_why.specs.Reasons.{tree_of}
use Rattle.hp_following.specs.declared.following.FollowEnd.{FollowEnd}
use Rattle.hp_following.specs.declared.following.FollowEnd.TheVariants as ends
use Rattle.hp_out.specs.RefusalTexts.{refusal_text}
use Rattle.hp_out.specs.Writing.{SinkRun}
use Rattle.hp_out.specs.declared.refusal.Refusal.{Refusal}
use Rattle.hp_out.specs.declared.refusal.Refusal.TheVariants.{NoPair}
use Rattle.hp_syntax.specs.declared.status.Status.{Status}
use Rattle.hp_syntax.specs.declared.status.Status.TheVariants as status
use Rattle.hp_syntax.specs.Report.{Answer}
use Rattle.hp_syntax.specs.Syntax.{Domain, Pair, Problem}

-- the status by how the walk along the plan ended, as that of verifying it
abbrev pub end_status : FollowEnd → Status
end_status ends.Derived = status.Done
end_status ends.Whole = status.NoPlan
end_status ends.Cut = status.CutShort
end_status (ends.Fault f) = status.RunFault

-- what is told of a pair: how far the walk along the plan comes in its tree
pub record IsDeriveOf (t : Texts) (a : Asked) (d : Domain) (pair : Pair) (p : Plan) (answer : Answer) : Type 0 where
  pub found : Found
  pub right : IsFound p.steps (tree_of d.rules pair a.depth a.nest) found
  pub is : answer ≡ (derive_text t d p a.depth found, end_status found.following.end)

-- what is told of a refusal: the line of the planner, as it is explained
abbrev pub refused : Texts → Refusal → Answer
refused t r = (explained t (refusal_text r), refusal_status r)

-- the files of the domain and the problem are refused, or that of the plan; or there is no such pair; or it is told
-- where the plan stops in the tree of the pair
pub data IsDerive (t : Texts) (a : Asked) (answer : Answer) : Type 0 where
  Refused : (r : Refusal) → AreRefused t r → answer ≡ refused t r → IsDerive t a answer
  Planless : (d : Domain) (p : Problem) (r : Refusal) → IsAccepted t d p
      → IsNoPlan (text_given t) r → answer ≡ refused t r → IsDerive t a answer
  Pairless : (d : Domain) (p : Problem) → IsAccepted t d p → pair_at a.pair p.pairs ≡ None
      → answer ≡ refused t (NoPair a.pair (length p.pairs)) → IsDerive t a answer
  Accepted : (d : Domain) (p : Problem) (plan : Plan) (pair : Pair) → IsAccepted t d p
      → IsPlanIf (text_given t) plan → pair_at a.pair p.pairs ≡ Some pair → IsDeriveOf t a d pair plan answer
      → IsDerive t a answer

-- all of it was written, or, after memory ran out, a prefix, and after a fault of the sink a proper one; or memory ran
-- out before it was known, and nothing was written
abbrev pub TellsDerived : Texts → Asked → Status → SinkRun → Type 0
TellsDerived t a s r = TellsOf (IsDerive t a) s r
