-- What `why` writes of two files: what they are refused for, or what is said of each pair.
use Rattle.std.specs.Prelude.{◌≡◌, ◌+◌, ◌⊎◌, ℕ, List, [], ◌++◌, length, slice_get, Some}
use Rattle.hp_out.specs.RefusalTexts.{refusal_text}
use Rattle.hp_out.specs.Writing.{SinkRun, Wrote}
use Rattle.hp_out.specs.declared.refusal.Refusal.{Refusal}
use Rattle.hp_syntax.specs.Report.{pair_header}
use Rattle.hp_syntax.specs.Syntax.{Domain, Pair, Problem}
use Rattle.hp_syntax.specs.declared.status.Status.{Status}
use Rattle.hp_syntax.specs.declared.status.Status.TheVariants as status
use Rattle.hp_doctor.specs.declared.telling.Halt.{Halt}
use Rattle.hp_doctor.specs.Accepting.{AreRefused, IsAccepted, refusal_status}
use Rattle.hp_doctor.specs.Explained.{explained}
use Rattle.hp_doctor.specs.Linted.{Tells}
use Rattle.hp_doctor.specs.Telling.{Halts}
use Rattle.hp_doctor.specs.Texts.{Texts}
use Rattle.hp_doctor_why.specs.declared.reasons.Why.{Why}
use Rattle.hp_doctor_why.specs.declared.telling.Limits.{Limits}
use Rattle.hp_doctor_why.specs.Said.{why_text}
use Rattle.hp_doctor_why.specs.Reasons.{IsWhy, tree_of}

-- what is asked of a domain and a problem
pub record Asked : Type 0 where
  pub domain : Domain
  pub problem : Problem
  pub limits : Limits

-- the text of one of so many pairs, by its number: the line of that number, where there are several, and what is said
-- of why it has no plan
pub record TellsPair (t : Texts) (a : Asked) (pair : Pair) (number count : ℕ) (text : List ℕ) : Type 0 where
  pub why : Why
  pub right : IsWhy (tree_of a.domain.rules pair a.limits.depth a.limits.nest) a.limits.ends why
  pub is : text ≡ pair_header number count ++ why_text t a.domain a.problem a.limits.depth a.limits.nest why

-- the texts of so many of the first pairs, one after the other
pub data TellsFirst (t : Texts) (a : Asked) : ℕ → List ℕ → Type 0 where
  NoPair : TellsFirst t a 0 []
  OnePair : (k : ℕ) (text more : List ℕ) (pair : Pair) → TellsFirst t a k text
      → slice_get a.problem.pairs k ≡ Some pair → TellsPair t a pair (k + 1) (length a.problem.pairs) more
      → TellsFirst t a (k + 1) (text ++ more)

-- a telling stops at a pair: in its text, or before anything is known of it
abbrev pub StopsAt : Texts → Asked → Pair → ℕ → ℕ → SinkRun → Halt → Type 0
StopsAt t a pair number count r h =
    (text : List ℕ) × ((text ≡ []) ⊎ TellsPair t a pair number count text) × Halts h text r

-- a telling of all pairs stops in the texts of some of the first
abbrev pub StopsAmong : Texts → Asked → SinkRun → Halt → Type 0
StopsAmong t a r h = (k : ℕ) × (text : List ℕ) × TellsFirst t a k text × Halts h text r

abbrev pub TellsAll : Texts → Asked → SinkRun → Type 0
TellsAll t a r = (text : List ℕ) × TellsFirst t a (length a.problem.pairs) text × Wrote text r.before r.after

-- what `why` has to write was told, of all pairs where the status is `Done`; or memory ran out before anything was
-- known, and nothing was written
pub data TellsWhy (t : Texts) (w : Limits) (s : Status) (r : SinkRun) : Type 0 where
  Refused : (why : Refusal) → AreRefused t why → Tells (explained t (refusal_text why), refusal_status why) s r
      → TellsWhy t w s r
  Told : (a : Asked) (k : ℕ) (text : List ℕ) → IsAccepted t a.domain a.problem → a.limits ≡ w
      → TellsFirst t a k text → (s ≡ status.Done → k ≡ length a.problem.pairs) → Tells (text, status.Done) s r
      → TellsWhy t w s r
  Unknown : s ≡ status.NoMemory → Wrote [] r.before r.after → TellsWhy t w s r
