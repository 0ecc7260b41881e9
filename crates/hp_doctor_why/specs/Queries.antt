-- What is asked of two files that are accepted, as the code holds it.
use Rattle.std.specs.Prelude.{◌≤◌}
use Rattle.hp_code.specs.Codes.{code_of}
use Rattle.hp_code.specs.CodeViews.{IsCodeOf}
use Rattle.hp_syntax.specs.declared.limits.TheConstants.{GREATEST_DEPTH, MOST_LEVELS}
use Rattle.hp_syntax.specs.Syntax.{Domain, Problem}
use Rattle.hp_syntax.specs.Views.{domain_of, problem_of}
use Rattle.hp_out.specs.Writing.{SinkRun}
use Rattle.hp_doctor.specs.Accepting.{IsAccepted}
use Rattle.hp_doctor.specs.Texts.{Texts, texts_of}
use Rattle.hp_doctor.specs.declared.telling.Halt.{Halt}
use Rattle.hp_doctor_why.specs.declared.telling.Query.{Query}
use Rattle.hp_doctor_why.specs.declared.telling.Limits.{Limits}
use Rattle.hp_doctor_why.specs.Told.{Asked, StopsAmong, TellsAll}

-- what is limits is within the limits
pub record IsAskable (w : Limits) : Type 0 where
  pub depth : w.depth ≤ GREATEST_DEPTH
  pub nest : w.nest ≤ MOST_LEVELS

abbrev pub files_of : Query → Texts
files_of q = texts_of q.files.now

abbrev pub read_domain : Query → Domain
read_domain q = domain_of q.read.now.domain

abbrev pub read_problem : Query → Problem
read_problem q = problem_of q.read.now.problem

abbrev pub asked_of : Query → Asked
asked_of q = record { domain = read_domain q; problem = read_problem q; limits = q.limits }

-- the files are accepted, the code is the domain's, and what is limits is within the limits
pub record IsReady (q : Query) : Type 0 where
  pub accepted : IsAccepted (files_of q) (read_domain q) (read_problem q)
  pub code : IsCodeOf (read_domain q).rules (code_of q.code.now)
  pub askable : IsAskable q.limits

abbrev pub TellsQuery : Query → SinkRun → Type 0
TellsQuery q r = TellsAll (files_of q) (asked_of q) r

abbrev pub StopsQuery : Query → SinkRun → Halt → Type 0
StopsQuery q r h = StopsAmong (files_of q) (asked_of q) r h
