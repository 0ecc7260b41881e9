use Rattle.std.proofs.Common.{length, ap, sym, subst}
use Rattle.std.proofs.lemmas.Result.{IfOk-weaker}
use Rattle.hp_syntax.specs.Walk.{child_of}
use Rattle.hp_eval.proofs.GrowthLemmas.{grows_self}
use Rattle.hp_answers.specs.AnswerViews.{answer_event, BindsBelow}
use Rattle.hp_plain.specs.Candidates.{done_at}
use Rattle.hp_plain.proofs.CandidateSteps.{makes_same}
use Rattle.hp_plain.proofs.candidate.Candidate.child.Goals as goal

pub satisfied-requires-clause-slots : goal.satisfied-requires-clause-slots
satisfied-requires-clause-slots c = subst (BindsBelow (length c.args.cells.now)) c.in-Sat.is c.requires.found

pub returns-in-Sat-clause-makes : goal.returns-in-Sat-clause-makes
returns-in-Sat-clause-makes c =
    let old = c.args.cells.now in
    let done = done_at old c.args.self.now c.args.rule c.args.branch in
    IfOk-weaker c.satisfied.result _ _
    (λ child h.
    makes_same c.satisfied.new.cells child _ _ (ap (λ x. child_of done (answer_event old x)) (sym c.in-Sat.is)) h)
    c.satisfied.ensures.makes

pub returns-in-Cut-clause-makes : goal.returns-in-Cut-clause-makes
returns-in-Cut-clause-makes c =
    let old = c.args.cells.now in
    let done = done_at old c.args.self.now c.args.rule c.args.branch in
    record { are = ap (λ x. child_of done (answer_event old x)) (sym c.in-Cut.is); fits = tt }

pub returns-in-Fault-clause-makes : goal.returns-in-Fault-clause-makes
returns-in-Fault-clause-makes c =
    let old = c.args.cells.now in
    let done = done_at old c.args.self.now c.args.rule c.args.branch in
    record { are = ap (λ x. child_of done (answer_event old x)) (sym c.in-Fault.is); fits = tt }

pub returns-in-Cut-clause-cells : goal.returns-in-Cut-clause-cells
returns-in-Cut-clause-cells c = grows_self c.args.cells.now

pub returns-in-Fault-clause-cells : goal.returns-in-Fault-clause-cells
returns-in-Fault-clause-cells c = grows_self c.args.cells.now
