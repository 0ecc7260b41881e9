use Rattle.std.proofs.Common.{ap}
use Rattle.std.proofs.lemmas.Result.{IfOk-weaker}
use Rattle.hp_passes.specs.Passing.{sight_of}
use Rattle.hp_syntax.specs.Views.{domain_of}
use Rattle.hp_trace.proofs.StuckSteps.{cut_no_did, fault_no_did, plan_no_did}
use Rattle.hp_trace.proofs.tracing.after_visit.Goals as goal

pub returns-in-Plan-clause-goes : goal.returns-in-Plan-clause-goes
returns-in-Plan-clause-goes c =
    IfOk-weaker c.after_other.result _ _
    (λ r g v ws h. g (domain_of c.args.domain.now).rules (sight_of c.args.sight) v ws
    (plan_no_did (sight_of c.args.sight) (ap sight_of c.in-Plan.is)) h) c.after_other.ensures.goes

pub returns-in-Cut-clause-goes : goal.returns-in-Cut-clause-goes
returns-in-Cut-clause-goes c =
    IfOk-weaker c.after_other-in-Cut.result _ _
    (λ r g v ws h. g (domain_of c.args.domain.now).rules (sight_of c.args.sight) v ws
    (cut_no_did (sight_of c.args.sight) (ap sight_of c.in-Cut.is)) h) c.after_other-in-Cut.ensures.goes

pub returns-in-Fault-clause-goes : goal.returns-in-Fault-clause-goes
returns-in-Fault-clause-goes c =
    IfOk-weaker c.after_other-in-Fault.result _ _
    (λ r g v ws h. g (domain_of c.args.domain.now).rules (sight_of c.args.sight) v ws
    (fault_no_did _ (sight_of c.args.sight) (ap sight_of c.in-Fault.is)) h) c.after_other-in-Fault.ensures.goes
