use Rattle.std.proofs.Common.{refl, subst}
use Rattle.hp_io.specs.declared.folder.Input.TheVariants as inputs
use Rattle.hp_syntax.specs.Grammar.{problem_form}
use Rattle.hp_syntax.specs.Views.{domain_of, problem_of}
use Rattle.hp_top.specs.Loading.{Reads}
use Rattle.hp_top.specs.Outcome.{Stopped, Went}
use Rattle.hp_top.proofs.LoadingSteps.{stops_since}
use Rattle.hp_top.proofs.loading.load.Goals as goal

pub returns-in-Err-clause-loads : goal.returns-in-Err-clause-loads
returns-in-Err-clause-loads g c = Stopped c.in-Err.cause c.in-Err.ensures.stops refl

pub returns-in-Ok-load_problem-clause-loads : goal.returns-in-Ok-load_problem-clause-loads
returns-in-Ok-load_problem-clause-loads g c =
    let p = problem_of c.in-Ok-load_problem.problem in
    Went (domain_of c.in-Ok.domain) c.in-Ok.ensures.domain
    (Went p
    (subst (λ file. Reads problem_form file p) (c.load_domain.ensures.files c.args.problem.now)
    c.in-Ok-load_problem.ensures.problem)
    refl)

pub returns-in-Err-load_problem-clause-loads : goal.returns-in-Err-load_problem-clause-loads
returns-in-Err-load_problem-clause-loads g c =
    Went (domain_of c.in-Ok.domain) c.in-Ok.ensures.domain
    (Stopped c.in-Err-load_problem.cause
    (stops_since inputs.Problem problem_form _ _ _ _ _ _ c.load_domain.ensures.later
    (c.load_domain.ensures.files c.args.problem.now) c.in-Err-load_problem.ensures.stops)
    refl)
