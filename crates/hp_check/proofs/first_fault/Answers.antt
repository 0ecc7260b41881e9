use Rattle.std.proofs.Common.{None}
use Rattle.hp_syntax.specs.Checks.{domain_faults, problem_faults}
use Rattle.hp_syntax.specs.Views.{domain_of, problem_of}
use Rattle.hp_check.proofs.FaultLemmas.{seen_both}
use Rattle.hp_check.proofs.first_fault.Goals as goal

-- the domain is seen first, and then the problem
pub returns : goal.returns
returns c =
    let domain = domain_of c.args.domain.now in
    seen_both None _ _ (domain_faults domain) (problem_faults domain (problem_of c.args.problem.now))
    (rw c.new-watch.ensures at c.domain_part.ensures) c.problem_part.ensures
