use Rattle.std.proofs.Common.{cond, bytes_eq, [], map}
use Rattle.std.specs.List.{flat_map}
use Rattle.hp_syntax.specs.declared.check.CheckKind.TheVariants.{OtherDomain}
use Rattle.hp_syntax.specs.Checks.{InProblem, found, pair_faults, problem_faults}
use Rattle.hp_syntax.specs.Views.{pair_of}
use Rattle.hp_check.proofs.FaultLemmas.{seen_both}
use Rattle.hp_check.proofs.rules.problem_part.Goals as goal

-- the name of the domain is seen first, and then the pairs
pub returns : goal.returns
unfolding problem_faults
returns c =
    let problem = c.args.problem.now in
    seen_both c.args.watch.now.first c.named_domain.new.watch.first c.pairs.new.watch.first
    (cond (bytes_eq problem.domain c.args.domain.now.name) [] (found OtherDomain InProblem problem.domain_span))
    (flat_map pair_faults (map pair_of problem.pairs.items)) c.named_domain.ensures
    (rw c.as_slice.ensures.value at c.pairs.ensures)
