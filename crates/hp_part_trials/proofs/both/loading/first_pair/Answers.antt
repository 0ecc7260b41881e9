use Rattle.std.proofs.Common.{◌<◌, length, rules, subst, sym}
use Rattle.hp_laws.proofs.JoinLemmas.{all_unmapped}
use Rattle.hp_syntax.specs.GroundPatterns.{IsGroundPair}
use Rattle.hp_syntax.specs.Views.{pair_of}
use Rattle.hp_part_trials.proofs.both.loading.first_pair.Goals as goal

pub returns : goal.returns
returns c =
    let pairs = c.args.problem.pairs.items in
    let some : 0 < length pairs = search rules in
    subst (λ p. IsGroundPair (pair_of p)) (sym c.remove.ensures.value)
    (all_unmapped IsGroundPair pair_of pairs c.requires 0 c.remove.result some)
