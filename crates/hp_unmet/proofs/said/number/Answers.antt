use Rattle.std.proofs.Common.{FitsSigned, refl, rules, ap}
use Rattle.std.specs.Int.{w64}
use Rattle.std.proofs.lemmas.Int.{to_z-of_z}
use Rattle.hp_syntax.specs.Terms.{Number}
use Rattle.hp_syntax.specs.ViewLaws.{pattern_of-num}
use Rattle.hp_unmet.proofs.SaidLemmas.{number_says, says_as, says_term}
use Rattle.hp_unmet.proofs.said.number.Goals as goal

pub returns : goal.returns
returns c =
    let n = c.args.n in
    let fits : FitsSigned w64 n = search rules in
    says_as _ _ _ (pattern_of-num _ _ refl)
    (says_term _ _ _ (number_says _ _) (ap (λ k. Number k) (to_z-of_z w64 n fits)))
