use Rattle.std.proofs.Common.{map, refl}
use Rattle.std.specs.List.{flat_map}
use Rattle.hp_syntax.specs.Views.{clause_of}
use Rattle.hp_syntax.proofs.ListLemmas.{made_on}
use Rattle.hp_lint.specs.Variables.{clause_uses}
use Rattle.hp_lint.proofs.uses.Uses.clauses.Goals as goal

pub loop-clause-preserved : goal.loop-clause-preserved
loop-clause-preserved c =
    made_on (λ ys. flat_map clause_uses (map clause_of ys)) (λ y. clause_uses (clause_of y)) c.args.clauses.now c.loop-clause.clause-index c.clause-item.result
    _ _ _ (λ y ys. refl) c.loop-clause-test.true c.clause-item.is c.loop-clause.invariant c.in_ok-expression.ensures
