use Rattle.std.proofs.Common.{map, refl, ◌∷◌, []}
use Rattle.hp_syntax.specs.Views.{atom_of}
use Rattle.hp_syntax.proofs.ListLemmas.{made_on}
use Rattle.hp_lint.proofs.Steps.{one_more}
use Rattle.hp_lint.proofs.asking.all_of.Goals as goal

pub loop-atom-preserved : goal.loop-atom-preserved
loop-atom-preserved c =
    made_on (λ ys. map atom_of ys) (λ y. atom_of y ∷ []) c.args.atoms.now c.loop-atom.atom-index c.atom-item.result
    _ _ _ (λ y ys. refl) c.loop-atom-test.true c.atom-item.is c.loop-atom.invariant (one_more _ _ _ c.in_ok-push.ensures.items)
