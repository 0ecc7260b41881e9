use Rattle.std.proofs.Common.{refl}
use Rattle.std.specs.List.{flat_map}
use Rattle.hp_syntax.proofs.ListLemmas.{made_on}
use Rattle.hp_lint.specs.Asking.{on_asked}
use Rattle.hp_lint.specs.LintViews.{accepts_atom, accepts_name, lent, lent_atoms}
use Rattle.hp_lint.proofs.asking.tell_atoms.Goals as goal

pub loop-atom-preserved : goal.loop-atom-preserved
loop-atom-preserved c =
    made_on (λ ys. flat_map (on_asked (accepts_atom c.args.given.now) (accepts_name c.args.given.now)) (lent_atoms ys)) (λ y. on_asked (accepts_atom c.args.given.now) (accepts_name c.args.given.now) (lent y)) c.args.asked.now c.loop-atom.atom-index
    c.atom-item.result _ _ _ (λ y ys. refl) c.loop-atom-test.true c.atom-item.is c.loop-atom.invariant
    c.in_ok-tell_atom.ensures
