use Rattle.std.proofs.Common.{refl}
use Rattle.hp_syntax.specs.Views.{pattern_of, patterns_of}
use Rattle.hp_syntax.proofs.ListLemmas.{made_on}
use Rattle.hp_lint.specs.Variables.{pattern_uses, patterns_uses}
use Rattle.hp_lint.proofs.uses.Uses.+pattern.Goals as goal

pub patterns-loop-pat-preserved : goal.patterns-loop-pat-preserved
unfolding pattern_uses
patterns-loop-pat-preserved t c =
    made_on (λ ys. patterns_uses c.args.in_calls (patterns_of ys)) (λ y. pattern_uses c.args.in_calls (pattern_of y)) c.args.pats.now c.loop-pat.pat-index c.pat-item.result
    _ _ _ (λ y ys. refl) c.loop-pat-test.true c.pat-item.is c.loop-pat.invariant c.in_ok-pattern.ensures
