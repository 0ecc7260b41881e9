use Rattle.std.proofs.Common.{◌∙◌}
use Rattle.hp_syntax.specs.Values.{unbound}
use Rattle.hp_mismatch.proofs.LawSteps.{by_arguments, nothing_reported, reported}
use Rattle.hp_mismatch.proofs.laws.the_reason_is_always_reported.Goals as goal

pub returns-clause-other : goal.returns-clause-other
returns-clause-other c =
    λ a ts n h. reported a.args a.tail ts (unbound n) (by_arguments a ts (unbound n) ∙ h)

pub returns-clause-same : goal.returns-clause-same
returns-clause-same c =
    λ a ts n e h. nothing_reported a.args a.tail ts (unbound n) e (by_arguments a ts (unbound n) ∙ h)
