use Rattle.std.proofs.Common.{rules, ap, ◌∙◌}
use Rattle.hp_mismatch.specs.ValueViews.{bindings_of}
use Rattle.hp_mismatch.proofs.ValueSteps.{none_bound}
use Rattle.hp_mismatch.proofs.values.unbound.Goals as goal

pub returns : goal.returns
returns c = ap bindings_of (c.in_ok-free.ensures.items_if_clones_equal (λ y h. search rules)) ∙ none_bound c.args.count
