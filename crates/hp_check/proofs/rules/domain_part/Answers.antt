use Rattle.std.proofs.Common.{map, ap, sym, ◌∙◌}
use Rattle.std.specs.List.{flat_map}
use Rattle.hp_syntax.specs.Checks.{earlier, first_of, domain_faults, rule_faults}
use Rattle.hp_syntax.specs.Views.{rule_of}
use Rattle.hp_check.proofs.FaultLemmas.{earlier-none, seen_more, seen_all}
use Rattle.hp_check.proofs.rules.domain_part.Goals as goal

pub loop-part-init : goal.loop-part-init
loop-part-init c = sym (earlier-none c.args.watch.now.first)

pub loop-part-preserved : goal.loop-part-preserved
loop-part-preserved c =
    seen_more rule_faults rule_of _ _ _ _ _ _ c.loop-part-test.true c.part-item.is c.loop-part.invariant c.rule.ensures

pub returns : goal.returns
unfolding domain_faults
returns c =
    let rules = c.deref-part-items.result.now in
    seen_all rule_faults rule_of rules c.loop-part.part-index _ _ c.loop-part-test.false c.loop-part.invariant
    ∙ ap (λ rs. earlier c.args.watch.now.first (first_of (flat_map rule_faults (map rule_of rs))))
    c.deref-part-items.ensures.value
