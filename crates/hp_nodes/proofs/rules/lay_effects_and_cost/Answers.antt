use Rattle.std.proofs.lemmas.Result.{on_ok_weaker}
use Rattle.hp_syntax.specs.declared.domain.Side.TheVariants.{Deletes, Adds}
use Rattle.hp_syntax.specs.Changes.{pattern_span}
use Rattle.hp_syntax.specs.Views.{operator_of}
use Rattle.hp_nodes.specs.Compiled.{leaf, only, effect_trees}
use Rattle.hp_nodes.specs.Trees.{CostOf}
use Rattle.hp_nodes.proofs.LayingSteps.{effects_before}
use Rattle.hp_nodes.proofs.rules.lay_effects_and_cost.Goals as goal

pub returns : goal.returns
returns c =
    let o = operator_of c.args.operator.now in
    let cost = only (leaf (CostOf o.cost) (pattern_span o.cost)) in
    let before = c.args.nodes.now.items in
    let deleted = c.lay_effects.new.nodes.items in
    let added = c.lay_effects-2.new.nodes.items in
    let all = c.lay_cost.new.nodes.items in
    let dels = rw c.as_slice.ensures.value at c.in_ok-lay_effects.ensures in
    let adds = rw c.as_slice-2.ensures.value at c.in_ok-lay_effects-2.ensures in
    on_ok_weaker c.lay_cost.result
    (λ costs. effects_before Deletes o.span o.dels (effect_trees Adds o.span o.adds cost) before deleted all dels
    (effects_before Adds o.span o.adds cost deleted added all adds costs)) c.lay_cost.ensures
