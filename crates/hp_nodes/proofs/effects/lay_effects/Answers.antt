use Rattle.std.proofs.Common.{map, refl}
use Rattle.hp_syntax.specs.Views.{effect_of}
use Rattle.hp_nodes.specs.Compiled.{effect_tree, effect_trees}
use Rattle.hp_nodes.specs.Trees.{NoTree}
use Rattle.hp_nodes.proofs.LayingSteps.{laid_one_more, all_parts_laid}
use Rattle.hp_nodes.proofs.effects.lay_effects.Goals as goal

pub loop-effect-preserved : goal.loop-effect-preserved
loop-effect-preserved c =
    let side = c.args.side in
    let span = c.args.span in
    laid_one_more (λ es. effect_trees side span (map effect_of es) NoTree) (λ e. effect_tree side span (effect_of e))
    c.args.effects.now c.loop-effect.effect-index c.effect-item.result c.loop-effect.nodes.items
    c.lay_effect.new.nodes.items (λ e es. refl) c.loop-effect-test.true c.effect-item.is c.in_ok-lay_effect.ensures _
    c.loop-effect.invariant

pub returns : goal.returns
returns c =
    all_parts_laid (λ es. effect_trees c.args.side c.args.span (map effect_of es) NoTree) c.args.effects.now
    c.loop-effect.effect-index c.loop-effect-test.false refl c.loop-effect.nodes.items _ c.loop-effect.invariant
