use Rattle.std.proofs.Common.{◌≡◌, drop, map}
use Rattle.hp_syntax.specs.Views.{effect_of}
use Rattle.hp_nodes.specs.Compiled.{effect_trees}
use Rattle.hp_nodes.specs.Trees.{NoTree}
use Rattle.hp_nodes.proofs.LayingLemmas.{laid_behind}
use Rattle.hp_nodes.proofs.effects.lay_effects.Given as goal

abbrev pub invariant-loop-effect : goal.invariant-loop-effect
invariant-loop-effect l =
    laid_behind l.nodes.items
    (effect_trees l.side l.span (map effect_of (drop l.effect-index l.effects)) NoTree)
    ≡ laid_behind l.fn.nodes.items (effect_trees l.side l.span (map effect_of l.effects) NoTree)
