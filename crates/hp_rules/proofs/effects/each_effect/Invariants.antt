use Rattle.std.proofs.Common.{◌≡◌, map}
use Rattle.hp_syntax.specs.Steps as steps
use Rattle.hp_syntax.specs.Grammar as grammar
use Rattle.hp_syntax.specs.Views.{effect_of}
use Rattle.hp_text.specs.Nodes.{nodes_of}
use Rattle.hp_terms.proofs.Turns.{prepend, from_here}
use Rattle.hp_rules.proofs.effects.each_effect.Given as goal

abbrev pub invariant-loop-node : goal.invariant-loop-node
invariant-loop-node l =
    steps.each grammar.effect (nodes_of l.nodes) l.initial.scope.names.keys
    ≡ prepend (map effect_of l.effects.items) (from_here grammar.effect l.nodes l.node-index l.scope.names.keys)
