use Rattle.std.proofs.Common.{◌≡◌, map}
use Rattle.std.specs.Vec.Iter.{into_iter_items}
use Rattle.hp_syntax.specs.Steps as steps
use Rattle.hp_syntax.specs.Steps.{Names}
use Rattle.hp_syntax.specs.Grammar as grammar
use Rattle.hp_syntax.specs.Views.{rule_of}
use Rattle.hp_text.specs.Nodes.{nodes_of}
use Rattle.hp_terms.proofs.Turns.{prepend}
use Rattle.hp_forms.proofs.files.rules.Given as goal

abbrev pub invariant-loop-node : goal.invariant-loop-node
invariant-loop-node l =
    (names : Names) → steps.each grammar.rule (nodes_of l.fn.nodes.items) names
    ≡ prepend (map rule_of l.rules.items) (steps.each grammar.rule (nodes_of (into_iter_items l.node-iterator)) names)
