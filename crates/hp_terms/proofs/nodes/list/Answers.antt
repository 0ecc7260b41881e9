use Rattle.std.proofs.Common.{refl}
use Rattle.hp_syntax.specs.Grammar.{list}
use Rattle.hp_text.specs.NodeLaws.{node_of-name}
use Rattle.hp_terms.proofs.nodes.list.Goals as goal

pub returns-in-Name : goal.returns-in-Name
unfolding list
returns-in-Name c = λ names.
    rw (node_of-name c.args.node.now c.in-Name.name c.in-Name.is, ← c.is.ensures, c.if-is.true) refl
