use Rattle.std.proofs.Common.{[]}
use Rattle.std.proofs.lemmas.Option.{MatchOption-at_some}
use Rattle.hp_text.specs.Nodes.{node_of}
use Rattle.hp_text.specs.NodeLaws.{node_of-span}
use Rattle.hp_forms.proofs.stepwise.next_name.Goals as goal

pub returns-in-Ok-clause-name : goal.returns-in-Ok-clause-name
returns-in-Ok-clause-name c =
    let passes = MatchOption-at_some _ _ c.in-Some.node c.in-Some.is c.in_ok-node.ensures.passes in (
      record {
        node = node_of c.in-Some.node;
        passes = passes;
        read = rw c.in_ok-copy-in-Ok.ensures.same (c.in-Ok.ensures []);
      },
      node_of-span c.in-Some.node,
    )
