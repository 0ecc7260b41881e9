use Rattle.std.proofs.Common.{ap, map, ◌∙◌}
use Rattle.std.proofs.lemmas.List.{map_push}
use Rattle.hp_nodes.specs.NodeViews.{laid_of}
use Rattle.hp_nodes.proofs.laying.open_node.Goals as goal

pub returns : goal.returns
returns c = record {
  index = c.len-at.ensures ∙ c.args.nodes.now.ok.0;
  behind = ap (map laid_of) c.in_ok-push.ensures.items ∙ map_push laid_of c.args.nodes.now.items _;
}
