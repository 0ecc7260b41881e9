use Rattle.std.proofs.Common.{ap, map}
use Rattle.hp_nodes.specs.NodeViews.{laid_of}
use Rattle.hp_nodes.specs.Trees.{all_laid}
use Rattle.hp_code.proofs.lowering.Lowering.new.Goals as goal

pub returns : goal.returns
unfolding all_laid
returns c = record {
  code = record {
    nodes = ap (map laid_of) c.new.ensures.items;
    vars = ap (map (λ names. names.items)) c.new-3.ensures.items;
    task_rules = c.new-4.ensures;
    axiom_rules = c.new-5.ensures;
  };
  places = c.new-2.ensures.items;
}
