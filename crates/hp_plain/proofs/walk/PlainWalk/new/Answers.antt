use Rattle.std.proofs.Common.{◌≡◌, ◌<◌, ◌≤◌, [], length, arith}
use Rattle.std.specs.Prelude.{pos}
use Rattle.std.proofs.lemmas.List.Elements.{All-same}
use Rattle.hp_syntax.specs.declared.limits.TheConstants.{GREATEST_DEPTH}
use Rattle.hp_syntax.specs.Views.{domain_of, pair_of}
use Rattle.hp_syntax.specs.Walk.{root}
use Rattle.hp_plain.specs.SearchNodes.{node_in}
use Rattle.hp_plain.specs.declared.search_node.SearchNode.{SearchNode}
use Rattle.hp_laws.proofs.FaultLemmas.{faultless_has_few, faultless_rules}
use Rattle.hp_plain.proofs.SearchSteps.{begins_stands, begins_tree, without_steps}
use Rattle.hp_plain.proofs.walk.PlainWalk.new.Goals as goal

pub new-requires-4-clause-few : goal.new-requires-4-clause-few
new-requires-4-clause-few c = λ k r l.
    faultless_has_few _ (faultless_rules (domain_of c.args.domain.now) c.requires.checked k r l)

pub new-requires-4-clause-node : goal.new-requires-4-clause-node
new-requires-4-clause-node c =
    let n = length c.new-2.new.cells in
    let shallow : c.args.depth ≤ GREATEST_DEPTH = omega (arith, c.requires.depth) in
    let root = c.in_ok-world.ensures.below c.args.depth shallow in
    record {
      stage = root.stage;
      network = root.network;
      steps = All-same (λ k. k < n) c.new-3.result.items [] c.new-3.ensures.items root.steps;
      depth = root.depth;
      low = root.low;
      high = root.high;
    }

pub invariant_of-result : goal.invariant_of-result
invariant_of-result c = λ _. c.in_ok-search.ensures.search

pub returns-clause-tree : goal.returns-clause-tree
returns-clause-tree c =
    let node : SearchNode = record {
      world = c.in_ok-world.field-0.world;
      net = c.in_ok-world.field-0.net;
      steps = c.new-3.result;
      cost = pos 0;
      depth = c.args.depth;
    } in
    let same : node_in c.new-2.new.cells node ≡ root (pair_of c.args.pair.now) c.args.depth =
    without_steps c.new-2.new.cells node _ c.new-3.ensures.items (c.in_ok-world.ensures.node c.args.depth) in
    begins_tree (domain_of c.args.domain.now).rules c.args.nest _ _ c.in_ok-search.search c.in_ok-search.ensures same

pub returns-clause-stands : goal.returns-clause-stands
returns-clause-stands c =
    let node : SearchNode = record {
      world = c.in_ok-world.field-0.world;
      net = c.in_ok-world.field-0.net;
      steps = c.new-3.result;
      cost = pos 0;
      depth = c.args.depth;
    } in
    let same : node_in c.new-2.new.cells node ≡ root (pair_of c.args.pair.now) c.args.depth =
    without_steps c.new-2.new.cells node _ c.new-3.ensures.items (c.in_ok-world.ensures.node c.args.depth) in
    begins_stands (domain_of c.args.domain.now).rules c.args.nest _ _ c.in_ok-search.search c.in_ok-search.ensures same
