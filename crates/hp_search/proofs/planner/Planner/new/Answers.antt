use Rattle.std.proofs.Common.{◌<◌, [], length}
use Rattle.std.proofs.lemmas.List.Elements.{All-same}
use Rattle.hp_search.proofs.planner.Planner.new.Goals as goal

pub new-requires-3-clause-site : goal.new-requires-3-clause-site
new-requires-3-clause-site c =
    let n = length c.indexed.new.cells in
    let told = c.in_ok-world.ensures in
    let root = told.below c.args.depth c.requires.depth in
    record {
      node = record {
        stage = root.stage;
        network = root.network;
        steps = All-same (λ k. k < n) c.new-2.result.items [] c.new-2.ensures.items root.steps;
        depth = root.depth;
        low = root.low;
        high = root.high;
      };
      pasts = told.pasts;
      knows = told.knows;
      stood = told.stood;
    }
