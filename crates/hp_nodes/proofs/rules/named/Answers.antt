use Rattle.std.proofs.Common.{◌≡◌, ap}
use Rattle.hp_nodes.specs.Trees.{BranchOf}
use Rattle.hp_nodes.proofs.rules.named.Goals as goal
use Rattle.hp_nodes.proofs.rules.named.Goals.{in-Some+in_ok-copy-in-Some, in-None}

pub returns : goal.returns
returns c =
    let same : c.match-name.result ≡ c.args.name.now =
    elim c.match-name.branch [
      | in-Some+in_ok-copy-in-Some w ↦ cc w.in_ok-copy-in-Some.ensures.same
      | in-None w ↦ cc
    ] in
    ap BranchOf same
