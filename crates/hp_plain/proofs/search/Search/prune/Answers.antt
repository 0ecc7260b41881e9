use Rattle.std.proofs.Common.{◌≡◌, length, rules}
use Rattle.hp_plain.proofs.SearchSteps.{goes_pruned}
use Rattle.hp_plain.proofs.search.Search.prune.Goals as goal

pub returns : goal.returns
returns c =
    let all : c.len-self.result ≡ length c.args.self.now.top.agenda.queue.candidates.items = search rules in
    goes_pruned c.args.self.now c.requires.search c.requires.did c.len-self.result all
