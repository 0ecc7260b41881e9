use Rattle.hp_search.proofs.AgainSteps.{begins_again, site_again}
use Rattle.hp_search.proofs.search.Search.begin_again.Goals as goal

pub new-requires : goal.new-requires
new-requires c =
    site_again c.args.self.now c.requires.search c.requires.root c.requires.cost c.args.depth c.requires.depth

pub returns-clause-begins : goal.returns-clause-begins
returns-clause-begins c =
    let s = c.args.self.now in
    begins_again s c.requires.search c.requires.root c.requires.cost c.args.depth c.requires.depth _
    (c.in_ok-self.ensures s.nest)
