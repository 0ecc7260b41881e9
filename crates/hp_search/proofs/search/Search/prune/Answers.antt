use Rattle.hp_search.proofs.BackSteps.{goes_pruned}
use Rattle.hp_search.proofs.search.Search.prune.Goals as goal

pub returns : goal.returns
returns c =
    let told = c.clear.ensures in
    goes_pruned c.args.self.now c.requires.search c.requires.did c.clear.new.self
    (record {
      mark = told.mark;
      base = told.base;
      floor = told.floor;
      dids = told.dids;
      end = told.end;
      none = told.«open»;
      candidates = told.candidates;
      rules = told.rules;
      at_end = told.at_end;
      no_more = told.no_more;
    })
