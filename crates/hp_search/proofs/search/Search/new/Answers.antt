use Rattle.std.proofs.Common.{false, refl, rules}
use Rattle.hp_search.specs.declared.search.Search.{Search}
use Rattle.hp_search.proofs.SearchSteps.{search_begins}
use Rattle.hp_search.proofs.search.Search.new.Goals as goal

pub returns : goal.returns
returns c =
    let s : Search = record {
      alloc = c.args.alloc;
      nest = c.args.nest;
      site = c.args.site;
      cells = c.args.cells;
      path = c.new-2.result;
      above = c.new-3.result;
      top = c.in_ok-top.top;
      at_did = false;
      over = false;
    } in
    search_begins s c.requires.site (c.in_ok-top.ensures c.args.nest) (search rules) c.requires.levels
    c.new-3.ensures.items c.new-2.ensures.items refl refl
