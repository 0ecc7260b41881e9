use Rattle.std.proofs.Common.{◌-◌, map}
use Rattle.hp_out.specs.Writing.{sink_run}
use Rattle.hp_syntax.specs.Views.{domain_of, pair_of, problem_of}
use Rattle.hp_top.proofs.PlanEnds.{one_ground, one_told, tells_same}
use Rattle.hp_top.proofs.serving.serve_one.Goals as goal

pub tell_in_pages-requires-clause-pairs : goal.tell_in_pages-requires-clause-pairs
tell_in_pages-requires-clause-pairs g c =
    one_ground (map pair_of c.args.loaded.now.problem.pairs.items) (map pair_of c.in-Some.pair.now)
    (c.args.number - 1) (rw (← c.as_slice-pairs.ensures.value) c.in-Some.ensures)
    (c.accepted_pairs_are_ground.ensures c.requires.text.0 (domain_of c.args.loaded.now.domain)
    (problem_of c.args.loaded.now.problem) c.requires.text.1 c.requires.checked)

pub tell_in_pages-requires-clause-wanted : goal.tell_in_pages-requires-clause-wanted
tell_in_pages-requires-clause-wanted g c = record {
  sought = c.requires.wanted.sought _;
  depth = c.requires.wanted.depth;
  levels = c.requires.wanted.levels;
}

pub returns-clause-tells : goal.returns-clause-tells
returns-clause-tells g c =
    let rules = (domain_of c.args.loaded.now.domain).rules in
    tells_same _ _ c.tell_in_pages.result
    (sink_run (g.K.Sink.faults c.args.out.now) (g.K.Sink.faults c.tell_in_pages.new.out)
    (g.K.Sink.bytes c.args.out.now) (g.K.Sink.bytes c.tell_in_pages.new.out))
    (one_told c.args.wanted rules c.args.number (problem_of c.args.loaded.now.problem).pairs
    (map pair_of c.in-Some.pair.now) (rw (← c.as_slice-pairs.ensures.value) c.in-Some.ensures))
    (c.tell_in_pages.ensures.tells rules c.in-Ok.ensures)
