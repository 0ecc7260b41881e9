use Rattle.std.proofs.Common.{ap}
use Rattle.hp_out.specs.Writing.{sink_run}
use Rattle.hp_syntax.specs.Views.{domain_of, problem_of}
use Rattle.hp_telling.specs.BestReports.{best_report}
use Rattle.hp_top.specs.Outcome.{pairs_answer}
use Rattle.hp_top.proofs.PlanEnds.{tells_same}
use Rattle.hp_top.proofs.serving.serve_best.Goals as goal

pub returns-clause-tells : goal.returns-clause-tells
returns-clause-tells g c =
    let rules = (domain_of c.args.loaded.now.domain).rules in
    let pairs = (problem_of c.args.loaded.now.problem).pairs in
    tells_same _ _ c.tell_in_pages.result
    (sink_run (g.K.Sink.faults c.args.out.now) (g.K.Sink.faults c.tell_in_pages.new.out) (g.K.Sink.bytes c.args.out.now)
    (g.K.Sink.bytes c.tell_in_pages.new.out))
    (ap (λ b. pairs_answer (best_report b) rules c.args.levels c.args.depth pairs) c.priced.ensures)
    (rw c.as_slice.ensures.value at (c.tell_in_pages.ensures.tells rules c.in-Ok.ensures))

pub tell_in_pages-requires-clause-pairs : goal.tell_in_pages-requires-clause-pairs
tell_in_pages-requires-clause-pairs g c =
    rw c.as_slice.ensures.value
    (c.accepted_pairs_are_ground.ensures c.requires.text.0 (domain_of c.args.loaded.now.domain)
    (problem_of c.args.loaded.now.problem) c.requires.text.1 c.requires.checked)
