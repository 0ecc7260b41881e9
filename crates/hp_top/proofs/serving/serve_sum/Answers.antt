use Rattle.std.proofs.Common.{refl}
use Rattle.hp_out.specs.Writing.{sink_run}
use Rattle.hp_syntax.specs.Views.{domain_of, problem_of}
use Rattle.hp_top.proofs.PlanEnds.{tells_equal}
use Rattle.hp_top.proofs.serving.serve_sum.Goals as goal

pub returns-clause-tells : goal.returns-clause-tells
returns-clause-tells g c =
    tells_equal _ _ c.sum_up.result c.status_told.result
    (sink_run (g.K.Sink.faults c.args.out.now) (g.K.Sink.faults c.sum_up.new.out) (g.K.Sink.bytes c.args.out.now)
    (g.K.Sink.bytes c.sum_up.new.out))
    refl c.status_told.ensures
    (c.sum_up.ensures.told (domain_of c.args.loaded.now.domain).rules c.in-Ok.ensures)

pub sum_up-requires : goal.sum_up-requires
sum_up-requires g c =
    c.accepted_pairs_are_ground.ensures c.requires.text.0 (domain_of c.args.loaded.now.domain)
    (problem_of c.args.loaded.now.problem) c.requires.text.1 c.requires.checked
