use Rattle.std.proofs.Common.{◌∙◌}
use Rattle.hp_out.specs.Writing.{sink_run}
use Rattle.hp_syntax.specs.Views.{domain_of, problem_of}
use Rattle.hp_words.specs.PathWords.{path_of}
use Rattle.hp_words.specs.Words.{options_of}
use Rattle.hp_top.proofs.PlanEnds.{after_told, tells_same}
use Rattle.hp_top.proofs.serving.serve_after.Goals as goal

pub returns-clause-tells : goal.returns-clause-tells
returns-clause-tells g c =
    let asked = c.args.asked in
    tells_same _ _ c.serve_one.result
    (sink_run (g.K.Sink.faults c.args.out.now) (g.K.Sink.faults c.serve_one.new.out) (g.K.Sink.bytes c.args.out.now)
    (g.K.Sink.bytes c.serve_one.new.out))
    (after_told c.detail_of.result asked.plans (options_of asked.options) c.as_slice.result.now
    (path_of c.args.word.now) asked.options.levels asked.depth c.args.number (domain_of c.args.loaded.now.domain).rules
    (problem_of c.args.loaded.now.problem).pairs c.detail_of.ensures (c.as_slice.ensures.value ∙ c.in-Ok.ensures.path))
    c.serve_one.ensures.tells
