use Rattle.hp_syntax.specs.Views.{domain_of, problem_of}
use Rattle.hp_syntax.specs.Written as written
use Rattle.hp_telling.proofs.TellingLemmas.{err_after}
use Rattle.hp_top.proofs.showing.show.Goals as goal

-- a stop of the problem's text is one behind the domain's
pub returns-in-Ok-clause-err : goal.returns-in-Ok-clause-err
returns-in-Ok-clause-err g c =
    err_after c.show_problem.result (written.domain_text (domain_of c.args.domain.now))
    (written.problem_text (problem_of c.args.problem.now))
    (g.K.Sink.faults c.args.out.now) (g.K.Sink.faults c.show_domain.new.out) (g.K.Sink.faults c.show_problem.new.out)
    (g.K.Sink.bytes c.args.out.now) (g.K.Sink.bytes c.show_domain.new.out) (g.K.Sink.bytes c.show_problem.new.out)
    c.in-Ok.ensures.ok c.show_domain.ensures.later c.show_problem.ensures.err
