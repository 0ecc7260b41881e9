use Rattle.std.proofs.Common.{subst}
use Rattle.hp_out.specs.Writing.{sink_run}
use Rattle.hp_syntax.specs.declared.limits.TheConstants.{MADE_DEPTH, USUAL_LEVELS}
use Rattle.hp_syntax.specs.Report.{Answer}
use Rattle.hp_syntax.specs.Views.{problem_of}
use Rattle.hp_top.specs.Making.{made_lines}
use Rattle.hp_top.specs.Outcome.{line_heard, pairs_answer}
use Rattle.hp_telling.specs.Telling.{IsTold}
use Rattle.hp_telling.proofs.TellingLemmas.{halts_longer, told_behind}
use Rattle.hp_top.proofs.PlanEnds.{lines_told}
use Rattle.hp_top.proofs.summing.sum_up.Goals as goal

-- what is told of the pairs is told behind the lines of the made problem
pub returns-in-Ok-clause-told : goal.returns-in-Ok-clause-told
returns-in-Ok-clause-told g c = λ rules is.
    let p = problem_of c.args.problem.now in
    told_behind (made_lines c.args.seed c.args.packages p)
    (pairs_answer line_heard rules USUAL_LEVELS MADE_DEPTH p.pairs) c.tell_pairs.result
    (g.K.Sink.faults c.args.out.now) (g.K.Sink.faults c.tell_made.new.out) (g.K.Sink.faults c.tell_pairs.new.out)
    (g.K.Sink.bytes c.args.out.now) (g.K.Sink.bytes c.tell_made.new.out) (g.K.Sink.bytes c.tell_pairs.new.out)
    c.tell_made.ensures.later c.in-Ok.ensures.written
    (subst
    (λ (a : Answer). IsTold a c.tell_pairs.result
    (sink_run (g.K.Sink.faults c.tell_made.new.out) (g.K.Sink.faults c.tell_pairs.new.out)
    (g.K.Sink.bytes c.tell_made.new.out) (g.K.Sink.bytes c.tell_pairs.new.out)))
    (lines_told USUAL_LEVELS MADE_DEPTH rules p.pairs)
    (rw c.as_slice.ensures.value at (c.tell_pairs.ensures.told rules is)))

-- a stop of the lines of the made problem is one of all
pub returns-in-Err-clause-told : goal.returns-in-Err-clause-told
returns-in-Err-clause-told g c = λ rules is.
    let p = problem_of c.args.problem.now in
    halts_longer c.in-Err.halt (made_lines c.args.seed c.args.packages p)
    (pairs_answer line_heard rules USUAL_LEVELS MADE_DEPTH p.pairs).0
    (sink_run (g.K.Sink.faults c.args.out.now) (g.K.Sink.faults c.tell_made.new.out) (g.K.Sink.bytes c.args.out.now)
    (g.K.Sink.bytes c.tell_made.new.out))
    c.in-Err.ensures.err
