use Rattle.std.proofs.Common.{subst, sym}
use Rattle.hp_doctor.specs.Texts.{texts_of}
use Rattle.hp_out.specs.Writing.{sink_run}
use Rattle.hp_syntax.specs.Views.{domain_of, problem_of}
use Rattle.hp_doctor_why.specs.Told.{TellsWhy}
use Rattle.hp_doctor_why.proofs.PairSteps.{accepted_numbered, why_told}
use Rattle.hp_doctor_why.proofs.telling.tell_read.Goals as goal

pub lower-requires-clause-numbered : goal.lower-requires-clause-numbered
lower-requires-clause-numbered g c =
    accepted_numbered (texts_of c.args.files.now) (domain_of c.args.read.now.domain)
    (problem_of c.args.read.now.problem) c.requires.accepted

pub returns-in-Ok-clause-tells : goal.returns-in-Ok-clause-tells
returns-in-Ok-clause-tells g c =
    let t = texts_of c.args.files.now in
    let told = c.tell_pairs-told in
    subst
    (λ s. TellsWhy t c.args.limits s
    (sink_run (g.K.Sink.faults c.args.out.now) (g.K.Sink.faults told.new.out) (g.K.Sink.bytes c.args.out.now)
    (g.K.Sink.bytes told.new.out)))
    (sym c.status_told.ensures)
    (why_told t (record {
      domain = domain_of c.args.read.now.domain;
      problem = problem_of c.args.read.now.problem;
      limits = c.args.limits;
    }) told.result _ c.requires.accepted told.ensures.ok told.ensures.err)
