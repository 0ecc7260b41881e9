use Rattle.std.proofs.Common.{◌≡◌, ℕ, List, length, min, rules, subst}
use Rattle.hp_out.specs.Writing.{Wrote}
use Rattle.hp_doctor.proofs.RemarkSteps.{err_behind}
use Rattle.hp_doctor.specs.Texts.{texts_of}
use Rattle.hp_syntax.specs.Views.{domain_of}
use Rattle.hp_doctor_trace.specs.Lines.{closing, lines_text}
use Rattle.hp_doctor_trace.proofs.telling.tell_rest.Goals as goal

-- a stop of what stands after the visits is one after them
pub returns-in-Ok-clause-err : goal.returns-in-Ok-clause-err
returns-in-Ok-clause-err g c =
    let vs = c.args.visits.now in
    let text : ℕ → List ℕ = lines_text (texts_of c.args.files.now) (domain_of c.args.domain.now).rules vs in
    let same : c.min-shown.result ≡ min c.args.most (length vs) = search rules in
    err_behind c.tell_closing.result
    (text (min c.args.most (length vs)))
    (closing c.args.most (length vs))
    (g.K.Sink.faults c.args.out.now) (g.K.Sink.faults c.tell_lines.new.out) (g.K.Sink.faults c.tell_closing.new.out)
    (g.K.Sink.bytes c.args.out.now) (g.K.Sink.bytes c.tell_lines.new.out) (g.K.Sink.bytes c.tell_closing.new.out)
    (subst (λ n. Wrote (text n) (g.K.Sink.bytes c.args.out.now) (g.K.Sink.bytes c.tell_lines.new.out)) same
    c.in-Ok.ensures.ok) c.tell_lines.ensures.later c.tell_closing.ensures.err
