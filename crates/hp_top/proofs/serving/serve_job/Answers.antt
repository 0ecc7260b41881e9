use Rattle.std.proofs.Common.{◌≡◌, ◌∙◌, None, ap, sym}
use Rattle.hp_out.specs.Writing.{sink_run}
use Rattle.hp_syntax.specs.Views.{domain_of, problem_of}
use Rattle.hp_words.specs.Words.{job_of}
use Rattle.hp_top.proofs.PlanEnds.{tells_read}
use Rattle.hp_top.proofs.serving.serve_job.Goals as goal

-- behind the checks it is at hand that they found no fault
pub serve_plan-requires-clause-checked : goal.serve_plan-requires-clause-checked
serve_plan-requires-clause-checked g c =
    let none : c.first_fault.result ≡ None = assumption in sym c.first_fault.ensures ∙ none

pub serve_best-requires-clause-checked : goal.serve_best-requires-clause-checked
serve_best-requires-clause-checked g c =
    let none : c.first_fault.result ≡ None = assumption in sym c.first_fault.ensures ∙ none

pub serve_sum-requires-clause-checked : goal.serve_sum-requires-clause-checked
serve_sum-requires-clause-checked g c =
    let none : c.first_fault.result ≡ None = assumption in sym c.first_fault.ensures ∙ none

pub returns-in-Plan-clause-tells : goal.returns-in-Plan-clause-tells
returns-in-Plan-clause-tells g c =
    let none : c.first_fault.result ≡ None = assumption in
    tells_read (domain_of c.args.loaded.domain) (problem_of c.args.loaded.problem) (job_of c.args.job) _
    c.serve_plan.result
    (sink_run (g.K.Sink.faults c.args.out.now) (g.K.Sink.faults c.serve_plan.new.out) (g.K.Sink.bytes c.args.out.now)
    (g.K.Sink.bytes c.serve_plan.new.out))
    (sym c.first_fault.ensures ∙ none) (ap job_of c.in-Plan.is) c.serve_plan.ensures.tells

pub returns-in-Best-clause-tells : goal.returns-in-Best-clause-tells
returns-in-Best-clause-tells g c =
    let none : c.first_fault.result ≡ None = assumption in
    tells_read (domain_of c.args.loaded.domain) (problem_of c.args.loaded.problem) (job_of c.args.job) _
    c.serve_best.result
    (sink_run (g.K.Sink.faults c.args.out.now) (g.K.Sink.faults c.serve_best.new.out) (g.K.Sink.bytes c.args.out.now)
    (g.K.Sink.bytes c.serve_best.new.out))
    (sym c.first_fault.ensures ∙ none) (ap job_of c.in-Best.is) c.serve_best.ensures.tells

pub serve_after-requires-clause-checked : goal.serve_after-requires-clause-checked
serve_after-requires-clause-checked g c =
    let none : c.first_fault.result ≡ None = assumption in sym c.first_fault.ensures ∙ none

pub serve_shallow-requires-clause-checked : goal.serve_shallow-requires-clause-checked
serve_shallow-requires-clause-checked g c =
    let none : c.first_fault.result ≡ None = assumption in sym c.first_fault.ensures ∙ none

pub returns-in-After-clause-tells : goal.returns-in-After-clause-tells
returns-in-After-clause-tells g c =
    let none : c.first_fault.result ≡ None = assumption in
    tells_read (domain_of c.args.loaded.domain) (problem_of c.args.loaded.problem) (job_of c.args.job) _
    c.serve_after.result
    (sink_run (g.K.Sink.faults c.args.out.now) (g.K.Sink.faults c.serve_after.new.out) (g.K.Sink.bytes c.args.out.now)
    (g.K.Sink.bytes c.serve_after.new.out))
    (sym c.first_fault.ensures ∙ none) (ap job_of c.in-After.is) c.serve_after.ensures.tells

pub returns-in-Shallow-clause-tells : goal.returns-in-Shallow-clause-tells
returns-in-Shallow-clause-tells g c =
    let none : c.first_fault.result ≡ None = assumption in
    tells_read (domain_of c.args.loaded.domain) (problem_of c.args.loaded.problem) (job_of c.args.job) _
    c.serve_shallow.result
    (sink_run (g.K.Sink.faults c.args.out.now) (g.K.Sink.faults c.serve_shallow.new.out)
    (g.K.Sink.bytes c.args.out.now) (g.K.Sink.bytes c.serve_shallow.new.out))
    (sym c.first_fault.ensures ∙ none) (ap job_of c.in-Shallow.is) c.serve_shallow.ensures.tells

pub returns-in-Check-clause-tells : goal.returns-in-Check-clause-tells
returns-in-Check-clause-tells g c =
    let none : c.first_fault.result ≡ None = assumption in
    tells_read (domain_of c.args.loaded.domain) (problem_of c.args.loaded.problem) (job_of c.args.job) _
    c.serve_check.result
    (sink_run (g.K.Sink.faults c.args.out.now) (g.K.Sink.faults c.serve_check.new.out) (g.K.Sink.bytes c.args.out.now)
    (g.K.Sink.bytes c.serve_check.new.out))
    (sym c.first_fault.ensures ∙ none) (ap job_of c.in-Check.is) c.serve_check.ensures.tells

pub returns-in-Show-clause-tells : goal.returns-in-Show-clause-tells
returns-in-Show-clause-tells g c =
    let none : c.first_fault.result ≡ None = assumption in
    tells_read (domain_of c.args.loaded.domain) (problem_of c.args.loaded.problem) (job_of c.args.job) _
    c.serve_show.result
    (sink_run (g.K.Sink.faults c.args.out.now) (g.K.Sink.faults c.serve_show.new.out) (g.K.Sink.bytes c.args.out.now)
    (g.K.Sink.bytes c.serve_show.new.out))
    (sym c.first_fault.ensures ∙ none) (ap job_of c.in-Show.is) c.serve_show.ensures.tells

pub returns-clause-tells : goal.returns-clause-tells
returns-clause-tells g c =
    let none : c.first_fault.result ≡ None = assumption in
    tells_read (domain_of c.args.loaded.domain) (problem_of c.args.loaded.problem) (job_of c.args.job) _
    c.serve_sum.result
    (sink_run (g.K.Sink.faults c.args.out.now) (g.K.Sink.faults c.serve_sum.new.out) (g.K.Sink.bytes c.args.out.now)
    (g.K.Sink.bytes c.serve_sum.new.out))
    (sym c.first_fault.ensures ∙ none) (ap job_of c.in-Sum.is) c.serve_sum.ensures.tells
