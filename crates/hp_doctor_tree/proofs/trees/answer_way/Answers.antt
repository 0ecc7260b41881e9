use Rattle.std.proofs.Common.{map, ap₂, subst, sym}
use Rattle.hp_changes.specs.Changes.{changed_of}
use Rattle.hp_doctor.specs.Linted.{Tells}
use Rattle.hp_doctor.specs.Texts.{texts_of}
use Rattle.hp_out.specs.Writing.{sink_run}
use Rattle.hp_syntax.specs.Views.{domain_of, pair_of}
use Rattle.hp_syntax.specs.declared.status.Status.TheVariants as status
use Rattle.hp_way.specs.Ways.{deed_of}
use Rattle.hp_doctor_tree.specs.TreeTold.{plan_text, way_answer}
use Rattle.hp_doctor_tree.proofs.trees.answer_way.Goals as goal

pub returns-in-Plan-clause-tells : goal.returns-in-Plan-clause-tells
returns-in-Plan-clause-tells g c =
    let t = texts_of c.args.files.now in
    let rules = (domain_of c.args.domain.now).rules in
    let pair = pair_of c.args.pair.now in
    let run = sink_run (g.K.Sink.faults c.args.out.now) (g.K.Sink.faults c.answer_plan.new.out)
    (g.K.Sink.bytes c.args.out.now) (g.K.Sink.bytes c.answer_plan.new.out) in
    let cs = map changed_of c.args.found.now.changes.items in
    subst (λ w. Tells (way_answer t c.args.asked.now rules pair w cs) c.answer_plan.result run) (sym c.in-Plan.is)
    (subst
    (λ x. Tells (x, status.Done) c.answer_plan.result run)
    (ap₂ (λ ds es. plan_text t.domain rules pair (map deed_of ds) (map changed_of es) c.args.asked.now.dot)
    c.as_slice.ensures.value c.as_slice-in-Plan.ensures.value) c.answer_plan.ensures.tells)
