use Rattle.std.proofs.Common.{ℕ, List, OnOk, IfErr, map, option_map, subst, ◌∙◌}
use Rattle.hp_changes.specs.Changes.{changed_of}
use Rattle.hp_derivation.specs.Goings.{parts_of}
use Rattle.hp_doctor.specs.Telling.{Halts}
use Rattle.hp_doctor.specs.Texts.{file_of}
use Rattle.hp_out.specs.Writing.{Wrote, sink_run}
use Rattle.hp_syntax.specs.Views.{domain_of, pair_of}
use Rattle.hp_way.specs.Ways.{deed_of}
use Rattle.hp_doctor_tree.proofs.TreeSteps.{plan_is}
use Rattle.hp_doctor_tree.proofs.trees.tell_plan.Goals as goal

pub returns-clause-ok : goal.returns-clause-ok
returns-clause-ok g c =
    subst
    (λ (text : List ℕ). OnOk c.tell_drawing.result (Wrote text (g.K.Sink.bytes c.args.out.now)
    (g.K.Sink.bytes c.tell_drawing.new.out)))
    (plan_is (file_of c.args.file.now) (domain_of c.args.domain.now).rules (pair_of c.args.pair.now)
    (map deed_of c.args.plan.now.deeds.now) (map changed_of c.args.plan.now.changes.now) c.args.plan.now.dot c.as_slice.result.now c.parts.result.0.now c.parts.result.1.now
    (option_map parts_of c.in-Ok-derivation_of.derived) (c.as_slice.ensures.value ∙ c.in-Ok.ensures)
    c.parts.ensures.tasks c.parts.ensures.order c.in-Ok-derivation_of.ensures.is)
    c.tell_drawing.ensures.ok

pub returns-clause-err : goal.returns-clause-err
returns-clause-err g c =
    subst
    (λ (text : List ℕ). IfErr c.tell_drawing.result (λ h. Halts h text
    (sink_run (g.K.Sink.faults c.args.out.now) (g.K.Sink.faults c.tell_drawing.new.out)
    (g.K.Sink.bytes c.args.out.now) (g.K.Sink.bytes c.tell_drawing.new.out))))
    (plan_is (file_of c.args.file.now) (domain_of c.args.domain.now).rules (pair_of c.args.pair.now)
    (map deed_of c.args.plan.now.deeds.now) (map changed_of c.args.plan.now.changes.now) c.args.plan.now.dot c.as_slice.result.now c.parts.result.0.now c.parts.result.1.now
    (option_map parts_of c.in-Ok-derivation_of.derived) (c.as_slice.ensures.value ∙ c.in-Ok.ensures)
    c.parts.ensures.tasks c.parts.ensures.order c.in-Ok-derivation_of.ensures.is)
    c.tell_drawing.ensures.err
