use Rattle.std.proofs.Common.{sym, subst}
use Rattle.hp_out.specs.Writing.{sink_run}
use Rattle.hp_syntax.specs.Report.{Answer, nothing_seen}
use Rattle.hp_top.specs.Engines.{CanBeFound, told_visits}
use Rattle.hp_telling.specs.Telling.{IsTold, telling}
use Rattle.hp_telling.proofs.TellingLemmas.{told_by_parts}
use Rattle.hp_telling.proofs.ReportLemmas.{report_heard}
use Rattle.hp_top.proofs.pairs.tell_walk.Goals as goal

pub tell-requires-clause-plans : goal.tell-requires-clause-plans
tell-requires-clause-plans g c =
    subst (λ x. CanBeFound x (g.W.Walk.stands c.args.walk.now).rest) c.in-Plans.is c.requires.found

-- the report of the visits that are left is that of those that are heard
pub returns-in-Plans-clause-told : goal.returns-in-Plans-clause-told
returns-in-Plans-clause-told g c =
    let rest = (g.W.Walk.stands c.args.walk.now).rest in
    let run =
    sink_run (g.K.Sink.faults c.args.out.now) (g.K.Sink.faults c.tell.new.out) (g.K.Sink.bytes c.args.out.now)
    (g.K.Sink.bytes c.tell.new.out) in
    subst (λ x. IsTold (told_visits x rest) c.tell.result run) (sym c.in-Plans.is)
    (subst (λ (a : Answer). IsTold a c.tell.result run)
    (sym (report_heard (telling c.in-Plans.detail) c.in-Plans.plans nothing_seen rest))
    (told_by_parts _ c.tell.result run c.tell.ensures.written c.tell.ensures.status c.tell.ensures.err))

pub tell_best-requires-clause-falls : goal.tell_best-requires-clause-falls
tell_best-requires-clause-falls g c =
    subst (λ x. CanBeFound x (g.W.Walk.stands c.args.walk.now).rest) c.in-Cheapest.is c.requires.found

pub returns-in-Cheapest-clause-told : goal.returns-in-Cheapest-clause-told
returns-in-Cheapest-clause-told g c =
    subst
    (λ x. IsTold (told_visits x (g.W.Walk.stands c.args.walk.now).rest) c.tell_best.result
    (sink_run (g.K.Sink.faults c.args.out.now) (g.K.Sink.faults c.tell_best.new.out) (g.K.Sink.bytes c.args.out.now)
    (g.K.Sink.bytes c.tell_best.new.out)))
    (sym c.in-Cheapest.is) c.tell_best.ensures.told

pub tell_after-requires-clause-plans : goal.tell_after-requires-clause-plans
tell_after-requires-clause-plans g c =
    (subst (λ x. CanBeFound x (g.W.Walk.stands c.args.walk.now).rest) c.in-After.is c.requires.found).0

pub tell_after-requires-clause-small : goal.tell_after-requires-clause-small
tell_after-requires-clause-small g c =
    (subst (λ x. CanBeFound x (g.W.Walk.stands c.args.walk.now).rest) c.in-After.is c.requires.found).1

pub returns-in-After-clause-told : goal.returns-in-After-clause-told
returns-in-After-clause-told g c =
    subst
    (λ x. IsTold (told_visits x (g.W.Walk.stands c.args.walk.now).rest) c.tell_after.result
    (sink_run (g.K.Sink.faults c.args.out.now) (g.K.Sink.faults c.tell_after.new.out) (g.K.Sink.bytes c.args.out.now)
    (g.K.Sink.bytes c.tell_after.new.out)))
    (sym c.in-After.is) c.tell_after.ensures.told

pub returns-in-Derivation-clause-told : goal.returns-in-Derivation-clause-told
returns-in-Derivation-clause-told g c =
    subst
    (λ x. IsTold (told_visits x (g.W.Walk.stands c.args.walk.now).rest) c.tell_verdict.result
    (sink_run (g.K.Sink.faults c.args.out.now) (g.K.Sink.faults c.tell_verdict.new.out)
    (g.K.Sink.bytes c.args.out.now) (g.K.Sink.bytes c.tell_verdict.new.out)))
    (sym c.in-Derivation.is) c.tell_verdict.ensures.told
