use Rattle.std.proofs.Common.{refl, arith}
use Rattle.hp_telling.proofs.PlanningSteps.{passed_told, stopped_told}
use Rattle.hp_telling.proofs.TellingLemmas.{parts_told, told_by_parts}
use Rattle.hp_telling.proofs.planning.tell.Goals as goal

pub returns-in-Ok : goal.returns-in-Ok
returns-in-Ok g c =
    let told =
    passed_told g.K.Sink.bytes g.K.Sink.faults _ c.go_through.new.pass 0 _ _ c.close.new.out _ _ c.close.result
    (record { fewer = c.requires.plans; small = omega arith; counted = refl; quiet = refl }) c.in-Ok.ensures.passes in
    let parts =
    parts_told _ c.close.result _
    (told.1 (told_by_parts _ c.close.result _ c.close.ensures.written c.close.ensures.status c.close.ensures.err)) in
    record {
      written = parts.0;
      status = parts.1;
      err = parts.2;
      later = omega (arith, told.0, c.close.ensures.later);
    }

pub returns-in-Err-NoMemory : goal.returns-in-Err-NoMemory
returns-in-Err-NoMemory g c =
    let told =
    stopped_told g.K.Sink.bytes g.K.Sink.faults _ 0 _ c.go_through.new.hand _ _
    (record { fewer = c.requires.plans; small = omega arith; counted = refl; quiet = refl })
    (rw c.in-Err-NoMemory.field-0-is at c.in-Err-NoMemory.ensures.stops) in
    record { written = tt; status = tt; err = told.1; later = told.0 }

pub returns-in-Err-Failed : goal.returns-in-Err-Failed
returns-in-Err-Failed g c =
    let told =
    stopped_told g.K.Sink.bytes g.K.Sink.faults _ 0 _ c.go_through.new.hand _ _
    (record { fewer = c.requires.plans; small = omega arith; counted = refl; quiet = refl })
    (rw c.in-Err-Failed.field-0-is at c.in-Err-Failed.ensures.stops) in
    record { written = tt; status = tt; err = rw c.in-Err-Failed.field-0-is told.1; later = told.0 }
