use Rattle.std.proofs.Common.{◌<◌, length, take, arith}
use Rattle.std.proofs.lemmas.Grind.{common_steps}
use Rattle.std.proofs.lemmas.Result.{err_from_is_err_and}
use Rattle.hp_doctor.specs.Texts.{texts_of}
use Rattle.hp_doctor.proofs.HaltLemmas.{halts_through, through_more}
use Rattle.hp_doctor.proofs.explaining.tell_lines.Goals as goal

pub returns-in_err-tell_piece-in-Ok-clause-err : goal.returns-in_err-tell_piece-in-Ok-clause-err
returns-in_err-tell_piece-in-Ok-clause-err g c =
    let p = err_from_is_err_and c.from_residual.result c.from_residual.ensures.1 in
    rw (p.1, p.2)
    (halts_through (texts_of c.args.files.now) c.loop.counter c.loop.line.items _ _ _ _ _ _ _ _ _ c.in-Ok.count _
    c.read.new.buf _ c.loop.invariant.through c.in-Ok.ensures.taken c.loop.invariant.later
    c.in_err-tell_piece-in-Ok.ensures.err)

pub loop-preserved : goal.loop-preserved
loop-preserved g c =
    let some : 0 < length (take c.in-Ok.count c.read.new.buf) = grind (arith, common_steps) in
    record {
      through =
          through_more (texts_of c.args.files.now) c.loop.counter c.loop.line.items _ _ _ _ _ _ _ _ c.in-Ok.count _
          c.read.new.buf _ _ c.loop.invariant.through c.in-Ok.ensures.taken some c.in_ok-tell_piece-in-Ok.ensures.ok
          c.in_ok-tell_piece-in-Ok.ensures.line;
      later = omega (arith, c.loop.invariant.later, c.in_ok-tell_piece-in-Ok.ensures.later);
      input_later = omega (arith, c.loop.invariant.input_later, c.in-Ok.ensures.later);
    }
