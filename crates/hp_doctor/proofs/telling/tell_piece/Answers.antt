use Rattle.std.proofs.Common.{arith}
use Rattle.std.proofs.lemmas.Result.{err_from_is_err_and}
use Rattle.hp_doctor.specs.Texts.{texts_of}
use Rattle.hp_doctor.proofs.HaltLemmas.{byte_halts, byte_kept, byte_wrote}
use Rattle.hp_doctor.proofs.telling.tell_piece.Goals as goal

pub returns-in_err-tell_byte-clause-err : goal.returns-in_err-tell_byte-clause-err
returns-in_err-tell_byte-clause-err g c =
    let p = err_from_is_err_and c.from_residual.result c.from_residual.ensures.1 in
    rw (p.1, p.2)
    (byte_halts (texts_of c.args.files.now) c.args.line.now.items c.loop-byte.line.items c.args.piece.now
    c.loop-byte.byte-index _ _ _ _ _ _ c.loop-byte-test.true c.loop-byte.invariant.wrote c.loop-byte.invariant.kept _
    c.loop-byte.invariant.later c.in_err-tell_byte.ensures.err)

pub loop-byte-preserved : goal.loop-byte-preserved
loop-byte-preserved g c =
    let files = texts_of c.args.files.now in
    let i = c.loop-byte.byte-index in
    record {
      wrote =
          byte_wrote files c.args.line.now.items c.loop-byte.line.items c.args.piece.now i
          (g.K.Sink.faults c.args.out.now) (g.K.Sink.faults c.loop-byte.out) 0 _ _ _ c.loop-byte-test.true
          c.loop-byte.invariant.wrote c.loop-byte.invariant.kept c.in_ok-tell_byte.ensures.ok;
      kept =
          byte_kept files c.args.line.now.items c.loop-byte.line.items c.args.piece.now i 0 0 0 _ _
          (g.K.Sink.bytes c.loop-byte.out) c.loop-byte-test.true c.loop-byte.invariant.wrote c.loop-byte.invariant.kept
          _ c.in_ok-tell_byte.ensures.line;
      later = omega (arith, c.loop-byte.invariant.later, c.in_ok-tell_byte.ensures.later);
    }
