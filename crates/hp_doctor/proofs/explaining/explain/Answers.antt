use Rattle.hp_doctor.specs.Texts.{texts_of}
use Rattle.hp_doctor.proofs.HaltLemmas.{rest_halts, stop_told}
use Rattle.hp_doctor.proofs.explaining.explain.Goals as goal

pub returns-in-Err-tell_rest-clause-prefix : goal.returns-in-Err-tell_rest-clause-prefix
returns-in-Err-tell_rest-clause-prefix g c =
    (stop_told c.in-Err-tell_rest.halt c.stopped-in-Err-tell_rest.result (texts_of c.args.files.now) _ _
    c.stopped-in-Err-tell_rest.ensures.no_memory c.stopped-in-Err-tell_rest.ensures.failed
    (rest_halts (texts_of c.args.files.now) 0 c.tell_lines.new.line.items _ _ _ _ _ _ _ _ c.in-Err-tell_rest.halt
    c.in-Ok.ensures.through c.in-Ok.ensures.later c.in-Err-tell_rest.ensures.err)).0

pub returns-in-Err-tell_rest-clause-proper_prefix : goal.returns-in-Err-tell_rest-clause-proper_prefix
returns-in-Err-tell_rest-clause-proper_prefix g c =
    (stop_told c.in-Err-tell_rest.halt c.stopped-in-Err-tell_rest.result (texts_of c.args.files.now) _ _
    c.stopped-in-Err-tell_rest.ensures.no_memory c.stopped-in-Err-tell_rest.ensures.failed
    (rest_halts (texts_of c.args.files.now) 0 c.tell_lines.new.line.items _ _ _ _ _ _ _ _ c.in-Err-tell_rest.halt
    c.in-Ok.ensures.through c.in-Ok.ensures.later c.in-Err-tell_rest.ensures.err)).1
