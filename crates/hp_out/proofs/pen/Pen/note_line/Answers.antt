use Rattle.std.proofs.Common.{◌++◌, refl, arith}
use Rattle.std.proofs.lemmas.Grind.{common_steps}
use Rattle.hp_check.specs.NoteViews.{note_of}
use Rattle.hp_out.specs.Lines.{note_place, note_text}
use Rattle.hp_out.proofs.WriteSteps.{first_failed, rest_written}
use Rattle.hp_out.proofs.pen.Pen.note_line.Goals as goal

-- the first words couldn't be written
pub returns-in_err-text-clause-writes : goal.returns-in_err-text-clause-writes
returns-in_err-text-clause-writes g c =
    let n = c.args.note.now in
    first_failed _ _ _ _ (n.name ++ note_place n.in_problem n.span) (note_text (note_of n)) _ _
    c.from_residual.ensures.0
    c.in_err-text.was c.text.ensures.writes refl

-- the name couldn't be written behind them
pub returns-in_err-text-2-clause-writes : goal.returns-in_err-text-2-clause-writes
returns-in_err-text-2-clause-writes g c =
    let n = c.args.note.now in
    let place = note_place n.in_problem n.span in
    rest_written _ _ (n.name ++ place) (note_text (note_of n)) _ _ _ c.in_ok-text.ensures.writes
    (first_failed _ _ _ _ place (n.name ++ place) _ _ c.from_residual-in_err-text-2.ensures.0
    c.in_err-text-2.was c.text-2.ensures.writes (grind (arith, common_steps)))
    refl

-- the first words, the name, and then its place
pub returns-clause-writes : goal.returns-clause-writes
returns-clause-writes g c =
    let n = c.args.note.now in
    let place = note_place n.in_problem n.span in
    rest_written _ _ (n.name ++ place) (note_text (note_of n)) _ _ _ c.in_ok-text.ensures.writes
    (rest_written _ _ place (n.name ++ place) _ _ _ c.in_ok-text-2.ensures.writes c.note_place.ensures.writes
    (grind (arith, common_steps)))
    refl
