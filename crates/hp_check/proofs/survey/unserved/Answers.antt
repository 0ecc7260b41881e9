use Rattle.std.proofs.Common.{map, ap, ◌∙◌}
use Rattle.hp_syntax.specs.Views.{domain_of, problem_of}
use Rattle.hp_check.specs.NoteViews.{note_of}
use Rattle.hp_check.proofs.NameLemmas.{notes_by_same}
use Rattle.hp_check.proofs.survey.unserved.Goals as goal

-- the notes are those of the texts, by the names that are served
pub returns : goal.returns
returns c =
    ap (λ l. map note_of l.items) c.into_list.ensures
    ∙ (rw c.new.ensures.items at c.in_ok-texts.ensures
    ∙ notes_by_same c.in_ok-served.field-0.keys (domain_of c.args.domain.now) (problem_of c.args.problem.now)
    (rw c.as_slice.ensures.value at c.in_ok-served.ensures))
