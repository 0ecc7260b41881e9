use Rattle.std.proofs.Common.{◌≢◌}
use Rattle.hp_io.specs.declared.folder.Input.TheVariants as inputs
use Rattle.hp_syntax.specs.Grammar.{problem_form}
use Rattle.hp_syntax.specs.Views.{problem_of}
use Rattle.hp_syntax.specs.Written as written
use Rattle.hp_top.specs.declared.rereading.RereadError.TheVariants.{NoMemory, Unreadable, TooLong}
use Rattle.hp_top.proofs.RereadLemmas.{told_unreadable, problem_again, problem_past}
use Rattle.hp_top.proofs.rereading.reread_problem.Goals as goal

pub returns-in-Err-clause-unreadable : goal.returns-in-Err-clause-unreadable
returns-in-Err-clause-unreadable c =
    let other : NoMemory ≢ Unreadable = λ e. cc in
    rw (c.unless_memory.ensures, ← c.in_ok-from_slice.ensures.items)
    (told_unreadable inputs.Problem problem_form c.in_ok-from_slice.field-0.items Unreadable c.in-Err.cause other
    c.in-Err.ensures.refused)

pub returns-in-Ok-problem_in-clause-same : goal.returns-in-Ok-problem_in-clause-same
returns-in-Ok-problem_in-clause-same c =
    problem_again c.texts_spell_one_forest.ensures c.texts_have_one_refusal.ensures c.no_text_is_both.ensures
    c.written_texts_read_back.ensures.problem c.in_ok-from_slice.field-0.items
    (problem_of c.in-Ok.first) (problem_of c.in-Ok-problem_in.second) c.in-Ok.ensures.problem
    (rw (← c.in_ok-canonical.ensures) c.in-Ok-problem_in.ensures.problem)

pub returns-in-Err-problem_in-clause-too_long : goal.returns-in-Err-problem_in-clause-too_long
returns-in-Err-problem_in-clause-too_long c =
    let other : NoMemory ≢ TooLong = λ e. cc in
    let first = problem_of c.in-Ok.first in
    let read = rw c.in_ok-from_slice.ensures.items at c.in-Ok.ensures.problem in
    let refused = rw c.in_ok-canonical.ensures at c.in-Err-problem_in.ensures.refused in
    rw c.unless_memory-in-Err-problem_in.ensures (λ told.
    (let why = told_unreadable inputs.Problem problem_form (written.problem_text first) TooLong
    c.in-Err-problem_in.cause other refused told in (
      first,
      (
        read,
        problem_past c.texts_spell_one_forest.ensures c.texts_have_one_refusal.ensures c.no_text_is_both.ensures
            c.written_texts_read_back.ensures.problem c.args.text.now first why.0 read why.1,
      ),
    )))
