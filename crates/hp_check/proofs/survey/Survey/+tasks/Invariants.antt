use Rattle.std.proofs.Common.{◌≡◌, ◌++◌, drop, map}
use Rattle.std.specs.List.{flat_map}
use Rattle.hp_syntax.specs.Notes.{task_list_atoms, note_if_unserved}
use Rattle.hp_syntax.specs.Views.{task_list_of}
use Rattle.hp_check.specs.NoteViews.{note_of}
use Rattle.hp_check.proofs.survey.Survey.+tasks.Given as goal

abbrev pub invariant-task_list-loop-part : goal.invariant-task_list-loop-part
invariant-task_list-loop-part l =
    let notes_on = note_if_unserved l.initial.self.served.keys l.in_problem in
    let left = task_list_atoms (task_list_of (drop l.part-index l.parts)) in
    let all = task_list_atoms (task_list_of l.parts) in
    (map note_of l.self.list.items ++ flat_map notes_on left
    ≡ map note_of l.initial.self.list.items ++ flat_map notes_on all)
    × (l.self.served ≡ l.initial.self.served)
