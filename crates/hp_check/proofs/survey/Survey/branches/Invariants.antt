use Rattle.std.proofs.Common.{◌≡◌, ◌++◌, false, drop, map}
use Rattle.std.specs.List.{flat_map}
use Rattle.hp_syntax.specs.Notes.{branch_atoms, note_if_unserved}
use Rattle.hp_syntax.specs.Views.{branch_of}
use Rattle.hp_check.specs.NoteViews.{note_of}
use Rattle.hp_check.proofs.survey.Survey.branches.Given as goal

abbrev pub invariant-loop-branch : goal.invariant-loop-branch
invariant-loop-branch l =
    let notes_on = note_if_unserved l.fn.self.served.keys false in
    let left = flat_map branch_atoms (map branch_of (drop l.branch-index l.branches)) in
    let all = flat_map branch_atoms (map branch_of l.branches) in
    (map note_of l.self.list.items ++ flat_map notes_on left
    ≡ map note_of l.fn.self.list.items ++ flat_map notes_on all)
    × (l.self.served ≡ l.fn.self.served)
