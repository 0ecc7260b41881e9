use Rattle.std.proofs.Common.{◌≡◌, ◌++◌, false, drop, map}
use Rattle.std.specs.List.{flat_map}
use Rattle.hp_syntax.specs.Notes.{rule_atoms, note_if_unserved}
use Rattle.hp_syntax.specs.Views.{rule_of}
use Rattle.hp_check.specs.NoteViews.{note_of}
use Rattle.hp_check.proofs.survey.Survey.rules.Given as goal

abbrev pub invariant-loop-rule : goal.invariant-loop-rule
invariant-loop-rule l =
    let notes_on = note_if_unserved l.fn.self.served.keys false in
    let left = flat_map rule_atoms (map rule_of (drop l.rule-index l.rules)) in
    let all = flat_map rule_atoms (map rule_of l.rules) in
    (map note_of l.self.list.items ++ flat_map notes_on left
    ≡ map note_of l.fn.self.list.items ++ flat_map notes_on all)
    × (l.self.served ≡ l.fn.self.served)
