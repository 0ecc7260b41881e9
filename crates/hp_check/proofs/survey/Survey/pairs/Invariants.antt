use Rattle.std.proofs.Common.{◌≡◌, ◌++◌, true, drop, map}
use Rattle.std.specs.List.{flat_map}
use Rattle.hp_syntax.specs.Notes.{pair_atoms, note_if_unserved}
use Rattle.hp_syntax.specs.Views.{pair_of}
use Rattle.hp_check.specs.NoteViews.{note_of}
use Rattle.hp_check.proofs.survey.Survey.pairs.Given as goal

abbrev pub invariant-loop-pair : goal.invariant-loop-pair
invariant-loop-pair l =
    let notes_on = note_if_unserved l.fn.self.served.keys true in
    let left = flat_map pair_atoms (map pair_of (drop l.pair-index l.pairs)) in
    let all = flat_map pair_atoms (map pair_of l.pairs) in
    (map note_of l.self.list.items ++ flat_map notes_on left
    ≡ map note_of l.fn.self.list.items ++ flat_map notes_on all)
    × (l.self.served ≡ l.fn.self.served)
