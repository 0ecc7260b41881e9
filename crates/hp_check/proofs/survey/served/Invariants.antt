use Rattle.std.proofs.Common.{map, take}
use Rattle.std.specs.List.{flat_map}
use Rattle.hp_syntax.specs.Notes.{served_by}
use Rattle.hp_syntax.specs.Views.{rule_of}
use Rattle.hp_check.specs.NoteViews.{SameNames}
use Rattle.hp_check.proofs.survey.served.Given as goal

abbrev pub invariant-loop-rule : goal.invariant-loop-rule
invariant-loop-rule l = SameNames l.names.keys (flat_map served_by (map rule_of (take l.rule-index l.rules)))
