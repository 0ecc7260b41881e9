use Rattle.std.proofs.Common.{map, ◌∙◌, ap}
use Rattle.hp_syntax.specs.Views.{rule_of}
use Rattle.hp_tables.specs.declared.Kind.TheVariants as kinds
use Rattle.hp_answers.specs.RuleIndexes.{places_from}
use Rattle.hp_answers.proofs.rule_index.RuleIndex.new.Goals as goal

pub invariant_of-result : goal.invariant_of-result
invariant_of-result c = record {
  few = c.requires.few;
  for_tasks =
      λ name.
      c.in_ok-tasks.ensures name
      ∙ ap (λ rs. places_from kinds.Task name 0 (map rule_of rs)) c.as_slice.ensures.value;
  listed =
      λ name.
      c.in_ok-axioms.ensures name
      ∙ ap (λ rs. places_from kinds.Axiom name 0 (map rule_of rs)) c.as_slice-2.ensures.value;
}
