use Rattle.std.proofs.Common.{◌≡◌, ◌-◌, [], length, map}
use Rattle.hp_syntax.specs.Grammar as grammar
use Rattle.hp_syntax.specs.Views.{rule_of}
use Rattle.hp_text.specs.Stepping.{IsPlaced, place_of, text_of}
use Rattle.hp_forms.proofs.StepwiseSteps.{ItemsSoFar}
use Rattle.hp_forms.proofs.stepwise.rules.Given as goal

abbrev pub invariant-loop-scope : goal.invariant-loop-scope
invariant-loop-scope l = record {
  placed : IsPlaced l.reader;
  text : text_of l.reader ≡ text_of l.initial.reader;
  items :
      ItemsSoFar grammar.rule (text_of l.initial.reader) (place_of l.initial.reader) (place_of l.reader) [] []
      (map rule_of l.rules.items);
}

-- each rule takes some of the text
abbrev pub decreases-loop-scope : goal.decreases-loop-scope
decreases-loop-scope l = length (text_of l.reader) - place_of l.reader
