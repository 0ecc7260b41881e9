use Rattle.std.proofs.Common.{◌≡◌, ◌-◌, length, map}
use Rattle.hp_syntax.specs.Views.{pair_of}
use Rattle.hp_text.specs.Stepping.{IsPlaced, place_of, text_of}
use Rattle.hp_forms.proofs.StepwiseSteps.{PairsSoFar}
use Rattle.hp_forms.proofs.stepwise.pairs.Given as goal

abbrev pub invariant-loop-pairs : goal.invariant-loop-pairs
invariant-loop-pairs l = record {
  placed : IsPlaced l.reader;
  text : text_of l.reader ≡ text_of l.initial.reader;
  pairs :
      PairsSoFar (text_of l.initial.reader) (place_of l.initial.reader) (place_of l.reader)
      l.initial.scope.names.keys l.scope.names.keys (map pair_of l.pairs.items);
}

-- each pair takes some of the text
abbrev pub decreases-loop-pairs : goal.decreases-loop-pairs
decreases-loop-pairs l = length (text_of l.reader) - place_of l.reader
