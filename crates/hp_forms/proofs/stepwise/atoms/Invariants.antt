use Rattle.std.proofs.Common.{◌≡◌, ◌-◌, length, map}
use Rattle.hp_syntax.specs.Grammar as grammar
use Rattle.hp_syntax.specs.Views.{atom_of}
use Rattle.hp_text.specs.Stepping.{IsPlaced, place_of, text_of}
use Rattle.hp_forms.proofs.StepwiseSteps.{ItemsSoFar}
use Rattle.hp_forms.proofs.stepwise.atoms.Given as goal

abbrev pub invariant-loop-atoms : goal.invariant-loop-atoms
invariant-loop-atoms l = record {
  placed : IsPlaced l.reader;
  text : text_of l.reader ≡ text_of l.initial.reader;
  items :
      ItemsSoFar (grammar.atom grammar.InProblem) (text_of l.initial.reader) (place_of l.initial.reader)
      (place_of l.reader) l.initial.scope.names.keys l.scope.names.keys (map atom_of l.atoms.items);
}

-- each atom takes some of the text
abbrev pub decreases-loop-atoms : goal.decreases-loop-atoms
decreases-loop-atoms l = length (text_of l.reader) - place_of l.reader
