use Rattle.std.proofs.Common.{ap, map, ◌∙◌}
use Rattle.std.proofs.lemmas.List.{take_all}
use Rattle.hp_syntax.specs.Views.{pattern_of}
use Rattle.hp_syntax.proofs.+copy_pattern.Goals as goal

pub copies::copy_patterns-returns : goal.copies::copy_patterns-returns
copies::copy_patterns-returns t c = record {
  same = c.loop-pattern.invariant ∙ ap (map pattern_of) (take_all _ _ c.loop-pattern-test.false);
}
