use Rattle.hp_unmet.proofs.LawSteps.{first_is_told, head_alone, none_is_satisfied, told_is_first}
use Rattle.hp_unmet.proofs.laws.the_part_told_is_the_first.Goals as goal

pub returns : goal.returns
returns c = record {
  part = λ rules nest state task c place h. told_is_first rules nest state task c place h;
  only = λ rules nest state task c place h. first_is_told rules nest state task c place h;
  none = λ rules nest state task c e is h. none_is_satisfied rules nest state task c e is h;
  head = λ rules nest state task c. head_alone rules nest state task c;
}
