use Rattle.hp_unmet.proofs.LawSteps.{all_first, all_plain, all_sorted, sorted_all}
use Rattle.hp_unmet.proofs.laws.all_parts_are_the_precondition.Goals as goal

pub returns : goal.returns
returns c = record {
  plain = λ axioms nest state s vars head E e. all_plain axioms nest state s E e;
  first = λ axioms nest state s vars head E e. all_first axioms nest state s E e;
  sorted = λ axioms nest state s vars head k E e. (all_sorted axioms nest state s E e k, sorted_all axioms nest state s E e k);
}
