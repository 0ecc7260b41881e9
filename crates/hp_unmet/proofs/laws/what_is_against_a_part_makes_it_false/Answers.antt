use Rattle.hp_unmet.proofs.AgainstLaws.{against_there, forall_false, negation_false}
use Rattle.hp_unmet.proofs.laws.what_is_against_a_part_makes_it_false.Goals as goal

pub returns : goal.returns
returns c = record {
  negation = λ axioms nest state s p e b is. negation_false axioms nest state s p e b is;
  forall_part = λ axioms nest state s vars y z e b is none. forall_false axioms nest state s vars y z e b is none;
  there = λ axioms nest state part e denial none. against_there axioms nest state part e denial none;
}
