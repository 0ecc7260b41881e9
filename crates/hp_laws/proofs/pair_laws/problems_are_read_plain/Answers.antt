use Rattle.hp_laws.proofs.PlainLemmas.{read_problem_is_plain}
use Rattle.hp_laws.proofs.pair_laws.problems_are_read_plain.Goals as goal

pub returns : goal.returns
returns c = read_problem_is_plain
