use Rattle.std.proofs.Common.{rules}
use Rattle.hp_eval.proofs.matching.match_atom.Goals as goal

pub returns-then-not-matches-clause-matched : goal.returns-then-not-matches-clause-matched
returns-then-not-matches-clause-matched c = search rules
