use Rattle.hp_laws.proofs.MatchLemmas.{pattern_least, atom_least}
use Rattle.hp_laws.proofs.term_laws.matching_finds_the_least_extension.Goals as goal

pub returns-clause-extends : goal.returns-clause-extends
returns-clause-extends c = λ p t e b h. ((pattern_least p t e).sound b h).0

pub returns-clause-equal : goal.returns-clause-equal
returns-clause-equal c = λ p t e b h. ((pattern_least p t e).sound b h).1

pub returns-clause-least : goal.returns-clause-least
returns-clause-least c = λ p t e d g h. (pattern_least p t e).least d g h

pub returns-clause-atoms : goal.returns-clause-atoms
returns-clause-atoms c = λ a t e b h. (atom_least a t e).sound b h

pub returns-clause-least_atoms : goal.returns-clause-least_atoms
returns-clause-least_atoms c = λ a t e d g h. (atom_least a t e).least d g h
