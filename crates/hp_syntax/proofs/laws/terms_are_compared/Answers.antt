use Rattle.hp_syntax.proofs.TermEquality.{same_term-Decides}
use Rattle.hp_syntax.proofs.laws.terms_are_compared.Goals as goal

pub returns : goal.returns
returns c = same_term-Decides
