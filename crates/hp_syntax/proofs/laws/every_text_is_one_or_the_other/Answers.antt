use Rattle.hp_syntax.proofs.Reading.{one_or_the_other}
use Rattle.hp_syntax.proofs.laws.every_text_is_one_or_the_other.Goals as goal

pub returns : goal.returns
returns c = one_or_the_other
