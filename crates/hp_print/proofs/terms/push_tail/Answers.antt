use Rattle.std.proofs.Common.{rules}
use Rattle.hp_syntax.specs.Written.{rest_text}
use Rattle.hp_print.proofs.terms.push_tail.Goals as goal

pub returns-in-Some : goal.returns-in-Some
unfolding rest_text
returns-in-Some c = search rules
