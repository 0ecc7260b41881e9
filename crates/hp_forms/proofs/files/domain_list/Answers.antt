use Rattle.std.proofs.Common.{arith}
use Rattle.hp_syntax.specs.Grammar.{domain_list}
use Rattle.hp_forms.proofs.files.domain_list.Goals as goal

pub returns-in_err-ended : goal.returns-in_err-ended
unfolding domain_list
returns-in_err-ended c = grind arith
