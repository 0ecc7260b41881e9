use Rattle.hp_print.proofs.SampleTexts.{basic_text, swap_text}
use Rattle.hp_print.proofs.samples.basic_is_written.Goals as goal

pub returns-clause-domain : goal.returns-clause-domain
returns-clause-domain c = basic_text

pub returns-clause-problem : goal.returns-clause-problem
returns-clause-problem c = swap_text
