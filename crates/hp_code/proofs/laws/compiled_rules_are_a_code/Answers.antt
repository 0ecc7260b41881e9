use Rattle.hp_code.proofs.CodeLemmas.{code_reads, code_keeps}
use Rattle.hp_code.proofs.laws.compiled_rules_are_a_code.Goals as goal

pub returns-clause-reads : goal.returns-clause-reads
returns-clause-reads c = code_reads

pub returns-clause-keeps : goal.returns-clause-keeps
returns-clause-keeps c = code_keeps
