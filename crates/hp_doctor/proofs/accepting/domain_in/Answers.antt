use Rattle.hp_io.specs.declared.folder.Input.TheVariants as inputs
use Rattle.hp_syntax.specs.Grammar.{domain_form}
use Rattle.hp_doctor.proofs.AcceptingLemmas.{file_stops}
use Rattle.hp_doctor.proofs.accepting.domain_in.Goals as goal

pub returns-in-Err-clause-stops : goal.returns-in-Err-clause-stops
returns-in-Err-clause-stops c =
    rw c.of_file.ensures
    (file_stops inputs.Domain domain_form _ c.in-Err.refusal c.in-Err.ensures.refused)
