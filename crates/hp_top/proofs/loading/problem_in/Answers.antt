use Rattle.hp_io.specs.declared.folder.Input.TheVariants as inputs
use Rattle.hp_syntax.specs.Grammar.{problem_form}
use Rattle.hp_top.proofs.LoadingSteps.{file_refused}
use Rattle.hp_top.proofs.loading.problem_in.Goals as goal

pub returns-clause-refused : goal.returns-clause-refused
returns-clause-refused c =
    rw (c.of_file.ensures, ← c.as_slice.ensures.value)
    (file_refused inputs.Problem problem_form _ c.in-Err.refusal c.in-Err.ensures.refused)
