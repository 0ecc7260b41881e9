use Rattle.hp_syntax.specs.Grammar.{problem_form}
use Rattle.hp_syntax.specs.Numbered.{IsNumberedProblem}
use Rattle.hp_syntax.specs.Views.{problem_of}
use Rattle.hp_forms.proofs.NumberedForms.{given_read}
use Rattle.hp_forms.proofs.read_problem.Goals as goal

pub returns-clause-numbered : goal.returns-clause-numbered
returns-clause-numbered c =
    given_read problem_of IsNumberedProblem problem_form c.args.bytes.now c.problem.result c.forms_are_numbered.ensures.problem
    c.problem.ensures.problem
