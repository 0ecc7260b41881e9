use Rattle.hp_syntax.specs.Grammar.{problem_form}
use Rattle.hp_syntax.specs.Numbered.{IsNumberedProblem}
use Rattle.hp_syntax.specs.Views.{problem_of}
use Rattle.hp_text.specs.Nodes.{forest_of}
use Rattle.hp_forms.proofs.NumberedForms.{given}
use Rattle.hp_forms.proofs.into_problem.Goals as goal

pub returns-clause-numbered : goal.returns-clause-numbered
returns-clause-numbered c =
    given problem_of IsNumberedProblem c.problem.result (problem_form c.args.forest.len (forest_of c.args.forest))
    (c.forms_are_numbered.ensures.problem c.args.forest.len (forest_of c.args.forest)) c.problem.ensures
