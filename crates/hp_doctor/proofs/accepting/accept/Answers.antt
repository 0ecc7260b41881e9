use Rattle.hp_doctor.specs.Texts.{texts_of}
use Rattle.hp_syntax.specs.Views.{domain_of, problem_of}
use Rattle.hp_doctor.proofs.AcceptingLemmas.{problem_stops, check_stops}
use Rattle.hp_doctor.proofs.accepting.accept.Goals as goal

pub returns-in-Ok-problem_of_file-clause-stops : goal.returns-in-Ok-problem_of_file-clause-stops
returns-in-Ok-problem_of_file-clause-stops c =
    check_stops (texts_of c.args.files.now) (domain_of c.in-Ok.domain) c.in-Ok.ensures.domain
    (problem_of c.in-Ok-problem_of_file.problem) c.checked.result c.in-Ok-problem_of_file.ensures.problem
    c.checked.ensures.err

pub returns-in-Err-problem_of_file-clause-stops : goal.returns-in-Err-problem_of_file-clause-stops
returns-in-Err-problem_of_file-clause-stops c =
    problem_stops (texts_of c.args.files.now) (domain_of c.in-Ok.domain) c.in-Ok.ensures.domain
    c.in-Err-problem_of_file.stop c.in-Err-problem_of_file.ensures.stops
