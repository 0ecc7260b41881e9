use Rattle.hp_out.proofs.PageSteps.{puts_same, empty_put}
use Rattle.hp_out.proofs.TermSteps.{place_line, no_line}
use Rattle.hp_out.proofs.terms.push_place.Goals as goal

pub returns-in-Some-clause-puts : goal.returns-in-Some-clause-puts
returns-in-Some-clause-puts g c =
    puts_same c.push_line.result _ _ _ _ (place_line c.args.cells.now c.args.place c.in-Some.atom c.in-Some.is)
    c.push_line.ensures.puts

pub returns-in-None-clause-puts : goal.returns-in-None-clause-puts
returns-in-None-clause-puts g c = empty_put _ _ (no_line c.args.cells.now c.args.place c.in-None.is)
