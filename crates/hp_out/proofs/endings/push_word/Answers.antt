use Rattle.hp_out.proofs.endings.push_word.Goals as goal

pub returns-in-Cut-clause-puts : goal.returns-in-Cut-clause-puts
returns-in-Cut-clause-puts g c = rw c.in-Cut.is c.push-in-Cut.ensures.puts
