use Rattle.hp_best.specs.Bounded.{bounded, chosen_plan}
use Rattle.hp_telling.proofs.BestSteps.{found_told}
use Rattle.hp_telling.proofs.TellingLemmas.{told_by_parts}
use Rattle.hp_telling.proofs.choosing.tell_found.Goals as goal

pub returns-in-Ok-clause-told : goal.returns-in-Ok-clause-told
returns-in-Ok-clause-told g c = λ priced visits is.
    found_told priced c.args.found.now visits c.close.result _ _ _ _ _ _ is c.write_found.ensures.later
    (c.in-Ok.ensures.written (chosen_plan (bounded priced visits)) is.best)
    (rw c.ending_of.ensures at
    (told_by_parts _ c.close.result _ c.close.ensures.written c.close.ensures.status c.close.ensures.err))
