use Rattle.std.proofs.Common.{true, false, refl}
use Rattle.hp_replay.proofs.ReadBackLemmas.{read_back, free_steps, steps_spelled_so, written_free}
use Rattle.hp_replay.proofs.SpelledWalks.{read_steps}
use Rattle.hp_replay.proofs.laws.walked_plans_read_back.Goals as goal

pub returns-clause-free_steps : goal.returns-clause-free_steps
returns-clause-free_steps c =
    λ domain problem d p nest depth r s i x l j v m free short.
    read_back _
    (free_steps _
    (steps_spelled_so false _ (read_steps false domain problem d p nest depth r s refl refl i x l j v m)) free) short

pub returns-clause-free_texts : goal.returns-clause-free_texts
returns-clause-free_texts c =
    λ domain problem d p nest depth r s h k i x l j v m short.
    read_back _ (written_free _ (read_steps true domain problem d p nest depth r s h k i x l j v m)) short
