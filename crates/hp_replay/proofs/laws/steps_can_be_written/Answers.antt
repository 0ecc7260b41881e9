use Rattle.std.proofs.Common.{false, refl}
use Rattle.hp_replay.proofs.ReadBackLemmas.{steps_spelled_so}
use Rattle.hp_replay.proofs.SpelledWalks.{read_steps}
use Rattle.hp_replay.proofs.laws.steps_can_be_written.Goals as goal

pub returns : goal.returns
returns c =
    λ domain problem d p nest depth r s i x l j v m.
    steps_spelled_so false _ (read_steps false domain problem d p nest depth r s refl refl i x l j v m)
