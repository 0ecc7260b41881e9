use Rattle.hp_replay.proofs.ReadBackLemmas.{read_back}
use Rattle.hp_replay.proofs.laws.printed_plans_read_back.Goals as goal

pub returns : goal.returns
returns c = read_back
