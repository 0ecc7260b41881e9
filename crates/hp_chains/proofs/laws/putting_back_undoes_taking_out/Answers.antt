use Rattle.hp_chains.proofs.ReturnLemmas.{taken_out_fits, taken_out_restored}
use Rattle.hp_chains.proofs.laws.putting_back_undoes_taking_out.Goals as goal

pub returns-clause-fits : goal.returns-clause-fits
returns-clause-fits c = λ place key keys es rest. taken_out_fits keys place key es rest

pub returns-clause-same : goal.returns-clause-same
returns-clause-same c = taken_out_restored
