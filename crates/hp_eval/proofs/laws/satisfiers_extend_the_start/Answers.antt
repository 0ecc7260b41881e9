use Rattle.hp_eval.proofs.laws.satisfiers_extend_the_start.Goals as goal

pub returns : goal.returns
returns g c = g.met.S.Sats.sats_extend
