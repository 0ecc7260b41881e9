use Rattle.hp_eval.proofs.laws.base_is_kept.Goals as goal

pub returns : goal.returns
returns g c = g.met.S.Sats.same_base
