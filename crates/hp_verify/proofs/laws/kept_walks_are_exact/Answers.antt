use Rattle.hp_verify.proofs.Exact.{kept_exact}
use Rattle.hp_verify.proofs.laws.kept_walks_are_exact.Goals as goal

pub returns : goal.returns
returns c = λ steps vs grow f. kept_exact steps vs grow f
