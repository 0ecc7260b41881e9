use Rattle.hp_unmet.proofs.SaidLemmas.{atom_says}
use Rattle.hp_unmet.proofs.said.named_atom.Goals as goal

pub returns : goal.returns
returns c = atom_says _ _ _ _ _ c.in_ok-own.ensures.same c.in_ok-parts.ensures
