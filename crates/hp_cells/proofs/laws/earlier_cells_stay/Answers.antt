use Rattle.std.proofs.Common.{ap, ◌∙◌, slice_get}
use Rattle.hp_cells.proofs.CellLemmas.{earlier_stay}
use Rattle.hp_cells.proofs.laws.earlier_cells_stay.Goals as goal

pub returns : goal.returns
returns c = λ t cell old new h i l. ap (λ ts. slice_get ts i) h.only ∙ earlier_stay t old i l
