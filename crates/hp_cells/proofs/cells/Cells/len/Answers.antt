use Rattle.std.proofs.Common.{length, ap, sym, ◌∙◌}
use Rattle.hp_cells.proofs.KeyLemmas.{length_terms_of}
use Rattle.hp_cells.proofs.cells.Cells.len.Goals as goal

pub returns-clause-count : goal.returns-clause-count
returns-clause-count c =
    let table = c.self.inside.table in
    c.len.ensures.len ∙ sym (length_terms_of table.names.keys table.keys.keys) ∙ ap length c.self.view_is
