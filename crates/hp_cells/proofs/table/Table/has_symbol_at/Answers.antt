use Rattle.std.proofs.Common.{Some, sym, ap, ◌∙◌}
use Rattle.hp_cells.proofs.InternSteps.{symbol_at}
use Rattle.hp_cells.proofs.NameLemmas.{same_name}
use Rattle.hp_cells.proofs.table.Table.has_symbol_at.Goals as goal

pub returns-in-Some : goal.returns-in-Some
returns-in-Some c = λ same.
    let table = c.args.self.now in
    let key = sym c.in-Some-Sym.ensures.key ∙ ap Some c.in-Some-Sym.field-0-is in
    let own = sym c.in-Some.ensures.key in
    let name = same_name c.in-Some.own.now c.args.name.now (sym c.eq.ensures ∙ same) in
    symbol_at c.requires c.args.place c.in-Some-Sym.number c.args.name.now key (own ∙ ap Some name)
