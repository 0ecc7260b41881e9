use Rattle.std.proofs.Common.{◌≡◌, length, ap, sym, subst, ◌∙◌, arith}
use Rattle.hp_cells.specs.Keys.{IsNumbered, Stands}
use Rattle.hp_cells.proofs.KeyLemmas.{length_terms_of}
use Rattle.hp_cells.proofs.InternSteps.{read_at}
use Rattle.hp_cells.proofs.cells.Cells.get.Goals as goal

pub bounds-as_slice-cell-inside : goal.bounds-as_slice-cell-inside
bounds-as_slice-cell-inside c =
    let table = c.self.inside.table in
    let many : length c.args.self.now ≡ length table.keys.keys =
    ap length (sym c.self.view_is) ∙ length_terms_of table.names.keys table.keys.keys in
    omega (arith, ap length c.as_slice.ensures.keys)

pub view-requires : goal.view-requires
view-requires c =
    let read = read_at c.self.invariant c.self.view_is c.as_slice.ensures.keys c.cell.view_is c.requires
    c.index-as_slice-cell.is in
    subst (λ names. IsNumbered (length names) c.index-as_slice-cell.result) (sym c.as_slice-2.ensures.keys) read.1

pub returns-clause-shows : goal.returns-clause-shows
returns-clause-shows c =
    let read = read_at c.self.invariant c.self.view_is c.as_slice.ensures.keys c.cell.view_is c.requires
    c.index-as_slice-cell.is in
    λ t h. c.view.ensures.shows c.args.self.now t
    (subst (λ names. Stands names c.args.self.now c.index-as_slice-cell.result t) (sym c.as_slice-2.ensures.keys)
    (read.2 t h))

pub returns-clause-earlier : goal.returns-clause-earlier
returns-clause-earlier c =
    let read = read_at c.self.invariant c.self.view_is c.as_slice.ensures.keys c.cell.view_is c.requires
    c.index-as_slice-cell.is in
    c.view.ensures.earlier c.args.cell read.0
