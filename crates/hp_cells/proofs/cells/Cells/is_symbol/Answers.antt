use Rattle.std.proofs.Common.{◌≡◌, false, ap, sym, ◌∙◌, inl, inr}
use Rattle.hp_cells.proofs.ViewLemmas.{symbol_seen, symbol_shown}
use Rattle.hp_cells.proofs.cells.Cells.is_symbol.Goals as goal

pub returns-in-Nil : goal.returns-in-Nil
returns-in-Nil c = λ t is.
    let seen : false ≡ symbol_seen c.args.name.now c.get.result =
    elim c.in-Nil.is [
      | inl h ↦ sym (ap (symbol_seen c.args.name.now) h)
      | inr q ↦ elim q [
        | inl p ↦ sym (ap (symbol_seen c.args.name.now) p.1)
        | inr p ↦ sym (ap (symbol_seen c.args.name.now) p.2)
      ]
    ] in
    seen ∙ symbol_shown c.args.name.now c.args.self.now c.get.result t (c.get.ensures.shows t is)
