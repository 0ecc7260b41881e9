use Rattle.std.proofs.Common.{◌≡◌, false, ap, sym, ◌∙◌, inl, inr}
use Rattle.hp_cells.proofs.ViewLemmas.{number_seen, number_shown}
use Rattle.hp_cells.proofs.cells.Cells.is_number.Goals as goal

pub returns-in-Nil : goal.returns-in-Nil
returns-in-Nil c = λ t is.
    let seen : false ≡ number_seen c.args.n c.get.result =
    elim c.in-Nil.is [
      | inl h ↦ sym (ap (number_seen c.args.n) h)
      | inr q ↦ elim q [
        | inl p ↦ sym (ap (number_seen c.args.n) p.1)
        | inr p ↦ sym (ap (number_seen c.args.n) p.2)
      ]
    ] in
    seen ∙ number_shown c.args.n c.args.self.now c.get.result t (c.get.ensures.shows t is)
