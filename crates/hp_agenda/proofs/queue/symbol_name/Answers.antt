use Rattle.std.proofs.Common.{ap, sym, inl, inr}
use Rattle.hp_eval.specs.GoalViews.{term_at}
use Rattle.hp_eval.proofs.CellViews.{named_at}
use Rattle.hp_eval.proofs.AttemptLemmas.{view_nil, view_symbol, view_cons, view_number}
use Rattle.hp_laws.specs.RulesByName.{symbol_name}
use Rattle.hp_agenda.proofs.queue.symbol_name.Goals as goal

pub returns-in-Sym : goal.returns-in-Sym
returns-in-Sym c =
    let terms = c.args.cells.now in
    let t = term_at terms c.args.cell in
    let shown = c.get.ensures.shows t (named_at terms c.args.cell c.requires) in
    sym (ap symbol_name (view_symbol terms c.get.result t c.in-Sym.name shown c.in-Sym.is))

pub returns-in-Nil : goal.returns-in-Nil
returns-in-Nil c =
    let terms = c.args.cells.now in
    let t = term_at terms c.args.cell in
    let shown = c.get.ensures.shows t (named_at terms c.args.cell c.requires) in
    elim c.in-Nil.is [
      | inl h ↦ sym (ap symbol_name (view_nil terms c.get.result t shown h))
      | inr q ↦ elim q [
        | inl p ↦ sym (ap symbol_name (view_number terms c.get.result t p.0 shown p.1))
        | inr p ↦ sym (ap symbol_name ((view_cons terms c.get.result t p.0 p.1 shown p.2).whole))
      ]
    ]
