use Rattle.std.proofs.Common.{◌≡◌, true, false, ap, sym, ◌∙◌, inl, inr}
use Rattle.hp_eval.specs.GoalViews.{term_at}
use Rattle.hp_eval.proofs.CellViews.{named_at, list_seen, list_shown}
use Rattle.hp_verify.proofs.comparing.is_listed.Goals as goal

pub returns-in-Nil : goal.returns-in-Nil
returns-in-Nil c =
    let terms = c.args.cells.now in
    let t = term_at terms c.args.cell in
    let seen : true ≡ list_seen c.get.result =
    elim c.in-Nil.is [ inl e ↦ sym (ap list_seen e) | inr e ↦ sym (ap list_seen e.2) ] in
    seen ∙ list_shown terms c.get.result t (c.get.ensures.shows t (named_at terms c.args.cell c.requires))

pub returns-in-Sym : goal.returns-in-Sym
returns-in-Sym c =
    let terms = c.args.cells.now in
    let t = term_at terms c.args.cell in
    let seen : false ≡ list_seen c.get.result =
    elim c.in-Sym.is [ inl e ↦ sym (ap list_seen e.1) | inr e ↦ sym (ap list_seen e.1) ] in
    seen ∙ list_shown terms c.get.result t (c.get.ensures.shows t (named_at terms c.args.cell c.requires))
