use Rattle.std.proofs.Common.{◌≡◌, inl, inr}
use Rattle.std.proofs.lemmas.Result.{IfOk-weaker}
use Rattle.hp_eval.specs.GoalViews.{term_at}
use Rattle.hp_eval.specs.Slotted.{bindings_of}
use Rattle.hp_eval.proofs.CellViews.{named_at}
use Rattle.hp_cells.specs.declared.keys.View.TheVariants.{Nil}
use Rattle.hp_answers.proofs.AnswerLemmas.{finds_same}
use Rattle.hp_satisfiers.proofs.MatchSteps.{shown_true, sym_not_nil, num_not_nil, cons_not_nil}
use Rattle.hp_satisfiers.proofs.matches.truth.Goals as goal

pub returns-in-Sym : goal.returns-in-Sym
returns-in-Sym c =
    let terms = c.args.cells.now in
    let t = term_at terms c.args.cell in
    let shown = c.get.ensures.shows t (named_at terms c.args.cell c.requires.cell) in
    let other : c.get.result ≡ Nil → ⊥ =
    elim c.in-Sym.is [
      | inl h ↦ sym_not_nil c.get.result h.0 h.1
      | inr q ↦ elim q [
        | inl h ↦ num_not_nil c.get.result h.0 h.1
        | inr h ↦ cons_not_nil c.get.result h.0 h.1 h.2
      ]
    ] in
    IfOk-weaker c.satisfied.result _ _
    (λ v h. finds_same terms _ v.items _ _
    (shown_true terms c.get.result t (bindings_of terms c.args.slots.now) shown other)
    (h terms c.requires.slots))
    c.satisfied.ensures
