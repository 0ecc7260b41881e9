use Rattle.std.proofs.Common.{length, sym, ◌∙◌, subst}
use Rattle.std.proofs.lemmas.Option.{same_Some}
use Rattle.hp_cells.specs.Cells.{LooksUp}
use Rattle.hp_syntax.specs.Terms.{Listed, More}
use Rattle.hp_eval.specs.FillSteps.{parts_at}
use Rattle.hp_eval.specs.GoalViews.{term_at}
use Rattle.hp_eval.proofs.CellViews.{named_at, names_parts}
use Rattle.hp_eval.proofs.GoalViewLemmas.{below_cell}
use Rattle.hp_suspended.proofs.known.find_part.Goals as goal

pub find_cons-requires-clause-head : goal.find_cons-requires-clause-head
find_cons-requires-clause-head c =
    below_cell (length c.args.cells.now) c.args.part.now c.in-Some.cell c.requires.part c.in-Some.ensures.known

pub returns-in-Some : goal.returns-in-Some
returns-in-Some c = λ t k.
    let terms = c.args.cells.now in
    let cell = c.in-Some.cell in
    let list = c.args.list in
    let within = below_cell (length terms) c.args.part.now cell c.requires.part c.in-Some.ensures.known in
    subst (λ u. LooksUp (Listed (More u (parts_at terms list))) terms c.find_cons.result)
    (same_Some (term_at terms cell) t (sym (c.in-Some.ensures.term terms) ∙ k))
    (c.find_cons.ensures (term_at terms cell) (parts_at terms list) (named_at terms cell within)
    (names_parts terms list c.requires.list))
