use Rattle.std.proofs.Common.{◌≡◌, refl}
use Rattle.hp_syntax.specs.Terms.{NoTerm}
use Rattle.hp_eval.specs.GoalViews.{term_at}
use Rattle.hp_cells.specs.Keys.{parts_of}
use Rattle.hp_eval.proofs.CellViews.{named_at}
use Rattle.hp_eval.proofs.AttemptLemmas.{without_first, view_cons, has_first}
use Rattle.hp_eval.proofs.matching.split.Goals as goal

pub returns-in-Nil : goal.returns-in-Nil
returns-in-Nil c =
    let terms = c.args.cells.now in
    let t = term_at terms c.args.list in
    let shown = c.get.ensures.shows t (named_at terms c.args.list c.requires) in
    without_first (λ u. parts_of u ≡ NoTerm) terms c.get.result t shown c.in-Nil.is refl (λ name. refl) (λ n. refl)

pub returns-in-Cons : goal.returns-in-Cons
returns-in-Cons c =
    let terms = c.args.cells.now in
    let t = term_at terms c.args.list in
    let shown = c.get.ensures.shows t (named_at terms c.args.list c.requires) in
    has_first terms c.args.list c.in-Cons.first c.in-Cons.others
    (view_cons terms c.get.result t c.in-Cons.first c.in-Cons.others shown c.in-Cons.is)
