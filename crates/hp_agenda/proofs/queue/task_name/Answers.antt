use Rattle.std.proofs.Common.{◌≡◌, None, ap, sym, refl, ◌∙◌}
use Rattle.std.proofs.lemmas.Option.{slice_get_within}
use Rattle.hp_eval.specs.GoalViews.{term_at}
use Rattle.hp_eval.proofs.CellViews.{named_at}
use Rattle.hp_eval.proofs.AttemptLemmas.{without_first, cons_at, whole_at}
use Rattle.hp_laws.specs.RulesByName.{task_name}
use Rattle.hp_agenda.proofs.queue.task_name.Goals as goal

pub symbol_name-requires : goal.symbol_name-requires
symbol_name-requires c =
    let terms = c.args.cells.now in
    let is = cons_at terms c.args.task c.get.result _ _ c.get.ensures.shows c.requires c.in-Cons.is in
    slice_get_within terms c.in-Cons.head is.first is.head_names

pub returns-in-Cons : goal.returns-in-Cons
returns-in-Cons c =
    let terms = c.args.cells.now in
    let is = cons_at terms c.args.task c.get.result _ _ c.get.ensures.shows c.requires c.in-Cons.is in
    c.symbol_name.ensures ∙ sym (ap task_name (whole_at terms c.args.task _ _ is))

pub returns-in-Nil : goal.returns-in-Nil
returns-in-Nil c =
    let terms = c.args.cells.now in
    let t = term_at terms c.args.task in
    let shown = c.get.ensures.shows t (named_at terms c.args.task c.requires) in
    without_first (λ u. None ≡ task_name u) terms c.get.result t shown c.in-Nil.is refl (λ name. refl) (λ n. refl)
