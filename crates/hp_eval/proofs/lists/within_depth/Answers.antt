use Rattle.std.proofs.Common.{sym, ◌∙◌}
use Rattle.hp_syntax.specs.Terms.{Listed}
use Rattle.hp_eval.proofs.ListViews.{list_too_deep, list_fits}
use Rattle.hp_eval.proofs.lists.within_depth.Goals as goal

pub returns-then-is_too_deep : goal.returns-then-is_too_deep
returns-then-is_too_deep c = λ ts is.
    list_too_deep c.args.span ts (sym (c.is_too_deep.ensures (Listed ts) is) ∙ c.if-is_too_deep.true)

pub returns-else-is_too_deep : goal.returns-else-is_too_deep
returns-else-is_too_deep c = λ ts is.
    (Listed ts, list_fits c.args.span ts (sym (c.is_too_deep.ensures (Listed ts) is) ∙ c.if-is_too_deep.false), is)
