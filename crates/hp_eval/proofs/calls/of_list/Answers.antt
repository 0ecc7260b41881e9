use Rattle.std.proofs.Common.{ap, sym, ◌∙◌, map}
use Rattle.hp_syntax.specs.Terms.{is_part}
use Rattle.hp_syntax.specs.Calls as plain
use Rattle.hp_eval.specs.GoalViews.{term_at, row_of}
use Rattle.hp_eval.proofs.ListViews.{listed_is, two_read, of_pair, of_many}
use Rattle.hp_eval.proofs.calls.of_list.Goals as goal

pub returns-then-is_listed : goal.returns-then-is_listed
returns-then-is_listed c =
    let terms = c.args.cells.now in
    let item = term_at terms c.item-item.result in
    let list = term_at terms c.list-item.result in
    let ys = listed_is list (sym c.is_listed.ensures ∙ c.if-is_listed.true) in
    c.truth.ensures
    ∙ (ap plain.truth (c.is_member.ensures ys.0 ys.1)
    ∙ (sym (of_pair is_part c.args.span item list ys.0 ys.1)
    ∙ ap (λ cs. plain.of_list is_part c.args.span (row_of (map (term_at terms) cs)))
    (sym (two_read c.args.args.now c.item-item.result c.list-item.result c.in-len2.len_at_least c.in-len2.len_below
    c.item-item.is c.list-item.is))))

pub returns-in_default-2 : goal.returns-in_default-2
returns-in_default-2 c =
    of_many is_part c.args.span (term_at c.args.cells.now) c.args.args.now c.in_default.len_at_least
