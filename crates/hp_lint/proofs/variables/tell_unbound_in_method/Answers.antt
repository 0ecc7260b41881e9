use Rattle.std.proofs.Common.{◌++◌, map, ap, ◌∙◌}
use Rattle.std.specs.List.{flat_map}
use Rattle.std.proofs.lemmas.Result.{on_ok_weaker}
use Rattle.hp_syntax.specs.Views.{branch_of, method_of}
use Rattle.hp_lint.specs.Variables.{branch_unbound, method_unbound}
use Rattle.hp_lint.specs.LintViews.{is_seen, remark_of}
use Rattle.hp_lint.proofs.CountLemmas.{is_seen-is}
use Rattle.hp_lint.proofs.variables.tell_unbound_in_method.Goals as goal

pub returns : goal.returns
returns c =
    let m = c.args.method.now in
    let old = map remark_of c.args.report.now.list.items in
    let head = c.in_ok-head.head in
    on_ok_weaker c.tell_branches.result
    (λ told. told
    ∙ ((λ i. old
    ++ flat_map (branch_unbound (c.as_slice.ensures.value i) (is_seen head)) (map branch_of (c.as_slice-2.ensures.value i)))
    ∙ ap (λ known. old ++ method_unbound known (method_of m)) (is_seen-is _ head c.in_ok-head.ensures)))
    c.tell_branches.ensures
