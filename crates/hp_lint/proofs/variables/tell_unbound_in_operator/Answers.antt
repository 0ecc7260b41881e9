use Rattle.std.proofs.Common.{◌++◌, map, ap, ◌∙◌}
use Rattle.std.proofs.lemmas.Result.{on_ok_weaker}
use Rattle.hp_syntax.specs.Views.{operator_of}
use Rattle.hp_lint.specs.Variables.{operator_unbound}
use Rattle.hp_lint.specs.LintViews.{remark_of}
use Rattle.hp_lint.proofs.CountLemmas.{is_seen-is}
use Rattle.hp_lint.proofs.variables.tell_unbound_in_operator.Goals as goal

pub returns : goal.returns
returns c =
    let o = operator_of c.args.operator.now in
    on_ok_weaker c.tell_operator.result
    (λ told. told ∙ ap (λ known. map remark_of c.args.report.now.list.items ++ operator_unbound known o)
    (is_seen-is _ c.in_ok-bound.bound c.in_ok-bound.ensures)) c.tell_operator.ensures
