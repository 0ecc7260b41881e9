use Rattle.std.proofs.Common.{◌++◌, map, ap, ◌∙◌}
use Rattle.std.proofs.lemmas.Result.{on_ok_weaker}
use Rattle.hp_syntax.specs.Views.{rule_of}
use Rattle.hp_lint.specs.Variables.{rule_uses}
use Rattle.hp_lint.specs.LintViews.{remark_of}
use Rattle.hp_lint.proofs.CountLemmas.{once_told}
use Rattle.hp_lint.proofs.variables.tell_once_in.Goals as goal

pub returns : goal.returns
returns c =
    let places = c.in_ok-rule.ensures ∙ ap (λ us. us ++ rule_uses (rule_of c.args.rule.now)) c.new-uses.ensures in
    on_ok_weaker c.tell_uses.result
    (λ told. told ∙ ap (λ ms. map remark_of c.args.report.now.list.items ++ ms)
    (once_told _ _ _ _ _ c.in_ok-counts.counts c.rule_names.ensures (c.as_slice.ensures.value ∙ places)
    (c.as_slice-2.ensures.value ∙ places) c.in_ok-counts.ensures)) c.tell_uses.ensures
