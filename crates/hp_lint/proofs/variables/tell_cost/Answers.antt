use Rattle.std.proofs.Common.{true, ◌++◌, map, refl, ap, ◌∙◌}
use Rattle.std.proofs.lemmas.Result.{on_ok_weaker}
use Rattle.hp_syntax.specs.Views.{pattern_of}
use Rattle.hp_lint.specs.Variables.{pattern_uses}
use Rattle.hp_lint.specs.LintViews.{remark_of}
use Rattle.hp_lint.proofs.CountLemmas.{needed_around}
use Rattle.hp_lint.proofs.variables.tell_cost.Goals as goal

pub returns : goal.returns
returns c =
    let needs = pattern_uses true (pattern_of c.args.cost.now) in
    let places = c.as_slice.ensures.value ∙ (c.in_ok-pattern.ensures ∙ ap (λ us. us ++ needs) c.new-needed.ensures) in
    on_ok_weaker c.tell_needed.result
    (λ told. told ∙ ap (λ ms. map remark_of c.args.report.now.list.items ++ ms)
    (needed_around c.args.names.now c.args.around.now c.in_ok-own.own _ _ needs c.in_ok-own.ensures refl places))
    c.tell_needed.ensures
