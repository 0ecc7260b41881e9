use Rattle.std.proofs.Common.{◌++◌, map, ap, ◌∙◌}
use Rattle.std.specs.List.{flat_map}
use Rattle.std.proofs.lemmas.Result.{on_ok_weaker}
use Rattle.hp_syntax.specs.Views.{domain_of, problem_of, rule_of}
use Rattle.hp_lint.specs.Asking.{asked_by, given}
use Rattle.hp_lint.specs.LintViews.{lent_atoms, remark_of}
use Rattle.hp_lint.proofs.TableLemmas.{asked_told}
use Rattle.hp_lint.proofs.texts.tell_asked.Goals as goal

pub returns : goal.returns
returns c =
    let d = domain_of c.args.domain.now in
    let asked = ap lent_atoms c.as_slice-2.ensures.value
    ∙ (c.in_ok-asked.ensures ∙ ap (λ rs. flat_map asked_by (map rule_of rs)) c.as_slice.ensures.value) in
    on_ok_weaker c.tell_atoms.result
    (λ told. told ∙ ap (λ ms. map remark_of c.args.report.now.list.items ++ ms)
    (asked_told (given d (problem_of c.args.problem.now)) (flat_map asked_by d.rules) c.in_ok-given.given _
    c.in_ok-given.ensures asked)) c.tell_atoms.ensures
