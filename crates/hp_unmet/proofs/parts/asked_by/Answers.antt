use Rattle.std.proofs.Common.{Some, sym, ap, ◌∙◌}
use Rattle.std.specs.Prelude.{option_map}
use Rattle.hp_syntax.specs.Views.{branch_of, method_of, rule_of}
use Rattle.hp_unmet.specs.Conjunctions.{asked_by, in_branch}
use Rattle.hp_unmet.proofs.LookUps.{missing, there}
use Rattle.hp_unmet.proofs.parts.asked_by.Goals as goal

pub returns-in-Operator : goal.returns-in-Operator
returns-in-Operator c =
    ap (λ x. Some x) c.of_operator.ensures ∙ sym (ap (λ r. asked_by c.args.branch (rule_of r)) c.in-Operator.is)

pub returns-in-Some : goal.returns-in-Some
returns-in-Some c =
    let at = c.in-Some.ensures.lookup in
    ap (λ x. Some x) c.of_branch.ensures
    ∙ (sym (ap (option_map (in_branch (method_of c.in-Method.method)))
    (there branch_of _ _ c.args.branch c.deref.ensures.value c.in-Some.own.now at.3.0 at.1))
    ∙ sym (ap (λ r. asked_by c.args.branch (rule_of r)) c.in-Method.is))

pub returns-in-None : goal.returns-in-None
returns-in-None c =
    sym (ap (option_map (in_branch (method_of c.in-Method.method)))
    (missing branch_of _ _ c.args.branch c.deref.ensures.value c.in-None.ensures.lookup.3))
    ∙ sym (ap (λ r. asked_by c.args.branch (rule_of r)) c.in-Method.is)
