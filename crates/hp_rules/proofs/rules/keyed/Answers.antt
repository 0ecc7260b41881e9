use Rattle.std.proofs.Common.{◌≡◌, ◌∙◌, sym, ap, true, [], bytes_eq, codes}
use Rattle.hp_syntax.specs.Steps.{value_in}
use Rattle.hp_syntax.specs.Views.{rule_of}
use Rattle.hp_text.specs.Nodes.{nodes_of}
use Rattle.hp_terms.proofs.PartSteps.{gives_same}
use Rattle.hp_rules.proofs.RuleSteps.{keyed-operator}
use Rattle.hp_rules.proofs.rules.keyed.Goals as goal

pub returns-then-is : goal.returns-then-is
returns-then-is c =
    let chosen : bytes_eq c.args.key.now (codes ":operator") ≡ true = sym c.is.ensures ∙ c.if-is.true in
    gives_same rule_of c.operator.result _ _
    (ap value_in (keyed-operator c.args.span c.args.key.now (nodes_of c.args.rest.now) [] chosen))
    (rw c.clear.ensures at c.operator.ensures)
