use Rattle.std.proofs.Common.{sym, ap, ◌∙◌}
use Rattle.std.specs.Option.{option_and_then}
use Rattle.hp_syntax.specs.Views.{rule_of}
use Rattle.hp_unmet.specs.Conjunctions.{asked_by}
use Rattle.hp_unmet.proofs.LookUps.{missing, there}
use Rattle.hp_unmet.proofs.parts.asked_in.Goals as goal

pub returns-in-Some : goal.returns-in-Some
returns-in-Some c =
    let at = c.in-Some.ensures.lookup in
    c.asked_by.ensures
    ∙ sym (ap (option_and_then (asked_by c.args.branch))
    (there rule_of _ _ c.args.rule c.deref.ensures.value c.in-Some.own.now at.3.0 at.1))

pub returns-in-None : goal.returns-in-None
returns-in-None c =
    sym (ap (option_and_then (asked_by c.args.branch))
    (missing rule_of _ _ c.args.rule c.deref.ensures.value c.in-None.ensures.lookup.3))
