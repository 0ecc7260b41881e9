use Rattle.std.proofs.Common.{option_map, sym, ap, ◌∙◌}
use Rattle.hp_syntax.specs.Views.{domain_of}
use Rattle.hp_unmet.specs.Trials.{conjunction_of}
use Rattle.hp_unmet.specs.Conjunctions.{asked_in}
use Rattle.hp_unmet.proofs.AnswerLemmas.{unasked, unmatched_head}
use Rattle.hp_unmet.proofs.unmet.unmatched.Goals as goal

pub returns-in-Some-clause-unmet : goal.returns-in-Some-clause-unmet
returns-in-Some-clause-unmet c = λ nest state task h.
    let rules = (domain_of c.args.domain.now).rules in
    unmatched_head rules nest state task (asked_in rules c.args.spot.rule c.args.spot.branch) (conjunction_of c.in-Some.field-0)
    (sym (ap (option_map conjunction_of) c.in-Some.is) ∙ c.asked_in.ensures) h

pub returns-in-None-clause-unmet : goal.returns-in-None-clause-unmet
returns-in-None-clause-unmet c = λ nest state task h.
    let rules = (domain_of c.args.domain.now).rules in
    unasked rules nest state task (asked_in rules c.args.spot.rule c.args.spot.branch)
    (sym (ap (option_map conjunction_of) c.in-None.is) ∙ c.asked_in.ensures)
