use Rattle.std.proofs.Common.{map, ◌∙◌, ap}
use Rattle.hp_syntax.specs.Views.{domain_of}
use Rattle.hp_answers.specs.RuleIndexes.{axiom_at}
use Rattle.hp_answers.proofs.RuleIndexLemmas.{all_conclude}
use Rattle.hp_answers.proofs.rule_index.RuleIndex.axioms.Goals as goal

pub returns : goal.returns
returns c =
    let book = c.args.self.now in
    let all = (domain_of book.domain.now).rules in
    let name = c.args.name.now in
    ap (map (axiom_at all)) (c.get.ensures ∙ book.listed name) ∙ all_conclude all name
