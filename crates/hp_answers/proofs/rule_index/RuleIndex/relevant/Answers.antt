use Rattle.std.proofs.Common.{map, slice_get, ◌∙◌, ap}
use Rattle.hp_syntax.specs.Views.{domain_of}
use Rattle.hp_answers.proofs.RuleIndexLemmas.{all_relevant}
use Rattle.hp_answers.proofs.rule_index.RuleIndex.relevant.Goals as goal

pub returns : goal.returns
returns c =
    let book = c.args.self.now in
    let all = (domain_of book.domain.now).rules in
    let name = c.args.name.now in
    ap (map (slice_get all)) (c.get.ensures ∙ book.for_tasks name) ∙ all_relevant all name
