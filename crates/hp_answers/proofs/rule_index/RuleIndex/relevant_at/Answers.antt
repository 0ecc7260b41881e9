use Rattle.std.proofs.Common.{slice_get, Some, option_map, sym, ◌∙◌, ap}
use Rattle.std.specs.Option.{option_copied}
use Rattle.std.proofs.lemmas.Option.{slice_get-map}
use Rattle.hp_syntax.specs.Views.{domain_of}
use Rattle.hp_laws.specs.RulesByName.{relevant}
use Rattle.hp_answers.proofs.RuleIndexLemmas.{looked_up}
use Rattle.hp_answers.proofs.rule_index.RuleIndex.relevant_at.Goals as goal

pub returns : goal.returns
returns c =
    let all = (domain_of c.args.self.now.domain.now).rules in
    let number = c.args.number in
    let places = c.relevant.result.now in
    let name = ap option_copied (sym c.in_ok-name.was) ∙ c.task_name.ensures in
    let found = looked_up places number c.get.result c.get.ensures.lookup.3 in
    ap (option_map (slice_get all)) (c.copied.ensures ∙ found)
    ∙ (sym (slice_get-map (slice_get all) places number)
    ∙ (ap (λ xs. slice_get xs number) c.relevant.ensures
    ∙ (slice_get-map Some (relevant (Some c.in_ok-name.name.now) all) number
    ∙ ap (λ o. option_map Some (slice_get (relevant o all) number)) name)))
