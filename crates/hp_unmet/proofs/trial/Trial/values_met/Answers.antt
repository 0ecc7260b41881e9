-- As many of the first parts as there are, at most so many, give the values that so many do.
use Rattle.std.proofs.Common.{◌≡◌, length, min, ap, sym, ◌∙◌}
use Rattle.std.proofs.lemmas.List.{length-map}
use Rattle.std.proofs.lemmas.Result.{IfOk-weaker}
use Rattle.hp_choice.specs.Starting.{levels_from}
use Rattle.hp_syntax.specs.Views.{expression_of}
use Rattle.hp_unmet.specs.Trials.{conjunction_of, rules_tried, values_answered, values_tried}
use Rattle.hp_unmet.proofs.FoundLemmas.{few_values}
use Rattle.hp_unmet.proofs.trial.Trial.values_met.Goals as goal

pub returns-in-Part-clause-values : goal.returns-in-Part-clause-values
returns-in-Part-clause-values c =
    let s = c.args.self.now in
    let own = conjunction_of s.asked in
    let nest = levels_from c.args.walk.now.nest s.start in
    let place = c.in-Part.place in
    let count : c.first.result.count ≡ min place (length own.parts) =
    c.first.ensures.count ∙ ap (min place) (sym (length-map s.asked.parts.now expression_of)) in
    IfOk-weaker c.values-in-Part.result _ _
    (λ v h n at o starts.
    h n at o starts ∙ ap (values_tried s nest n.state o) count ∙ few_values (rules_tried s) nest n.state own o place
    ∙ ap (values_answered s nest n.state o) (sym c.in-Part.is))
    c.values-in-Part.ensures.values
