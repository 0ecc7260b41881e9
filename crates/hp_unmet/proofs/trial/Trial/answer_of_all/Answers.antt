use Rattle.std.proofs.Common.{length, sym, ap, ◌∙◌, subst}
use Rattle.std.proofs.lemmas.List.{length-map}
use Rattle.hp_choice.specs.Asking.{finding_of}
use Rattle.hp_choice.specs.Starting.{levels_from}
use Rattle.hp_syntax.specs.Views.{expression_of}
use Rattle.hp_unmet.specs.Trials.{InTrial, IsFirstMissing, conjunction_of, is_in_doubt, rules_tried, tried}
use Rattle.hp_unmet.proofs.AnswerLemmas.{none_unmet, part_unmet, unknown_unmet}
use Rattle.hp_unmet.proofs.trial.Trial.answer_of_all.Goals as goal

pub returns-in-Satisfied-clause-answer : goal.returns-in-Satisfied-clause-answer
returns-in-Satisfied-clause-answer c = λ n at o starts.
    let s = c.args.self.now in
    let nest = levels_from c.args.walk.now.nest s.start in
    none_unmet (rules_tried s) nest n.state (conjunction_of s.asked) c.all.result.count
    (length-map s.asked.parts.now expression_of ∙ sym c.all.ensures.count) o
    (sym (c.in_ok-found.ensures.found n at o starts) ∙ ap finding_of c.in-Satisfied.is)

pub returns-in-Faulty-clause-answer : goal.returns-in-Faulty-clause-answer
returns-in-Faulty-clause-answer c = λ n at o starts.
    let s = c.args.self.now in
    let nest = levels_from c.args.walk.now.nest s.start in
    unknown_unmet (rules_tried s) nest n.state (conjunction_of s.asked) c.all.result.count
    (length-map s.asked.parts.now expression_of ∙ sym c.all.ensures.count) o
    (ap is_in_doubt (sym (c.in_ok-found.ensures.found n at o starts) ∙ ap finding_of c.in-Faulty.is))

pub returns-in-Undecided-clause-answer : goal.returns-in-Undecided-clause-answer
returns-in-Undecided-clause-answer c = λ n at o starts.
    let s = c.args.self.now in
    let nest = levels_from c.args.walk.now.nest s.start in
    unknown_unmet (rules_tried s) nest n.state (conjunction_of s.asked) c.all.result.count
    (length-map s.asked.parts.now expression_of ∙ sym c.all.ensures.count) o
    (ap is_in_doubt (sym (c.in_ok-found.ensures.found n at o starts) ∙ ap finding_of c.in-Undecided.is))

pub returns-in_ok-place-in-Nothing-clause-answer : goal.returns-in_ok-place-in-Nothing-clause-answer
returns-in_ok-place-in-Nothing-clause-answer c = λ n at o starts.
    let s = c.args.self.now in
    let nest = levels_from c.args.walk.now.nest s.start in
    let place = c.in_ok-place-in-Nothing.place in
    part_unmet (rules_tried s) nest n.state (conjunction_of s.asked)
    _ (length-map s.asked.parts.now expression_of) place o
    (subst
    (λ p. InTrial p s (λ nest state o. IsFirstMissing (tried s nest state o) (length s.asked.parts.now) place))
    c.found.ensures.same c.in_ok-place-in-Nothing.ensures.missing n at o starts)
