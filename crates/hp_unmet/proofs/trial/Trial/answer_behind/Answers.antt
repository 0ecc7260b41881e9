use Rattle.std.proofs.Common.{sym, ap, ◌∙◌}
use Rattle.std.proofs.lemmas.List.{length-map}
use Rattle.hp_choice.specs.Asking.{finding_of}
use Rattle.hp_choice.specs.Starting.{levels_from}
use Rattle.hp_syntax.specs.Views.{expression_of}
use Rattle.hp_unmet.specs.Trials.{conjunction_of, is_in_doubt, rules_tried, tried}
use Rattle.hp_unmet.proofs.AnswerLemmas.{part_unmet, unknown_with}
use Rattle.hp_unmet.proofs.trial.Trial.answer_behind.Goals as goal

pub returns-in-Faulty-clause-answer : goal.returns-in-Faulty-clause-answer
returns-in-Faulty-clause-answer c = λ n at o starts.
    let s = c.args.self.now in
    let nest = levels_from c.args.walk.now.nest s.start in
    unknown_with (rules_tried s) nest n.state (conjunction_of s.asked) _
    (length-map s.asked.parts.now expression_of) o c.more-next.result.count c.more-next.ensures.prefix.within
    (ap is_in_doubt (sym (c.in_ok-found.ensures.found n at o starts) ∙ ap finding_of c.in-Faulty.is))

pub returns-in-Undecided-clause-answer : goal.returns-in-Undecided-clause-answer
returns-in-Undecided-clause-answer c = λ n at o starts.
    let s = c.args.self.now in
    let nest = levels_from c.args.walk.now.nest s.start in
    unknown_with (rules_tried s) nest n.state (conjunction_of s.asked) _
    (length-map s.asked.parts.now expression_of) o c.more-next.result.count c.more-next.ensures.prefix.within
    (ap is_in_doubt (sym (c.in_ok-found.ensures.found n at o starts) ∙ ap finding_of c.in-Undecided.is))

pub returns-in-Nothing-clause-answer : goal.returns-in-Nothing-clause-answer
returns-in-Nothing-clause-answer c = λ n at o starts.
    let s = c.args.self.now in
    let nest = levels_from c.args.walk.now.nest s.start in
    part_unmet (rules_tried s) nest n.state (conjunction_of s.asked)
    _ (length-map s.asked.parts.now expression_of) c.args.met.count o
    (record {
      within = c.requires.fewer;
      met = c.requires.met n at o starts;
      missing =
          ap (tried s nest n.state o) (sym c.more-next.ensures.count)
          ∙ (sym (c.in_ok-found.ensures.found n at o starts) ∙ ap finding_of c.in-Nothing.is);
    })
