use Rattle.std.proofs.Common.{◌≡◌, IfSome, length, ◌∙◌, subst, arith, sym, ap}
use Rattle.std.proofs.lemmas.List.{length-map}
use Rattle.hp_choice.specs.Starting.{levels_from}
use Rattle.hp_syntax.specs.Events.{Satisfied}
use Rattle.hp_syntax.specs.Views.{expression_of}
use Rattle.hp_unmet.specs.Trials.{InTrial, IsPrefix, answer_tried, conjunction_of, rules_tried, tried}
use Rattle.hp_unmet.proofs.AnswerLemmas.{none_unmet}
use Rattle.hp_unmet.proofs.trial.Trial.answer.Goals as goal

pub returns-in-Some-2-clause-answer : goal.returns-in-Some-2-clause-answer
returns-in-Some-2-clause-answer c = λ n at o starts.
    let s = c.args.self.now in
    let w = c.args.walk.now in
    let prefix : IsPrefix s c.in-Some.met =
    subst (λ p. IfSome p (IsPrefix s)) c.in-Some.is c.in_ok-met.ensures.prefix in
    let met : InTrial w s (λ nest state b. tried s nest state b c.in-Some.met.count ≡ Satisfied) =
    subst (λ p. IfSome p (λ x. InTrial w s (λ nest state b. tried s nest state b x.count ≡ Satisfied))) c.in-Some.is
    c.in_ok-met.ensures.met in
    let few = prefix.within in
    let all : length s.asked.parts.now ≡ c.in-Some.met.count = omega (arith, few, c.if-met-self.false) in
    none_unmet (rules_tried s) (levels_from w.nest s.start) n.state (conjunction_of s.asked) c.in-Some.met.count
    (length-map s.asked.parts.now expression_of ∙ all) o (met n at o starts)

pub returns-in-None-clause-answer : goal.returns-in-None-clause-answer
returns-in-None-clause-answer c = λ n at o starts.
    let s = c.args.self.now in
    sym (ap (answer_tried s (levels_from c.args.walk.now.nest s.start) n.state)
    (c.in_ok-met.ensures.none c.in-None.is n at o starts))
