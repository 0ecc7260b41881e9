use Rattle.std.proofs.Common.{map, ap, sym, ◌∙◌, subst}
use Rattle.std.specs.Prelude.{option_map}
use Rattle.std.proofs.lemmas.Option.{MatchOption-at_some}
use Rattle.hp_choice.specs.declared.first.Test.TheVariants as tests
use Rattle.hp_choice.specs.FirstSatisfier.{values_of}
use Rattle.hp_choice.specs.Questions.{GivesFirst}
use Rattle.hp_code.specs.Codes.{code_of}
use Rattle.hp_syntax.specs.GroundViews.{ground_of}
use Rattle.hp_unmet.specs.Conjunctions.{or_unbound}
use Rattle.hp_unmet.proofs.TrialLemmas.{gives_first}
use Rattle.hp_unmet.proofs.trial.Trial.values.Goals as goal

pub returns-in-Some-clause-values : goal.returns-in-Some-clause-values
returns-in-Some-clause-values c = λ n at o starts.
    let s = c.args.self.now in
    let nest = c.args.walk.now.nest in
    ap or_unbound (sym (ap (option_map values_of) c.in-Some.is))
    ∙ gives_first s c.requires.can c.args.prefix c.requires.prefix nest n.state o starts c.in_ok-values.field-0
    (subst (λ x. GivesFirst (code_of s.code.now) nest n.state x s.start tests.Any c.in_ok-values.field-0)
    c.nodes_of-asked.ensures.is (MatchOption-at_some _ _ n at c.in_ok-values.ensures.values))

pub returns-in-None-clause-values : goal.returns-in-None-clause-values
returns-in-None-clause-values c = λ n at o starts.
    let s = c.args.self.now in
    let nest = c.args.walk.now.nest in
    ap (map (option_map ground_of)) c.new.ensures.items
    ∙ (ap or_unbound (sym (ap (option_map values_of) c.in-None.is))
    ∙ gives_first s c.requires.can c.args.prefix c.requires.prefix nest n.state o starts c.in_ok-values.field-0
    (subst (λ x. GivesFirst (code_of s.code.now) nest n.state x s.start tests.Any c.in_ok-values.field-0)
    c.nodes_of-asked.ensures.is (MatchOption-at_some _ _ n at c.in_ok-values.ensures.values)))
