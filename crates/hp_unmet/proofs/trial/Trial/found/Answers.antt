use Rattle.std.proofs.Common.{subst}
use Rattle.std.proofs.lemmas.Option.{MatchOption-at_some}
use Rattle.std.proofs.lemmas.Result.{IfOk-weaker}
use Rattle.hp_choice.specs.Questions.{Finds}
use Rattle.hp_code.specs.Codes.{code_of}
use Rattle.hp_unmet.proofs.TrialLemmas.{finds_first}
use Rattle.hp_unmet.proofs.trial.Trial.found.Goals as goal

pub returns-clause-found : goal.returns-clause-found
returns-clause-found c =
    let s = c.args.self.now in
    let nest = c.args.walk.now.nest in
    IfOk-weaker c.ask.result _ _
    (λ f h n at o starts.
    finds_first s c.requires.can c.args.prefix c.requires.prefix nest n.state o starts f
    (subst (λ x. Finds (code_of s.code.now) nest n.state x s.start f) c.nodes_of.ensures.is
    (MatchOption-at_some _ _ n at h)))
    c.ask.ensures.found
