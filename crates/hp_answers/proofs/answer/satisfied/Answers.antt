use Rattle.std.proofs.lemmas.Result.{IfOk-weaker}
use Rattle.hp_answers.proofs.AnswerLemmas.{finds_copy}
use Rattle.hp_answers.proofs.answer.satisfied.Goals as goal

pub returns : goal.returns
returns c =
    IfOk-weaker c.only.result _ _
    (λ v is terms below.
    finds_copy terms c.in_ok-copy.copy c.args.slots.now v.items c.in_ok-copy.ensures is below)
    c.only.ensures
