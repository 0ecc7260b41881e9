use Rattle.std.proofs.Common.{sym, ap, ◌∙◌, subst, take}
use Rattle.hp_syntax.specs.Preconditions.{heard}
use Rattle.hp_answers.specs.AnswerViews.{Finds, answer_events}
use Rattle.hp_satisfiers.proofs.PreconditionSteps.{heard_found}
use Rattle.hp_satisfiers.proofs.preconditions.heard.Goals as goal

pub returns : goal.returns
returns c =
    λ terms vars events h.
    let n = c.heard_len-end.result in
    let found = c.args.found.items in
    subst (λ xs. Finds terms vars xs (heard events)) (sym c.truncate.ensures.items)
    (heard_found terms vars n found events
    (ap (λ xs. answer_events terms (take n xs)) (sym c.as_slice.ensures.value)
    ∙ (c.heard_len-end.ensures terms ∙ ap (λ xs. heard (answer_events terms xs)) c.as_slice.ensures.value)) h)
