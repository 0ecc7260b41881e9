use Rattle.std.proofs.Common.{length, ◌∙◌, sym, ap, subst}
use Rattle.std.proofs.lemmas.Result.{IfOk-weaker}
use Rattle.hp_syntax.specs.Events.{negated, finding}
use Rattle.hp_eval.specs.Slotted.{bindings_of}
use Rattle.hp_answers.specs.AnswerViews.{Finds, answer_events}
use Rattle.hp_laws.specs.HeardAlike.{turned}
use Rattle.hp_answers.proofs.answer.turn.Goals as goal

pub returns-then-negate : goal.returns-then-negate
returns-then-negate c =
    let s = c.args.slots.now in
    let found = c.args.found.items in
    IfOk-weaker c.negated.result _ _
    (λ v h terms below fit.
    let e = bindings_of terms s in
    let same =
    ap (λ f. negated f e)
    (c.outcome_of.ensures terms ∙ ap (λ xs. finding (answer_events terms xs)) c.as_slice.ensures.value)
    ∙ ap (λ b. turned b (answer_events terms found) e) (sym c.if-negate.true) in
    subst (Finds terms (length s.values) v.items) same (h terms below))
    c.negated.ensures

pub returns-else-negate : goal.returns-else-negate
returns-else-negate c =
    let s = c.args.slots.now in
    let found = c.args.found.items in
    λ terms below fit.
    record {
      stand = ap (λ b. turned b (answer_events terms found) (bindings_of terms s)) (sym c.if-negate.false);
      fit = fit;
    }
