use Rattle.std.proofs.Common.{inl, inr, ap, sym, ◌∙◌}
use Rattle.hp_syntax.specs.Views.{precondition_of}
use Rattle.hp_lint.specs.Branches.{precondition_span}
use Rattle.hp_lint.proofs.BranchLemmas.{expression_span-of}
use Rattle.hp_doctor_why.proofs.places.precondition_span.Goals as goal

pub returns : goal.returns
returns c =
    let same = expression_span-of c.in-Plain.whole in
    elim c.in-Plain.is [
      | inl h ↦ sym (ap (λ p. precondition_span (precondition_of p)) h ∙ same)
      | inr k ↦ elim k [
        | inl h ↦ sym (ap (λ p. precondition_span (precondition_of p)) h ∙ same)
        | inr h ↦ sym (ap (λ p. precondition_span (precondition_of p)) h.1 ∙ same)
      ]
    ]
