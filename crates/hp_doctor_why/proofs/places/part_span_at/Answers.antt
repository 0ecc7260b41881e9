use Rattle.std.proofs.Common.{Some, ap, sym, ◌∙◌}
use Rattle.std.specs.Prelude.{option_map}
use Rattle.hp_syntax.specs.Views.{expression_of}
use Rattle.hp_lint.specs.Branches.{expression_span}
use Rattle.hp_lint.proofs.BranchLemmas.{expression_span-of}
use Rattle.hp_doctor_why.proofs.places.part_span_at.Goals as goal

pub returns-in-Some : goal.returns-in-Some
returns-in-Some c =
    ap Some (sym (expression_span-of c.in-Some.part.now))
    ∙ (sym (ap (λ o. option_map expression_span (option_map (λ e. expression_of e.now) o)) c.in-Some.is)
    ∙ ap (λ o. option_map expression_span o) c.part_at.ensures)

pub returns-in-None : goal.returns-in-None
returns-in-None c =
    sym (ap (λ o. option_map expression_span (option_map (λ e. expression_of e.now) o)) c.in-None.is)
    ∙ ap (λ o. option_map expression_span o) c.part_at.ensures
