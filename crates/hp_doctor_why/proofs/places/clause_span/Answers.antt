use Rattle.std.proofs.Common.{Some, ap, refl, sym, ◌∙◌}
use Rattle.std.specs.Prelude.{option_map}
use Rattle.hp_syntax.specs.Syntax.{Clause}
use Rattle.hp_syntax.specs.Views.{clause_of}
use Rattle.hp_lint.specs.Branches.{expression_span}
use Rattle.hp_lint.proofs.BranchLemmas.{expression_span-of}
use Rattle.hp_unmet.proofs.LookUps.{missing, there}
use Rattle.hp_doctor_why.proofs.places.clause_span.Goals as goal

pub returns-in-Some : goal.returns-in-Some
returns-in-Some c =
    let at = c.in-Some.ensures.lookup in
    ap Some (sym (expression_span-of c.in-Some.clause.now.body))
    ∙ sym (ap (option_map (λ (x : Clause). expression_span x.body))
    (there clause_of _ _ c.args.branch refl c.in-Some.clause.now at.3.0 at.1))

pub returns-in-None : goal.returns-in-None
returns-in-None c =
    sym (ap (option_map (λ (x : Clause). expression_span x.body))
    (missing clause_of _ _ c.args.branch refl c.in-None.ensures.lookup.3))
