use Rattle.std.proofs.Common.{Some, refl, sym, ◌∙◌}
use Rattle.hp_syntax.specs.Views.{domain_of}
use Rattle.hp_derivation.proofs.going.Going.follow_at.Goals as goal

pub returns-in_ok-fare-in-Some : goal.returns-in_ok-fare-in-Some
returns-in_ok-fare-in-Some c = λ s p st at.
    let f = c.in-Some.ensures.finds s p st at in
    (f.0, f.1, c.in_ok-fare-in-Some.ensures s f.0 st f.2)
