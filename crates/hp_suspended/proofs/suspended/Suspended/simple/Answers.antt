use Rattle.std.proofs.Common.{ap, sym, ◌∙◌, subst}
use Rattle.hp_suspended.specs.Answering.{IsBegun, IsLookedAt}
use Rattle.hp_suspended.specs.Views.{view}
use Rattle.hp_suspended.proofs.Shapes.{view_one, view_fresh, view_simple, view_search, view_conj, view_disj}
use Rattle.hp_suspended.proofs.suspended.Suspended.simple.Goals as goal

pub returns-in-Simple-clause-some : goal.returns-in-Simple-clause-some
returns-in-Simple-clause-some c = let i = c.in-Simple in ap view i.is ∙ view_simple i.atom

pub returns-in-Fresh-clause-none : goal.returns-in-Fresh-clause-none
returns-in-Fresh-clause-none c =
    let i = c.in-Fresh in
    λ looked. absurd (subst IsLookedAt (ap view i.is ∙ view_fresh i.mark i.nest i.node) looked)

pub returns-in-One-clause-none : goal.returns-in-One-clause-none
returns-in-One-clause-none c = let i = c.in-One in λ looked. subst IsBegun (sym (ap view i.is ∙ view_one i.mark i.event)) tt

pub returns-in-Search-clause-none : goal.returns-in-Search-clause-none
returns-in-Search-clause-none c =
    let i = c.in-Search in
    λ looked. subst IsBegun (sym (ap view i.is ∙ view_search i.mark i.nest i.goal i.at i.rule i.running)) tt

pub returns-in-Conj-clause-none : goal.returns-in-Conj-clause-none
returns-in-Conj-clause-none c =
    let i = c.in-Conj in
    λ looked. subst IsBegun (sym (ap view i.is ∙ view_conj i.mark i.nest i.next i.end i.outer i.here)) tt

pub returns-in-Disj-clause-none : goal.returns-in-Disj-clause-none
returns-in-Disj-clause-none c =
    let i = c.in-Disj in λ looked. subst IsBegun (sym (ap view i.is ∙ view_disj i.mark i.nest i.next i.end i.here)) tt
