use Rattle.std.proofs.Common.{ap, sym, ◌∙◌}
use Rattle.hp_suspended.specs.Fitting.{base_of}
use Rattle.hp_suspended.specs.Views.{view}
use Rattle.hp_suspended.proofs.Shapes.{view_one, view_fresh, view_simple, view_search, view_conj, view_disj}
use Rattle.hp_suspended.proofs.suspended.Suspended.mark.Goals as goal

pub returns-in-One : goal.returns-in-One
returns-in-One c = let i = c.in-One in sym (ap base_of (ap view i.is ∙ view_one i.mark i.event))

pub returns-in-Fresh : goal.returns-in-Fresh
returns-in-Fresh c = let i = c.in-Fresh in sym (ap base_of (ap view i.is ∙ view_fresh i.mark i.nest i.node))

pub returns-in-Simple : goal.returns-in-Simple
returns-in-Simple c = let i = c.in-Simple in sym (ap base_of (ap view i.is ∙ view_simple i.atom))

pub returns-in-Search : goal.returns-in-Search
returns-in-Search c =
    let i = c.in-Search in
    sym (ap base_of (ap view i.is ∙ view_search i.mark i.nest i.goal i.at i.rule i.running))

pub returns-in-Conj : goal.returns-in-Conj
returns-in-Conj c =
    let i = c.in-Conj in
    sym (ap base_of (ap view i.is ∙ view_conj i.mark i.nest i.next i.end i.outer i.here))

pub returns-in-Disj : goal.returns-in-Disj
returns-in-Disj c =
    let i = c.in-Disj in
    sym (ap base_of (ap view i.is ∙ view_disj i.mark i.nest i.next i.end i.here))
