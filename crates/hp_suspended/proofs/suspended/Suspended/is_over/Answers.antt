use Rattle.std.proofs.Common.{ap, sym, ◌∙◌}
use Rattle.hp_suspended.specs.Answering.{is_over}
use Rattle.hp_suspended.specs.Views.{One, view}
use Rattle.hp_suspended.proofs.Stacks.{other_event}
use Rattle.hp_suspended.proofs.Shapes.{view_one, view_fresh, view_simple, view_search, view_conj, view_disj}
use Rattle.hp_suspended.proofs.suspended.Suspended.is_over.Goals as goal

pub returns-in-Fresh : goal.returns-in-Fresh
returns-in-Fresh c =
    let i = c.in-Fresh in
    sym (ap (is_over c.args.mark) (ap view i.is ∙ view_fresh i.mark i.nest i.node))

pub returns-in-Simple : goal.returns-in-Simple
returns-in-Simple c =
    let i = c.in-Simple in sym (ap (is_over c.args.mark) (ap view i.is ∙ view_simple i.field-0))

pub returns-in-Search : goal.returns-in-Search
returns-in-Search c =
    let i = c.in-Search in
    sym (ap (is_over c.args.mark) (ap view i.is ∙ view_search i.mark i.nest i.goal i.at i.rule i.running))

pub returns-in-Conj : goal.returns-in-Conj
returns-in-Conj c =
    let i = c.in-Conj in
    sym (ap (is_over c.args.mark) (ap view i.is ∙ view_conj i.mark i.nest i.next i.end i.outer i.here))

pub returns-in-Disj : goal.returns-in-Disj
returns-in-Disj c =
    let i = c.in-Disj in
    sym (ap (is_over c.args.mark) (ap view i.is ∙ view_disj i.mark i.nest i.next i.end i.here))

pub returns-in-End : goal.returns-in-End
returns-in-End c =
    let i = c.in-One in
    sym (ap (is_over c.args.mark) (ap view i.is ∙ view_one i.start i.event ∙ ap (One i.start) c.in-End.is))

pub returns-in_default : goal.returns-in_default
returns-in_default c =
    let i = c.in-One in
    sym (ap (is_over c.args.mark) (ap view i.is ∙ view_one i.start i.event)
    ∙ other_event c.args.mark i.start i.event c.in_default.not-End)
