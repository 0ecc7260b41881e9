use Rattle.std.proofs.Common.{sym, subst, length}
use Rattle.std.specs.List.{All}
use Rattle.hp_pick.specs.Noted.{IsNoted}
use Rattle.hp_pick.proofs.NotedLemmas.{noted_more}
use Rattle.hp_pick.proofs.noted.note_sat.Goals as goal

pub returns-clause-noted : goal.returns-clause-noted
returns-clause-noted c = λ start above noted.
    let count = length c.args.cells.now in
    subst (All (IsNoted count start)) (sym c.in_ok-push.ensures.items)
    (noted_more count start c.args.slots.now c.args.notes.now.sats.items
    _ above c.requires.below
    c.in_ok-values.ensures.copy c.in_ok-values.ensures.few noted)
