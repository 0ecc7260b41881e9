use Rattle.hp_links.specs.Undoing.{stage_of}
use Rattle.hp_links.proofs.TrailSteps.{last_fits, taken_back}
use Rattle.hp_links.proofs.store.Store.undo_last.Goals as goal

pub put_back-requires : goal.put_back-requires
put_back-requires c =
    let s = c.args.self.now in
    let fits =
    last_fits s.trail.items _ c.take_last-change.result (stage_of s) c.requires.sound c.take_last-change.ensures.items in
    record { owner = fits.owner; place = fits.place; turn = fits.turn }

pub returns : goal.returns
returns c =
    taken_back _ _ c.take_last-change.result c.requires.sound c.take_last-change.ensures.items
    c.take_last-change.ensures.len cc
