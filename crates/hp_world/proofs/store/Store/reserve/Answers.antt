use Rattle.std.proofs.Common.{vec_capacity, arith}
use Rattle.hp_world.specs.Undoing.{stage_of}
use Rattle.hp_world.proofs.UndoingLemmas.{undoable_more}
use Rattle.hp_world.proofs.store.Store.reserve.Goals as goal

pub returns-in_err-reserve-2-clause-sound : goal.returns-in_err-reserve-2-clause-sound
returns-in_err-reserve-2-clause-sound c =
    let s = c.args.self.now in
    let h =
    undoable_more s.places.width s.places.width (vec_capacity s.guards) (vec_capacity c.reserve-2.new.self)
    (omega arith) c.reserve-2.ensures.capacity s.trail.items (stage_of s) c.requires.sound.undoable in
    record {
      undoable = rw (c.reserve.ensures.items, c.reserve-2.ensures.items) h;
      followed = rw (c.reserve.ensures.items, c.reserve-2.ensures.items) c.requires.sound.followed;
    }

pub returns-clause-sound : goal.returns-clause-sound
returns-clause-sound c =
    let s = c.args.self.now in
    let h =
    undoable_more s.places.width c.reserve-3.new.self.width (vec_capacity s.guards) (vec_capacity c.reserve-2.new.self)
    c.reserve-3.ensures.wider c.reserve-2.ensures.capacity s.trail.items (stage_of s) c.requires.sound.undoable in
    record {
      undoable = rw (c.reserve.ensures.items, c.reserve-2.ensures.items, c.reserve-3.ensures.places) h;
      followed =
          rw (c.reserve.ensures.items, c.reserve-2.ensures.items, c.reserve-3.ensures.places) c.requires.sound.followed;
    }
