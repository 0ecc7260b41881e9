use Rattle.hp_world.proofs.SoundLemmas.{all_roomier}
use Rattle.hp_world.proofs.store.Store.prepare.Goals as goal

pub returns-clause-sound : goal.returns-clause-sound
returns-clause-sound c = record {
  undoable = c.requires.sound.undoable;
  followed =
      all_roomier c.args.self.now c.requires.sound c.prepare_all.new.indexes.items c.prepare_all.ensures.same;
}
