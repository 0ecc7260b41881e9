use Rattle.std.proofs.Common.{List, [], ap, ◌∙◌, refl, sym, subst}
use Rattle.hp_world.specs.declared.store.Change.{Change}
use Rattle.hp_world.specs.declared.store.Change.TheVariants.{Protected}
use Rattle.hp_world.specs.Undoing.{all_but_last}
use Rattle.hp_world.proofs.StageLemmas.{kept_same}
use Rattle.hp_world.specs.Stages.{Stage}
use Rattle.hp_world.proofs.SoundLemmas.{AllFollow, all_same}
use Rattle.hp_world.proofs.UndoingLemmas.{moved, all_but_last_pushed, same_stage}
use Rattle.hp_world.proofs.store.Store.protect.Goals as goal

pub returns-clause-moves : goal.returns-clause-moves
returns-clause-moves c =
    let s = c.args.self.now in
    let after : Stage = record { places = s.places.places; guards = c.push_reserved.new.self.items } in
    let back = ap all_but_last c.push_reserved.ensures.items
    ∙ all_but_last_pushed c.args.self.now.guards.items c.args.atom in
    moved _ _ Protected [] c.requires.sound c.push_reserved-2.ensures.items (same_stage _ _ _ _ refl back)
    (kept_same _ _ refl) (λ k l h. h) tt c.push_reserved-2.ensures.len c.push_reserved-2.ensures.capacity
    c.push_reserved.ensures.capacity refl refl
    (subst (λ (ts : List Change). AllFollow after ts s.parts.items) (sym c.push_reserved-2.ensures.items)
    (all_same s c.requires.sound [] Protected after refl (same_stage _ _ _ _ refl back) (λ p. tt)))
