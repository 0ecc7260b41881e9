use Rattle.std.proofs.Common.{◌≡◌, ◌-◌, [], subst, sym, true, is_ok, cond, take, vec_capacity, ap, ◌∙◌, arith, refl}
use Rattle.std.specs.List.{insert}
use Rattle.hp_world.specs.declared.store.Change.TheVariants.{Deleted, Added, Cancelled, Protected}
use Rattle.hp_world.specs.declared.part_index.Step.TheVariants.{Back, Fewer}
use Rattle.hp_world.specs.Keyed.{Learns, Nothing, Steps}
use Rattle.hp_world.specs.Stages.{Stage}
use Rattle.hp_world.specs.Indexed.{Row}
use Rattle.hp_world.specs.Undoing.{all_but_last, stage_of}
use Rattle.hp_world.proofs.LearningLemmas.{learns_back, learns_fewer, learns_same}
use Rattle.hp_world.proofs.SoundLemmas.{AllFollow, all_before, all_restored, all_fewer, back_allowed}
use Rattle.hp_world.proofs.ZipLemmas.{zip_where, zip_same}
use Rattle.hp_world.proofs.UndoingLemmas.{last_fits, taken_back, same_stage}
use Rattle.hp_world.proofs.store.Store.undo_last.Goals as goal

pub put_back-requires : goal.put_back-requires
put_back-requires c =
    let s = c.args.self.now in
    let vacant =
    last_fits s.places.width (vec_capacity s.guards) s.trail.items _ (Deleted c.in-Deleted.place c.in-Deleted.atom)
    (stage_of s) c.requires.sound.undoable c.in-Deleted.ensures.items in
    record { place = vacant.place; empty = vacant.empty; absent = vacant.absent; within = vacant.within }

pub insert-requires : goal.insert-requires
insert-requires c =
    let s = c.args.self.now in
    let fits =
    last_fits s.places.width (vec_capacity s.guards) s.trail.items _
    (Cancelled c.in-Cancelled.index c.in-Cancelled.atom) (stage_of s) c.requires.sound.undoable
    c.in-Cancelled.ensures.items in
    omega (arith, fits, s.guards.ok.0)

pub unwrap-requires : goal.unwrap-requires
unwrap-requires c =
    let s = c.args.self.now in
    let fits =
    last_fits s.places.width (vec_capacity s.guards) s.trail.items _
    (Cancelled c.in-Cancelled.index c.in-Cancelled.atom) (stage_of s) c.requires.sound.undoable
    c.in-Cancelled.ensures.items in
    c.insert.ensures.succeeds (omega (arith, fits, s.guards.ok.0))

pub returns-in-Deleted-clause-undoes : goal.returns-in-Deleted-clause-undoes
returns-in-Deleted-clause-undoes c =
    let s = c.args.self.now in
    let width = ap (λ (r : Row). r.width) c.put_back.ensures in
    let places = ap (λ (r : Row). r.places) c.put_back.ensures in
    taken_back _ _ (Deleted c.in-Deleted.place c.in-Deleted.atom) c.requires.sound c.in-Deleted.ensures.items
    c.in-Deleted.ensures.len (same_stage _ _ _ _ places refl) (omega (arith, width)) (omega arith)
    (subst (λ (q : Stage). AllFollow q c.take_last.new.self.items c.follow_all.new.indexes.items)
    (sym (same_stage _ _ _ _ places refl))
    (all_restored s c.requires.sound c.take_last.new.self.items c.follow_all.new.indexes.items
    c.in-Deleted.place c.in-Deleted.atom c.in-Deleted.ensures.items c.follow_all.ensures))

pub returns-in-Added-clause-undoes : goal.returns-in-Added-clause-undoes
returns-in-Added-clause-undoes c =
    let s = c.args.self.now in
    let width = ap (λ (r : Row). r.width) c.pop.ensures in
    let places = ap (λ (r : Row). r.places) c.pop.ensures in
    taken_back _ _ Added c.requires.sound c.in-Added.ensures.items
    c.in-Added.ensures.len (same_stage _ _ _ _ places refl) (omega (arith, width)) (omega arith)
    (subst (λ (q : Stage). AllFollow q c.take_last.new.self.items c.follow_all-in-Added.new.indexes.items)
    (sym (same_stage _ _ _ _ places refl))
    (all_fewer s c.requires.sound c.take_last.new.self.items c.follow_all-in-Added.new.indexes.items
    c.in-Added.ensures.items c.follow_all-in-Added.ensures))

pub returns-in-Cancelled-clause-undoes : goal.returns-in-Cancelled-clause-undoes
returns-in-Cancelled-clause-undoes c =
    let s = c.args.self.now in
    let i = c.in-Cancelled.index in
    let a = c.in-Cancelled.atom in
    let fits =
    last_fits s.places.width (vec_capacity s.guards) s.trail.items _
    (Cancelled i a) (stage_of s) c.requires.sound.undoable c.in-Cancelled.ensures.items in
    let done : is_ok c.insert.result ≡ true = c.insert.ensures.succeeds (omega (arith, fits, s.guards.ok.0)) in
    let put : c.insert.new.self.items ≡ insert s.guards.items i a =
    c.insert.ensures.items ∙ ap (λ b. cond b (insert s.guards.items i a) s.guards.items) done in
    taken_back _ _ (Cancelled i a) c.requires.sound c.in-Cancelled.ensures.items
    c.in-Cancelled.ensures.len (same_stage _ _ _ _ refl put) (omega arith) c.insert.ensures.capacity
    (subst (λ (q : Stage). AllFollow q c.take_last.new.self.items s.parts.items) (sym (same_stage _ _ _ _ refl put))
    (all_before s c.requires.sound c.take_last.new.self.items (Cancelled i a) c.in-Cancelled.ensures.items refl))

pub returns-in-Protected-clause-undoes : goal.returns-in-Protected-clause-undoes
returns-in-Protected-clause-undoes c =
    let s = c.args.self.now in
    let short : c.pop-in-Protected.new.self.items ≡ all_but_last s.guards.items =
    c.pop-in-Protected.ensures.rest ∙ ap (λ n. take (n - 1) s.guards.items) s.guards.ok.0 in
    taken_back _ _ Protected c.requires.sound c.in-Protected.ensures.items
    c.in-Protected.ensures.len (same_stage _ _ _ _ refl short) (omega arith)
    (omega (arith, c.pop-in-Protected.ensures.capacity))
    (subst (λ (q : Stage). AllFollow q c.take_last.new.self.items s.parts.items) (sym (same_stage _ _ _ _ refl short))
    (all_before s c.requires.sound c.take_last.new.self.items Protected c.in-Protected.ensures.items refl))

pub follow_all-requires : goal.follow_all-requires
follow_all-requires c =
    back_allowed c.args.self.now c.requires.sound c.take_last.new.self.items [] c.in-Deleted.place c.in-Deleted.atom
    c.in-Deleted.ensures.items

pub returns-in-Deleted-clause-parts : goal.returns-in-Deleted-clause-parts
returns-in-Deleted-clause-parts c =
    zip_where (λ p. Unit {0}) (Steps (Back c.in-Deleted.place)) (Learns Nothing [] 0)
    (λ p q h step. learns_back c.in-Deleted.place p q step) c.args.self.now.parts.items _ (λ k d l. tt)
    c.follow_all.ensures

pub returns-in-Added-clause-parts : goal.returns-in-Added-clause-parts
returns-in-Added-clause-parts c =
    zip_where (λ p. Unit {0}) (Steps Fewer) (Learns Nothing [] 0) (λ p q h step. learns_fewer p q step)
    c.args.self.now.parts.items _ (λ k d l. tt) c.follow_all-in-Added.ensures

pub returns-in-Cancelled-clause-parts : goal.returns-in-Cancelled-clause-parts
returns-in-Cancelled-clause-parts c =
    zip_same (Learns Nothing [] 0) (learns_same Nothing [] 0) c.args.self.now.parts.items _ refl

pub returns-in-Protected-clause-parts : goal.returns-in-Protected-clause-parts
returns-in-Protected-clause-parts c =
    zip_same (Learns Nothing [] 0) (learns_same Nothing [] 0) c.args.self.now.parts.items _ refl
