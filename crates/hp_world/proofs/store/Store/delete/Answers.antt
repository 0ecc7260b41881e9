use Rattle.std.proofs.Common.{◌<◌, not, [], ◌∷◌, ◌++◌, List, Option, ℕ, Some, None, length, set, ap, ◌∙◌, refl, sym, subst}
use Rattle.std.proofs.lemmas.List.Elements.{All-filter}
use Rattle.std.proofs.lemmas.List.{set-set, set-get_or, length-set}
use Rattle.hp_world.specs.Indexed.{Row}
use Rattle.hp_world.specs.Stages.{live_atoms, same_cell, AllBelow, PlacesKept}
use Rattle.hp_world.specs.Undoing.{IsVacant}
use Rattle.hp_world.specs.declared.store.Change.{Change}
use Rattle.hp_world.specs.declared.store.Change.TheVariants.{Deleted}
use Rattle.hp_world.specs.declared.part_index.Step.TheVariants.{Out}
use Rattle.hp_world.specs.Keyed.{Learns, Nothing, Steps}
use Rattle.hp_world.proofs.LearningLemmas.{learns_out, learns_same}
use Rattle.hp_world.proofs.SoundLemmas.{AllFollow, out_allowed, all_deleted}
use Rattle.hp_world.proofs.ZipLemmas.{zip_where, zip_same}
use Rattle.hp_world.proofs.StageLemmas.{without_absent, live_cleared, kept_cleared}
use Rattle.hp_world.proofs.UndoingLemmas.{moved, vacated, same_stage}
use Rattle.hp_world.proofs.store.Store.delete.Goals as goal

pub clear-requires : goal.clear-requires
clear-requires c = c.in-Some.ensures.stands

pub returns-in-Some-clause-atoms : goal.returns-in-Some-clause-atoms
returns-in-Some-clause-atoms c =
    ap (λ (r : Row). live_atoms r.places) c.clear.ensures.cleared
    ∙ live_cleared c.args.atom c.args.self.now.places.places c.in-Some.place c.in-Some.ensures

pub returns-in-Some-clause-places : goal.returns-in-Some-clause-places
returns-in-Some-clause-places c =
    ap (λ (r : Row). length r.places) c.clear.ensures.cleared
    ∙ length-set c.args.self.now.places.places c.in-Some.place None

pub returns-in-Some-clause-moves : goal.returns-in-Some-clause-moves
returns-in-Some-clause-moves c =
    let s = c.args.self.now in
    let ps : List (Option ℕ) = c.args.self.now.places.places in
    let i = c.in-Some.place in
    let a = c.args.atom in
    let stands = c.in-Some.ensures.stands in
    let places = ap (λ (r : Row). r.places) c.clear.ensures.cleared in
    let back =
    ap (λ (xs : List (Option ℕ)). set xs i (Some a)) places ∙ set-set ps i None (Some a)
    ∙ ap (λ (x : Option ℕ). set ps i x) (sym stands) ∙ set-get_or ps i None in
    let width = ap (λ (r : Row). r.width) c.clear.ensures.cleared in
    let vacant = vacated c.args.self.now.places.width ps i a c.in-Some.ensures c.clear.ensures.within in
    let fits =
    subst (λ w. IsVacant w c.clear.new.self.places i a) (sym width)
    (subst (λ (xs : List (Option ℕ)). IsVacant c.args.self.now.places.width xs i a) (sym places) vacant) in
    let kept = subst (PlacesKept ps) (sym places) (kept_cleared ps i) in
    let atoms = ap (λ (r : Row). live_atoms r.places) c.clear.ensures.cleared
    ∙ live_cleared a ps i c.in-Some.ensures in
    moved _ _ (Deleted i a) [] c.requires.sound c.push_reserved.ensures.items (same_stage _ _ _ _ back refl) kept
    (λ k l h. subst (AllBelow k) (sym atoms) (All-filter (λ x. not (same_cell x a)) (λ x. x < k) (live_atoms ps) h))
    fits c.push_reserved.ensures.len c.push_reserved.ensures.capacity refl
    (ap (λ (r : Row). r.room) c.clear.ensures.cleared) width
    (subst (λ (ts : List Change). AllFollow (record { places = c.clear.new.self.places; guards = s.guards.items }) ts
    c.follow_all.new.indexes.items) (sym c.push_reserved.ensures.items)
    (subst (λ (xs : List (Option ℕ)). AllFollow (record { places = xs; guards = s.guards.items })
    (s.trail.items ++ Deleted i a ∷ []) c.follow_all.new.indexes.items) (sym places)
    (all_deleted s c.requires.sound c.follow_all.new.indexes.items i a stands c.follow_all.ensures)))

pub follow_all-requires : goal.follow_all-requires
follow_all-requires c =
    out_allowed c.args.self.now c.requires.sound [] c.in-Some.place c.args.atom c.in-Some.ensures.stands

pub returns-in-Some-clause-parts : goal.returns-in-Some-clause-parts
returns-in-Some-clause-parts c =
    zip_where (λ p. Unit {0}) (Steps (Out c.in-Some.place)) (Learns Nothing [] 0)
    (λ p q h step. learns_out c.in-Some.place p q step) c.args.self.now.parts.items c.follow_all.new.indexes.items
    (λ k d l. tt) c.follow_all.ensures

pub returns-in_default-clause-parts : goal.returns-in_default-clause-parts
returns-in_default-clause-parts c = zip_same (Learns Nothing [] 0)
    (learns_same Nothing [] 0) c.args.self.now.parts.items _ refl

pub returns-in_default-clause-atoms : goal.returns-in_default-clause-atoms
returns-in_default-clause-atoms c = sym (without_absent c.args.atom c.args.self.now.places.places c.in_default.ensures)
