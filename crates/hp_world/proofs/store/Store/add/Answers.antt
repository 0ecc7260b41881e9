use Rattle.std.proofs.Common.{◌<◌, ◌∷◌, ◌++◌, [], cond, List, Option, ℕ, Some, length, ap, ◌∙◌, refl, sym, subst, arith}
use Rattle.std.proofs.lemmas.List.{length_push}
use Rattle.std.proofs.lemmas.List.Elements.{All-append}
use Rattle.hp_world.specs.Indexed.{Row, IsAbsent}
use Rattle.hp_world.specs.Stages.{live_atoms, AllBelow, PlacesKept}
use Rattle.hp_world.specs.Undoing.{all_but_last, stage_of, IsFollowed}
use Rattle.hp_world.specs.declared.store.Change.{Change}
use Rattle.hp_world.specs.declared.part_index.Step.TheVariants.{More}
use Rattle.hp_world.specs.Keyed.{Learns, RightAt, Steps}
use Rattle.hp_world.specs.declared.store.Change.TheVariants.{Added}
use Rattle.hp_world.proofs.StageLemmas.{absent_from, present_from, among_absent, live_pushed, kept_joined}
use Rattle.hp_world.proofs.LearningLemmas.{learns_more, learns_same}
use Rattle.hp_world.proofs.SoundLemmas.{AllFollow, all_added}
use Rattle.hp_world.proofs.ZipLemmas.{zip_where, zip_same}
use Rattle.hp_world.proofs.UndoingLemmas.{moved, all_but_last_pushed, same_stage}
use Rattle.hp_world.proofs.store.Store.add.Goals as goal

pub push-requires-clause-absent : goal.push-requires-clause-absent
push-requires-clause-absent c =
    absent_from _ c.args.atom c.args.self.now.places.places c.if-is_none.ensures c.place_of.ensures

pub returns-then-is_none-clause-atoms : goal.returns-then-is_none-clause-atoms
returns-then-is_none-clause-atoms c =
    let ps : List (Option ℕ) = c.args.self.now.places.places in
    let a = c.args.atom in
    let gone : IsAbsent a ps = absent_from _ a ps c.if-is_none.ensures c.place_of.ensures in
    ap (λ (r : Row). live_atoms r.places) c.push.ensures ∙ live_pushed ps a
    ∙ sym (ap (λ b. cond b (live_atoms ps) (live_atoms ps ++ a ∷ [])) (among_absent a ps gone))

pub returns-then-is_none-clause-places : goal.returns-then-is_none-clause-places
returns-then-is_none-clause-places c =
    let places = ap (λ (r : Row). length r.places) c.push.ensures in
    omega (arith, places, length_push c.args.self.now.places.places (Some c.args.atom))

pub returns-then-is_none-clause-moves : goal.returns-then-is_none-clause-moves
returns-then-is_none-clause-moves c =
    let s = c.args.self.now in
    let ps : List (Option ℕ) = c.args.self.now.places.places in
    let back = ap (λ (r : Row). all_but_last r.places) c.push.ensures ∙ all_but_last_pushed ps (Some c.args.atom) in
    let kept = subst (PlacesKept ps) (sym (ap (λ (r : Row). r.places) c.push.ensures)) (kept_joined ps _) in
    let atoms = ap (λ (r : Row). live_atoms r.places) c.push.ensures ∙ live_pushed ps c.args.atom in
    moved _ _ Added (c.args.atom ∷ []) c.requires.sound c.push_reserved.ensures.items
    (same_stage _ _ _ _ back refl) kept
    (λ k l h. subst (AllBelow k) (sym atoms) (All-append (λ x. x < k) (live_atoms ps) (c.args.atom ∷ []) h l)) tt
    c.push_reserved.ensures.len c.push_reserved.ensures.capacity refl (ap (λ (r : Row). r.room) c.push.ensures)
    (ap (λ (r : Row). r.width) c.push.ensures)
    (subst (λ (ts : List Change). AllFollow (record { places = c.push.new.self.places; guards = s.guards.items }) ts
    c.follow_all.new.indexes.items) (sym c.push_reserved.ensures.items)
    (subst (λ (xs : List (Option ℕ)). AllFollow (record { places = xs; guards = s.guards.items })
    (s.trail.items ++ Added ∷ []) c.follow_all.new.indexes.items) (sym (ap (λ (r : Row). r.places) c.push.ensures))
    (all_added s c.requires.sound c.follow_all.new.indexes.items c.args.atom c.args.number c.requires.allowed
    c.follow_all.ensures)))

pub returns-then-is_none-clause-parts : goal.returns-then-is_none-clause-parts
returns-then-is_none-clause-parts c =
    let a = c.args.atom in
    let n = c.args.number in
    zip_where (IsFollowed (stage_of c.args.self.now) c.args.self.now.trail.items) (Steps (More a n))
    (Learns (RightAt a n) (a ∷ []) 1) (λ p q f step. learns_more a n p q (f.now.aligned ∙ sym f.now.count) step)
    c.args.self.now.parts.items c.follow_all.new.indexes.items c.requires.sound.followed c.follow_all.ensures

pub returns-else-is_none-clause-parts : goal.returns-else-is_none-clause-parts
returns-else-is_none-clause-parts c =
    let right = RightAt c.args.atom c.args.number in
    let added = c.args.atom ∷ [] in
    zip_same (Learns right added 1) (learns_same right added 1) c.args.self.now.parts.items _ refl

pub returns-else-is_none-clause-atoms : goal.returns-else-is_none-clause-atoms
returns-else-is_none-clause-atoms c =
    let ps : List (Option ℕ) = c.args.self.now.places.places in
    let here = present_from _ c.args.atom ps c.if-is_none.ensures c.place_of.ensures in
    sym (ap (λ b. cond b (live_atoms ps) (live_atoms ps ++ c.args.atom ∷ [])) here)
