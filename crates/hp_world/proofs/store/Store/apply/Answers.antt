use Rattle.std.proofs.Common.{◌≡◌, ◌+◌, ◌<◌, [], ◌++◌, List, ℕ, length, refl, ap, ◌∙◌, sym, subst, arith}
use Rattle.std.specs.Global.{Vec}
use Rattle.std.specs.List.{All, AllZip}
use Rattle.std.proofs.lemmas.List.Elements.{All-nil}
use Rattle.hp_syntax.specs.Applying.{ChangesOf, cancelled, with_added, first_guarded}
use Rattle.hp_world.specs.Deleting.{deleted}
use Rattle.hp_world.specs.Histories.{History, undone_to, KeepsPasts}
use Rattle.hp_world.specs.Indexed.{Row}
use Rattle.hp_world.specs.Keyed.{Keyed, HasWaiting, Learns, Nothing, RightFor}
use Rattle.hp_world.specs.Stages.{Stage, live_atoms, same_cell, AllBelow, PlacesKept}
use Rattle.hp_world.specs.Undoing.{Moves, history_of}
use Rattle.hp_world.specs.declared.store.Store.{Store}
use Rattle.hp_world.specs.Pasts.{PastsBelow}
use Rattle.hp_world.proofs.AnswerLemmas.{deleted_is, gives_guarded, gives_done}
use Rattle.hp_world.proofs.LearningLemmas.{learns_same, learns_then, learns_weaker, waits_still}
use Rattle.hp_world.proofs.ZipLemmas.{all_zipped, zip_same, zip_twice, zip_where}
use Rattle.hp_world.proofs.StageLemmas.{kept_same}
use Rattle.hp_world.proofs.HistoryLemmas.{rewound}
use Rattle.hp_world.proofs.UndoingLemmas.{moves_more, moves_wider}
use Rattle.hp_world.proofs.store.Store.apply.Goals as goal

-- the four parts of an application add these atoms
all_moves : (added : List ℕ) (n m k j : ℕ) (p q r s t : Store) → Moves n [] p q → Moves m [] q r → Moves k added r s
    → Moves j [] s t → Moves (n + m + k + j) added p t
all_moves added n m k j p q r s t f g h i =
    let few = λ (l : ℕ) (b : AllBelow l added). All-nil (λ c. c < l) in
    moves_more _ _ added p s t
    (moves_more _ _ added p r s
    (moves_more _ _ added p q r (moves_wider n [] added p q few f) (moves_wider m [] added q r few g)) h)
    (moves_wider j [] added s t few i)

pub returns-in-Some-clause-ok : goal.returns-in-Some-clause-ok
returns-in-Some-clause-ok c =
    let old : History Stage = history_of c.args.self.now in
    let between : History Stage = history_of c.cancel_all.new.self in
    let same : history_of c.reserve.new.self ≡ old = c.in_ok-reserve.ensures.same in
    let back : history_of c.undo_to.new.self ≡ old =
    c.undo_to.ensures.back ∙ ap (λ m. undone_to m between) c.mark-before.ensures
    ∙ rewound (history_of c.reserve.new.self) between c.cancel_all.ensures.moves.keeps ∙ same in
    let guards : c.cancel_all.new.self.guards.items ≡ cancelled same_cell old.now.guards c.args.unguard.now =
    c.cancel_all.ensures.guards
    ∙ ap (λ (h : History Stage). cancelled same_cell h.now.guards c.args.unguard.now) same in
    let changes : ChangesOf ℕ = record {
      unguard = c.args.unguard.now;
      delete = c.args.del.now;
      add = c.args.add.now;
      guard = c.args.guard.now;
    } in
    gives_guarded c.in-Some.atom changes old _
    (ap (λ gs. first_guarded same_cell gs c.args.del.now) (sym guards) ∙ sym c.first_guarded.ensures ∙ c.in-Some.is)
    back

pub returns-clause-ok : goal.returns-clause-ok
returns-clause-ok c =
    let old : History Stage = history_of c.args.self.now in
    let same : history_of c.reserve.new.self ≡ old = c.in_ok-reserve.ensures.same in
    let guards : c.cancel_all.new.self.guards.items ≡ cancelled same_cell old.now.guards c.args.unguard.now =
    c.cancel_all.ensures.guards
    ∙ ap (λ (h : History Stage). cancelled same_cell h.now.guards c.args.unguard.now) same in
    let then_added : List ℕ → List ℕ = λ xs. with_added same_cell xs c.args.add.now in
    let then_changed : List ℕ → List ℕ = λ xs. then_added (deleted xs c.args.del.now) in
    let atoms : live_atoms c.protect_all.new.self.places.places ≡ then_changed (live_atoms old.now.places) =
    ap (λ (r : Row). live_atoms r.places) c.protect_all.ensures.places
    ∙ c.add_all.ensures.atoms ∙ ap then_added c.delete_all.ensures.atoms
    ∙ ap (λ (r : Row). then_changed (live_atoms r.places)) c.cancel_all.ensures.places
    ∙ ap (λ (h : History Stage). then_changed (live_atoms h.now.places)) same in
    let kept : c.add_all.new.self.guards ≡ c.cancel_all.new.self.guards =
    c.add_all.ensures.guards ∙ c.delete_all.ensures.guards in
    let then_guarded : List ℕ → List ℕ = λ xs. xs ++ c.args.guard.now in
    let now : c.protect_all.new.self.guards.items
    ≡ then_guarded (cancelled same_cell old.now.guards c.args.unguard.now) =
    c.protect_all.ensures.guards ∙ ap (λ (gs : Vec ℕ). then_guarded gs.items) kept ∙ ap then_guarded guards in
    let moves =
    all_moves c.args.add.now _ _ _ _ _ _ _ _ _ c.cancel_all.ensures.moves c.delete_all.ensures.moves
    c.add_all.ensures.moves c.protect_all.ensures.moves in
    let changes : ChangesOf ℕ = record {
      unguard = c.args.unguard.now;
      delete = c.args.del.now;
      add = c.args.add.now;
      guard = c.args.guard.now;
    } in
    gives_done changes old _
    (ap (λ gs. first_guarded same_cell gs c.args.del.now) (sym guards) ∙ sym c.first_guarded.ensures ∙ c.in_default.is)
    (atoms ∙ ap then_added (deleted_is (live_atoms old.now.places) c.args.del.now)) now
    (subst (λ (h : History Stage). KeepsPasts h (history_of c.protect_all.new.self)) same moves.keeps)

pub returns-in_err-changes-clause-kept : goal.returns-in_err-changes-clause-kept
returns-in_err-changes-clause-kept c = kept_same _ _ refl

pub returns-in_err-reserve-clause-kept : goal.returns-in_err-reserve-clause-kept
returns-in_err-reserve-clause-kept c = kept_same _ _ (ap (λ (h : History Stage). h.now.places) c.reserve.ensures.same)

pub returns-in-Some-clause-kept : goal.returns-in-Some-clause-kept
returns-in-Some-clause-kept c =
    let between : History Stage = history_of c.cancel_all.new.self in
    kept_same _ _ (ap (λ (h : History Stage). h.now.places) (c.undo_to.ensures.back
    ∙ ap (λ m. undone_to m between) c.mark-before.ensures
    ∙ rewound (history_of c.reserve.new.self) between c.cancel_all.ensures.moves.keeps ∙ c.in_ok-reserve.ensures.same))

pub returns-clause-kept : goal.returns-clause-kept
returns-clause-kept c =
    let moves =
    all_moves c.args.add.now _ _ _ _ _ _ _ _ _ c.cancel_all.ensures.moves c.delete_all.ensures.moves
    c.add_all.ensures.moves c.protect_all.ensures.moves in
    subst (λ (h : History Stage). PlacesKept h.now.places c.protect_all.new.self.places.places)
    c.in_ok-reserve.ensures.same
    moves.kept

pub returns-in_err-changes-clause-parts : goal.returns-in_err-changes-clause-parts
returns-in_err-changes-clause-parts c =
    let right = RightFor c.args.add.now in
    zip_same (Learns right c.args.add.now _) (learns_same right c.args.add.now _) c.args.self.now.parts.items _ refl

pub returns-in_err-reserve-clause-parts : goal.returns-in_err-reserve-clause-parts
returns-in_err-reserve-clause-parts c =
    let right = RightFor c.args.add.now in
    zip_same (Learns right c.args.add.now _) (learns_same right c.args.add.now _) c.args.self.now.parts.items
    c.reserve.new.self.parts.items
    (ap (λ (v : Vec Keyed). v.items) c.reserve.ensures.parts)

-- the indexes are those before the cancelling
cancelled_parts : (old reserved cancelled : Vec Keyed) → reserved ≡ old → cancelled ≡ reserved
    → cancelled.items ≡ old.items
cancelled_parts old reserved cancelled e f = ap (λ (v : Vec Keyed). v.items) (f ∙ e)

pub returns-in-Some-clause-parts : goal.returns-in-Some-clause-parts
returns-in-Some-clause-parts c =
    let add : List ℕ = c.args.add.now in
    let same = cancelled_parts _ _ _ c.reserve.ensures.parts c.cancel_all.ensures.parts in
    subst (λ (ps : List Keyed). AllZip (Learns (RightFor add) add (length add)) ps c.undo_to.new.self.parts.items) same
    (zip_where (λ p. Unit {0}) (Learns Nothing [] 0) (Learns (RightFor add) add (length add))
    (λ p q h f. learns_weaker (RightFor add) add (length add) p q f) c.cancel_all.new.self.parts.items
    c.undo_to.new.self.parts.items (λ k d l. tt) c.undo_to.ensures.parts)

pub add_all-requires-clause-waits : goal.add_all-requires-clause-waits
add_all-requires-clause-waits c =
    let add : List ℕ = c.args.add.now in
    let same = cancelled_parts _ _ _ c.reserve.ensures.parts c.cancel_all.ensures.parts in
    all_zipped (HasWaiting (length add) (length add)) (HasWaiting (length add) (length add)) (Learns Nothing [] 0)
    (λ p q h f. waits_still Nothing [] (length add) (length add) (length add) 0 (omega arith) p q h f)
    c.cancel_all.new.self.parts.items c.delete_all.new.self.parts.items
    (subst (λ (ps : List Keyed). All (HasWaiting (length add) (length add)) ps) (sym same) c.requires.waits)
    c.delete_all.ensures.parts

pub returns-clause-parts : goal.returns-clause-parts
returns-clause-parts c =
    let add : List ℕ = c.args.add.now in
    let same = cancelled_parts _ _ _ c.reserve.ensures.parts c.cancel_all.ensures.parts in
    let learns = Learns (RightFor add) add (length add) in
    let all : AllZip learns c.cancel_all.new.self.parts.items c.add_all.new.self.parts.items =
    zip_twice (Learns Nothing [] 0) learns learns (λ p q r f g. learns_then add (length add) p q r f g)
    c.cancel_all.new.self.parts.items c.delete_all.new.self.parts.items c.add_all.new.self.parts.items
    c.delete_all.ensures.parts c.add_all.ensures.parts in
    subst (λ (ps : List Keyed). AllZip learns ps c.protect_all.new.self.parts.items) same
    (subst (λ (v : Vec Keyed). AllZip learns c.cancel_all.new.self.parts.items v.items)
    (sym c.protect_all.ensures.parts) all)

pub returns-in_err-reserve-clause-pasts : goal.returns-in_err-reserve-clause-pasts
returns-in_err-reserve-clause-pasts c = λ n l h. subst (PastsBelow n) (sym c.reserve.ensures.same) h

pub returns-in-Some-clause-pasts : goal.returns-in-Some-clause-pasts
returns-in-Some-clause-pasts c = λ n l h.
    let between : History Stage = history_of c.cancel_all.new.self in
    let back : history_of c.undo_to.new.self ≡ history_of c.args.self.now =
    c.undo_to.ensures.back ∙ ap (λ m. undone_to m between) c.mark-before.ensures
    ∙ rewound (history_of c.reserve.new.self) between c.cancel_all.ensures.moves.keeps ∙ c.in_ok-reserve.ensures.same in
    subst (PastsBelow n) (sym back) h

pub returns-clause-pasts : goal.returns-clause-pasts
returns-clause-pasts c = λ n l h.
    let moves =
    all_moves c.args.add.now _ _ _ _ _ _ _ _ _ c.cancel_all.ensures.moves c.delete_all.ensures.moves
    c.add_all.ensures.moves c.protect_all.ensures.moves in
    moves.below n l (subst (PastsBelow n) (sym c.in_ok-reserve.ensures.same) h)
