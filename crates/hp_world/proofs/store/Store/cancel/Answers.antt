use Rattle.std.proofs.Common.{◌≡◌, ◌+◌, [], List, ℕ, length, ap, ◌∙◌, refl, sym, subst, arith}
use Rattle.std.proofs.lemmas.List.{get_or_default}
use Rattle.std.proofs.lemmas.List.Edits.{length-remove}
use Rattle.std.specs.List.{insert}
use Rattle.hp_world.specs.Deleting.{IsFirstAt}
use Rattle.hp_world.specs.declared.store.Change.{Change}
use Rattle.hp_world.specs.declared.store.Change.TheVariants.{Cancelled}
use Rattle.hp_world.proofs.StageLemmas.{kept_same}
use Rattle.hp_world.proofs.DeletingLemmas.{without_first_absent, without_first_at, put_back}
use Rattle.hp_world.specs.Stages.{Stage}
use Rattle.hp_world.proofs.SoundLemmas.{AllFollow, all_same}
use Rattle.hp_world.proofs.UndoingLemmas.{moved, same_stage}
use Rattle.hp_world.proofs.store.Store.cancel.Goals as goal

pub returns-in-Some-clause-guards : goal.returns-in-Some-clause-guards
returns-in-Some-clause-guards c =
    let first =
    subst (λ (xs : List ℕ). IsFirstAt c.args.atom xs c.in-Some.index) c.deref.ensures.value c.in-Some.ensures in
    c.remove.ensures.items ∙ sym (without_first_at c.args.atom c.args.self.now.guards.items c.in-Some.index first)

pub returns-in-Some-clause-moves : goal.returns-in-Some-clause-moves
returns-in-Some-clause-moves c =
    let s = c.args.self.now in
    let after : Stage = record { places = s.places.places; guards = c.remove.new.self.items } in
    let guards : List ℕ = s.guards.items in
    let i = c.in-Some.index in
    let a = c.args.atom in
    let first = subst (λ (xs : List ℕ). IsFirstAt a xs i) c.deref.ensures.value c.in-Some.ensures in
    let short = length-remove guards i first.within in
    let n : length c.remove.new.self.items + 1 ≡ length guards = omega (arith, ap length c.remove.ensures.items) in
    let back =
    ap (λ (xs : List ℕ). insert xs i a) c.remove.ensures.items
    ∙ put_back guards i a first.within (get_or_default guards i a 0 first.within ∙ first.stands) in
    moved _ _ (Cancelled i a) [] c.requires.sound c.push_reserved.ensures.items (same_stage _ _ _ _ refl back)
    (kept_same _ _ refl) (λ k l h. h)
    (omega arith, omega (arith, c.remove.ensures.capacity, c.args.self.now.guards.ok.1)) c.push_reserved.ensures.len
    c.push_reserved.ensures.capacity c.remove.ensures.capacity refl refl
    (subst (λ (ts : List Change). AllFollow after ts s.parts.items) (sym c.push_reserved.ensures.items)
    (all_same s c.requires.sound [] (Cancelled i a) after refl (same_stage _ _ _ _ refl back) (λ p. tt)))

pub returns-in_default-clause-guards : goal.returns-in_default-clause-guards
returns-in_default-clause-guards c =
    let none = rw c.deref.ensures.value at c.in_default.ensures in
    sym (without_first_absent c.args.atom c.args.self.now.guards.items none)
