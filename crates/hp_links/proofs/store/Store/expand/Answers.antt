use Rattle.std.proofs.Common.{◌≡◌, ℕ, List, [], ◌∷◌, ◌++◌, None, Some, refl, sym, ap, subst, ◌∙◌, arith, zero, suc, ◌≤◌, length}
use Rattle.std.specs.List.{All}
use Rattle.std.proofs.lemmas.List.Elements.{All-nil}
use Rattle.std.proofs.lemmas.Result.{on_ok_weaker}
use Rattle.hp_links.specs.declared.undo.Change.{Change}
use Rattle.hp_links.specs.Entries.{EntryBelow}
use Rattle.hp_links.specs.Labelled.{Gone}
use Rattle.hp_links.specs.Linked.{Linked, PartBelow}
use Rattle.hp_links.specs.Placed.{Expands}
use Rattle.hp_links.specs.Pushed.{kept, Adds}
use Rattle.hp_links.specs.Undoing.{stage_of}
use Rattle.hp_links.proofs.EntryLemmas.{kept_closed, kept_many, kept_none, kept_one}
use Rattle.hp_links.proofs.NumberLemmas.{contains_nothing}
use Rattle.hp_links.proofs.PushedLemmas.{one_or_none}
use Rattle.hp_links.proofs.TrailSteps.{stage_now, noted_step}
use Rattle.hp_links.proofs.store.Store.expand.Goals as goal

pub returns-then-many-eq0-clause-net : goal.returns-then-many-eq0-clause-net
returns-then-many-eq0-clause-net c =
    let a : Adds (kept c.args.tree.now) c.in_ok-many.many [] c.push_tree.new.entries.items =
    subst (λ old. Adds (kept c.args.tree.now) c.in_ok-many.many old c.push_tree.new.entries.items)
    c.clear.ensures.items c.in_ok-many.ensures.adds in
    on_ok_weaker c.finish.result
    (λ f. record {
      subtasks = Gone;
      network = λ terms. sym (kept_none c.args.tree.now c.in_ok-many.many c.push_tree.new.entries.items a c.if-many-eq0.true terms);
      normal = tt;
      fresh = λ y d e. contains_nothing y e;
      gone = λ e. f;
      some = λ k e. absurd cc;
    })
    c.finish.ensures.net

pub returns-then-many-eq0-clause-below : goal.returns-then-many-eq0-clause-below
returns-then-many-eq0-clause-below c = λ k h b. c.finish.ensures.below k h

pub graft-requires-clause-stage : goal.graft-requires-clause-stage
graft-requires-clause-stage c =
    stage_now c.args.self.now.trail.items (stage_of c.args.self.now) c.requires.sound

pub graft-requires-clause-closed : goal.graft-requires-clause-closed
graft-requires-clause-closed c =
    let es = c.push_tree.new.entries.items in
    let a : Adds (kept c.args.tree.now) c.in_ok-many.many [] es =
    subst (λ old. Adds (kept c.args.tree.now) c.in_ok-many.many old es) c.clear.ensures.items
    c.in_ok-many.ensures.adds in
    kept_closed c.args.tree.now c.in_ok-many.many es a

pub graft-requires-clause-one : goal.graft-requires-clause-one
graft-requires-clause-one c =
    let es = c.push_tree.new.entries.items in
    let a : Adds (kept c.args.tree.now) c.in_ok-many.many [] es =
    subst (λ old. Adds (kept c.args.tree.now) c.in_ok-many.many old es) c.clear.ensures.items
    c.in_ok-many.ensures.adds in
    let most = one_or_none c.args.tree.now c.in_ok-many.many [] es a in
    let some = c.if-many-eq0.false in
    let one : c.in_ok-many.many ≡ 1 = one_of c.in_ok-many.many most some in
    kept_many c.args.tree.now c.in_ok-many.many es a [] ∙ one
  where
    one_of : (m : ℕ) → m ≤ 1 → (m ≡ 0 → ⊥) → m ≡ 1
    one_of zero l n = absurd (n refl)
    one_of (suc zero) l n = refl
    one_of (suc (suc m)) l n = absurd (omega arith)

pub returns-clause-sound : goal.returns-clause-sound
returns-clause-sound c =
    let trail = c.note.ensures.trail
    ∙ ap (λ v. v.items ++ c.in_ok-change.change ∷ []) c.in_ok-change.ensures.trail
    ∙ ap (λ (ts : List Change). ts ++ c.in_ok-change.change ∷ []) c.reserve.ensures.items in
    (noted_step c.args.self.now c.note.new.self (stage_of c.graft.new.self) c.in_ok-change.change _ _
    c.requires.sound trail c.in_ok-change.ensures.grafts.steps c.note.ensures.stage).0

pub returns-clause-past : goal.returns-clause-past
returns-clause-past c =
    let trail = c.note.ensures.trail
    ∙ ap (λ v. v.items ++ c.in_ok-change.change ∷ []) c.in_ok-change.ensures.trail
    ∙ ap (λ (ts : List Change). ts ++ c.in_ok-change.change ∷ []) c.reserve.ensures.items in
    (noted_step c.args.self.now c.note.new.self (stage_of c.graft.new.self) c.in_ok-change.change _ _
    c.requires.sound trail c.in_ok-change.ensures.grafts.steps c.note.ensures.stage).1

pub returns-clause-net : goal.returns-clause-net
returns-clause-net c =
    let s = stage_of c.args.self.now in
    let es = c.push_tree.new.entries.items in
    let a : Adds (kept c.args.tree.now) c.in_ok-many.many [] es =
    subst (λ old. Adds (kept c.args.tree.now) c.in_ok-many.many old es) c.clear.ensures.items
    c.in_ok-many.ensures.adds in
    let trail = c.note.ensures.trail
    ∙ ap (λ v. v.items ++ c.in_ok-change.change ∷ []) c.in_ok-change.ensures.trail
    ∙ ap (λ (ts : List Change). ts ++ c.in_ok-change.change ∷ []) c.reserve.ensures.items in
    let g = c.in_ok-change.ensures.grafts in
    let step = noted_step c.args.self.now c.note.new.self (stage_of c.graft.new.self) c.in_ok-change.change _ _
    c.requires.sound trail g.steps c.note.ensures.stage in
    subst (λ (i : ℕ). Expands s (stage_of c.note.new.self) i c.args.tree.now) c.number.ensures
    (record {
      subtasks = g.tree;
      network = λ terms. kept_one c.args.tree.now c.in_ok-many.many es a (length s.parts) g.tree g.is terms;
      normal = g.normal;
      fresh = g.fresh;
      gone = λ e. (let no : Some (length s.parts) ≡ None = sym g.number ∙ e in absurd cc);
      some = λ k e. (step.2, step.3 ∙ sym g.number ∙ e);
    })

pub returns-clause-below : goal.returns-clause-below
returns-clause-below c = λ k h b.
    let es : All (EntryBelow k) c.push_tree.new.entries.items =
    c.in_ok-many.ensures.below k b
    (subst (All (EntryBelow k)) (sym c.clear.ensures.items) (All-nil (EntryBelow k))) in
    subst (λ (q : Linked). All (PartBelow k) q.parts) (sym c.note.ensures.stage)
    (c.graft.ensures.below k h es)
