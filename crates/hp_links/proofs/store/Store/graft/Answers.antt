use Rattle.std.proofs.Common.{ℕ, List, [], length, map, refl, sym, ap, subst, ◌∙◌, arith}
use Rattle.std.specs.Prelude.{reverse}
use Rattle.std.specs.List.{All}
use Rattle.hp_links.specs.declared.undo.Change.{Change}
use Rattle.hp_links.specs.Changing.{hung}
use Rattle.hp_links.specs.Entries.{forest, AreClosed, EntryBelow}
use Rattle.hp_links.specs.Frames.{frame_in, frame_of, IsHeld, top}
use Rattle.hp_links.specs.Linked.{Linked, PartBelow}
use Rattle.hp_links.specs.Planted.{trees_at}
use Rattle.hp_links.specs.Undoing.{put_to, stage_of}
use Rattle.hp_links.proofs.ChangeLemmas.{normal_from_full}
use Rattle.hp_links.proofs.EntryLemmas.{one_tree_at}
use Rattle.hp_links.proofs.GraftLemmas.{base_within, graft_held, graft_is, graft_steps, grafted_is, named_placed, planted_fresh, planted_full, planted_number}
use Rattle.hp_links.proofs.ParentLemmas.{numbers_within}
use Rattle.hp_links.proofs.StageLemmas.{stage_stands}
use Rattle.hp_links.proofs.store.Store.graft.Goals as goal

pub put-change-requires-clause-part : goal.put-change-requires-clause-part
put-change-requires-clause-part c =
    let s = stage_of c.args.self.now in
    let es = c.as_slice.result.now in
    let closed = subst AreClosed (sym c.as_slice.ensures.value) c.requires.closed in
    let one = ap (λ xs. length (forest [] xs)) c.as_slice.ensures.value ∙ c.requires.one in
    let f = frame_in c.plant.new.self in
    let js : List ℕ = reverse (map top (trees_at (length s.parts) es)) in
    let p = c.in-Ok.ensures.planted js refl in
    let t = one_tree_at (length s.parts) es one in
    let within = base_within s c.args.id c.requires.stage c.requires.names es js f p closed t.0 t.1 in
    let base = ap (λ (u : Change). u.parts) c.saved-change.ensures in
    omega arith

pub put-change-requires-clause-of : goal.put-change-requires-clause-of
put-change-requires-clause-of c =
    let s = stage_of c.args.self.now in
    let es = c.as_slice.result.now in
    let closed = subst AreClosed (sym c.as_slice.ensures.value) c.requires.closed in
    let one = ap (λ xs. length (forest [] xs)) c.as_slice.ensures.value ∙ c.requires.one in
    let f = frame_in c.plant.new.self in
    let js : List ℕ = reverse (map top (trees_at (length s.parts) es)) in
    let p = c.in-Ok.ensures.planted js refl in
    let t = one_tree_at (length s.parts) es one in
    let within = base_within s c.args.id c.requires.stage c.requires.names es js f p closed t.0 t.1 in
    let w = (stage_stands s c.args.id c.requires.stage c.requires.names.among).0 in
    let n = numbers_within (frame_of s) _ _ c.args.id w c.requires.names.among in
    omega arith

pub put-change-requires-clause-listed : goal.put-change-requires-clause-listed
put-change-requires-clause-listed c = λ o own.
    let s = stage_of c.args.self.now in
    let es = c.as_slice.result.now in
    let closed = subst AreClosed (sym c.as_slice.ensures.value) c.requires.closed in
    let one = ap (λ xs. length (forest [] xs)) c.as_slice.ensures.value ∙ c.requires.one in
    let f = frame_in c.plant.new.self in
    let js : List ℕ = reverse (map top (trees_at (length s.parts) es)) in
    let p = c.in-Ok.ensures.planted js refl in
    let t = one_tree_at (length s.parts) es one in
    (named_placed s c.args.id c.requires.stage c.requires.names es js f p closed t.0 t.1 o own).listed

pub settled-self-requires : goal.settled-self-requires
settled-self-requires c =
    let s = stage_of c.args.self.now in
    let es = c.as_slice.result.now in
    let closed = subst AreClosed (sym c.as_slice.ensures.value) c.requires.closed in
    let one = ap (λ xs. length (forest [] xs)) c.as_slice.ensures.value ∙ c.requires.one in
    let f = frame_in c.plant.new.self in
    let js : List ℕ = reverse (map top (trees_at (length s.parts) es)) in
    let p = c.in-Ok.ensures.planted js refl in
    let t = one_tree_at (length s.parts) es one in
    let base = ap (λ (u : Change). u.parts) c.saved-change.ensures in
    let puts = c.put-change.ensures.puts in
    let h = graft_held s c.args.id c.requires.stage c.requires.names es js f p closed t.0 t.1 puts.owner
    puts.slot puts.own puts.at in
    subst (λ (q : Linked). IsHeld (frame_of q) c.saved-change.result.parts) (sym puts.is)
    (subst (λ (y : ℕ). IsHeld (hung y puts.owner puts.slot f) y) (sym base) h)

pub returns-in-Ok-clause-grafts : goal.returns-in-Ok-clause-grafts
returns-in-Ok-clause-grafts c =
    let s = stage_of c.args.self.now in
    let es = c.as_slice.result.now in
    let closed = subst AreClosed (sym c.as_slice.ensures.value) c.requires.closed in
    let one = ap (λ xs. length (forest [] xs)) c.as_slice.ensures.value ∙ c.requires.one in
    let f = frame_in c.plant.new.self in
    let js : List ℕ = reverse (map top (trees_at (length s.parts) es)) in
    let p = c.in-Ok.ensures.planted js refl in
    let t = one_tree_at (length s.parts) es one in
    let base = ap (λ (u : Change). u.parts) c.saved-change.ensures in
    let puts = c.put-change.ensures.puts in
    let planted : Linked = record {
      parts = f.parts;
      owners = f.owners;
      rows = f.rows;
      root = s.root;
      focus = s.focus;
      front = s.front;
    } in
    record {
      tree = t.0;
      is = ap (trees_at (length s.parts)) (sym c.as_slice.ensures.value) ∙ t.1;
      normal =
          normal_from_full t.0
          (planted_full s c.args.id c.requires.stage c.requires.names es js f p closed t.0 t.1);
      number = planted_number s c.args.id c.requires.stage c.requires.names es js f p closed t.0 t.1;
      fresh = planted_fresh s c.args.id c.requires.stage c.requires.names es js f p closed t.0 t.1;
      steps =
          graft_steps s c.args.id c.requires.stage c.requires.names es js f p closed t.0 t.1 puts.owner
          puts.slot puts.own puts.at _ _
          (grafted_is _ (put_to (length s.parts) puts.owner puts.slot planted) c.args.id _ (length s.parts) _
          (puts.is ∙ ap (λ (y : ℕ). put_to y puts.owner puts.slot planted) base) base c.settled-self.ensures)
          (graft_is _ _ _ _ c.saved-change.ensures puts.wrote);
    }

pub returns-in-Ok-clause-below : goal.returns-in-Ok-clause-below
returns-in-Ok-clause-below c = λ k h g.
    subst (λ (q : Linked). All (PartBelow k) q.parts) (sym c.put-change.ensures.puts.is) (c.in-Ok.ensures.below k (subst (All (EntryBelow k)) (sym c.as_slice.ensures.value) g) h)
