-- Calls that add terms, and make and undo bindings.
use Rattle.std.proofs.Common.{◌≡◌, ℕ, ◌<◌, ◌≤◌, List, length, length-take, arith, sym, ◌∙◌, ap, subst}
use Rattle.std.proofs.Math.Seq.{take-length}
use Rattle.std.proofs.lemmas.List.Elements.{All-weaker}
use Rattle.hp_syntax.specs.Terms.{Term}
use Rattle.hp_eval.specs.Growth.{Grows}
use Rattle.hp_eval.specs.Slotted.{Slotted, AreBelow, Binds, undone}
use Rattle.hp_eval.proofs.GrowthLemmas.{below_grows, grows_length, grows_on, grows_self}
use Rattle.hp_eval.proofs.SlotLemmas.{binds_self, binds_through, undone_above, undone_none, below_undone}
use Rattle.hp_world.specs.Recorded.{Knows}
use Rattle.hp_world.specs.Stages.{AllBelow, live_atoms}
use Rattle.hp_world.proofs.LearningLemmas.{all_known_where_agreed, known_are_cells}
use Rattle.hp_suspended.specs.declared.scene.Scene.{Scene}
use Rattle.hp_suspended.specs.Answering.{Moves}
use Rattle.hp_suspended.specs.SceneViews.{IsReady}
use Rattle.hp_suspended.proofs.MarkLemmas.{binds_later}

-- ---- scenes

module _ (s : Scene) (old new : List Term) (g : Grows old new) where
  -- the atoms stay cells where terms are added
  pub atoms_grow : AllBelow (length old) (live_atoms s.world.now.places)
      → AllBelow (length new) (live_atoms s.world.now.places)
  atoms_grow h =
      let l = grows_length old new g in
      All-weaker (λ c. c < length old) (λ c. c < length new) (λ c b. omega arith) (live_atoms s.world.now.places) h

  -- and the indexes know them
  pub knows_grow : Knows old s.world → Knows new s.world
  knows_grow h =
      all_known_where_agreed (length old) old new s.world (known_are_cells old s.world h) h (take-length old ∙ sym g)

  -- a scene is ready for a further call
  pub ready_grows : (e f : Slotted) → IsReady s old e → AreBelow (length new) f → IsReady s new f
  ready_grows e f r b = record { atoms = atoms_grow r.atoms; knows = knows_grow r.knows; bindings = b }

-- a scene is ready behind a call
pub ready_moved : (s : Scene) (m : ℕ) (old new : List Term) (e f : Slotted) → IsReady s old e → Moves m old new e f
    → IsReady s new f
ready_moved s m old new e f r v = ready_grows s old new v.grows e f r v.below

-- ---- marks

-- no fewer bindings than a mark were left
pub moved_above : (m : ℕ) (old new : List Term) (e f : Slotted) → m ≤ length e.trail → Moves m old new e f
    → m ≤ length f.trail
moved_above m old new e f h v =
    let l = v.above.later in
    let q = length-take m e.trail in
    omega arith

-- bindings up to a mark are those before
pub moved_same : (m : ℕ) (old new : List Term) (e f : Slotted) → m ≤ length e.trail → Moves m old new e f
    → undone m f ≡ undone m e
moved_same m old new e f h v = undone_above m e f h v.above

-- one call and another
pub moves_on : (m : ℕ) (a b c : List Term) (e f g : Slotted) → m ≤ length e.trail → Moves m a b e f → Moves m b c f g
    → Moves m a c e g
moves_on m a b c e f g h v w = record {
  grows = grows_on a b c v.grows w.grows;
  below = w.below;
  above = subst (λ s. Binds s g) (moved_same m a b e f h v) w.above;
}

-- a call above a mark is one above an earlier mark
pub moves_lower : (j m : ℕ) (old new : List Term) (e f : Slotted) → j ≤ m → m ≤ length e.trail → Moves m old new e f
    → Moves j old new e f
moves_lower j m old new e f l h v = record {
  grows = v.grows;
  below = v.below;
  above = binds_through (undone j e) (undone m e) f (binds_later j m e l h) v.above;
}

-- what undoes bindings to a mark moves nothing above it
pub moves_undone : (m : ℕ) (old : List Term) (e : Slotted) → AreBelow (length old) e → Moves m old old e (undone m e)
moves_undone m old e b = record {
  grows = grows_self old;
  below = below_undone (length old) m e b;
  above = binds_self (undone m e);
}

-- what undoes bindings behind a call moves nothing above the mark
pub moves_then_undone : (m : ℕ) (old new : List Term) (e f : Slotted) → m ≤ length e.trail → Moves m old new e f
    → Moves m old new e (undone m f)
moves_then_undone m old new e f h v = moves_on m old new new e f (undone m f) h v (moves_undone m new f v.below)

-- a call that adds terms alone moves nothing above the end
pub moves_none : (m : ℕ) (old new : List Term) (e : Slotted) → m ≡ length e.trail → Grows old new
    → AreBelow (length old) e → Moves m old new e e
moves_none m old new e h g b = record {
  grows = g;
  below = below_grows old new g e b;
  above = subst (λ s. Binds s e) (sym (ap (λ j. undone j e) h ∙ undone_none e)) (binds_self e);
}

-- terms may be added behind a call
pub moves_grown : (m : ℕ) (old mid new : List Term) (e f : Slotted) → Moves m old mid e f → Grows mid new
    → Moves m old new e f
moves_grown m old mid new e f v g = record {
  grows = grows_on old mid new v.grows g;
  below = below_grows mid new g f v.below;
  above = v.above;
}
