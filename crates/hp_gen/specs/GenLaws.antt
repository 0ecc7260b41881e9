-- A generator: what is left of it, which scenes and slots it goes on with, and the laws of satisfiers.
use Rattle.std.specs.Prelude.{◌≡◌, ℕ, ◌≤◌, List, length, take}
use Rattle.std.specs.List.{All}
use Rattle.std.proofs.Common.{arith, sym, ◌∙◌, ap, subst, refl}
use Rattle.hp_syntax.specs.Terms.{Term}
use Rattle.hp_syntax.specs.Events.{Event, EventExtends}
use Rattle.hp_syntax.specs.Preconditions.{heard}
use Rattle.hp_eval.specs.Slotted.{Slotted, AreBelow, undone, bindings_of}
use Rattle.hp_world.specs.Recorded.{IndexedBelow, Knows}
use Rattle.hp_world.specs.Stages.{AllBelow, live_atoms}
use Rattle.hp_world.proofs.LearningLemmas.{all_known_where_agreed}
use Rattle.hp_gen.specs.declared.generator.Gen.{Gen}
use Rattle.hp_suspended.specs.declared.scene.Scene.{Scene}
use Rattle.hp_suspended.specs.Fitting.{Fits, base_of}
use Rattle.hp_suspended.specs.Left.{left}
use Rattle.hp_suspended.specs.SceneViews.{code_in, setting_of}
use Rattle.hp_suspended.specs.Views.{view}
use Rattle.hp_suspended.proofs.CellsAgree.{left_over}
use Rattle.hp_suspended.proofs.StartLemmas.{left_extends, all_heard}

-- what is left, up to the first fault
abbrev pub rest_of : Gen → Scene → List Term → Slotted → List Event
rest_of g s terms e = heard (left (setting_of s terms) e (view g.suspended))

-- what is suspended fits the scene's code, and the atoms of its world and its indexes are below the kept number
pub record Suits (g : Gen) (s : Scene) (terms : List Term) : Type 0 where
  pub fits : Fits (code_in s) g.kept g.bound (view g.suspended)
  pub start : base_of (view g.suspended) ≡ g.mark
  pub atoms : AllBelow g.kept (live_atoms s.world.now.places)
  pub indexes : IndexedBelow g.kept s.world
  pub knows : Knows terms s.world

-- as many are bound as the last call left, and cells below the kept number
pub record FitsSlots (g : Gen) (e : Slotted) : Type 0 where
  pub bound : length e.trail ≡ g.bound
  pub start : g.mark ≤ g.bound
  pub below : AreBelow g.kept e

pub fits_hold_of : (g : Gen) (e : Slotted) → FitsSlots g e → (g.mark ≤ length e.trail) × AreBelow g.kept e
fits_hold_of g e h = (let a = h.start in let b = h.bound in omega arith, h.below)

pub same_base_of : (g : Gen) (s : Scene) (c d : List Term) → Suits g s c → take g.kept c ≡ take g.kept d → Suits g s d
same_base_of g s c d h k = record {
  fits = h.fits;
  start = h.start;
  atoms = h.atoms;
  indexes = h.indexes;
  knows = all_known_where_agreed g.kept c d s.world h.indexes h.knows k;
}

pub same_cells_of : (g : Gen) (s : Scene) (c d : List Term) (e : Slotted) → Suits g s c → FitsSlots g e
    → take g.kept c ≡ take g.kept d → rest_of g s c e ≡ rest_of g s d e
same_cells_of g s c d e u h k =
    ap heard (left_over (setting_of s c) d g.kept k u.atoms (code_in s) g.bound (view g.suspended) e u.fits h.below)

pub sats_extend_of : (g : Gen) (s : Scene) (c : List Term) (e : Slotted) → Suits g s c → FitsSlots g e
    → All (EventExtends (bindings_of c (undone g.mark e))) (rest_of g s c e)
sats_extend_of g s c e u h =
    let P = λ (m : ℕ). All (EventExtends (bindings_of c (undone m e))) (rest_of g s c e) in
    let within : g.bound ≤ length e.trail = let b = h.bound in omega arith in
    subst P u.start
    (all_heard (EventExtends (bindings_of c (undone (base_of (view g.suspended)) e)))
    (left (setting_of s c) e (view g.suspended))
    (left_extends (setting_of s c) e (code_in s) g.kept g.bound (view g.suspended) u.fits within))
