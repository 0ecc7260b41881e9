-- What is left stays where terms are added and bindings above it are made or undone.
use Rattle.std.proofs.Common.{◌≡◌, ℕ, ◌≤◌, List, length, sym, ◌∙◌}
use Rattle.hp_syntax.specs.Terms.{Term}
use Rattle.hp_code.specs.CodeViews.{CodeView}
use Rattle.hp_world.specs.Stages.{AllBelow, live_atoms}
use Rattle.hp_eval.specs.Growth.{Grows}
use Rattle.hp_eval.specs.Slotted.{Slotted, AreBelow, undone}
use Rattle.hp_suspended.specs.Fitting.{Fits, TowerFits}
use Rattle.hp_suspended.specs.Left.{left, tower}
use Rattle.hp_suspended.specs.Settings.{Setting}
use Rattle.hp_suspended.specs.Views.{View, Views}
use Rattle.hp_suspended.proofs.CellsAgree.{over, left_grows, tower_grows}
use Rattle.hp_suspended.proofs.SlotsAgree.{left_same, tower_same}

module _ (w : Setting) (more : List Term) (g : Grows w.terms more)
    (atoms : AllBelow (length w.terms) (live_atoms w.places)) (c : CodeView) (old new : Slotted)
    (below : AreBelow (length w.terms) old) where
  -- where terms are added and the bindings stay that it fits, the same is left of what is suspended
  pub left_stays : (hi : ℕ) (v : View) → Fits c (length w.terms) hi v → hi ≤ length old.trail
      → hi ≤ length new.trail → undone hi new ≡ undone hi old → left w old v ≡ left (over w more) new v
  left_stays hi v fits in_old in_new same =
      left_grows w more g atoms c hi v old fits below
      ∙ left_same (over w more) c (length w.terms) old new hi v fits in_old in_new (sym same)

  -- where terms are added and the bindings stay that they fit, the same is left of the parts of a conjunction
  pub tower_stays : (end lo hi : ℕ) (vs : Views) → TowerFits c (length w.terms) end lo hi vs → hi ≤ length old.trail
      → hi ≤ length new.trail → undone hi new ≡ undone hi old → tower w old vs ≡ tower (over w more) new vs
  tower_stays end lo hi vs fits in_old in_new same =
      tower_grows w more g atoms c end lo hi vs old fits below
      ∙ tower_same (over w more) c (length w.terms) old new end lo hi vs fits in_old in_new (sym same)
