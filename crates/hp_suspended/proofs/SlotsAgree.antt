-- What is left depends on the bindings alone that stood when the last call ended.
use Rattle.std.proofs.Common.{◌≡◌, ℕ, ◌≤◌, ◌++◌, length, arith, refl, ap, ap₂}
use Rattle.hp_code.specs.CodeViews.{CodeView}
use Rattle.hp_syntax.specs.Events.{through}
use Rattle.hp_eval.specs.GoalViews.{goal_of}
use Rattle.hp_eval.specs.Slotted.{Slotted, undone, bindings_of}
use Rattle.hp_suspended.specs.Fitting.{Fits, TowerFits, base_of}
use Rattle.hp_suspended.specs.Filtered.{atom_left}
use Rattle.hp_suspended.specs.Nodes.{atom_at}
use Rattle.hp_suspended.specs.Left.{On, stood, one_event, left, running_left, tower, tower_left}
use Rattle.hp_suspended.specs.Settings.{Setting, node_events, all_between, any_between, places_from, axioms_from}
use Rattle.hp_suspended.specs.Views.{View, One, Fresh, Simple, Search, Conj, Disj, Views, Bare, Above}
use Rattle.hp_suspended.proofs.Fitted.{rises}
use Rattle.hp_suspended.proofs.MarkLemmas.{undone_earlier}

module _ (w : Setting) (e f : Slotted) (mark : ℕ) (in_e : mark ≤ length e.trail) (in_f : mark ≤ length f.trail)
    (same : undone mark e ≡ undone mark f) where
  -- the bindings that stood at an earlier mark are the same over slots that agree at a mark
  pub stood_agrees : (m : ℕ) → m ≤ mark → stood w e m ≡ stood w f m
  stood_agrees m l = ap (bindings_of w.terms) (undone_earlier m mark e f l in_e in_f same)

  module _ (c : CodeView) (cells : ℕ) where
    mutual
      -- over slots that agree at a mark, the same is left of what fits no more bindings
      pub left_agrees : (hi : ℕ) (v : View) → Fits c cells hi v → hi ≤ mark → left w e v ≡ left w f v
      left_agrees hi (One m event) fits l = ap (one_event event) (stood_agrees m (omega (arith, fits)))
      left_agrees hi (Fresh m n i) fits l = ap (node_events w n i) (stood_agrees m (omega (arith, fits.0)))
      left_agrees hi (Simple a) fits l =
          ap (atom_left w a.nest a.from a.filter (atom_at w.code a.node)) (stood_agrees a.mark (omega (arith, fits.0)))
      left_agrees hi (Search m n q at' k running) fits l =
          let goal = goal_of w.terms q in
          ap (λ b. places_from w at' goal b ++ (running_left w n goal b running ++ axioms_from w n k goal b))
          (stood_agrees m (omega (arith, fits.0)))
      left_agrees hi (Conj m n k end outer here) fits l =
          ap₂ (λ xs t. through xs (all_between w n k end) ++ tower_left w n end t) (left_agrees hi here fits.2 l)
          (tower_agrees end m (base_of here) outer fits.1 (omega (arith, rises c cells hi here fits.2)))
      left_agrees hi (Disj m n k end here) fits l =
          ap₂ (λ xs b. xs ++ any_between w n k end b) (left_agrees hi here fits.2 l)
          (stood_agrees m (omega (arith, fits.1, rises c cells hi here fits.2)))

      -- over slots that agree at a mark, the same is left of parts that fit no more bindings
      pub tower_agrees : (end lo hi : ℕ) (vs : Views) → TowerFits c cells end lo hi vs → hi ≤ mark
          → tower w e vs ≡ tower w f vs
      tower_agrees end lo hi Bare fits l = refl
      tower_agrees end lo hi (Above lower k top) fits l =
          ap₂ (λ t xs. On t k xs)
          (tower_agrees end lo (base_of top) lower fits.2 (omega (arith, rises c cells hi top fits.3)))
          (left_agrees hi top fits.3 l)

module _ (w : Setting) (c : CodeView) (cells : ℕ) (e f : Slotted) where
  -- over slots that agree where it fits, the same is left of what is suspended
  pub left_same : (hi : ℕ) (v : View) → Fits c cells hi v → hi ≤ length e.trail → hi ≤ length f.trail
      → undone hi e ≡ undone hi f → left w e v ≡ left w f v
  left_same hi v fits in_e in_f same = left_agrees w e f hi in_e in_f same c cells hi v fits (omega arith)

  -- over slots that agree where they fit, the same is left of the parts of a conjunction
  pub tower_same : (end lo hi : ℕ) (vs : Views) → TowerFits c cells end lo hi vs → hi ≤ length e.trail
      → hi ≤ length f.trail → undone hi e ≡ undone hi f → tower w e vs ≡ tower w f vs
  tower_same end lo hi vs fits in_e in_f same =
      tower_agrees w e f hi in_e in_f same c cells end lo hi vs fits (omega arith)
