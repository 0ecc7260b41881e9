-- The turns of the parts of a conjunction, by those of its first part and of the others, and over more terms.
use Rattle.std.proofs.Common.{◌≡◌, ℕ, ◌+◌, ◌<◌, List, length, true, slice_get, Option, Some, None, is_some, arith, refl, ap, ap₂, sym, ◌∙◌, subst}
use Rattle.hp_syntax.specs.Events.{State}
use Rattle.hp_syntax.specs.Syntax.{Expression, Expressions, Also}
use Rattle.hp_syntax.specs.Terms.{Term}
use Rattle.hp_syntax.specs.Values.{Bindings}
use Rattle.hp_code.specs.CodeViews.{CodeView, IsCode}
use Rattle.hp_code.specs.Sources.{made_of}
use Rattle.hp_nodes.specs.Trees.{Laid}
use Rattle.hp_world.specs.Stages.{AllBelow, live_atoms}
use Rattle.hp_eval.specs.Growth.{Grows}
use Rattle.hp_eval.specs.Slotted.{Slotted, AreBelow}
use Rattle.hp_eval.proofs.GrowthLemmas.{grows_self, kept_agree}
use Rattle.hp_suspended.specs.declared.scene.Scene.{Scene}
use Rattle.hp_suspended.specs.Answering.{GoesOnOver, PairFits, pair_left}
use Rattle.hp_suspended.specs.Fitting.{AreExpressionsIn, base_of}
use Rattle.hp_suspended.specs.Left.{Tower, Floor, On, left, tower}
use Rattle.hp_suspended.specs.Nodes.{expression_at, expressions_in}
use Rattle.hp_suspended.specs.SceneViews.{IsReady, code_in, setting_of}
use Rattle.hp_suspended.specs.Settings.{Setting, axioms_in, state_in, atoms_at, expression_events, node_events}
use Rattle.hp_suspended.specs.Turning.{turns_over, parts_turns, turns_between, tower_turns, pair_turns}
use Rattle.hp_suspended.specs.Views.{View, Views}
use Rattle.hp_suspended.proofs.CellsAgree.{over, left_grows, state_agrees, tower_grows}
use Rattle.hp_suspended.proofs.RangeLemmas.{first_expression, sat_is}

module _ (w : Setting) (n : ℕ) where
  abbrev turns_of : Option Expressions → Bindings → ℕ
  turns_of = parts_turns (atoms_at (axioms_in w) n (state_in w))

  -- a first part takes a turn, and those of the others under each of its Sats
  turns_made : (x : Option Expression) (y : Option Expressions) (e : Bindings) → is_some (made_of Also x y) ≡ true
      → turns_of (made_of Also x y) e ≡ 1 + turns_over (expression_events w n x e) (turns_of y)
  turns_made None y e h = absurd cc
  turns_made (Some p) None e h = absurd cc
  turns_made (Some p) (Some ps) e h =
      ap (λ xs. 1 + turns_over xs (turns_of (Some ps))) (sym (sat_is (axioms_in w) n (state_in w) p e))

-- a range of expressions that isn't empty takes a turn for its first node, and those of the others under each Sat
pub turns_first : (w : Setting) (n k end : ℕ) → IsCode w.code → AreExpressionsIn w.code k end → k < end → (l : Laid)
    → slice_get w.code.nodes k ≡ Some l → (e : Bindings)
    → turns_between w n k end e ≡ 1 + turns_over (node_events w n k e) (turns_between w n l.to end)
unfolding turns_between node_events
turns_first w n k end code is less l there e =
    let parts = (first_expression w n k end code is less l there).parts in
    let x = expression_at w.code k in
    let y = expressions_in w.code l.to end in
    let read : is_some (made_of Also x y) ≡ true = sym (ap is_some parts) ∙ is.read in
    ap (λ o. turns_of w n o e) parts ∙ turns_made w n x y e read

-- ---- settings that differ in their terms

module _ (w : Setting) (d : List Term) (same : state_in w ≡ state_in (over w d)) (n : ℕ) where
  -- where the state is the same the turns of nodes as parts of a conjunction are
  turns_agree : (k to : ℕ) → turns_between w n k to ≡ turns_between (over w d) n k to
  unfolding turns_between
  turns_agree k to =
      ap (λ (s : State). parts_turns (atoms_at (axioms_in w) n s) (expressions_in w.code k to)) same

  -- where the state is the same the turns of what is left of parts of a conjunction are
  tower_turns_agree : (end : ℕ) (t : Tower) → tower_turns w n end t ≡ tower_turns (over w d) n end t
  tower_turns_agree end Floor = refl
  tower_turns_agree end (On lower k events) =
      ap₂ (λ turns m. 1 + turns_over events turns + m) (turns_agree k end) (tower_turns_agree end lower)

-- where terms are added a conjunction takes as many turns
pub pair_turns_grow : (w : Setting) (more : List Term) → Grows w.terms more → (c : CodeView) (m n k end : ℕ)
    (e : Slotted) (outer : Views) (here : View) → AllBelow (length w.terms) (live_atoms w.places)
    → AreBelow (length w.terms) e → PairFits c (length w.terms) m end k (length e.trail) outer here
    → pair_turns w n k end e outer here ≡ pair_turns (over w more) n k end e outer here
pair_turns_grow w more g c m n k end e outer here atoms below fits =
    let cells = length w.terms in
    let state = state_agrees w more cells (kept_agree w.terms more g cells (omega arith)) atoms in
    tower_turns_agree w more state n end (On (tower w e outer) k (left w e here))
    ∙ ap₂ (λ t xs. tower_turns (over w more) n end (On t k xs))
    (tower_grows w more g atoms c end m (base_of here) outer e fits.1 below)
    (left_grows w more g atoms c (length e.trail) here e fits.2 below)

-- a turn that leaves fewer turns over the terms at its end leaves fewer than there were over those before
pub turns_fall : (s : Scene) (old new : List Term) (m n k k' end : ℕ) (e f : Slotted) (outer outer' : Views)
    (here here' : View) → Grows old new → IsReady s old e
    → PairFits (code_in s) (length old) m end k (length e.trail) outer here
    → GoesOnOver s new (λ w. pair_left w n k end e outer here) (λ w. pair_left w n k' end f outer' here')
    (λ w. pair_turns w n k end e outer here) (λ w. pair_turns w n k' end f outer' here')
    → pair_turns (setting_of s new) n k' end f outer' here' < pair_turns (setting_of s old) n k end e outer here
turns_fall s old new m n k k' end e f outer outer' here here' g ready fits turn =
    let less = (turn new (grows_self new)).1 in
    let same =
    pair_turns_grow (setting_of s old) new g (code_in s) m n k end e outer here ready.atoms ready.bindings fits in
    subst (λ j. pair_turns (setting_of s new) n k' end f outer' here' < j) (sym same) less
