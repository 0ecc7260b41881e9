-- What a negation is found to be, event by event.
use Rattle.std.proofs.Common.{◌≡◌, ℕ, suc, ◌+◌, ◌<◌, ◌≤◌, Bool, true, false, List, [], ◌∷◌, length, arith, refl, sym, ◌∙◌, ap, subst}
use Rattle.hp_syntax.specs.declared.fault.RunFault.{RunFault}
use Rattle.hp_syntax.specs.Terms.{Term}
use Rattle.hp_syntax.specs.Events as plain
use Rattle.hp_syntax.specs.Events.{Finding, Nothing, Undecided, Satisfied, Faulty, finding, finding_with, negated}
use Rattle.hp_code.specs.CodeViews.{CodeView}
use Rattle.hp_eval.specs.declared.event.Event.TheVariants as events
use Rattle.hp_eval.specs.Events.{PlainEvent}
use Rattle.hp_eval.specs.Growth.{Grows}
use Rattle.hp_eval.specs.Slotted.{Slotted, AreBelow, Binds, undone, bindings_of}
use Rattle.hp_eval.proofs.GrowthLemmas.{grows_on, grows_self}
use Rattle.hp_eval.proofs.SlotLemmas.{binds_self, undone_none}
use Rattle.hp_world.specs.Stages.{AllBelow, live_atoms}
use Rattle.hp_suspended.specs.declared.scene.Scene.{Scene}
use Rattle.hp_suspended.specs.Answering.{GivesOver, Keeps, Moves}
use Rattle.hp_suspended.specs.Branching.{FindsOver, behind_cut}
use Rattle.hp_suspended.specs.Fitting.{Fits, IsExpressionAt, base_of, node_weight, weight}
use Rattle.hp_suspended.specs.Left.{left}
use Rattle.hp_suspended.specs.SceneViews.{code_in, setting_of}
use Rattle.hp_suspended.specs.Settings.{Setting, node_events}
use Rattle.hp_suspended.specs.Views.{View, Fresh}
use Rattle.hp_suspended.proofs.CallLemmas.{moves_lower, moves_on, moves_then_undone}
use Rattle.hp_suspended.proofs.CellsAgree.{left_grows}
use Rattle.hp_suspended.proofs.Fitted.{fits_more, rises}

-- ---- findings

-- a cut behind a cut is no more than one
pub cut_behind : (cut : Bool) (found : Finding) → behind_cut cut (finding_with plain.Cut found) ≡ behind_cut true found
cut_behind true Nothing = refl
cut_behind true Undecided = refl
cut_behind true (Faulty f) = refl
cut_behind true Satisfied = refl
cut_behind false found = refl

-- a fault is found behind a cut too
pub fault_behind : (cut : Bool) (f : RunFault) → behind_cut cut (Faulty f) ≡ Faulty f
fault_behind true f = refl
fault_behind false f = refl

-- a list of which something was left, over the terms that were added since
module _ (s : Scene) (old new : List Term) (grown : Grows old new) (cut : Bool)
    (whole rest now : Setting → List PlainEvent) (found : FindsOver s old cut whole rest) where
  -- what is found in the list is found in what was left of it
  by_rest : (terms : List Term) → Grows new terms → (xs : List PlainEvent) → rest (setting_of s terms) ≡ xs
      → finding (whole (setting_of s terms)) ≡ behind_cut cut (finding xs)
  by_rest terms h xs e =
      found terms (grows_on old new terms grown h) ∙ ap (λ ys. behind_cut cut (finding ys)) e

  -- what is found in it is found in a list that is the same as what was left
  pub found_same : ((terms : List Term) → Grows new terms → now (setting_of s terms) ≡ rest (setting_of s terms))
      → FindsOver s new cut whole now
  found_same same = λ terms h. by_rest terms h (now (setting_of s terms)) (sym (same terms h))

  -- what is found in it is found behind a cut, where what was left goes on with one
  pub found_cut : (f : Slotted) → GivesOver s new f events.Cut rest now → FindsOver s new true whole now
  found_cut f gives =
      λ terms h. by_rest terms h (plain.Cut ∷ now (setting_of s terms)) (gives terms h)
      ∙ cut_behind cut (finding (now (setting_of s terms)))

  -- a list that goes on with a fault meets it when it is denied
  pub denied_fault : (f a e : Slotted) (x : RunFault) → GivesOver s new f (events.Fault x) rest now
      → GivesOver s new a (events.Fault x) (λ w. negated (finding (whole w)) (bindings_of w.terms e)) (λ w. [])
  denied_fault f a e x gives =
      λ terms h. let m = gives terms h in
      ([], ap (λ y. negated y (bindings_of terms e)) (by_rest terms h (plain.Fault x ∷ m.0) m.1 ∙ fault_behind cut x))

-- ---- beginning and going on

-- undoing no bindings of a start changes nothing
at_start : (m : ℕ) (e : Slotted) → length e.trail ≡ m → undone m e ≡ e
at_start m e h = ap (λ k. undone k e) (sym h) ∙ undone_none e

-- nothing has moved at a start
pub moves_nothing : (m : ℕ) (cells : List Term) (e : Slotted) → length e.trail ≡ m → AreBelow (length cells) e
    → Moves m cells cells e e
moves_nothing m cells e h b = record {
  grows = grows_self cells;
  below = b;
  above = subst (λ x. Binds x e) (sym (at_start m e h)) (binds_self e);
}

-- where nothing below a mark moved since a start, nothing has with a further call that moves nothing below it
pub moves_further : (j m : ℕ) (a b c : List Term) (e f g : Slotted) → j ≡ m → length e.trail ≡ m → Moves m a b e f
    → Moves j b c f g → Moves m a c e g
moves_further j m a b c e f g same h v u =
    moves_on m a b c e f g (omega arith) v (subst (λ k. Moves k b c f g) same u)

-- nor has it where the bindings are then undone to the mark
pub moves_back : (j m : ℕ) (a b c : List Term) (e f g u : Slotted) → j ≡ m → length e.trail ≡ m → Moves m a b e f
    → Moves j b c f g → u ≡ undone m g → Moves m a c e u
moves_back j m a b c e f g u same h v w is =
    subst (Moves m a c e) (sym is)
    (moves_then_undone m a c e g (omega arith) (moves_further j m a b c e f g same h v w))

module _ (c : CodeView) (v u : View) where
  -- a call and another one above the bindings that it left move nothing below where it began
  pub moves_above : (old mid new : List Term) (e f g : Slotted) (m : ℕ) → Fits c (length old) (length e.trail) v
      → Keeps c (length mid) f v u → m ≡ length f.trail → Moves (base_of v) old mid e f → Moves m mid new f g
      → Moves (base_of v) old new e g
  moves_above old mid new e f g m fits k is x y =
      let before = rises c (length old) (length e.trail) v fits in
      let after = rises c (length mid) (length f.trail) u k.fits in
      let lower : base_of v ≤ m = omega (arith, after, k.start) in
      moves_on (base_of v) old mid new e f g before x
      (moves_lower (base_of v) m mid new f g lower (omega arith) y)

  -- what is suspended is kept where cells are added
  pub keeps_more : (cells more : ℕ) (f g : Slotted) → cells ≤ more → g ≡ f → Keeps c cells f v u → Keeps c more g v u
  keeps_more cells more f g l same k =
      let kept : Keeps c more f v u =
      record {
        start = k.start;
        fits = fits_more c cells more l (length f.trail) u k.fits;
        lighter = k.lighter;
      } in
      subst (λ x. Keeps c more x v u) (sym same) kept

-- what is suspended has all events of a node, fits the slots, and weighs no more than the node
pub record Opens (s : Scene) (cells : List Term) (e : Slotted) (m n i : ℕ) (v : View) : Type 0 where
  pub same : (w : Setting) → left w e v ≡ node_events w n i (bindings_of w.terms e)
  pub fits : Fits (code_in s) (length cells) (length e.trail) v
  pub start : base_of v ≡ m
  pub lighter : weight (length (code_in s).nodes) v ≤ node_weight (length (code_in s).nodes) n i

-- so has the expression of a node as it begins
pub opens : (s : Scene) (cells : List Term) (e : Slotted) (m n i : ℕ) (v : View) → v ≡ Fresh m n i → length e.trail ≡ m
    → IsExpressionAt (code_in s) i → Opens s cells e m n i v
opens s cells e m n i v is h node = subst (Opens s cells e m n i) (sym is) (record {
  same = λ w. ap (λ x. node_events w n i (bindings_of w.terms x)) (at_start m e h);
  fits = (h, node);
  start = refl;
  lighter = omega arith;
})

module _ (s : Scene) (old new : List Term) (grown : Grows old new)
    (atoms : AllBelow (length old) (live_atoms s.world.now.places)) (e f : Slotted) (below : AreBelow (length old) e)
    (bound : ℕ) (v u : View) (fits : Fits (code_in s) (length old) bound v) where
  -- a list that is shorter over the new terms is shorter than the one over those before
  pub shorter : length (left (setting_of s new) f u) < length (left (setting_of s new) e v)
      → length (left (setting_of s new) f u) < length (left (setting_of s old) e v)
  shorter less =
      subst (λ xs. length (left (setting_of s new) f u) < length xs)
      (sym (left_grows (setting_of s old) new grown atoms (code_in s) bound v e fits below)) less

  -- what is left behind a cut over the new terms is shorter than the list over those before
  pub shorter_cut : GivesOver s new f events.Cut (λ w. left w e v) (λ w. left w f u)
      → length (left (setting_of s new) f u) < length (left (setting_of s old) e v)
  shorter_cut gives =
      let more : length (left (setting_of s new) e v) ≡ suc (length (left (setting_of s new) f u)) =
      ap length (gives new (grows_self new)) in
      shorter (omega arith)

-- a node further on weighs less
pub further_weighs_less : (nodes n i j : ℕ) → i < nodes → i < j → node_weight nodes n j + 3 ≤ node_weight nodes n i
further_weighs_less nodes n i j h l = omega arith
