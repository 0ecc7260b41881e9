-- Turns of an axiom that is looked at: the conclusions of its branches' events.
use Rattle.std.proofs.Common.{◌≡◌, ℕ, ◌-◌, ◌≤◌, List, ◌∷◌, ◌++◌, length, Option, Some, None, Result, Ok, Err, arith, refl, sym, ap, ap₂, ◌∙◌}
use Rattle.std.specs.Prelude.{IfOk, IfSome}
use Rattle.hp_syntax.specs.Events.{Event, Cut, through}
use Rattle.hp_syntax.specs.Terms.{Term}
use Rattle.hp_syntax.specs.Values.{Bindings}
use Rattle.hp_code.specs.CodeViews.{CodeView}
use Rattle.hp_eval.specs.declared.event.Event as public_event
use Rattle.hp_eval.specs.declared.event.Event.TheVariants as events
use Rattle.hp_eval.specs.declared.goals.Goal.{Goal}
use Rattle.hp_eval.specs.GoalViews.{goal_of}
use Rattle.hp_eval.specs.Growth.{Grows}
use Rattle.hp_eval.specs.Slotted.{Slotted, bindings_of}
use Rattle.hp_eval.proofs.GrowthLemmas.{grows_on, kept_agree}
use Rattle.hp_world.specs.Stages.{AllBelow, live_atoms}
use Rattle.hp_suspended.specs.declared.scene.Scene.{Scene}
use Rattle.hp_suspended.specs.Answering.{GivesOver, GoesOn, GoesOnOver, MayGoOn, SameOver}
use Rattle.hp_suspended.specs.Beginning.{MayGive}
use Rattle.hp_suspended.specs.Branching.{IsNoEnd, KeepsAxiom, axiom_left, branch_left, under}
use Rattle.hp_suspended.specs.Fitting.{RunningFits}
use Rattle.hp_suspended.specs.Left.{stood}
use Rattle.hp_suspended.specs.Nodes.{head_at}
use Rattle.hp_suspended.specs.SceneViews.{code_in, setting_of}
use Rattle.hp_suspended.specs.Settings.{Setting, first_between, first_of, head_concludes}
use Rattle.hp_suspended.specs.Views.{Level}
use Rattle.hp_suspended.proofs.GoingOn.{may_go_on}
use Rattle.hp_suspended.proofs.CellsAgree.{over, state_agrees, stood_over, left_over, first_agrees}
use Rattle.hp_suspended.proofs.Fitted.{running_fits_more}

-- ---- what is kept

-- an axiom that is looked at is kept over more cells
pub axiom_kept_more : (c : CodeView) (a b n : ℕ) (x y : Level) → a ≤ b → KeepsAxiom c a n x y → KeepsAxiom c b n x y
axiom_kept_more c a b n x y l k = record {
  head = k.head;
  fits = running_fits_more c a b l n (under y) k.fits;
  lighter = k.lighter;
}

-- it is kept by one turn and another
pub axiom_kept_on : (c : CodeView) (a b n : ℕ) (x y z : Level) → KeepsAxiom c a n x y → KeepsAxiom c b n y z
    → KeepsAxiom c b n x z
axiom_kept_on c a b n x y z k l = record {
  head = l.head ∙ k.head;
  fits = l.fits;
  lighter = omega (arith, k.lighter, l.lighter);
}

-- so it is where there may be no event
pub axiom_kept_may : {E : Type 0} (r : Result (Option public_event.Event) E) (c : CodeView) (a b n : ℕ) (x y : Level)
    → a ≤ b → KeepsAxiom c a n x y → IfOk r (λ o. MayGoOn o (KeepsAxiom c b n x y))
axiom_kept_may (Ok o) c a b n x y l k = may_go_on o (KeepsAxiom c b n x y) (axiom_kept_more c a b n x y l k)
axiom_kept_may (Err e) c a b n x y l k = tt

-- ---- conclusions

module _ (s : Scene) (mid new : List Term) (grown : Grows mid new) (n : ℕ) (q : Goal) (e f : Slotted)
    (x y : Level) where
  -- the conclusions of an axiom on a goal, by the head of the one that is left
  abbrev concludes : List Term → Bindings → List Event
  concludes terms = head_concludes (head_at (code_in s) y.head) (goal_of terms q) (bindings_of terms e)

  -- what is left of it
  abbrev pub rest : Level → Setting → List Event
  rest z w = axiom_left w n (goal_of w.terms q) (bindings_of w.terms e) z

  module _ (same : y.head ≡ x.head)
      (gives : GivesOver s mid y.own events.Sat (λ w. branch_left w n x) (λ w. branch_left w n y)) where
    -- the conclusions of a branch's Sat come before those of what is left
    met : (terms : List Term) → Grows new terms
        → rest x (setting_of s terms) ≡ concludes terms (bindings_of terms y.own) ++ rest y (setting_of s terms)
    met terms grows =
        let w = setting_of s terms in
        ap (λ h. through (branch_left w n x)
        (head_concludes (head_at (code_in s) h) (goal_of terms q) (bindings_of terms e))) (sym same)
        ∙ ap (λ xs. through xs (concludes terms)) (gives terms (grows_on mid new terms grown grows))

    some_gives : (o : Option public_event.Event) → MayGive o new f (λ terms. concludes terms (bindings_of terms y.own))
        → IfSome o IsNoEnd → IfSome o (λ z. GivesOver s new f z (rest x) (rest y))
    some_gives None m h = tt
    some_gives (Some events.Sat) m h = λ terms grows.
        met terms grows ∙ ap (λ xs. xs ++ rest y (setting_of s terms)) (m terms grows)
    some_gives (Some events.Cut) m h = λ terms grows.
        met terms grows ∙ ap (λ xs. xs ++ rest y (setting_of s terms)) (m terms grows)
    some_gives (Some (events.Fault g)) m h = λ terms grows. (
      rest y (setting_of s terms),
      met terms grows ∙ ap (λ xs. xs ++ rest y (setting_of s terms)) (m terms grows),
    )
    some_gives (Some events.End) m h = absurd h

    -- where the head concludes an event, that is the first of what is left
    pub concluded_gives : {E : Type 0} (r : Result (Option public_event.Event) E)
        → IfOk r (λ o. MayGive o new f (λ terms. concludes terms (bindings_of terms y.own)))
        → IfOk r (λ o. IfSome o IsNoEnd) → IfOk r (λ o. IfSome o (λ z. GivesOver s new f z (rest x) (rest y)))
    concluded_gives (Ok o) m h = some_gives o m h
    concluded_gives (Err g) m h = tt

-- an event of the branches that isn't a Sat is one of the axiom
pub passed_gives : (s : Scene) (cells : List Term) (n : ℕ) (q : Goal) (e : Slotted) (x y : Level) (c : CodeView)
    (count : ℕ) (z : public_event.Event) → (z ≡ events.Sat → ⊥) → GoesOn z (KeepsAxiom c count n x y)
    → GivesOver s cells y.own z (λ w. branch_left w n x) (λ w. branch_left w n y)
    → GivesOver s cells e z (λ w. axiom_left w n (goal_of w.terms q) (bindings_of w.terms e) x)
    (λ w. axiom_left w n (goal_of w.terms q) (bindings_of w.terms e) y)
passed_gives s cells n q e x y c count events.Sat other keeps gives = absurd (other refl)
passed_gives s cells n q e x y c count events.Cut other keeps gives = λ terms grows.
    let w = setting_of s terms in
    let concludes = λ (h : ℕ). head_concludes (head_at (code_in s) h) (goal_of terms q) (bindings_of terms e) in
    ap (λ xs. through xs (concludes x.head)) (gives terms grows)
    ∙ ap (λ h. Cut ∷ through (branch_left w n y) (concludes h)) (sym keeps.head)
passed_gives s cells n q e x y c count (events.Fault f) other keeps gives = λ terms grows.
    let g = gives terms grows in
    let concludes = head_concludes (head_at (code_in s) x.head) (goal_of terms q) (bindings_of terms e) in
    (through g.0 concludes, ap (λ xs. through xs concludes) g.1)
passed_gives s cells n q e x y c count events.End other keeps gives = λ terms grows.
    let concludes = head_concludes (head_at (code_in s) x.head) (goal_of terms q) (bindings_of terms e) in
    ap (λ xs. through xs concludes) (gives terms grows)

-- ---- loops

-- where the list before is another in the same place, the event is the first of that one
pub gives_before : (s : Scene) (cells : List Term) (f : Slotted) (x : public_event.Event)
    (first old new : Setting → List Event) → SameOver s cells first old → GivesOver s cells f x old new
    → GivesOver s cells f x first new
gives_before s cells f events.Sat first old new same gives = λ terms grows. sym (same terms grows) ∙ gives terms grows
gives_before s cells f events.Cut first old new same gives = λ terms grows. sym (same terms grows) ∙ gives terms grows
gives_before s cells f (events.Fault g) first old new same gives = λ terms grows.
    let y = gives terms grows in
    (y.0, sym (same terms grows) ∙ y.1)
gives_before s cells f events.End first old new same gives = λ terms grows. sym (same terms grows) ∙ gives terms grows

-- lists that are the same over terms are the same over more of them
pub same_more : (s : Scene) (a b : List Term) (old new : Setting → List Event) → Grows a b → SameOver s a old new
    → SameOver s b old new
same_more s a b old new g same = λ terms grows. same terms (grows_on a b terms g grows)

-- a turn that gives nothing yet leaves the same as at the start
pub same_on : (s : Scene) (a b : List Term) (first old new : Setting → List Event) (before after : Setting → ℕ)
    → Grows a b → SameOver s a first old → GoesOnOver s b old new before after → SameOver s b first new
same_on s a b first old new before after g same more = λ terms grows.
    (more terms grows).0 ∙ same_more s a b first old g same terms grows

-- over terms that agree below the cells that it fits, the same is left of an axiom's branches
pub branch_over : (s : Scene) (old new : List Term) (c : CodeView) (n : ℕ) (x : Level) → Grows old new
    → AllBelow (length old) (live_atoms s.world.now.places) → RunningFits c (length old) n (under x)
    → branch_left (setting_of s old) n x ≡ branch_left (setting_of s new) n x
branch_over s old new c n x g atoms fits =
    let w = setting_of s old in
    let same = kept_agree old new g (length old) (omega arith) in
    ap₂ first_of (left_over w new (length old) same atoms c (length x.own.trail) x.here x.own fits.5 fits.3)
    (first_agrees w new (state_agrees w new (length old) same atoms) (n - 1) x.next x.end (stood w x.own x.start)
    ∙ ap (first_between (over w new) (n - 1) x.next x.end)
    (stood_over w new (length old) same atoms x.own x.start fits.3))
