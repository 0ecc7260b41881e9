-- Turns of an axiom's branches, and what they keep.
use Rattle.std.proofs.Common.{◌≡◌, ℕ, zero, suc, is_some, ◌-◌, ◌+◌, ◌<◌, ◌≤◌, List, [], ◌∷◌, length, slice_get, Some, arith, refl, sym, ap, subst, ◌∙◌}
use Rattle.hp_syntax.specs.Events.{Sat, Cut}
use Rattle.hp_syntax.specs.Terms.{Term}
use Rattle.hp_code.specs.CodeViews.{CodeView, IsCode}
use Rattle.hp_nodes.specs.Trees.{Laid, sizes}
use Rattle.hp_code.specs.Sources.{clauses_read}
use Rattle.hp_code.proofs.NodeLemmas.{none_between}
use Rattle.hp_eval.specs.declared.event.Event as public_event
use Rattle.hp_eval.specs.declared.event.Event.TheVariants as events
use Rattle.hp_eval.specs.Growth.{Grows}
use Rattle.hp_eval.specs.Slotted.{Slotted, undone, bindings_of}
use Rattle.hp_suspended.specs.declared.scene.Scene.{Scene}
use Rattle.hp_suspended.specs.Answering.{GivesOver, GoesOnOver, Keeps, Moves}
use Rattle.hp_suspended.specs.Branching.{IsNextBranch, KeepsAxiom, branch_left, under}
use Rattle.hp_suspended.specs.Fitting.{AreClausesIn, RunningFits, base_of, level_weight, node_weight}
use Rattle.hp_suspended.specs.Left.{left, stood}
use Rattle.hp_suspended.specs.Nodes.{clauses_in}
use Rattle.hp_suspended.specs.SceneViews.{code_in, setting_of}
use Rattle.hp_suspended.specs.Settings.{first_between, first_of}
use Rattle.hp_suspended.specs.Views.{Level, View}
use Rattle.hp_suspended.proofs.CallLemmas.{moved_same}
use Rattle.hp_suspended.proofs.Fitted.{rises}
use Rattle.hp_suspended.proofs.NodeRanges.{node_in}
use Rattle.hp_suspended.proofs.RangeLemmas.{FirstBranch, first_branch, first_ended, first_of-nil}

-- ---- branches

-- behind the last branch there are none
pub no_clauses : (c : CodeView) (k end : ℕ) → AreClausesIn c k end → AreClausesIn c end end
unfolding clauses_in sizes
no_clauses c k end is =
    let none = none_between c.nodes end in
    record {
      read = ap (λ ts. is_some (clauses_read ts)) none;
      whole = ap (λ ts. end + sizes ts) none ∙ omega arith;
      within = is.within;
    }

-- a branch weighs less than its axiom may
pub branch_light : (nodes n k : ℕ) → 0 < n → node_weight nodes (n - 1) (k + 1) ≤ level_weight nodes n
unfolding level_weight
branch_light nodes zero k l = absurd (omega arith)
branch_light nodes (suc n) k l =
    let same : suc n - 1 ≡ n = omega arith in
    subst (λ j. node_weight nodes j (k + 1) ≤ level_weight nodes (suc n)) (sym same) (omega arith)

module _ (s : Scene) (code : IsCode (code_in s)) (old new : List Term) (n : ℕ) (x : Level) (own : Slotted) (here : View)
    (fits : RunningFits (code_in s) (length old) n (under x))
    (moves : Moves (base_of x.here) old new x.own own)
    (keeps : Keeps (code_in s) (length new) own x.here here) where
  -- at the end of the last branch nothing is left
  pub branches_end : GivesOver s new own events.End (λ w. left w x.own x.here) (λ w. left w own here)
      → x.next ≡ x.end → (terms : List Term) → Grows new terms → branch_left (setting_of s terms) n x ≡ []
  branches_end gives last terms grows =
      let w = setting_of s terms in
      let b = stood w x.own x.start in
      ap (λ xs. first_of xs (first_between w (n - 1) x.next x.end b)) (gives terms grows)
      ∙ first_ended w (n - 1) x.next x.end code fits.1 (omega (arith, last)) b

  -- the bindings of an axiom's start are the same behind a call
  start_stays : undone x.start own ≡ undone x.start x.own
  start_stays =
      subst (λ m. undone m own ≡ undone m x.own) fits.4
      (moved_same (base_of x.here) old new x.own own (rises (code_in s) (length old) (length x.own.trail) x.here fits.5)
      moves)

  -- the axiom behind a call of its branch
  abbrev pub called : Level
  called = record { head = x.head; own = own; start = x.start; next = x.next; end = x.end; here = here }

  module _ (y : Level) (is : IsNextBranch n called y)
      (follows : (l : Laid) → slice_get (code_in s).nodes x.next ≡ Some l → y.next ≡ l.to) (less : x.next < x.end) where
    -- the branch that is looked at next, and those behind it
    next_is : (terms : List Term)
        → (l : Laid) × (y.next ≡ l.to) × FirstBranch (setting_of s terms) (n - 1) x.next x.end l
    next_is terms =
        let l = node_in (code_in s).nodes x.next x.end fits.1.within less in
        (l.0, follows l.0 l.1, first_branch (setting_of s terms) (n - 1) x.next x.end code fits.1 less l.0 l.1)

    -- at the end of a branch that isn't the last the same is left
    pub branch_follows : GivesOver s new own events.End (λ w. left w x.own x.here) (λ w. left w own here)
        → GoesOnOver s new (λ w. branch_left w n x) (λ w. branch_left w n y) (λ w. x.end - x.next)
        (λ w. y.end - y.next)
    branch_follows gives = λ terms grows.
        let w = setting_of s terms in
        let f = next_is terms in
        let b = stood w own x.start in
        let same : b ≡ stood w x.own x.start = ap (bindings_of terms) start_stays in (
          rw (is.own, is.here, is.end, is.start, f.1) (sym (f.2.events b)
              ∙ ap (first_between w (n - 1) x.next x.end) same
              ∙ sym (ap (λ xs. first_of xs (first_between w (n - 1) x.next x.end (stood w x.own x.start)))
              (gives terms grows))),
          omega (arith, f.1, f.2.more, f.2.most, is.end),
        )

    -- the next branch fits, and weighs no more
    pub branch_next_keeps : length own.trail ≡ base_of x.here → KeepsAxiom (code_in s) (length new) n x y
    branch_next_keeps ends =
        let f = next_is [] in
        let level = fits.2 less in
        record {
          head = is.head;
          fits =
              rw (is.head, is.own, is.here, is.end, is.start, f.1)
              (fits.0, f.2.others, (λ l. level), moves.below, refl, (ends ∙ fits.4, f.2.first));
          lighter = rw is.here (omega (arith, branch_light (length (code_in s).nodes) n x.next level));
        }

  -- the axiom as it is behind an event of a branch: no other branch counts
  abbrev pub settled : Level
  settled = record { head = x.head; own = own; start = x.start; next = x.end; end = x.end; here = here }

  -- what is left of it is left of the branch
  settled_left : (terms : List Term) → left (setting_of s terms) own here ≡ branch_left (setting_of s terms) n settled
  settled_left terms =
      let w = setting_of s terms in
      let xs = left w own here in
      sym (first_of-nil xs)
      ∙ ap (first_of xs)
      (sym (first_ended w (n - 1) x.end x.end code (no_clauses (code_in s) x.next x.end fits.1) (omega arith)
      (stood w own x.start)))

  -- the first event of a branch is that of the axiom
  pub branch_gives : (e : public_event.Event) → (e ≡ events.End → ⊥)
      → GivesOver s new own e (λ w. left w x.own x.here) (λ w. left w own here)
      → GivesOver s new own e (λ w. branch_left w n x) (λ w. branch_left w n settled)
  branch_gives events.Sat more gives = λ terms grows.
      let w = setting_of s terms in
      let rest = first_between w (n - 1) x.next x.end (stood w x.own x.start) in
      ap (λ xs. first_of xs rest) (gives terms grows)
      ∙ ap (λ xs. Sat (bindings_of terms own) ∷ xs) (settled_left terms)
  branch_gives events.Cut more gives = λ terms grows.
      let w = setting_of s terms in
      let rest = first_between w (n - 1) x.next x.end (stood w x.own x.start) in
      ap (λ xs. first_of xs rest) (gives terms grows) ∙ ap (λ xs. Cut ∷ xs) (settled_left terms)
  branch_gives (events.Fault f) more gives = λ terms grows.
      let w = setting_of s terms in
      let rest = first_between w (n - 1) x.next x.end (stood w x.own x.start) in
      let g = gives terms grows in
      (g.0, ap (λ xs. first_of xs rest) g.1)
  branch_gives events.End more gives = absurd (more refl)

  -- it fits, and weighs no more
  pub branch_keeps : KeepsAxiom (code_in s) (length new) n x settled
  branch_keeps = record {
    head = refl;
    fits = (
      fits.0,
      no_clauses (code_in s) x.next x.end fits.1,
      (λ l. absurd (omega (arith, l))),
      moves.below,
      keeps.start ∙ fits.4,
      keeps.fits,
    );
    lighter = omega (arith, keeps.lighter);
  }
