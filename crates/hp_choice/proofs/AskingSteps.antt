-- Parts of a conjunction as they are begun, and calls for what is left of them.
use Rattle.std.proofs.Common.{◌≡◌, ℕ, ◌<◌, ◌++◌, Bool, true, List, [], length, Some, arith, refl, ap, sym, ◌∙◌, subst}
use Rattle.std.proofs.lemmas.List.{append-nil}
use Rattle.hp_syntax.specs.declared.pattern.Span.{Span}
use Rattle.hp_syntax.specs.declared.fault.RunFault.{RunFault}
use Rattle.hp_syntax.specs.Events.{Satisfied, Faulty, Nothing, events, finding, sat}
use Rattle.hp_syntax.specs.Syntax.{And, Expressions}
use Rattle.hp_syntax.specs.Terms.{Term}
use Rattle.hp_eval.specs.declared.event.Event.{Event}
use Rattle.hp_eval.specs.declared.event.Event.TheVariants as public_events
use Rattle.hp_eval.specs.Events.{PlainEvent}
use Rattle.hp_eval.specs.Growth.{Grows}
use Rattle.hp_eval.specs.Slotted.{Slotted, bindings_of, undone}
use Rattle.hp_eval.specs.SlotLaws.{undone_whole}
use Rattle.hp_eval.proofs.GrowthLemmas.{grows_self}
use Rattle.hp_code.specs.CodeViews.{CodeView}
use Rattle.hp_suspended.specs.declared.scene.Scene.{Scene}
use Rattle.hp_suspended.specs.Answering.{Gives, GivesOver}
use Rattle.hp_suspended.specs.Fitting.{AreExpressionsIn, Fits}
use Rattle.hp_suspended.specs.Left.{left}
use Rattle.hp_suspended.specs.Nodes.{expressions_in}
use Rattle.hp_suspended.specs.SceneViews.{IsReady, code_in, setting_of}
use Rattle.hp_suspended.specs.Settings.{Setting, all_between, all_events, axioms_in, state_in}
use Rattle.hp_suspended.specs.Views.{Bare, Conj, One, View}
use Rattle.hp_suspended.proofs.CellsAgree.{left_grows}
use Rattle.hp_suspended.proofs.RangeLemmas.{sat_is}
use Rattle.hp_choice.specs.Asking.{behind}
use Rattle.hp_choice.proofs.FindingLemmas.{cut_given, cut_shorter, end_given, fault_given, sat_given}

-- what parts look like that are begun where so many bindings stand
abbrev pub begun_view : ℕ → ℕ → ℕ → ℕ → View
begun_view mark nest first end = Conj mark nest first end Bare (One mark public_events.Sat)

module _ (w : Setting) (nest first end : ℕ) (e : Slotted) where
  -- all that they meet together is left
  left_all : left w e (begun_view (length e.trail) nest first end)
      ≡ all_between w nest first end (bindings_of w.terms e)
  left_all =
      append-nil (all_between w nest first end (bindings_of w.terms (undone (length e.trail) e)) ++ [])
      ∙ append-nil (all_between w nest first end (bindings_of w.terms (undone (length e.trail) e)))
      ∙ ap (λ x. all_between w nest first end (bindings_of w.terms x)) (undone_whole (length e.trail) e refl)

  -- which is what their conjunction meets
  pub left_begun : (s : Span) (ps : Expressions) → expressions_in w.code first end ≡ Some ps
      → left w e (begun_view (length e.trail) nest first end)
      ≡ sat (axioms_in w) nest (state_in w) (And s ps) (bindings_of w.terms e)
  unfolding all_between events
  left_begun s ps is =
      left_all ∙ ap (λ o. all_events w nest o (bindings_of w.terms e)) is
      ∙ sym (sat_is (axioms_in w) nest (state_in w) (And s ps) (bindings_of w.terms e))

module _ (s : Scene) (c d : List Term) (e : Slotted) (v : View) (ready : IsReady s c e)
    (fits : Fits (code_in s) (length c) (length e.trail) v) (grown : Grows c d) where
  -- over more cells the same is left
  pub left_before : left (setting_of s c) e v ≡ left (setting_of s d) e v
  left_before = left_grows (setting_of s c) d grown ready.atoms (code_in s) (length e.trail) v e fits ready.bindings

  -- an event that is given is the first of what was left
  pub event_given : (x : Event) (f : Slotted) (u : View) → GivesOver s d f x (λ w. left w e v) (λ w. left w f u)
      → (y : Event) → x ≡ y → Gives y (bindings_of d f) (left (setting_of s c) e v) (left (setting_of s d) f u)
  event_given x f u gives y is =
      let after = left (setting_of s d) f u in
      subst (λ xs. Gives y (bindings_of d f) xs after) (sym left_before)
      (subst (λ z. Gives z (bindings_of d f) (left (setting_of s d) e v) after) is (gives d (grows_self d)))

  module _ (b : Bool) (x : Event) (f : Slotted) (u : View)
      (gives : GivesOver s d f x (λ w. left w e v) (λ w. left w f u)) where
    abbrev before : List PlainEvent
    before = left (setting_of s c) e v

    abbrev after : List PlainEvent
    after = left (setting_of s d) f u

    given : (y : Event) → x ≡ y → Gives y (bindings_of d f) before after
    given = event_given x f u gives

    -- a satisfier is what is found, behind a cut too
    pub next_sat : x ≡ public_events.Sat → behind b (finding before) ≡ Satisfied
    next_sat is = sat_given b (bindings_of d f) before after (given public_events.Sat is)

    -- and so is a fault
    pub next_fault : (fault : RunFault) → x ≡ public_events.Fault fault → behind b (finding before) ≡ Faulty fault
    next_fault fault is = fault_given b (bindings_of d f) before after fault (given (public_events.Fault fault) is)

    -- behind a cut the others are found
    pub next_cut : x ≡ public_events.Cut → behind b (finding before) ≡ behind true (finding after)
    next_cut is = cut_given b (bindings_of d f) before after (given public_events.Cut is)

    -- which are fewer
    pub next_fewer : x ≡ public_events.Cut → length after < length before
    next_fewer is = cut_shorter b (bindings_of d f) before after (given public_events.Cut is)

    -- at the end nothing is found
    pub next_none : x ≡ public_events.End → behind b (finding before) ≡ behind b Nothing
    next_none is = end_given b (bindings_of d f) before after (given public_events.End is)

-- parts that are begun fit the bindings that stand
pub begun_fits : (c : CodeView) (cells nest first end mark : ℕ) → AreExpressionsIn c first end
    → Fits c cells mark (begun_view mark nest first end)
begun_fits c cells nest first end mark parts = (parts, refl, omega arith)
