-- Satisfiers that pass a test.
use Rattle.std.proofs.Common.{◌≡◌, ℕ, ◌<◌, ◌⊎◌, inl, inr, Bool, true, false, cond, List, length, map, slice_get, Option, Some, None, is_some, arith, refl, ap, sym, ◌∙◌, subst}
use Rattle.hp_syntax.specs.declared.fault.RunFault.{RunFault}
use Rattle.hp_syntax.specs.Events.{State, finding, sat}
use Rattle.hp_syntax.specs.Syntax.{Expression}
use Rattle.hp_syntax.specs.Terms.{Term}
use Rattle.hp_syntax.specs.Values.{Bindings}
use Rattle.hp_code.specs.CodeViews.{CodeView}
use Rattle.hp_eval.specs.declared.event.Event.{Event}
use Rattle.hp_eval.specs.declared.event.Event.TheVariants as events
use Rattle.hp_eval.specs.Events.{PlainEvent}
use Rattle.hp_eval.specs.Growth.{Grows}
use Rattle.hp_eval.specs.Slotted.{Slotted, bindings_of, named}
use Rattle.hp_eval.proofs.GrowthLemmas.{terms_stay}
use Rattle.hp_eval.proofs.SlotLemmas.{undone_none}
use Rattle.hp_world.specs.Stages.{AllBelow, live_atoms}
use Rattle.hp_suspended.specs.declared.scene.Scene.{Scene}
use Rattle.hp_suspended.specs.declared.suspended.Suspended.TheVariants as variants
use Rattle.hp_suspended.specs.Answering.{Gives, GivesOver}
use Rattle.hp_suspended.specs.Fitting.{Fits, IsExpressionAt}
use Rattle.hp_suspended.specs.Left.{left}
use Rattle.hp_suspended.specs.Nodes.{expression_at}
use Rattle.hp_suspended.specs.SceneViews.{IsReady, code_in, setting_of}
use Rattle.hp_suspended.specs.Settings.{Setting, axioms_in, expression_events, node_events, state_in}
use Rattle.hp_suspended.specs.Views.{View, view}
use Rattle.hp_choice.specs.declared.asking.Finding.{Finding}
use Rattle.hp_choice.specs.Asking.{finding_of}
use Rattle.hp_choice.specs.FirstSatisfier.{first_that}
use Rattle.hp_choice.specs.declared.first.Test.{Test}
use Rattle.hp_choice.specs.Tests.{Passes, is_nothing}
use Rattle.hp_choice.proofs.AlongSteps.{fresh_is}
use Rattle.hp_choice.proofs.AskingSteps.{event_given}

-- ---- an expression that nothing satisfies

-- slots with the same cells hold the same bindings
copied : (terms : List Term) (e f : Slotted) → f.values ≡ e.values → bindings_of terms f ≡ bindings_of terms e
copied terms e f same = ap (map (named terms)) same

-- a scene that is ready for slots is ready for a copy of them
pub copy_ready : (s : Scene) (c : List Term) (e f : Slotted) → f.values ≡ e.values → IsReady s c e → IsReady s c f
copy_ready s c e f same ready = record {
  atoms = ready.atoms;
  knows = ready.knows;
  bindings = λ v cell is. ready.bindings v cell (ap (λ vs. slice_get vs v) (sym same) ∙ is);
}

-- all events of a node fit the bindings that stand
pub fits_fresh : (c : CodeView) (cells mark nest k : ℕ) (e : Slotted) → mark ≡ length e.trail → IsExpressionAt c k
    → Fits c cells (length e.trail) (view (variants.Fresh mark nest k))
fits_fresh c cells mark nest k e is part =
    subst (Fits c cells (length e.trail)) (sym (fresh_is mark nest k e is)) (refl, part)

-- what is found among them is what is found of the node under the bindings of the slots that were copied
pub unmet_is : (w : Setting) (mark nest k : ℕ) (e own : Slotted) → mark ≡ length own.trail → own.values ≡ e.values
    → (f : Finding) → finding_of f ≡ finding (left w own (view (variants.Fresh mark nest k))) → (g : Finding) → f ≡ g
    → is_nothing (finding_of g) ≡ is_nothing (finding (node_events w nest k (bindings_of w.terms e)))
unmet_is w mark nest k e own is same f found g told =
    ap (λ x. is_nothing (finding_of x)) (sym told)
    ∙ ap is_nothing
    (found
    ∙ ap (λ v. finding (left w own v)) (fresh_is mark nest k own is)
    ∙ ap (λ y. finding (node_events w nest k (bindings_of w.terms y))) (undone_none own)
    ∙ ap (λ b. finding (node_events w nest k b)) (copied w.terms e own same))

-- a node meets what its expression meets
node_is : (w : Setting) (nest k : ℕ) (E : Expression) → expression_at w.code k ≡ Some E → (e : Bindings)
    → node_events w nest k e ≡ sat (axioms_in w) nest (state_in w) E e
unfolding node_events
node_is w nest k E there e = ap (λ o. expression_events w nest o e) there

tested_by : (w : Setting) (nest k : ℕ) (e : Bindings) (passes : Bindings → Bool)
    → ((E : Expression) → expression_at w.code k ≡ Some E → (b : Bindings)
    → passes b ≡ is_nothing (finding (sat (axioms_in w) nest (state_in w) E b))) → (b : Bool)
    → b ≡ is_nothing (finding (node_events w nest k e)) → (o : Option Expression) → expression_at w.code k ≡ o
    → is_some o ≡ true → b ≡ passes e
tested_by w nest k e passes tests b is None there h = absurd cc
tested_by w nest k e passes tests b is (Some E) there h =
    is ∙ ap (λ xs. is_nothing (finding xs)) (node_is w nest k E there e) ∙ sym (tests E there e)

-- a test by a node is one by its expression
pub node_tested : (w : Setting) (nest k : ℕ) (e : Bindings) (passes : Bindings → Bool) → IsExpressionAt w.code k
    → ((E : Expression) → expression_at w.code k ≡ Some E → (b : Bindings)
    → passes b ≡ is_nothing (finding (sat (axioms_in w) nest (state_in w) E b))) → (b : Bool)
    → b ≡ is_nothing (finding (node_events w nest k e)) → b ≡ passes e
node_tested w nest k e passes part tests b is =
    tested_by w nest k e passes tests b is (expression_at w.code k) refl part

-- a test in the state of some cells is one in that of more
pub tests_later : (s : Scene) (c d : List Term) → Grows c d → AllBelow (length c) (live_atoms s.world.now.places)
    → (nest : ℕ) (test : Test) (passes : Bindings → Bool)
    → Passes (code_in s) nest (state_in (setting_of s c)) test passes
    → Passes (code_in s) nest (state_in (setting_of s d)) test passes
tests_later s c d grown atoms nest test passes tests =
    subst (λ (st : State). Passes (code_in s) nest st test passes)
    (sym (terms_stay c d grown (live_atoms s.world.now.places) atoms)) tests

-- ---- the first satisfier that passes

module _ (passes : Bindings → Bool) (e : Bindings) (old new : List PlainEvent) where
  -- a satisfier that is given and passes is the first
  sat_first : Gives events.Sat e old new → passes e ≡ true → first_that passes old ≡ Some e
  sat_first g h = ap (first_that passes) g ∙ ap (λ b. cond b (Some e) (first_that passes new)) h

  -- after one that doesn't pass it is the first of what is left
  other_first : Gives events.Sat e old new → passes e ≡ false → first_that passes old ≡ first_that passes new
  other_first g h = ap (first_that passes) g ∙ ap (λ b. cond b (Some e) (first_that passes new)) h

  -- and less is left
  other_shorter : Gives events.Sat e old new → length new < length old
  other_shorter g = let l = ap length g in omega arith

  -- after a cut it is the first of what is left
  cut_first : Gives events.Cut e old new → first_that passes old ≡ first_that passes new
  cut_first g = ap (first_that passes) g

  -- where a fault is given, none comes before it
  fault_first : (f : RunFault) → Gives (events.Fault f) e old new → first_that passes old ≡ None
  fault_first f g = ap (first_that passes) g.1

  -- where nothing is given, there is none
  end_first : Gives events.End e old new → first_that passes old ≡ None
  end_first g = ap (first_that passes) g

module _ (s : Scene) (c d : List Term) (e : Slotted) (v : View) (ready : IsReady s c e)
    (fits : Fits (code_in s) (length c) (length e.trail) v) (grown : Grows c d) (x : Event) (f : Slotted) (u : View)
    (gives : GivesOver s d f x (λ w. left w e v) (λ w. left w f u)) where
  abbrev before : List PlainEvent
  before = left (setting_of s c) e v

  abbrev after : List PlainEvent
  after = left (setting_of s d) f u

  given : (y : Event) → x ≡ y → Gives y (bindings_of d f) before after
  given = event_given s c d e v ready fits grown x f u gives

  -- after a satisfier that doesn't pass less is left
  pub passing_shorter : x ≡ events.Sat → length after < length before
  passing_shorter is = other_shorter (λ b. true) (bindings_of d f) before after (given events.Sat is)

  module _ (passes : Bindings → Bool) where
    -- a satisfier that passes is the first of those that were left
    pub passing_sat : x ≡ events.Sat → passes (bindings_of d f) ≡ true
        → first_that passes before ≡ Some (bindings_of d f)
    passing_sat is h = sat_first passes (bindings_of d f) before after (given events.Sat is) h

    -- after one that doesn't, and after a cut, the first is the same
    pub passing_other : x ≡ events.Sat → passes (bindings_of d f) ≡ false
        → first_that passes before ≡ first_that passes after
    passing_other is h = other_first passes (bindings_of d f) before after (given events.Sat is) h

    pub passing_cut : x ≡ events.Cut → first_that passes before ≡ first_that passes after
    passing_cut is = cut_first passes (bindings_of d f) before after (given events.Cut is)

    -- at a fault and at the end there is none
    pub passing_none : ((fault : RunFault) × (x ≡ events.Fault fault)) ⊎ (x ≡ events.End)
        → first_that passes before ≡ None
    passing_none (inl h) = fault_first passes (bindings_of d f) before after h.0 (given (events.Fault h.0) h.1)
    passing_none (inr is) = end_first passes (bindings_of d f) before after (given events.End is)
