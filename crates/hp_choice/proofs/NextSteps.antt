-- The next child of a choice, step by step.
use Rattle.std.proofs.Common.{◌≡◌, ℕ, ◌<◌, true, false, List, [], ◌++◌, length, Option, Some, None, is_some, refl, sym, ◌∙◌, ap, ap₂, subst}
use Rattle.std.specs.Borrow.{Bor}
use Rattle.std.specs.Prelude.{flat_map}
use Rattle.hp_syntax.specs.Terms.{Term}
use Rattle.hp_syntax.specs.Walk.{Child, child_of}
use Rattle.hp_code.specs.declared.code.Code.{Code}
use Rattle.hp_eval.specs.declared.event.Event.{Event}
use Rattle.hp_eval.specs.declared.event.Event.TheVariants as events
use Rattle.hp_eval.specs.Events.{AreOfFirst, event_of, left_after}
use Rattle.hp_eval.specs.GoalViews.{term_at}
use Rattle.hp_eval.specs.Growth.{Grows}
use Rattle.hp_eval.specs.Slotted.{bindings_of}
use Rattle.hp_suspended.specs.SceneViews.{code_in}
use Rattle.hp_tree.specs.Children.{place_in}
use Rattle.hp_tree.specs.SearchNodes.{HeldNode, node_of}
use Rattle.hp_tree.proofs.SearchNodeLemmas.{node_grows}
use Rattle.hp_site.specs.declared.site.Site.{Site}
use Rattle.hp_site.specs.Sites.{IsSite, Keeps, held_now, mark_now}
use Rattle.hp_choice.specs.declared.choice.Choice.{Choice}
use Rattle.hp_choice.specs.declared.choice.Given.{Given}
use Rattle.hp_choice.specs.Choices.{GivesEvent, IsChoice, StaysUnless, Takes, event_children, events_left, floor_of, given_children, held_children}
use Rattle.hp_choice.specs.Deeds.{deed_done}
use Rattle.hp_choice.specs.Served.{ServesStill}
use Rattle.hp_choice.proofs.ChoiceLemmas.{children_in, children_stay, choice_grows, choice_in, event_next, events_stay, fewer_left, none_left}

-- ---- children that may be there

-- where a child is there, nothing follows from its being none
some_given : (given : Option Given) {X : Type 0} → is_some given ≡ true → given ≡ None → X
some_given None e h = absurd cc
some_given (Some x) e h = absurd cc

-- a child that isn't there is none
pub none_given : (given : Option Given) → is_some given ≡ false → given ≡ None
none_given None e = refl
none_given (Some x) e = absurd cc

-- a choice that serves still by the next event does so after it
pub served_on : (first old mid new : Choice) → ServesStill first old → ServesStill old mid → new ≡ mid
    → ServesStill first new
served_on first old mid new h k same = subst (ServesStill first) (sym same)
    (record { task = k.task ∙ h.task; rule = k.rule ∙ h.rule; branch = k.branch ∙ h.branch })

-- ---- sites alike

-- a choice is one at a site of the same code and the same search node
pub choice_at : (s t : Site) (terms : List Term) (n : ℕ) (c : Choice) → t.scene.code ≡ s.scene.code
    → held_now t ≡ held_now s → IsChoice s.scene terms n (held_now s).stage c
    → IsChoice t.scene terms n (held_now t).stage c
choice_at s t terms n c code held is =
    subst (λ (h : HeldNode). IsChoice t.scene terms n h.stage c) (sym held)
    (choice_in s.scene t.scene terms n (held_now s).stage c code is)

-- the same events are left at such a site
events_at : (s t : Site) (terms : List Term) (c : Choice) → t.scene.code ≡ s.scene.code → held_now t ≡ held_now s
    → events_left t.scene terms (held_now t).stage c ≡ events_left s.scene terms (held_now s).stage c
events_at s t terms c code held =
    ap₂ (λ (k : Bor Code) (h : HeldNode). events_left (record t.scene { code = k }) terms h.stage c) code held

-- the search node stays where there is no child
pub stays_none : (given : Option Given) (a b : Site) → given ≡ None → StaysUnless given a b → mark_now b ≡ mark_now a
stays_none None a b e h = h
stays_none (Some x) a b e h = absurd cc

-- ---- the next child

module _ (old mid : List Term) (first_grows : Grows old mid) (s : Site) (nest : ℕ)
    (site : IsSite old s) (before after : Choice)
    (is : IsChoice s.scene old (length old) (held_now s).stage before)
    (next : IsChoice s.scene mid (length mid) (held_now s).stage after)
    (same_id : after.id ≡ before.id) (same_task : after.task ≡ before.task) (same_deed : after.deed ≡ before.deed)
    (left : events_left s.scene mid (held_now s).stage after
    ≡ left_after (events_left s.scene old (held_now s).stage before))
    (first : AreOfFirst (events_left s.scene old (held_now s).stage before) (bindings_of mid after.slots))
    (event : Event) (heard : event ≡ event_of (events_left s.scene old (held_now s).stage before)) where
  -- the children behind the next event are left
  event_first : held_children s.scene nest old (held_now s) before
      ≡ event_children s nest mid after event ++ held_children s.scene nest mid (held_now s) after
  event_first =
      event_next old mid first_grows s.scene nest (held_now s) site.node before after is same_id same_task same_deed
      left first
      ∙ ap (λ x. event_children s nest mid after x ++ held_children s.scene nest mid (held_now s) after) (sym heard)

  -- at the end none is left
  pub end_left : event ≡ events.End → held_children s.scene nest mid (held_now s) after ≡ []
  end_left end =
      let h = held_now s in
      let none : events_left s.scene mid h.stage after ≡ [] =
      left ∙ ap left_after (none_left (events_left s.scene old h.stage before) (sym heard ∙ end)) in
      ap (flat_map (child_of (deed_done (code_in s.scene) nest (node_of mid h) (place_in h.network after.id)
      (term_at mid after.task) after.deed))) none

  -- at the end the children that were left are those that are
  pub end_before : event ≡ events.End
      → held_children s.scene nest old (held_now s) before ≡ held_children s.scene nest mid (held_now s) after
  end_before end =
      event_first
      ∙ ap (λ x. event_children s nest mid after x ++ held_children s.scene nest mid (held_now s) after) end

  module _ (new : List Term) (then_grows : Grows mid new) (t : Site) (given : Option Given)
      (gives : GivesEvent s nest mid new after event given t) where
    -- the child that the event gives is the first of those that were left
    pub child_first : held_children s.scene nest old (held_now s) before
        ≡ given_children new (held_now t) given ++ held_children s.scene nest new (held_now s) after
    child_first =
        event_first
        ∙ ap₂ ◌++◌ (sym gives.children)
        (sym (children_stay mid new then_grows s.scene nest (held_now s) after
        (node_grows old mid first_grows (held_now s) site.node) next))

    -- the choice stays one, with its cells below those before the terms of the child
    pub choice_left : IsChoice s.scene new (floor_of given (length new)) (held_now s).stage after
    choice_left =
        choice_grows mid new then_grows s.scene (held_now s).stage after next (floor_of given (length new))
        gives.floor.0

    -- where the event isn't the end, fewer are left behind it, at a site of the same code and the same search node
    pub fewer_then : (event ≡ events.End → ⊥) → t.scene.code ≡ s.scene.code → held_now t ≡ held_now s
        → length (events_left t.scene new (held_now t).stage after)
        < length (events_left s.scene old (held_now s).stage before)
    fewer_then more code held =
        let xs = events_left s.scene old (held_now s).stage before in
        let same : events_left t.scene new (held_now t).stage after ≡ left_after xs =
        events_at s t new after code held
        ∙ (events_stay mid new then_grows s.scene (held_now s).stage after next ∙ left) in
        subst (λ ys. length ys < length xs) (sym same) (fewer_left xs (λ e. more (heard ∙ e)))

    -- where the event gives no child, the children that were left are those that are, at such a site
    pub passed_then : given ≡ None → t.scene.code ≡ s.scene.code → held_now t ≡ held_now s
        → held_children s.scene nest old (held_now s) before ≡ held_children t.scene nest new (held_now t) after
    passed_then none code held =
        child_first
        ∙ (ap (λ x. given_children new (held_now t) x ++ held_children s.scene nest new (held_now s) after) none
        ∙ sym (children_in s.scene t.scene nest new (held_now s) (held_now t) after code held))

-- ---- from the first call on

module _ (whole : Site) (s : Site) (nest : ℕ) (start : List Term) (chosen : Choice)
    (keeps : Keeps (mark_now whole) whole s) (held : held_now s ≡ held_now whole) (new : List Term)
    (after : Choice) where
  -- a child that is the first of those left is taken
  pub takes_some : (t : Site) (given : Option Given) (xs : List Child)
      → held_children whole.scene nest start (held_now whole) chosen ≡ xs
      → xs ≡ given_children new (held_now t) given ++ held_children s.scene nest new (held_now s) after
      → is_some given ≡ true
      → Takes whole.scene nest start new (held_now whole) chosen given (held_now t) after
  takes_some t given xs so_far next some = record {
    next =
        so_far
        ∙ (next
        ∙ ap (λ ys. given_children new (held_now t) given ++ ys)
        (children_in whole.scene s.scene nest new (held_now whole) (held_now s) after keeps.code held));
    all = λ none. some_given given some none;
  }

  -- where nothing is left, nothing is taken
  pub takes_none : (xs : List Child) → held_children whole.scene nest start (held_now whole) chosen ≡ xs
      → xs ≡ held_children s.scene nest new (held_now s) after
      → held_children s.scene nest new (held_now s) after ≡ []
      → Takes whole.scene nest start new (held_now whole) chosen None (held_now s) after
  takes_none xs so_far same none =
      let moved = children_in whole.scene s.scene nest new (held_now whole) (held_now s) after keeps.code held in
      record { next = so_far ∙ (same ∙ moved); all = λ e. sym moved ∙ none }
