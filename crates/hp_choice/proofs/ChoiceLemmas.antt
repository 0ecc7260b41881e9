-- Choices where terms are added and at sites alike, and the next event of a choice.
use Rattle.std.proofs.Common.{◌≡◌, ℕ, ◌<◌, ◌≤◌, List, [], ◌∷◌, ◌++◌, length, take, Option, Some, None, refl, sym, ◌∙◌, ap, ap₂, subst, arith}
use Rattle.std.specs.Prelude.{flat_map}
use Rattle.std.proofs.lemmas.List.Concat.{flat_map-append}
use Rattle.hp_syntax.specs.Events as plain
use Rattle.hp_syntax.specs.Preconditions.{heard}
use Rattle.hp_syntax.specs.Terms.{Term}
use Rattle.hp_syntax.specs.Values.{Bindings}
use Rattle.hp_syntax.specs.Walk.{child_of}
use Rattle.hp_code.specs.declared.code.Code.{Code}
use Rattle.std.specs.Borrow.{Bor}
use Rattle.hp_eval.specs.declared.event.Event.{Event}
use Rattle.hp_eval.specs.declared.event.Event.TheVariants as events
use Rattle.hp_eval.specs.Events.{AreOfFirst, PlainEvent, event_of, left_after}
use Rattle.hp_eval.specs.GoalViews.{term_at}
use Rattle.hp_eval.specs.Growth.{Grows}
use Rattle.hp_eval.specs.Slotted.{AreBelow, bindings_of}
use Rattle.hp_eval.proofs.GrowthLemmas.{bindings_stay, kept_agree}
use Rattle.hp_suspended.specs.declared.scene.Scene.{Scene}
use Rattle.hp_suspended.specs.SceneViews.{code_in}
use Rattle.hp_precondition.specs.Picks.{picked_kept, picked_rest}
use Rattle.hp_precondition.specs.PickedLaws.{picked_hold, picked_same_base, picked_same_cells}
use Rattle.hp_precondition.proofs.PickedScenes.{rest_heard}
use Rattle.hp_method.specs.Branches.{heard_before}
use Rattle.hp_tree.specs.Children.{place_in}
use Rattle.hp_tree.specs.SearchNodes.{HeldNode, IsHeldNode, node_of}
use Rattle.hp_tree.proofs.SearchNodeLemmas.{node_stays, term_stays}
use Rattle.hp_world.specs.Stages.{Stage}
use Rattle.hp_choice.specs.declared.choice.Choice.{Choice}
use Rattle.hp_choice.specs.Choices.{FirstFits, IsChoice, events_left, first_before, held_children, scene_at}
use Rattle.hp_choice.specs.Deeds.{deed_done}

-- ---- events

-- behind a fault nothing is left of the events of a choice
pub left_heard : (s : Scene) (terms : List Term) (n : ℕ) (g : Stage) (c : Choice) → IsChoice s terms n g c
    → heard (events_left s terms g c) ≡ events_left s terms g c
left_heard s terms n g c h =
    first_heard c.first (bindings_of terms c.slots) (picked_rest c.sats (scene_at s g) terms c.slots)
    (rest_heard c.sats (scene_at s g) terms c.slots) h.first
  where
    first_heard : (first : Option Event) (b : Bindings) (xs : List PlainEvent) → heard xs ≡ xs → FirstFits first xs
        → heard (first_before first b xs) ≡ first_before first b xs
    first_heard None b xs e f = e
    first_heard (Some events.Sat) b xs e f = ap (λ ys. plain.Sat b ∷ ys) e
    first_heard (Some events.Cut) b xs e f = ap (λ ys. plain.Cut ∷ ys) e
    first_heard (Some (events.Fault x)) b xs e f = ap (λ ys. plain.Fault x ∷ ys) (sym f)
    first_heard (Some events.End) b xs e f = e

-- events are the first and those behind it
pub first_left : (xs : List PlainEvent) (b : Bindings) → heard xs ≡ xs → AreOfFirst xs b
    → xs ≡ heard_before (event_of xs) b [] ++ left_after xs
first_left [] b e h = refl
first_left (plain.Sat x ∷ xs) b e h = ap (λ y. plain.Sat y ∷ xs) (sym h)
first_left (plain.Cut ∷ xs) b e h = refl
first_left (plain.Fault f ∷ xs) b e h = sym e

-- where the first is the end there are none
pub none_left : (xs : List PlainEvent) → event_of xs ≡ events.End → xs ≡ []
none_left [] e = refl
none_left (plain.Sat x ∷ xs) e = absurd cc
none_left (plain.Cut ∷ xs) e = absurd cc
none_left (plain.Fault f ∷ xs) e = absurd cc

-- where it isn't, fewer are left behind it
pub fewer_left : (xs : List PlainEvent) → (event_of xs ≡ events.End → ⊥) → length (left_after xs) < length xs
fewer_left [] h = absurd (h refl)
fewer_left (plain.Sat x ∷ xs) h = omega arith
fewer_left (plain.Cut ∷ xs) h = omega arith
fewer_left (plain.Fault f ∷ xs) h = omega arith

-- ---- where terms are added

module _ (old new : List Term) (grows : Grows old new) (s : Scene) (g : Stage) (c : Choice)
    (is : IsChoice s old (length old) g c) where
  agree : take (picked_kept c.sats) old ≡ take (picked_kept c.sats) new
  agree = kept_agree old new grows (picked_kept c.sats) is.kept

  rest_stays : picked_rest c.sats (scene_at s g) old c.slots ≡ picked_rest c.sats (scene_at s g) new c.slots
  rest_stays = picked_same_cells c.sats (scene_at s g) old new c.slots is.suits is.fits agree

  slots_below : AreBelow (length old) c.slots
  slots_below = λ v cell e. omega (arith, (picked_hold c.sats c.slots is.fits).1 v cell e, is.kept)

  -- a choice stays one, with its cells below any count that isn't less
  pub choice_grows : (n : ℕ) → length old ≤ n → IsChoice s new n g c
  choice_grows n l = record {
    task = omega (arith, is.task, l);
    deed = is.deed;
    suits = picked_same_base c.sats (scene_at s g) old new is.suits agree;
    fits = is.fits;
    kept = omega (arith, is.kept, l);
    live = is.live;
    opened = is.opened;
    first = subst (FirstFits c.first) rest_stays is.first;
  }

  -- the same events are left
  pub events_stay : events_left s new g c ≡ events_left s old g c
  events_stay =
      ap₂ (first_before c.first) (bindings_stay old new grows c.slots slots_below) (sym rest_stays)

-- a satisfier gives the same by the deed
done_stays : (old new : List Term) → Grows old new → (s : Scene) (nest : ℕ) (h : HeldNode) (c : Choice)
    → IsHeldNode (length old) h → c.task < length old
    → deed_done (code_in s) nest (node_of new h) (place_in h.network c.id) (term_at new c.task) c.deed
    ≡ deed_done (code_in s) nest (node_of old h) (place_in h.network c.id) (term_at old c.task) c.deed
done_stays old new grows s nest h c node task =
    ap₂ (λ n t. deed_done (code_in s) nest n (place_in h.network c.id) t c.deed) (node_stays old new grows h node)
    (term_stays old new grows c.task task)

-- the same children are left
pub children_stay : (old new : List Term) → Grows old new → (s : Scene) (nest : ℕ) (h : HeldNode) (c : Choice)
    → IsHeldNode (length old) h → IsChoice s old (length old) h.stage c
    → held_children s nest new h c ≡ held_children s nest old h c
children_stay old new grows s nest h c node is =
    ap₂ (λ f xs. flat_map (child_of f) xs) (done_stays old new grows s nest h c node is.task)
    (events_stay old new grows s h.stage c is)

-- ---- scenes of one code

-- a choice is one in a scene of the same code
pub choice_in : (s t : Scene) (terms : List Term) (n : ℕ) (g : Stage) (c : Choice) → t.code ≡ s.code
    → IsChoice s terms n g c → IsChoice t terms n g c
choice_in s t terms n g c e is =
    let same : IsChoice (record t { code = s.code }) terms n g c = record {
      task = is.task;
      deed = is.deed;
      suits = is.suits;
      fits = is.fits;
      kept = is.kept;
      live = is.live;
      opened = is.opened;
      first = is.first;
    } in
    subst (λ (k : Bor Code). IsChoice (record t { code = k }) terms n g c) (sym e) same

-- the same children are left in a scene of the same code
pub children_in : (s t : Scene) (nest : ℕ) (terms : List Term) (h k : HeldNode) (c : Choice) → t.code ≡ s.code
    → k ≡ h → held_children t nest terms k c ≡ held_children s nest terms h c
children_in s t nest terms h k c e f =
    ap₂ (λ (x : Bor Code) y. held_children (record t { code = x }) nest terms y c) e f

-- ---- the next event

module _ (old new : List Term) (grows : Grows old new) (s : Scene) (nest : ℕ) (h : HeldNode)
    (node : IsHeldNode (length old) h) (before after : Choice) (is : IsChoice s old (length old) h.stage before)
    (same_id : after.id ≡ before.id) (same_task : after.task ≡ before.task) (same_deed : after.deed ≡ before.deed)
    (left : events_left s new h.stage after ≡ left_after (events_left s old h.stage before)) where
  done_after : deed_done (code_in s) nest (node_of old h) (place_in h.network before.id) (term_at old before.task)
      before.deed
      ≡ deed_done (code_in s) nest (node_of new h) (place_in h.network after.id) (term_at new after.task) after.deed
  done_after =
      sym (done_stays old new grows s nest h before node is.task)
      ∙ (ap₂ (λ i t. deed_done (code_in s) nest (node_of new h) (place_in h.network i) (term_at new t) before.deed)
      (sym same_id) (sym same_task)
      ∙ ap (deed_done (code_in s) nest (node_of new h) (place_in h.network after.id) (term_at new after.task))
      (sym same_deed))

  -- the child of the next event comes before those of the events behind it
  pub event_next : AreOfFirst (events_left s old h.stage before) (bindings_of new after.slots)
      → held_children s nest old h before
      ≡ flat_map (child_of (deed_done (code_in s) nest (node_of new h) (place_in h.network after.id)
      (term_at new after.task) after.deed))
      (heard_before (event_of (events_left s old h.stage before)) (bindings_of new after.slots) [])
      ++ held_children s nest new h after
  event_next first =
      let done = deed_done (code_in s) nest (node_of new h) (place_in h.network after.id) (term_at new after.task)
      after.deed in
      let xs = events_left s old h.stage before in
      let b = bindings_of new after.slots in
      ap₂ (λ f ys. flat_map (child_of f) ys) done_after
      (first_left xs b (left_heard s old (length old) h.stage before is) first)
      ∙ (flat_map-append (child_of done) (heard_before (event_of xs) b []) (left_after xs)
      ∙ ap (λ ys. flat_map (child_of done) (heard_before (event_of xs) b []) ++ flat_map (child_of done) ys) (sym left))
