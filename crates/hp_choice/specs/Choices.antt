-- The choice of a rule at a task: the events that are left, and the children that they give.
use Rattle.std.specs.Prelude.{◌≡◌, ℕ, ◌<◌, ◌≤◌, true, List, [], ◌∷◌, ◌++◌, length, Option, Some, None, flat_map, Box}
use Rattle.std.specs.Global.{Global}
use Rattle.hp_syntax.specs.Networks.{Place}
use Rattle.hp_syntax.specs.Terms.{Term}
use Rattle.hp_syntax.specs.Values.{Bindings}
use Rattle.hp_syntax.specs.Walk.{Child, DidChild, CutChild, FaultChild, Node, child_of}
use Rattle.hp_eval.specs.declared.event.Event.{Event}
use Rattle.hp_eval.specs.Events.{PlainEvent}
use Rattle.hp_eval.specs.GoalViews.{term_at}
use Rattle.hp_eval.specs.Slotted.{bindings_of}
use Rattle.hp_world.specs.Stages.{Stage}
use Rattle.hp_suspended.specs.declared.scene.Scene.{Scene}
use Rattle.hp_suspended.specs.SceneViews.{code_in}
use Rattle.hp_precondition.specs.Picks.{picked_rest, PickedSuits, PickedFits, picked_kept, picked_live, picked_open}
use Rattle.hp_method.specs.Branches.{EventFits, heard_before}
use Rattle.hp_tree.specs.Children.{place_in}
use Rattle.hp_tree.specs.SearchNodes.{HeldNode, node_of}
use Rattle.hp_site.specs.declared.site.Site.{Site}
use Rattle.hp_site.specs.Sites.{held_now, mark_now}
use Rattle.hp_choice.specs.declared.choice.Choice.{Choice}
use Rattle.hp_choice.specs.declared.choice.Deed.{Deed}
use Rattle.hp_choice.specs.declared.choice.Given.{Given}
use Rattle.hp_choice.specs.declared.choice.Given.TheVariants.{Did, Cut, Fault}
use Rattle.hp_choice.specs.Deeds.{IsDeedIn, deed_done}

-- ---- events

-- a scene of the same code with this stage, without pasts and without indexes
abbrev pub scene_at : Scene → Stage → Scene
scene_at s g = record s { world = record { past = []; now = g; parts = [] } }

-- an event that was heard before it was asked for, if there is one, before others
abbrev pub first_before : Option Event → Bindings → List PlainEvent → List PlainEvent
first_before None b xs = xs
first_before (Some event) b xs = heard_before event b xs

-- such an event isn't the end, and behind a fault nothing is left
abbrev pub FirstFits : Option Event → List PlainEvent → Type 0
FirstFits None xs = Unit {0}
FirstFits (Some event) xs = EventFits event xs

-- the events that are left, at a stage
abbrev pub events_left : Scene → List Term → Stage → Choice → List PlainEvent
events_left s terms g c =
    first_before c.first (bindings_of terms c.slots) (picked_rest c.sats (scene_at s g) terms c.slots)

-- ---- children

-- the children that the events give, of a node with this stage, at a place
abbrev pub choice_children : Scene → ℕ → List Term → Stage → Node → Place → Choice → List Child
choice_children s nest terms g n p c =
    flat_map (child_of (deed_done (code_in s) nest n p (term_at terms c.task) c.deed)) (events_left s terms g c)

-- those of a choice, if there is one
abbrev pub children_if : Scene → ℕ → List Term → Stage → Node → Place → Option (Box Choice Global) → List Child
children_if s nest terms g n p None = []
children_if s nest terms g n p (Some c) = choice_children s nest terms g n p c.value

-- those of a choice at a search node
abbrev pub held_children : Scene → ℕ → List Term → HeldNode → Choice → List Child
held_children s nest terms h c =
    choice_children s nest terms h.stage (node_of terms h) (place_in h.network c.id) c

-- ---- what a choice must be

-- its cells are below a count, its deed is one of the code, and its satisfiers go on with the stage and the slots
pub record IsChoice (s : Scene) (terms : List Term) (n : ℕ) (g : Stage) (c : Choice) : Type 0 where
  pub task : c.task < n
  pub deed : IsDeedIn (code_in s) c.deed
  pub suits : PickedSuits c.sats (scene_at s g) terms
  pub fits : PickedFits c.sats c.slots
  pub kept : picked_kept c.sats ≤ n
  pub live : picked_live c.sats ≡ true
  pub opened : picked_open c.sats ≡ true
  pub first : FirstFits c.first (picked_rest c.sats (scene_at s g) terms c.slots)

-- ---- the next child

-- one child or none, where a decomposition leads to this search node
abbrev pub given_children : List Term → HeldNode → Option Given → List Child
given_children terms h None = []
given_children terms h (Some (Did floor)) = DidChild (node_of terms h) ∷ []
given_children terms h (Some Cut) = CutChild ∷ []
given_children terms h (Some (Fault f)) = FaultChild f ∷ []

-- the number of cells below which all stand that a choice still needs: those before the terms of the child
abbrev pub floor_of : Option Given → ℕ → ℕ
floor_of None n = n
floor_of (Some (Did floor)) n = floor
floor_of (Some Cut) n = n
floor_of (Some (Fault f)) n = n

-- these are no fewer than before, and no more than now
abbrev pub IsFloor : Option Given → ℕ → ℕ → Type 0
IsFloor given old new = (old ≤ floor_of given new) × (floor_of given new ≤ new)

-- without a decomposition the search node stays
abbrev pub StaysUnless : Option Given → Site → Site → Type 0
StaysUnless None old new = mark_now new ≡ mark_now old
StaysUnless (Some (Did floor)) old new = Unit {0}
StaysUnless (Some Cut) old new = mark_now new ≡ mark_now old
StaysUnless (Some (Fault f)) old new = mark_now new ≡ mark_now old

-- the bindings of a choice's slots give this child by a deed, or none; only a decomposition changes the search node
pub record Gives (old_site : Site) (nest : ℕ) (old new : List Term) (c : Choice) (d : Deed) (given : Option Given)
    (new_site : Site) : Type 0 where
  pub children : given_children new (held_now new_site) given
      ≡ deed_done (code_in old_site.scene) nest (node_of old (held_now old_site)) (place_in old_site.net.now c.id)
      (term_at old c.task) d (bindings_of old c.slots)
  pub floor : IsFloor given (length old) (length new)
  pub stays : StaysUnless given old_site new_site

-- the child or none that an event gives; a Sat has the bindings of the choice's slots
abbrev pub event_children : Site → ℕ → List Term → Choice → Event → List Child
event_children site nest terms c event =
    flat_map (child_of (deed_done (code_in site.scene) nest (node_of terms (held_now site))
    (place_in site.net.now c.id) (term_at terms c.task) c.deed))
    (heard_before event (bindings_of terms c.slots) [])

pub record GivesEvent (old_site : Site) (nest : ℕ) (old new : List Term) (c : Choice) (event : Event)
    (given : Option Given) (new_site : Site) : Type 0 where
  pub children : given_children new (held_now new_site) given ≡ event_children old_site nest old c event
  pub floor : IsFloor given (length old) (length new)
  pub stays : StaysUnless given old_site new_site

-- a child is the next of those that were left, and the others are left; where there is none, none was left
pub record Takes (s : Scene) (nest : ℕ) (old new : List Term) (h : HeldNode) (before : Choice) (given : Option Given)
    (child : HeldNode) (left : Choice) : Type 0 where
  pub next : held_children s nest old h before ≡ given_children new child given ++ held_children s nest new h left
  pub all : given ≡ None → held_children s nest new h left ≡ []
