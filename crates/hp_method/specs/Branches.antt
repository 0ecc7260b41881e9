-- What the nodes of a code read back as: the branches of a method and the tasks of each; and the branch that is chosen.
use Rattle.std.specs.Prelude.{◌≡◌, ℕ, ◌≤◌, true, List, [], ◌∷◌, length, take, slice_get, Option, Some, None, is_some}
use Rattle.std.specs.Option.{option_and_then}
use Rattle.hp_syntax.specs.Events as plain
use Rattle.hp_syntax.specs.Preconditions.{precondition_events}
use Rattle.hp_syntax.specs.Syntax.{Branch, Rule, Tasks}
use Rattle.hp_syntax.specs.Terms.{Term}
use Rattle.hp_syntax.specs.Values.{Bindings}
use Rattle.hp_syntax.specs.Walk.{chosen_branch}
use Rattle.hp_nodes.specs.Trees.{Node, NoTree, TasksOf, Tree, tree_at, trees_between}
use Rattle.hp_code.specs.CodeViews.{CodeView}
use Rattle.hp_code.specs.Sources.{branch_read, branches_read}
use Rattle.hp_eval.specs.declared.event.Event.{Event}
use Rattle.hp_eval.specs.declared.event.Event.TheVariants as events
use Rattle.hp_eval.specs.Events.{PlainEvent}
use Rattle.hp_eval.specs.Slotted.{Slotted, bindings_of}
use Rattle.hp_suspended.specs.declared.scene.Scene.{Scene}
use Rattle.hp_suspended.specs.Fitting.{IsRange}
use Rattle.hp_suspended.specs.SceneViews.{code_in, setting_of}
use Rattle.hp_suspended.specs.Settings.{axioms_in, state_in}
use Rattle.hp_precondition.specs.Picks.{picked_rest, PickedSuits, PickedFits, picked_kept, picked_live, picked_open}
use Rattle.hp_precondition.specs.PreconditionNodes.{precondition_at}
use Rattle.hp_method.specs.declared.chosen.Chosen.{Chosen}

-- ---- nodes

-- the tasks that a tree is, if it is those of a branch
abbrev pub tasks_read : Tree → Option Tasks
tasks_read (Node (TasksOf tasks) s NoTree) = Some tasks
tasks_read _ = None

-- the tasks of a node
unfoldable pub tasks_at : CodeView → ℕ → Option Tasks
tasks_at c i = option_and_then tasks_read (tree_at c.nodes i)

-- the branch of a node
unfoldable pub branch_at : CodeView → ℕ → Option Branch
branch_at c i = option_and_then branch_read (tree_at c.nodes i)

abbrev pub IsBranchAt : CodeView → ℕ → Type 0
IsBranchAt c i = is_some (branch_at c i) ≡ true

-- the branches that the nodes from one index up to another read back as
unfoldable pub branches_at : CodeView → ℕ → ℕ → Option (List Branch)
branches_at c i to = branches_read (trees_between c.nodes i to)

-- the nodes from one index up to another are those of branches
pub record AreBranchesIn (c : CodeView) (i to : ℕ) : Type 0 where
  pub read : is_some (branches_at c i to) ≡ true
  pub whole : IsRange c i to
  pub within : to ≤ length c.nodes

-- the first of two nodes is that of a branch's precondition, and the second that of its tasks
pub record ArePartsOf (c : CodeView) (b : Branch) (parts : ℕ × ℕ) : Type 0 where
  pub pre : precondition_at c parts.0 ≡ Some b.pre
  pub tasks : tasks_at c parts.1 ≡ Some b.tasks

-- ---- events

-- an event that was heard, with these bindings where it is a Sat, before those that are left
abbrev pub heard_before : Event → Bindings → List PlainEvent → List PlainEvent
heard_before events.Sat b xs = plain.Sat b ∷ xs
heard_before events.Cut b xs = plain.Cut ∷ xs
heard_before (events.Fault f) b xs = plain.Fault f ∷ xs
heard_before events.End b xs = xs

-- an event that was heard isn't the end, and behind a fault nothing is left
abbrev pub EventFits : Event → List PlainEvent → Type 0
EventFits events.Sat xs = Unit {0}
EventFits events.Cut xs = Unit {0}
EventFits (events.Fault f) xs = xs ≡ []
EventFits events.End xs = ⊥

-- all events of the precondition of a chosen branch
abbrev pub chosen_events : Scene → List Term → Slotted → Chosen → List PlainEvent
chosen_events s terms e x = heard_before x.first (bindings_of terms e) (picked_rest x.sats s terms e)

-- ---- choosing

-- the satisfiers of a chosen branch go on with the scene and the slots
pub record ChosenFits (s : Scene) (terms : List Term) (e : Slotted) (x : Chosen) : Type 0 where
  pub suits : PickedSuits x.sats s terms
  pub fits : PickedFits x.sats e
  pub kept : picked_kept x.sats ≤ length terms
  pub live : picked_live x.sats ≡ true
  pub opened : picked_open x.sats ≡ true
  pub first : EventFits x.first (picked_rest x.sats s terms e)

-- a branch of a code is the one that is chosen, with the events of its precondition
pub record IsChosen (s : Scene) (terms : List Term) (e : Slotted) (x : Chosen)
    (whole : Option (Branch × List PlainEvent)) : Type 0 where
  pub branch : Branch
  pub is : whole ≡ Some (branch, chosen_events s terms e x)
  pub tasks : tasks_at (code_in s) x.tasks ≡ Some branch.tasks

abbrev pub Chooses : Scene → List Term → Slotted → Option Chosen → Option (Branch × List PlainEvent) → Type 0
Chooses s terms e None whole = whole ≡ None
Chooses s terms e (Some x) whole = IsChosen s terms e x whole

-- of branches the one of this number is chosen, and none of those before it would be
pub record IsChosenAt (rules : List Rule) (nest : ℕ) (st : plain.State) (e : Bindings) (bs : List Branch) (number : ℕ)
    : Type 0 where
  pub branch : Branch
  pub events : List PlainEvent
  pub is : chosen_branch rules nest st bs e ≡ Some (branch, events)
  pub there : slice_get bs number ≡ Some branch
  pub before : chosen_branch rules nest st (take number bs) e ≡ None

-- the precondition of a branch has no events, and the slots are as before; or these
abbrev pub HearsEvents : Scene → List Term → Slotted → Slotted → Branch → Option Chosen → List PlainEvent → Type 0
HearsEvents s terms old new b None xs = (xs ≡ []) × (new ≡ old)
HearsEvents s terms old new b (Some x) xs =
    (xs ≡ chosen_events s terms new x) × ((x.first ≡ events.End → ⊥) × (tasks_at (code_in s) x.tasks ≡ Some b.tasks))

-- the branch of a node is heard
abbrev pub Hears : Scene → List Term → List Term → Slotted → Slotted → ℕ → ℕ → Branch → Option Chosen → Type 0
Hears s before after old new nest i b o =
    branch_at (code_in s) i ≡ Some b
    → HearsEvents s after old new b o
    (precondition_events (axioms_in (setting_of s before)) nest (state_in (setting_of s before)) b.pre
    (bindings_of before old))
