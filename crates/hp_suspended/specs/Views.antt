-- Suspended generators as plain data.
use Rattle.std.specs.Prelude.{ℕ, List, [], ◌∷◌, map, Option, Some, None}
use Rattle.hp_eval.specs.declared.event.Event as public_event
use Rattle.hp_eval.specs.declared.goals.Goal.{Goal}
use Rattle.hp_eval.specs.Slotted.{Slotted}
use Rattle.hp_suspended.specs.declared.suspended.Suspended.{Suspended}
use Rattle.hp_suspended.specs.declared.suspended.Part.{Part}
use Rattle.hp_suspended.specs.declared.suspended.Running.{Running}
use Rattle.hp_suspended.specs.declared.suspended.SimpleAtom.{SimpleAtom}
use Rattle.hp_suspended.specs.declared.suspended.Suspended.TheOpen.{Suspended-F, Part-F, Running-F}
use Rattle.hp_suspended.specs.declared.suspended.Suspended.TheOpen as layer
use Rattle.hp_suspended.specs.declared.suspended.Suspended.TheFolds.{fold-Suspended, fold-Part, fold-Running}
use Rattle.std.specs.Prelude.{Box}
use Rattle.std.specs.Global.{Global}

mutual
  pub data View : Type 0 where
    One : (mark : ℕ) → (event : public_event.Event) → View
    Fresh : (mark nest node : ℕ) → View
    Simple : (atom : SimpleAtom) → View
    Search : (mark nest : ℕ) → (goal : Goal) → (at' rule : ℕ) → (running : RunningView) → View
    Conj : (mark nest next end : ℕ) → (outer : Views) → (here : View) → View
    Disj : (mark nest next end : ℕ) → (here : View) → View

  -- an axiom that is looked at, with slots of its own and the events of its running branch
  pub data RunningView : Type 0 where
    Idle : RunningView
    Under : (head : ℕ) → (own : Slotted) → (start next end : ℕ) → (here : View) → RunningView

  -- the parts of a conjunction below the running one, the last of them on top
  pub data Views : Type 0 where
    Bare : Views
    Above : (lower : Views) → (next : ℕ) → (top : View) → Views

-- a suspended part with the node of the part behind it
pub record Storey : Type 0 where
  pub next : ℕ
  pub top : View

-- an axiom that is looked at
pub record Level : Type 0 where
  pub head : ℕ
  pub own : Slotted
  pub start : ℕ
  pub next : ℕ
  pub end : ℕ
  pub here : View

abbrev pub onto : Views → List Storey → Views
onto vs [] = vs
onto vs (x ∷ xs) = onto (Above vs x.next x.top) xs

abbrev pub running_of : Option (Box Level Global) → RunningView
running_of None = Idle
running_of (Some b) =
    let x = b.value in Under x.head x.own x.start x.next x.end x.here

abbrev pub view_layer : Suspended-F View Storey Level → View
view_layer (layer.One m e) = One m e
view_layer (layer.Fresh m n i) = Fresh m n i
view_layer (layer.Simple a) = Simple a
view_layer (layer.Search m n q i r running) = Search m n q i r (running_of running)
view_layer (layer.Conj m n k end outer here) = Conj m n k end (onto Bare outer.items) here.value
view_layer (layer.Disj m n k end here) = Disj m n k end here.value

abbrev pub storey_layer : Part-F View Storey Level → Storey
storey_layer p = record { next = p.next; top = p.part }

abbrev pub level_layer : Running-F View Storey Level → Level
level_layer r = record {
  head = r.head;
  own = r.own;
  start = r.start;
  next = r.next;
  end = r.end;
  here = r.here;
}

-- what is suspended, as plain data
unfoldable pub view : Suspended → View
view = fold-Suspended View Storey Level view_layer storey_layer level_layer

unfoldable pub storey : Part → Storey
storey = fold-Part View Storey Level view_layer storey_layer level_layer

unfoldable pub level_of : Running → Level
level_of = fold-Running View Storey Level view_layer storey_layer level_layer

abbrev pub views : List Part → Views
views ps = onto Bare (map storey ps)

abbrev pub running_view : Option (Box Running Global) → RunningView
running_view None = Idle
running_view (Some b) =
    let x = level_of b.value in Under x.head x.own x.start x.next x.end x.here

-- an axiom that is looked at, by its fields
abbrev pub level_at : Running → Level
level_at r = record {
  head = r.head;
  own = r.own;
  start = r.start;
  next = r.next;
  end = r.end;
  here = view r.here;
}
