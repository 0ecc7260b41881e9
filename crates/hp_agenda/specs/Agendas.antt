-- The children of a node that are left.
use Rattle.std.specs.Prelude.{◌≡◌, ℕ, List, [], ◌++◌, Option, None, Box}
use Rattle.std.specs.Global.{Global}
use Rattle.hp_syntax.specs.Terms.{Term}
use Rattle.hp_syntax.specs.Walk.{Child}
use Rattle.hp_suspended.specs.declared.scene.Scene.{Scene}
use Rattle.hp_suspended.specs.SceneViews.{code_in}
use Rattle.hp_tree.specs.SearchNodes.{HeldNode, node_of}
use Rattle.hp_choice.specs.declared.choice.Choice.{Choice}
use Rattle.hp_choice.specs.declared.choice.Given.{Given}
use Rattle.hp_choice.specs.Choices.{given_children}
use Rattle.hp_agenda.specs.declared.agenda.Agenda.{Agenda}
use Rattle.hp_agenda.specs.Queues.{IsQueue, MaybeOpen, if_open, queue_children}

-- the children that are left of an agenda, at a search node
abbrev pub agenda_children : Scene → ℕ → List Term → HeldNode → Agenda → List Child
agenda_children s nest terms h a =
    if_open s nest terms h a.open ++ queue_children (code_in s) nest (node_of terms h) h.network a.queue

-- the open choice, if there is one, and the queue are as they must be
pub record IsAgenda (s : Scene) (terms : List Term) (base n : ℕ) (h : HeldNode) (a : Agenda) : Type 0 where
  pub choice : MaybeOpen s terms base n h a.open
  pub queue : IsQueue (code_in s) h a.queue

-- a child is the next of those that were left of the open choice, and the others are left; where there is none, none
-- was left
pub record TakesOpen (s : Scene) (nest : ℕ) (old new : List Term) (h : HeldNode) (before : Option (Box Choice Global))
    (given : Option Given) (child : HeldNode) (left : Option (Box Choice Global)) : Type 0 where
  pub next : if_open s nest old h before ≡ given_children new child given ++ if_open s nest new h left
  pub all : given ≡ None → if_open s nest new h left ≡ []

-- the same of all that are left of an agenda
pub record TakesChild (s : Scene) (nest : ℕ) (old new : List Term) (h : HeldNode) (before : Agenda)
    (given : Option Given) (child : HeldNode) (left : Agenda) : Type 0 where
  pub next : agenda_children s nest old h before
      ≡ given_children new child given ++ agenda_children s nest new h left
  pub all : given ≡ None → agenda_children s nest new h left ≡ []
