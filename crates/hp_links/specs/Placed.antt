-- What holds of a sound network in place, which of its tasks come next, and what becomes of it.
use Rattle.std.specs.Prelude.{◌≡◌, ℕ, Bool, false, cond, filter, List, Option, Some, None, Contains, slice_get}
use Rattle.std.specs.List.{list_any}
use Rattle.hp_syntax.specs.Terms.{Term}
use Rattle.hp_syntax.specs.Networks as plain
use Rattle.hp_eval.specs.declared.tasks.TaskTree.{TaskTree}
use Rattle.hp_eval.specs.GoalViews.{network_of}
use Rattle.hp_links.specs.declared.links.Part.{Part}
use Rattle.hp_links.specs.declared.links.Part.TheVariants.{Task, Row}
use Rattle.hp_links.specs.Labelled.{Tree, Leaf, network, number_of, numbers, AreApart, IsNormal, part_in, leads, replaced, without}
use Rattle.hp_links.specs.Linked.{Linked, tree_of, whole}

-- the network is in normal form with each number once; the focus is on a part of it, and its tasks are the parts of
-- their numbers
pub record IsPlaced (s : Linked) : Type 0 where
  pub normal : IsNormal (whole s)
  pub apart : AreApart (numbers (whole s))
  pub focus : (f : ℕ) → s.focus ≡ Some f → part_in f (whole s) ≡ Some (tree_of s f)
  pub tasks : (x cell : ℕ) (immediate : Bool) → part_in x (whole s) ≡ Some (Leaf x cell immediate)
      → slice_get s.parts x ≡ Some (Task cell immediate)

-- ---- which tasks come next

-- whether there is a part, and it is an immediate task
abbrev pub is_immediate : Option Part → Bool
is_immediate None = false
is_immediate (Some (Task cell immediate)) = immediate
is_immediate (Some (Row order start many)) = false

-- where one of the tasks is immediate, the immediate ones alone
abbrev pub immediate_first : List Part → List ℕ → List ℕ
immediate_first parts ks =
    cond (list_any (λ k. is_immediate (slice_get parts k)) ks) (filter (λ k. is_immediate (slice_get parts k)) ks) ks

-- the part with the focus, or the whole network where there is none
abbrev pub scope_of : Linked → Option ℕ → Tree
scope_of s None = whole s
scope_of s (Some f) = tree_of s f

-- the numbers of the tasks that may be done next, from left to right
unfoldable pub candidates_in : Linked → List ℕ
candidates_in s = immediate_first s.parts (leads (scope_of s s.focus))

-- ---- what becomes of a network

-- a task went, and so did the focus
pub record Finishes (old new : Linked) (id : ℕ) : Type 0 where
  pub is : whole new ≡ without id (whole old)
  pub focus : new.focus ≡ None

-- subtasks stand in the place of a task, and have the focus; without subtasks the task went
pub record Expands (old new : Linked) (id : ℕ) (tree : TaskTree) : Type 0 where
  pub subtasks : Tree
  pub network : (terms : List Term) → network terms subtasks ≡ plain.normal (network_of terms tree)
  pub normal : IsNormal subtasks
  pub fresh : (y : ℕ) → Contains (numbers (whole old)) y → Contains (numbers subtasks) y → ⊥
  pub gone : number_of subtasks ≡ None → Finishes old new id
  pub some : (f : ℕ) → number_of subtasks ≡ Some f
      → (whole new ≡ replaced id subtasks (whole old)) × (new.focus ≡ Some f)
