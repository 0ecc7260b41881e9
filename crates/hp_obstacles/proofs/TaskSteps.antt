-- The tasks of a network, by the numbers that name them.
use Rattle.std.proofs.Common.{◌≡◌, ℕ, ◌+◌, ◌<◌, Bool, List, [], ◌∷◌, ◌++◌, length, map, take, get_or, Option, Some, None, sym, ◌∙◌, ap, ap₂, append-nil}
use Rattle.std.specs.Prelude.{flat_map}
use Rattle.std.proofs.lemmas.List.{map-append, take_more}
use Rattle.std.proofs.lemmas.List.Concat.{flat_map-append}
use Rattle.std.proofs.lemmas.List.Folds.{flat_map-map}
use Rattle.hp_syntax.specs.Networks.{Network, Task, Place, candidates, part_at}
use Rattle.hp_syntax.specs.Terms.{Term}
use Rattle.hp_eval.specs.GoalViews.{term_at}
use Rattle.hp_links.specs.Linked.{Linked, focused, place_of}
use Rattle.hp_world.specs.Stages.{terms_at}
use Rattle.hp_obstacles.specs.Tasks.{task_in, tasks_next}

abbrev pub task_at : Network × Option Place → Option Place → List Term
task_at net None = []
task_at net (Some p) = task_in (part_at net.0 p)

-- what may be done next by the numbers of tasks
abbrev pub tasks_named : List Term → Linked → List ℕ → List Term
tasks_named terms s ids = flat_map (λ id. task_at (focused terms s) (place_of s id)) ids

module _ (terms : List Term) (s : Linked) where
  -- the task that a number names
  pub task_named : (id cell : ℕ) → (p : Place) × (place_of s id ≡ Some p)
      → ((p : Place) → place_of s id ≡ Some p
      → (immediate : Bool) × (part_at (focused terms s).0 p ≡ Some (Task (term_at terms cell) immediate)))
      → task_at (focused terms s) (place_of s id) ≡ term_at terms cell ∷ []
  task_named id cell place there =
      ap (task_at (focused terms s)) place.1 ∙ ap task_in (there place.0 place.1).1

  -- the tasks of one number more
  pub named_more : (ids cells : List ℕ) (i id cell : ℕ) → i < length ids → id ≡ get_or ids i id
      → terms_at terms cells ≡ tasks_named terms s (take i ids)
      → task_at (focused terms s) (place_of s id) ≡ term_at terms cell ∷ []
      → terms_at terms (cells ++ cell ∷ []) ≡ tasks_named terms s (take (i + 1) ids)
  named_more ids cells i id cell h e so_far is =
      let f : ℕ → List Term = λ k. task_at (focused terms s) (place_of s k) in
      map-append (term_at terms) cells (cell ∷ [])
      ∙ ap₂ (λ x y. x ++ y) so_far (sym is)
      ∙ sym (ap (flat_map f) (take_more ids i id h ∙ ap (λ k. take i ids ++ k ∷ []) (sym e))
      ∙ flat_map-append f (take i ids) (id ∷ [])
      ∙ ap (λ x. flat_map f (take i ids) ++ x) (append-nil (f id)))

  -- those of all candidates
  pub named_next : (ids : List ℕ)
      → map (place_of s) ids ≡ map Some (candidates (focused terms s).0 (focused terms s).1)
      → tasks_named terms s ids ≡ tasks_next (focused terms s)
  named_next ids e =
      sym (flat_map-map (task_at (focused terms s)) (place_of s) ids)
      ∙ ap (flat_map (task_at (focused terms s))) e
      ∙ flat_map-map (task_at (focused terms s)) Some (candidates (focused terms s).0 (focused terms s).1)
