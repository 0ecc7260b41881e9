-- Sources: items whose events follow one another.
use Rattle.std.specs.Prelude.{ℕ, List, map, length, flat_map}
use Rattle.std.specs.List.{All}
use Rattle.hp_syntax.specs.Terms.{Term}
use Rattle.hp_syntax.specs.Events.{Event, sat, in_place, concluded}
use Rattle.hp_syntax.specs.Views.{atom_of, expression_of}
use Rattle.hp_eval.specs.GoalViews.{goal_of, GoalBelow}
use Rattle.hp_eval.specs.Slotted.{Slotted, bindings_of}
use Rattle.hp_answers.specs.AnswerViews.{answer_events, AllFit, BindsBelow}
use Rattle.hp_answers.specs.RuleIndexes.{axiom_at}
use Rattle.hp_laws.specs.HeardAlike.{turned}
use Rattle.hp_satisfiers.specs.declared.expressions.Scene.{Scene}
use Rattle.hp_satisfiers.specs.declared.expressions.Source.{Source}
use Rattle.hp_satisfiers.specs.declared.expressions.Source.TheVariants.{Parts, Sats, Axioms, Branches}
use Rattle.hp_satisfiers.specs.Scenes.{rules_in, axioms_in, state_in, below_at, placed_events}

-- the number of the items
abbrev pub item_count : Source → ℕ
item_count (Parts parts) = length parts.now
item_count (Sats found part negate) = length found.now
item_count (Axioms places goal) = length places.now
item_count (Branches found head goal) = length found.now

module _ (scene : Scene) (level : ℕ) (terms : List Term) (slots : Slotted) where
  -- the events of each item
  abbrev pub pieces : Source → List (List Event)
  pieces (Parts parts) =
      map (λ p. sat (axioms_in scene) level (state_in terms scene) (expression_of p) (bindings_of terms slots))
      parts.now
  pieces (Sats found part negate) =
      let part_events = sat (axioms_in scene) level (state_in terms scene) (expression_of part.now) in
      map (in_place (λ b. turned negate (part_events b) b)) (answer_events terms found.now)
  pieces (Axioms places goal) =
      let lower = below_at (axioms_in scene) level (state_in terms scene) in
      map (λ place. placed_events lower (axiom_at (rules_in scene) place) (goal_of terms goal.now)
      (bindings_of terms slots)) places.now
  pieces (Branches found head goal) =
      map (in_place (λ b. concluded (atom_of head.now) b (goal_of terms goal.now) (bindings_of terms slots)))
      (answer_events terms found.now)

-- the events of all items, one after another
abbrev pub joined : List (List Event) → List Event
joined = flat_map (λ xs. xs)

-- what an item names is below a count, and Sats are of so many variables
abbrev pub SourceBelow : ℕ → ℕ → Source → Type 0
SourceBelow vars n (Parts parts) = Unit {0}
SourceBelow vars n (Sats found part negate) = AllFit vars n found.now
SourceBelow vars n (Axioms places goal) = GoalBelow n goal.now
SourceBelow vars n (Branches found head goal) = GoalBelow n goal.now × All (BindsBelow n) found.now
