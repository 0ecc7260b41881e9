-- What follows an operator's precondition among the nodes of a code, its effects and its cost, and what these come to.
use Rattle.std.specs.Prelude.{◌≡◌, ℕ, ◌+◌, ◌<◌, ◌≤◌, Bool, true, false, ℤ, List, [], ◌∷◌, length, map, slice_get, cond, Option, None, Some, is_some, Result, Ok, Err}
use Rattle.std.specs.Option.{option_and_then}
use Rattle.hp_syntax.specs.declared.domain.Side.{Side}
use Rattle.hp_syntax.specs.declared.domain.Side.TheVariants.{Deletes, Adds}
use Rattle.hp_syntax.specs.Syntax as syntax
use Rattle.hp_syntax.specs.Syntax.{Axiom, Effect, Expression, Pattern}
use Rattle.hp_syntax.specs.Terms.{Term}
use Rattle.hp_syntax.specs.Values.{Bindings}
use Rattle.hp_syntax.specs.Events.{State}
use Rattle.hp_syntax.specs.Applying.{ChangesOf}
use Rattle.hp_syntax.specs.Changes.{Changes, Gathered, Going, Went, and_go, changes_of as gathered_changes, cost_value, effect_values, effects_values}
use Rattle.hp_nodes.specs.Trees.{CostOf, Each as EachOf, Laid, tree_at, trees_between}
use Rattle.hp_code.specs.CodeViews.{CodeView}
use Rattle.hp_code.specs.Sources.{Body, Sided, body_read, effect_read, from_adding, not_adding, with_effect}
use Rattle.hp_world.specs.Stages.{changes_of, ChangesBelow}
use Rattle.hp_suspended.specs.Nodes.{expression_at}
use Rattle.hp_suspended.specs.Fitting.{IsRange}
use Rattle.hp_suspended.specs.Settings.{Setting, axioms_in, state_in}
use Rattle.hp_effect.specs.declared.obstacle.Obstacle.{Obstacle}
use Rattle.hp_effect.specs.Gathering.{StopsHere}
use Rattle.hp_operator.specs.Changed.{any_adds, changed_atoms}

-- the effects and the cost that the nodes from one index up to another read back as, if they are those of an operator
unfoldable pub body_at : CodeView → ℕ → ℕ → Option Body
body_at c i to = body_read (trees_between c.nodes i to)

-- the effect that a node reads back as, if it is one's
unfoldable pub effect_at : CodeView → ℕ → Option Sided
effect_at c i = option_and_then effect_read (tree_at c.nodes i)

abbrev pub is_adding : Side → Bool
is_adding Deletes = false
is_adding Adds = true

-- the nodes from one index up to another are the effects and the cost of an operator
pub record IsBodyIn (c : CodeView) (i to : ℕ) : Type 0 where
  pub read : is_some (body_at c i to) ≡ true
  pub whole : IsRange c i to
  pub within : to ≤ length c.nodes

-- ---- effects for each satisfier

-- the node, which ends at an index, is that of an effect for each satisfier
pub record IsEachAt (c : CodeView) (i to : ℕ) : Type 0 where
  pub node : Laid
  pub there : slice_get c.nodes i ≡ Some node
  pub ends : node.to ≡ to
  pub does : node.op ≡ EachOf
  pub read : is_some (effect_at c i) ≡ true

-- the node behind it is that of its expression, and these nodes are those of the changes for each satisfier
pub record ChangesEach (c : CodeView) (i to : ℕ) (nodes : List Laid) : Type 0 where
  pub expression : Expression
  pub first : expression_at c (i + 1) ≡ Some expression
  pub effect : effect_at c i
      ≡ Some (record { adds = any_adds nodes; effect = syntax.Each [] expression (changed_atoms nodes) })

-- ---- the first of the nodes

-- the cost stands first, and nothing behind it
pub record StandsCost (c : CodeView) (i to : ℕ) : Type 0 where
  pub cost : Pattern
  pub node : Laid
  pub there : slice_get c.nodes i ≡ Some node
  pub does : node.op ≡ CostOf cost
  pub is : body_at c i to ≡ Some (record { effects = []; cost = cost })

-- an effect on this side by itself stands first, and the others behind it
pub record StandsEffect (c : CodeView) (i to : ℕ) (side : Side) : Type 0 where
  pub effect : Sided
  pub others : Body
  pub node : Laid
  pub there : slice_get c.nodes i ≡ Some node
  pub reads : effect_at c i ≡ Some effect
  pub adds : effect.adds ≡ is_adding side
  pub is : body_at c i to ≡ Some (with_effect effect others)
  pub rest : body_at c node.to to ≡ Some others
  pub body : IsBodyIn c node.to to
  pub more : i < node.to

-- ---- what they come to

-- the effects, whether they delete or add
abbrev pub effects_in : List Sided → List Effect
effects_in xs = map (λ x. x.effect) xs

-- what the effects and the cost of an operator come to: those that stand before all that add anything, then the others,
-- then the cost
unfoldable pub body_effects : List Axiom → ℕ → State → Body → Bindings → Going (Changes × ℤ)
body_effects axioms nest s b e =
    and_go (effects_values axioms nest s (not_adding b.effects) e) (λ d.
    and_go (effects_values axioms nest s (from_adding b.effects) e) (λ a.
    and_go (cost_value b.cost e) (λ c. Went (gathered_changes d a, c))))

-- ---- in a scene

-- what an effect gathers
abbrev pub effect_going : Setting → ℕ → Sided → Bindings → Going Gathered
effect_going w nest x e = effect_values (axioms_in w) nest (state_in w) x.effect e

-- what effects gather
abbrev pub list_going : Setting → ℕ → List Effect → Bindings → Going Gathered
list_going w nest xs e = effects_values (axioms_in w) nest (state_in w) xs e

-- what the effects and the cost of an operator come to
abbrev pub body_going : Setting → ℕ → Body → Bindings → Going (Changes × ℤ)
body_going w nest b e = body_effects (axioms_in w) nest (state_in w) b e

-- the cost stands first, and nothing behind it
pub record IsCostAt (c : CodeView) (i to : ℕ) : Type 0 where
  pub body : IsBodyIn c i to
  pub cost : Pattern
  pub is : body_at c i to ≡ Some (record { effects = []; cost = cost })

-- whether an effect that is on a side by itself is put on another
abbrev pub goes_on : Side → Option Side → Bool
goes_on side None = false
goes_on Adds (Some found) = true
goes_on Deletes (Some Deletes) = true
goes_on Deletes (Some Adds) = false

-- the effects that are put on a side: those before all that add anything, or all
abbrev pub on_side : Side → Body → List Effect
on_side Deletes b = not_adding b.effects
on_side Adds b = effects_in b.effects

-- the effects from the first that adds anything on
abbrev pub adding_on : List Sided → List Sided
adding_on [] = []
adding_on (x ∷ xs) = cond x.adds (x ∷ xs) (adding_on xs)

-- what is left behind those that are put on a side
abbrev pub behind_side : Side → Body → Body
behind_side Deletes b = record { effects = adding_on b.effects; cost = b.cost }
behind_side Adds b = record { effects = []; cost = b.cost }

-- ---- in memory

-- the changes and the cost of an operator
pub record HasGone (going : Going (Changes × ℤ)) (terms : List Term) (changes : ChangesOf ℕ) (cost : ℤ) : Type 0 where
  pub went : going ≡ Went (changes_of terms changes, cost)
  pub below : ChangesBelow (length terms) changes

-- the changes and the cost, or what stops them
abbrev pub GoesAll : Result (ChangesOf ℕ × ℤ) Obstacle → Going (Changes × ℤ) → List Term → Type 0
GoesAll (Ok x) going terms = HasGone going terms x.0 x.1
GoesAll (Err obstacle) going terms = StopsHere obstacle going

-- the cost, where the changes are these, or what stops them
abbrev pub GoesInto : Result ℤ Obstacle → Going (Changes × ℤ) → List Term → ChangesOf ℕ → Type 0
GoesInto (Ok cost) going terms changes = HasGone going terms changes cost
GoesInto (Err obstacle) going terms changes = StopsHere obstacle going
