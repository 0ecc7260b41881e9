-- What holds of what is suspended over a code, and over slots as the last call left them.
use Rattle.std.specs.Prelude.{◌≡◌, ℕ, zero, suc, ◌+◌, ◌-◌, ◌*◌, ◌<◌, ◌≤◌, max, true, length, is_some}
use Rattle.hp_code.specs.CodeViews.{CodeView}
use Rattle.hp_nodes.specs.Trees.{sizes, trees_between}
use Rattle.hp_eval.specs.GoalViews.{GoalBelow}
use Rattle.hp_eval.specs.Slotted.{AreBelow}
use Rattle.hp_suspended.specs.Filtered.{FilterBelow}
use Rattle.hp_suspended.specs.Nodes.{atom_at, expression_at, expressions_in, clauses_in, head_at}
use Rattle.hp_suspended.specs.Views.{View, One, Fresh, Simple, Search, Conj, Disj, RunningView, Idle, Under, Views, Bare, Above}

-- the node is one of an expression
abbrev pub IsExpressionAt : CodeView → ℕ → Type 0
IsExpressionAt c i = is_some (expression_at c i) ≡ true

-- the nodes from one index up to another are those of whole trees
abbrev pub IsRange : CodeView → ℕ → ℕ → Type 0
IsRange c i to = i + sizes (trees_between c.nodes i to) ≡ to

-- the nodes from one index up to another are those of expressions
pub record AreExpressionsIn (c : CodeView) (i to : ℕ) : Type 0 where
  pub read : is_some (expressions_in c i to) ≡ true
  pub whole : IsRange c i to
  pub within : to ≤ length c.nodes

-- they are those of an axiom's branches
pub record AreClausesIn (c : CodeView) (i to : ℕ) : Type 0 where
  pub read : is_some (clauses_in c i to) ≡ true
  pub whole : IsRange c i to
  pub within : to ≤ length c.nodes

-- the node is an axiom's
abbrev pub IsAxiomAt : CodeView → ℕ → Type 0
IsAxiomAt c i = is_some (head_at c i) ≡ true

-- the node is an atom's
abbrev pub IsAtomAt : CodeView → ℕ → Type 0
IsAtomAt c i = is_some (atom_at c i) ≡ true

-- how many bindings stood at the start
abbrev pub base_of : View → ℕ
base_of (One m event) = m
base_of (Fresh m n i) = m
base_of (Simple a) = a.mark
base_of (Search m n q at' k running) = m
base_of (Conj m n k end outer here) = m
base_of (Disj m n k end here) = m

-- over a code, with cells below a count, and so many bindings in the slots
module _ (c : CodeView) (cells : ℕ) where
  abbrev mutual
    pub Fits : ℕ → View → Type 0
    Fits bound (One m event) = m ≤ bound
    Fits bound (Fresh m n i) = (bound ≡ m) × IsExpressionAt c i
    Fits bound (Simple a) = (a.mark ≤ bound) × IsAtomAt c a.node × FilterBelow cells a.filter
    Fits bound (Search m n q at' k running) = (m ≤ bound) × GoalBelow cells q × RunningFits n running
    Fits bound (Conj m n k end outer here) =
        AreExpressionsIn c k end × TowerFits end m (base_of here) outer × Fits bound here
    Fits bound (Disj m n k end here) = AreExpressionsIn c k end × (base_of here ≡ m) × Fits bound here

    -- branches are left only where a level is left
    pub RunningFits : ℕ → RunningView → Type 0
    RunningFits n Idle = Unit {0}
    RunningFits n (Under head own start k end here) =
        IsAxiomAt c head × AreClausesIn c k end × (k < end → 0 < n) × AreBelow cells own × (base_of here ≡ start)
        × Fits (length own.trail) here

    -- each part was left at the bindings that the next one began with
    pub TowerFits : ℕ → ℕ → ℕ → Views → Type 0
    TowerFits end lo hi Bare = hi ≡ lo
    TowerFits end lo hi (Above lower k top) =
        (k < end) × AreExpressionsIn c k end × TowerFits end lo (base_of top) lower × Fits hi top

-- ---- weights, which fall as one looks deeper

-- what an axiom can weigh where so many levels are left, in a code of so many nodes; and what a node can
unfoldable pub level_weight : ℕ → ℕ → ℕ
level_weight nodes zero = 0
level_weight nodes (suc n) = level_weight nodes n + (3 * nodes + 8)

abbrev pub node_weight : ℕ → ℕ → ℕ → ℕ
node_weight nodes n i = level_weight nodes n + 3 * (nodes - i) + 1

module _ (nodes : ℕ) where
  abbrev mutual
    pub weight : View → ℕ
    weight (One m event) = 0
    weight (Fresh m n i) = node_weight nodes n i
    weight (Simple a) = 3 + level_weight nodes a.nest
    weight (Search m n q at' k running) = 2 + max (running_weight running) (level_weight nodes n)
    weight (Conj m n k end outer here) = 2 + max (max (weight here) (node_weight nodes n k)) (weights n outer)
    weight (Disj m n k end here) = 2 + max (weight here) (node_weight nodes n k)

    pub running_weight : RunningView → ℕ
    running_weight Idle = 0
    running_weight (Under head own start k end here) = weight here

    pub weights : ℕ → Views → ℕ
    weights n Bare = 0
    weights n (Above lower k top) = max (max (weight top) (node_weight nodes n k)) (weights n lower)
