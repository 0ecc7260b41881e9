-- A task of a node that may be done next, and the children by it.
use Rattle.std.specs.Prelude.{◌≡◌, ℕ, ◌<◌, List, slice_get}
use Rattle.std.specs.List.{All}
use Rattle.hp_syntax.specs.Checks.{HasFewVariables}
use Rattle.hp_syntax.specs.Terms.{Term}
use Rattle.hp_syntax.specs.Syntax.{Rule}
use Rattle.hp_syntax.specs.Values.{Bindings}
use Rattle.hp_syntax.specs.Networks.{Place}
use Rattle.hp_syntax.specs.Views.{domain_of}
use Rattle.hp_syntax.specs.Walk.{Node, Child}
use Rattle.hp_eval.specs.GoalViews.{term_at}
use Rattle.hp_tree.specs.Children.{place_in, IsCandidate, done_by, children_by}
use Rattle.hp_plain.specs.declared.candidate.Candidate.{Candidate}
use Rattle.hp_plain.specs.SearchNodes.{node_in, IsSearchNode}

abbrev pub rules_at : Candidate → List Rule
rules_at c = (domain_of c.context.now.book.now.domain.now).rules

-- the number of axiom levels
abbrev pub nest_at : Candidate → ℕ
nest_at c = c.context.now.nest

-- the node, where cells name these terms
abbrev pub own_node : List Term → Candidate → Node
own_node terms c = node_in terms c.node.now

-- the place of the task, or that of the whole network where it has none
abbrev pub place_at : Candidate → Place
place_at c = place_in c.node.now.net.now c.id

abbrev pub own_task : List Term → Candidate → Term
own_task terms c = term_at terms c.task

-- the children that a satisfier gives, for the rule and the branch of these numbers
abbrev pub done_at : List Term → Candidate → ℕ → ℕ → Bindings → List Child
done_at terms c rule branch =
    done_by (rules_at c) (nest_at c) (own_node terms c) (place_at c) (own_task terms c)
    (slice_get (rules_at c) rule) branch

-- the children by the rule of a number
abbrev pub children_at : List Term → Candidate → ℕ → List Child
children_at terms c rule =
    children_by (rules_at c) (nest_at c) (own_node terms c) (place_at c) (own_task terms c)
    (slice_get (rules_at c) rule)

-- each cell of a candidate is below a count, its task stands in the network, a decomposition may follow, and its scene
-- is that of the rules and of the node
pub record CandidateFits (n : ℕ) (c : Candidate) : Type 0 where
  pub node : IsSearchNode n c.node.now
  pub candidate : IsCandidate c.node.now.net.now c.id
  pub task : c.task < n
  pub deep : 0 < c.node.now.depth
  pub few : All HasFewVariables (rules_at c)
  pub book : c.scene.book.now ≡ c.context.now.book.now
  pub world : c.scene.world.now ≡ c.node.now.world
