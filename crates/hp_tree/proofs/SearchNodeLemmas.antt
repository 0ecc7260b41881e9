-- Nodes in memory stand for the same where terms are added, and their costs stay within bounds.
use Rattle.std.proofs.Common.{◌≡◌, ℕ, ◌-◌, ◌<◌, ◌≤◌, ℤ, pos, neg_ℤ, ◌+ℤ◌, ◌≤ℤ◌, SFits, w64, to_z, of_z, List, [], ◌∷◌, ◌++◌, length, Option, refl, ◌∙◌, ap, ap₂, arith}
use Rattle.std.specs.Int.{w128}
use Rattle.std.specs.List.{All}
use Rattle.std.specs.Option.{option_and_then}
use Rattle.std.proofs.lemmas.Int.{ints, to_z-of_z}
use Rattle.std.proofs.lemmas.List.{map-append}
use Rattle.std.proofs.lemmas.List.Elements.{All-append, All-cons, All-nil, All-same, All-weaker}
use Rattle.hp_syntax.specs.declared.limits.TheConstants.{GREATEST_DEPTH}
use Rattle.hp_syntax.specs.Terms.{Term}
use Rattle.hp_syntax.specs.Networks.{Network, Place}
use Rattle.hp_syntax.specs.Events.{State}
use Rattle.hp_syntax.specs.Walk.{Node}
use Rattle.hp_eval.specs.GoalViews.{term_or_nil, term_at}
use Rattle.hp_eval.specs.Growth.{Grows}
use Rattle.hp_eval.proofs.GrowthLemmas.{stays, all_below, terms_stay, grows_length}
use Rattle.hp_links.specs.declared.links.Part.{Part}
use Rattle.hp_links.specs.declared.links.Part.TheVariants.{Task, Row}
use Rattle.hp_links.specs.Labelled.{network}
use Rattle.hp_links.specs.Linked.{Linked, focused, place_of, whole, PartBelow}
use Rattle.hp_links.proofs.BelowLemmas.{network_agrees, whole_below}
use Rattle.hp_world.specs.Stages.{AllBelow, live_atoms, state_of, guards_of, terms_at}
use Rattle.hp_tree.specs.SearchNodes.{HeldNode, node_of, most_cost, IsHeldNode}

-- ---- the parts of a node

-- a node by its parts
node_by : State → List Term → Network × Option Place → List Term → ℤ → ℕ → Node
node_by state guards net steps cost depth = record {
  state = state;
  guards = guards;
  network = net.0;
  focus = net.1;
  steps = steps;
  cost = cost;
  depth = depth;
}

-- a node in memory whose parts are those of a node is that node
pub node_is : (terms : List Term) (h : HeldNode) (n : Node) → state_of terms h.stage ≡ n.state
    → guards_of terms h.stage ≡ n.guards → focused terms h.network ≡ (n.network, n.focus)
    → terms_at terms h.steps ≡ n.steps → h.cost ≡ n.cost → h.depth ≡ n.depth → node_of terms h ≡ n
unfolding node_by
node_is terms h n e1 e2 e3 e4 e5 e6 =
    ap₂ (λ a b. node_by a b (focused terms h.network) (terms_at terms h.steps) h.cost h.depth) e1 e2
    ∙ (ap₂ (λ a b. node_by n.state n.guards a b h.cost h.depth) e3 e4
    ∙ ap₂ (λ a b. node_by n.state n.guards (n.network, n.focus) n.steps a b) e5 e6)

-- ---- nodes where terms are added

module _ (old new : List Term) (g : Grows old new) where
  -- a cell below the number of terms names the same
  pub term_stays : (cell : ℕ) → cell < length old → term_at new cell ≡ term_at old cell
  term_stays cell l = ap term_or_nil (stays old new g cell l)

  -- parts whose cells are below the number of terms are the same network
  network_stays : (s : Linked) → All (PartBelow (length old)) s.parts
      → network new (whole s) ≡ network old (whole s)
  network_stays s h =
      network_agrees old new (length old) term_stays (whole s) (whole_below (length old) s h)

  part_grows : (p : Part) → PartBelow (length old) p → PartBelow (length new) p
  part_grows (Task cell immediate) h = omega (arith, h, grows_length old new g)
  part_grows (Row order start many) h = h

  -- a node whose cells are below the number of terms is the same node
  pub node_stays : (h : HeldNode) → IsHeldNode (length old) h → node_of new h ≡ node_of old h
  node_stays h is =
      node_is new h (node_of old h) (terms_stay old new g (live_atoms h.stage.places) is.stage.atoms)
      (terms_stay old new g h.stage.guards is.stage.guards)
      (ap (λ n. (n, option_and_then (place_of h.network) h.network.focus)) (network_stays h.network is.network))
      (terms_stay old new g h.steps is.steps) refl refl

  -- its cells stay below the number of terms
  pub node_grows : (h : HeldNode) → IsHeldNode (length old) h → IsHeldNode (length new) h
  node_grows h is = record {
    stage =
        record {
          atoms = all_below old new g (live_atoms h.stage.places) is.stage.atoms;
          guards = all_below old new g h.stage.guards is.stage.guards;
        };
    network =
        All-weaker (PartBelow (length old)) (PartBelow (length new)) part_grows h.network.parts is.network;
    steps = all_below old new g h.steps is.steps;
    depth = is.depth;
    low = is.low;
    high = is.high;
  }

-- ---- steps

-- steps with one more name the terms before and its term
pub steps_named : (terms : List Term) (new old : List ℕ) (task : ℕ) → new ≡ old ++ task ∷ []
    → terms_at terms new ≡ terms_at terms old ++ term_at terms task ∷ []
steps_named terms new old task e = ap (terms_at terms) e ∙ map-append (term_at terms) old (task ∷ [])

-- they are below a count where those before and the one are
pub steps_below : (n : ℕ) (new old : List ℕ) (task : ℕ) → new ≡ old ++ task ∷ [] → AllBelow n old → task < n
    → AllBelow n new
steps_below n new old task e h l =
    All-same (λ c. c < n) new (old ++ task ∷ []) e
    (All-append (λ c. c < n) old (task ∷ []) h (All-cons (λ c. c < n) task [] l (All-nil (λ c. c < n))))

-- ---- costs

-- one step more costs no less than so many can
pub low_after : (d : ℕ) (a b : ℤ) → 0 < d → d ≤ GREATEST_DEPTH → neg_ℤ (pos (most_cost d)) ≤ℤ a → SFits w64 b
    → neg_ℤ (pos (most_cost (d - 1))) ≤ℤ (a +ℤ b)
low_after d a b p l h s = omega (arith, ints)

-- one step more costs no more than so many can
pub high_after : (d : ℕ) (a b : ℤ) → 0 < d → d ≤ GREATEST_DEPTH → a ≤ℤ pos (most_cost d) → SFits w64 b
    → (a +ℤ b) ≤ℤ pos (most_cost (d - 1))
high_after d a b p l h s = omega (arith, ints)

-- a cost within the bound from below stays so where one decomposition less may follow
pub low_stays : (d : ℕ) (a : ℤ) → 0 < d → d ≤ GREATEST_DEPTH → neg_ℤ (pos (most_cost d)) ≤ℤ a
    → neg_ℤ (pos (most_cost (d - 1))) ≤ℤ a
low_stays d a p l h = omega (arith, ints)

-- so does a cost within the bound from above
pub high_stays : (d : ℕ) (a : ℤ) → 0 < d → d ≤ GREATEST_DEPTH → a ≤ℤ pos (most_cost d)
    → a ≤ℤ pos (most_cost (d - 1))
high_stays d a p l h = omega (arith, ints)

-- a cost that is added in so many bits is added
pub cost_added : (d : ℕ) (a b r : ℤ) → d ≤ GREATEST_DEPTH → neg_ℤ (pos (most_cost d)) ≤ℤ a → a ≤ℤ pos (most_cost d)
    → r ≡ b → SFits w64 b
    → to_z w128 (of_z w128 (to_z w128 (of_z w128 a) +ℤ to_z w128 (of_z w128 r))) ≡ a +ℤ b
cost_added d a b r l low high e s =
    let fa : SFits w128 a = search (arith, ints) in
    let fb : SFits w128 r = search (arith, ints) in
    let fs : SFits w128 (a +ℤ r) = search (arith, ints) in
    ap (λ z. to_z w128 (of_z w128 z)) (ap₂ ◌+ℤ◌ (to_z-of_z w128 a fa) (to_z-of_z w128 r fb))
    ∙ (to_z-of_z w128 (a +ℤ r) fs ∙ ap (λ z. a +ℤ z) e)

-- a cost within the bounds is told in so many bits
pub cost_kept : (d : ℕ) (a : ℤ) → d ≤ GREATEST_DEPTH → neg_ℤ (pos (most_cost d)) ≤ℤ a → a ≤ℤ pos (most_cost d)
    → to_z w128 (of_z w128 a) ≡ a
cost_kept d a l low high = let fa : SFits w128 a = search (arith, ints) in to_z-of_z w128 a fa
