-- The atoms of a world, and the state of a node on the path of a walk.
use Rattle.std.proofs.Common.{◌≡◌, ◌≢◌, inl, ℕ, ◌≤◌, List, length}
use Rattle.std.proofs.Common.{take, sym, ◌∙◌, ap}
use Rattle.hp_syntax.specs.Terms.{Term}
use Rattle.hp_syntax.specs.Walk.{node_at}
use Rattle.hp_net.specs.Standings.{Tree, tree_visits}
use Rattle.hp_after.specs.declared.reaching.Arrival.{Arrival}
use Rattle.hp_after.specs.declared.reaching.Reached.{Reached}
use Rattle.hp_after.specs.declared.reaching.Reached.TheVariants as reached
use Rattle.hp_after.specs.Reach.{IsArrival, IsThere}
use Rattle.hp_search.specs.Planned.{Planned, stands_planned, tree_planned}
use Rattle.hp_way.specs.Along.{HasStateAt}
use Rattle.hp_way.specs.Ways.{HasNoStateOnTheWay, IsStateOnTheWay}

module _ (t : Tree) (path : List ℕ) (count : ℕ) (a : Arrival) (arrival : IsArrival a path (tree_visits t)) where
  -- where the walk to a path came to the plan, a state on its own path is one on the way
  pub state_there : (p : Planned) (atoms : List Term) → tree_planned p ≡ t → a.answer ≡ reached.At
      → IsThere t (stands_planned p) path → count ≤ length path → HasStateAt p count atoms
      → IsStateOnTheWay t.rules t.nest t.root path count atoms
  state_there p atoms same at there within has =
      let own = tree_planned p in
      record {
        answer = sym arrival.answer ∙ at;
        plan = there.node;
        holds = (there.before, (stands_planned p).rest, there.plan);
        within = within;
        node = has.node;
        there =
            ap (λ (x : Tree). node_at x.rules x.nest x.root (take count path)) (sym same)
            ∙ (ap (λ q. node_at own.rules own.nest own.root (take count q)) (sym there.path) ∙ has.there);
        state = has.state;
      }

  -- where it came to another answer, there is none
  pub no_state : (other : Reached) → a.answer ≡ other → other ≢ reached.At
      → HasNoStateOnTheWay t.rules t.nest t.root path count
  no_state other is differs = inl (λ e. differs (sym is ∙ (arrival.answer ∙ e)))

pub absent_differs : reached.Absent ≢ reached.At
absent_differs e = cc
