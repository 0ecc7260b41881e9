-- The definitions of dead ends, computed on a few visits.
use Rattle.std.specs.Prelude.{◌≡◌, ℕ, ◌-◌, ◌^◌, pos, true, false, List, [], ◌∷◌, ◌++◌, map, Some, None, option_map}
use Rattle.std.specs.List.{find}
use Rattle.hp_syntax.specs.Networks.{Network, Empty, Task}
use Rattle.hp_syntax.specs.Terms.{Term, Symbol}
use Rattle.hp_syntax.specs.Walk.{Node, Visit, Did, Plan, CutHere, visit}
use Rattle.hp_dead_ends.specs.declared.searching.SearchEnd.TheVariants as ends
use Rattle.hp_dead_ends.specs.Arriving.{is_small}
use Rattle.hp_dead_ends.specs.DeadEnds as definitions
use Rattle.hp_dead_ends.specs.DeadEnds.{IsDeadEnd, dead_ends, decompositions_of, ending, is_depth_cut, is_level_cut, until_plan, with_root}

-- a task that no rule does
abbrev pub task : Network
task = Task (Symbol []) false

-- a node with a network, steps and a depth
abbrev pub node : Network → List Term → ℕ → Node
node net steps depth = record {
  state = [];
  guards = [];
  network = net;
  focus = None;
  steps = steps;
  cost = pos 0;
  depth = depth;
}

-- without steps, with one and with two
abbrev pub none : List Term
none = []

abbrev pub one : List Term
one = Symbol [] ∷ []

abbrev pub two : List Term
two = Symbol [] ∷ Symbol [] ∷ []

abbrev pub root : Node
root = node task none 3

-- below the first child a dead end and a place that the depth cut, then a dead end, and one that axioms cut
abbrev pub early : List Visit
early =
    visit (0 ∷ []) (node task none 2) Did
    ∷ visit (0 ∷ 0 ∷ []) (node task one 1) Did
    ∷ visit (0 ∷ 1 ∷ []) (node task none 1) Did
    ∷ visit (0 ∷ 1 ∷ 0 ∷ []) (node task one 0) Did
    ∷ visit (0 ∷ 1 ∷ 0 ∷ []) (node task one 0) CutHere
    ∷ visit (1 ∷ []) (node task one 2) Did
    ∷ visit (2 ∷ []) (node task none 2) Did
    ∷ visit (2 ∷ []) (node task none 2) CutHere
    ∷ visit (2 ∷ 0 ∷ []) (node task one 1) Did
    ∷ []

-- then a plan
abbrev pub found : List Visit
found = visit (3 ∷ []) (node Empty one 2) Did ∷ visit (3 ∷ []) (node Empty one 2) Plan ∷ []

-- and after it a dead end with more steps
abbrev pub late : List Visit
late = visit (4 ∷ []) (node task two 2) Did ∷ []

abbrev pub paths : List Visit → List (List ℕ)
paths vs = map (λ v. v.path) vs

-- what the definitions say of them
pub record SampleComputes : Type 0 where
  pub until : until_plan (early ++ (found ++ late)) ≡ early ++ found
  pub dead : paths (dead_ends (with_root root (early ++ found)))
      ≡ (0 ∷ 0 ∷ []) ∷ (1 ∷ []) ∷ (2 ∷ 0 ∷ []) ∷ []
  pub furthest : paths (definitions.furthest (dead_ends (with_root root (early ++ found))))
      ≡ (0 ∷ 0 ∷ []) ∷ (2 ∷ 0 ∷ []) ∷ []
  pub more_steps : paths (definitions.furthest (dead_ends (early ++ (found ++ late)))) ≡ (4 ∷ []) ∷ []
  pub root_alone : paths (dead_ends (with_root root [])) ≡ [] ∷ []
  pub depth_cut : option_map (λ v. v.path) (find is_depth_cut early) ≡ Some (0 ∷ 1 ∷ 0 ∷ [])
  pub level_cut : option_map (λ v. v.path) (find is_level_cut early) ≡ Some (2 ∷ [])
  pub cut : ending ends.Whole early ≡ ends.Cut
  pub plan : ending ends.Whole (early ++ (found ++ late)) ≡ ends.Plan
  pub whole : ending ends.Whole [] ≡ ends.Whole
  pub expansions : decompositions_of (early ++ found) ≡ 8
  pub small : is_small (0 ∷ (2 ^ 64 - 2) ∷ []) ≡ true
  pub great : is_small (0 ∷ (2 ^ 64 - 1) ∷ []) ≡ false
  pub dead_end : IsDeadEnd [] 0 root
  pub no_plan : IsDeadEnd [] 0 (node Empty one 2) → ⊥
  pub no_cut : IsDeadEnd [] 0 (node task one 0) → ⊥
