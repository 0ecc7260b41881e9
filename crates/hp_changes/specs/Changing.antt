-- A walk to a path, and what it knows of the changes on its way.
use Rattle.std.specs.Prelude.{◌≡◌, ℕ, ◌&&◌, true, cond, List, [], ◌∷◌, ◌++◌, Contains, Option, Some, None, map}
use Rattle.hp_net.specs.Standings.{Tree, tree_visits}
use Rattle.hp_passes.specs.declared.passing.Turn.{Turn}
use Rattle.hp_passes.specs.declared.passing.Turn.TheVariants.{On, Past, Last}
use Rattle.hp_syntax.specs.GroundViews.{ground_of}
use Rattle.hp_syntax.specs.Terms.{Term}
use Rattle.hp_syntax.specs.Walk.{Node, Visit, begins, heard_visits, is_did}
use Rattle.hp_after.specs.Reach.{reaching}
use Rattle.hp_after.specs.declared.reaching.Reached.TheVariants as reached
use Rattle.hp_dead_ends.specs.Arriving.{is_small, turn_to}
use Rattle.hp_changes.specs.declared.changing.Changing.{Changing}
use Rattle.hp_changes.specs.declared.comparing.Changed as made
use Rattle.hp_changes.specs.declared.comparing.Holding.{Holding}
use Rattle.hp_changes.specs.Changes.{Changed, between, changed_of, changes_along}

-- a term that was found at no place
abbrev pub unplaced : Option ℕ → Term → List Term
unplaced None t = t ∷ []
unplaced (Some place) t = []

-- the state and the protections of a node
pub record Holds (h : Holding) (n : Node) : Type 0 where
  pub atoms : map ground_of h.atoms.items ≡ n.state
  pub guards : map ground_of h.guards.items ≡ n.guards

-- what a walk knows on its way: the last node, and the changes up to it
pub record Known : Type 0 where
  pub last : Node
  pub changes : List Changed

abbrev pub at_root : Node → Known
at_root root = record { last = root; changes = [] }

abbrev pub with_step : Node → Known → Known
with_step m k = record { last = m; changes = k.changes ++ between k.last m ∷ [] }

-- a decomposition on the way to a path is one more step
abbrev pub after : List ℕ → Visit → Known → Known
after p v k = cond (is_did v.sight && begins v.path p) (with_step v.node k) k

-- a pass tells what is known
pub record Tells (s : Changing) (k : Known) : Type 0 where
  pub before : Holds s.before k.last
  pub changes : map changed_of s.changes.items ≡ k.changes

-- a step to a node was noted, and the target stays
pub record Notes (m : Node) (s t : Changing) : Type 0 where
  pub target : t.target.now ≡ s.target.now
  pub tells : (k : Known) → Tells s k → Tells t (with_step m k)

-- a step to a node was noted where a walk goes on below it or ends at it
abbrev pub GoesBy : Turn → Node → Changing → Changing → Type 0
GoesBy On m s t = Notes m s t
GoesBy Past m s t = t ≡ s
GoesBy Last m s t = Notes m s t

pub record MeetsChanging (s : Changing) (c : Unit {0}) (v : Visit) (x : Turn) (t : Changing) (d : Unit {0}) : Type 0 where
  pub target : t.target.now ≡ s.target.now
  pub turn : is_small s.target.now ≡ true → x ≡ turn_to s.target.now v
  pub tells : is_small s.target.now ≡ true → (k : Known) → Tells s k → Tells t (after s.target.now v k)

-- a walk comes to a path before any fault: a visit before the first fault of the tree is at the path, or the walk to it,
-- which leaves out what lies beside the way, comes to a plan there
pub data IsMet (t : Tree) (p : List ℕ) : Type 0 where
  Heard : (v : Visit) → Contains (heard_visits (tree_visits t)) v → v.path ≡ p → IsMet t p
  Reached : (reaching p (tree_visits t)).knows.answer ≡ reached.At → IsMet t p

-- these are the changes along a path of small numbers, where a walk comes to it
pub record AreAlong (t : Tree) (p : List ℕ) (cs : List made.Changed) : Type 0 where
  pub small : is_small p ≡ true
  pub are : IsMet t p → map changed_of cs ≡ changes_along t.rules t.nest t.root p
