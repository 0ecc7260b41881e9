-- How far a walk along a plan comes: the decompositions whose steps begin the plan, and the furthest of them.
use Rattle.std.specs.Prelude.{◌≡◌, ◌≢◌, ◌≤◌, ℕ, ◌&&◌, true, cond, List, ◌∷◌, length, filter, Contains}
use Rattle.std.specs.List.{All}
use Rattle.hp_dead_ends.specs.DeadEnds.{furthest, with_root}
use Rattle.hp_following.specs.declared.following.FollowEnd.{FollowEnd}
use Rattle.hp_following.specs.declared.following.FollowEnd.TheVariants as ends
use Rattle.hp_following.specs.declared.following.Following.{Following}
use Rattle.hp_net.specs.Standings.{Tree, tree_visits}
use Rattle.hp_syntax.specs.Terms.{Term}
use Rattle.hp_syntax.specs.Walk.{Did, Visit, is_did, told}
use Rattle.hp_verify.specs.Kept.{DerivedAt, Faulty, Said, Underived, kept, steps_begin, told_kept}

-- the decompositions among visits whose steps begin a plan
abbrev pub begun : List Term → List Visit → List Visit
begun p vs = filter (λ v. is_did v.sight && steps_begin v.node.steps p) vs

-- those of the walk along the plan; the root counts as one
abbrev pub followed : List Term → Tree → List Visit
followed p t = with_root t.root (begun p (kept p (tree_visits t)))

-- what the walk along the plan says
abbrev pub said_of : List Term → Tree → Said
said_of p t = (told_kept p (tree_visits t)).said

-- the end that says so
abbrev pub end_of : Said → FollowEnd
end_of (DerivedAt v) = ends.Derived
end_of (Underived is_cut) = cond is_cut ends.Cut ends.Whole
end_of (Faulty f) = ends.Fault f

abbrev pub IsUnderived : FollowEnd → Type 0
IsUnderived e = e ≢ ends.Derived

-- a list begins with a visit
abbrev pub IsFirst : Visit → List Visit → Type 0
IsFirst v vs = (rest : List Visit) × (vs ≡ v ∷ rest)

-- the walk along the plan came to a visit: to the one that derives it, else to the first decomposition that came
-- furthest
abbrev pub CameTo : List Visit → Said → Visit → Type 0
CameTo ds (DerivedAt w) v = v ≡ w
CameTo ds (Underived is_cut) v = IsFirst v (furthest ds)
CameTo ds (Faulty f) v = IsFirst v (furthest ds)

-- what is told is how the walk along the plan ended, and the place to which it came
pub record IsFollowing (p : List Term) (t : Tree) (f : Following) : Type 0 where
  pub end : f.end ≡ end_of (said_of p t)
  pub visit : Visit
  pub came : CameTo (followed p t) (said_of p t) visit
  pub path : f.path.items ≡ told visit.path
  pub steps : f.steps ≡ length visit.node.steps

-- a path is reported for a decomposition of the walk along the plan
pub record IsFollowed (p : List Term) (t : Tree) (path : List ℕ) : Type 0 where
  pub visit : Visit
  pub within : Contains (followed p t) visit
  pub is_told : told visit.path ≡ path

-- no decomposition among visits whose steps begin the plan has more steps than so many
abbrev pub HasNoMore : List Term → ℕ → List Visit → Type 0
HasNoMore p n vs = All (λ w. w.sight ≡ Did → steps_begin w.node.steps p ≡ true → length w.node.steps ≤ n) vs

abbrev pub HasNoMoreAt : FollowEnd → List Term → ℕ → List Visit → Type 0
HasNoMoreAt ends.Derived p n vs = Unit {0}
HasNoMoreAt ends.Whole p n vs = HasNoMore p n vs
HasNoMoreAt ends.Cut p n vs = HasNoMore p n vs
HasNoMoreAt (ends.Fault f) p n vs = Unit {0}

-- where the tree was visited to its end, no decomposition of it whose steps begin the plan has more steps than are told
abbrev pub HasMost : List Term → Tree → Following → Type 0
HasMost p t f = HasNoMoreAt f.end p f.steps (tree_visits t)
