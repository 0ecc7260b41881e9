-- One visit of a walk along a plan that keeps how far it came.
use Rattle.std.specs.Prelude.{◌≡◌, Bool, true, false, ℕ, List, length, map}
use Rattle.hp_dead_ends.specs.DeadEnds.{Rank, is_further, rank, rank_of}
use Rattle.hp_following.specs.declared.following.FollowEnd.TheVariants as ends
use Rattle.hp_following.specs.declared.following.Following.{Following}
use Rattle.hp_following.specs.declared.following.Tracking.{Tracking}
use Rattle.hp_passes.specs.declared.passing.Turn.{Turn}
use Rattle.hp_passes.specs.declared.passing.Turn.TheVariants.{On, Past, Last}
use Rattle.hp_syntax.specs.GroundViews.{ground_of}
use Rattle.hp_syntax.specs.Terms.{Term}
use Rattle.hp_syntax.specs.Walk.{Sight, Visit, Did, Plan, CutHere, FaultHere, told}
use Rattle.hp_verify.specs.Kept.{steps_are, steps_begin}

-- the plan that is followed
abbrev pub plan_of : Tracking → List Term
plan_of s = map ground_of s.plan.now

-- how far what was found came
abbrev pub rank_found : Following → Rank
rank_found f = rank f.steps (length f.path.items)

-- a place is kept, and nothing else changes
pub record IsPlaced (s t : Tracking) (here : List ℕ) (many : ℕ) : Type 0 where
  pub plan : t.plan ≡ s.plan
  pub path : t.found.path.items ≡ here
  pub steps : t.found.steps ≡ many
  pub end : t.found.end ≡ s.found.end

-- what was found is told of a visit
pub record Tells (f : Following) (v : Visit) : Type 0 where
  pub path : f.path.items ≡ told v.path
  pub steps : f.steps ≡ length v.node.steps

-- the place of a decomposition is kept where it comes further than what was found
pub record Notes (s t : Tracking) (v : Visit) : Type 0 where
  pub plan : t.plan ≡ s.plan
  pub end : t.found.end ≡ s.found.end
  pub further : is_further (rank_of v) (rank_found s.found) ≡ true → Tells t.found v
  pub nearer : is_further (rank_of v) (rank_found s.found) ≡ false → t.found ≡ s.found

-- a decomposition whose steps begin the plan is noted, and what lies below another one is left out
abbrev pub Begins : Bool → Tracking → Visit → Turn → Tracking → Type 0
Begins true s v x t = (x ≡ On) × Notes s t v
Begins false s v x t = (x ≡ Past) × (t ≡ s)

-- a plan with the steps ends the walk there
abbrev pub Ends : Bool → Tracking → Visit → Turn → Tracking → Type 0
Ends true s v x t = (x ≡ Last) × (t.found.end ≡ ends.Derived) × Tells t.found v
Ends false s v x t = (x ≡ On) × (t ≡ s)

-- what a visit makes of a walk along a plan, by its sight
abbrev pub Comes : Sight → Tracking → Visit → Turn → Tracking → Type 0
Comes Did s v x t = Begins (steps_begin v.node.steps (plan_of s)) s v x t
Comes Plan s v x t = Ends (steps_are v.node.steps (plan_of s)) s v x t
Comes CutHere s v x t = (x ≡ On) × (t ≡ record s { found = record s.found { end = ends.Cut } })
Comes (FaultHere f) s v x t = (x ≡ Last) × (t ≡ record s { found = record s.found { end = ends.Fault f } })

abbrev pub MeetsTracking : Tracking → Unit {0} → Visit → Turn → Tracking → Unit {0} → Type 0
MeetsTracking s c v x t d = Comes v.sight s v x t
