-- When what is known of where a plan stops is right.
use Rattle.std.specs.Prelude.{◌≡◌, ℕ, List, Option, None, option_map}
use Rattle.hp_doctor_derive.specs.declared.stops.Found.{Found}
use Rattle.hp_doctor_why.specs.Reasons.{reason_of}
use Rattle.hp_doctor_why.specs.Whys.{Reason, kept}
use Rattle.hp_following.specs.declared.following.FollowEnd.{FollowEnd}
use Rattle.hp_following.specs.declared.following.FollowEnd.TheVariants as ends
use Rattle.hp_following.specs.Follows.{HasMost, IsFollowing}
use Rattle.hp_net.specs.Standings.{Tree}
use Rattle.hp_syntax.specs.Terms.{Term}

-- the reasons at the node of a path, where a plan that isn't derived stops
abbrev pub reason_if : Tree → FollowEnd → List ℕ → Option Reason
reason_if t ends.Derived path = None
reason_if t ends.Whole path = reason_of t path
reason_if t ends.Cut path = reason_of t path
reason_if t (ends.Fault f) path = None

-- what was found is how far the walk along the plan comes in the tree, where no decomposition has more of its steps, and
-- beside it stand the reasons at its path
pub record IsFound (p : List Term) (t : Tree) (w : Found) : Type 0 where
  pub following : IsFollowing p t w.following
  pub most : HasMost p t w.following
  pub reason : option_map kept w.reason ≡ reason_if t w.following.end w.following.path.items
