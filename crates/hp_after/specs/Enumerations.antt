-- How an enumeration goes on behind a plan whose path is known.
use Rattle.std.specs.Prelude.{◌≡◌, ℕ, ◌+◌, ◌≤◌, Bool, List, [], ◌∷◌, ◌++◌, length}
use Rattle.hp_laws.specs.TreeLaws.{first_plans}
use Rattle.hp_syntax.specs.Report.{Ending, Stopped, AtFault, AtCut, AtEnd, quiet_ending, nothing_seen, end_of}
use Rattle.hp_syntax.specs.Walk.{Node, Visit, Plan, visit, heard_visits}
use Rattle.hp_after.specs.Reach.{reaching}
use Rattle.hp_after.specs.declared.reaching.Reached.TheVariants as reached

-- an enumeration of k plans of a walk has so many, and the last of them stands at a path
pub record ReachesAt (k : ℕ) (p : List ℕ) (walk : List Visit) : Type 0 where
  pub node : Node
  pub before : List Visit
  pub plans : first_plans k walk ≡ before ++ visit p node Plan ∷ []
  pub count : length (first_plans k walk) ≡ k

-- an ending as it is behind earlier visits: only the end itself is another one, where a cut was seen among those
abbrev pub ending_behind : Bool → Ending → Ending
ending_behind cut Stopped = Stopped
ending_behind cut (AtFault f) = AtFault f
ending_behind cut AtCut = AtCut
ending_behind cut AtEnd = quiet_ending cut

-- an enumeration goes on behind its first k plans: these and the first ones of the later visits are together the first
-- ones of the walk, which ends as the later visits do, but for a cut that was seen before
pub record Continues (k : ℕ) (walk later : List Visit) : Type 0 where
  pub plans : (more : ℕ) → first_plans (k + more) walk ≡ first_plans k walk ++ first_plans more later
  pub stopped : (end_of k nothing_seen walk).ending ≡ Stopped
  pub ending : (more : ℕ) → 1 ≤ more → (end_of (k + more) nothing_seen walk).ending
      ≡ ending_behind (end_of k nothing_seen walk).tally.is_cut (end_of more nothing_seen later).ending

-- the walk to the path of the k-th plan comes to it, and the enumeration goes on with the visits that are left
pub record GoesOn (k : ℕ) (p : List ℕ) (vs : List Visit) : Type 0 where
  pub there : (reaching p vs).knows.answer ≡ reached.At
  pub continues : Continues k (heard_visits vs) (heard_visits (reaching p vs).left)
