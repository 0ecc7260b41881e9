-- Lists of calls of a walk, and their visits.
use Rattle.std.specs.Prelude.{◌≡◌, ◌≢◌, true, false, List, [], ◌∷◌, Option, Some, None}
use Rattle.hp_syntax.specs.Walk.{Visit, is_did, is_fault_here, skip}
use Rattle.hp_net.specs.Standings.{Standing, next_below, next_of, stepped, gone_on, gone_back, pruned}

-- the calls that move a walk
pub data Call : Type 0 where
  Step : Call
  Back : Call
  Next : Call
  Prune : Call

-- where a call leads
abbrev pub after_call : Call → Standing → Standing
after_call Step s = stepped s
after_call Back s = gone_back s
after_call Next s = gone_on s
after_call Prune s = pruned s

-- the visit that a call makes
abbrev pub visit_of : Call → Standing → Option Visit
visit_of Step s = next_below s.path s.rest
visit_of Back s = None
visit_of Next s = next_of s.rest
visit_of Prune s = None

-- the premise of a call
abbrev pub MayCall : Call → Standing → Type 0
MayCall Step s = Unit {0}
MayCall Back s = (s.path ≢ []) × (next_below s.path s.rest ≡ None)
MayCall Next s = Unit {0}
MayCall Prune s = s.at_did ≡ true

abbrev pub MayRun : List Call → Standing → Type 0
MayRun [] s = Unit {0}
MayRun (c ∷ cs) s = MayCall c s × MayRun cs (after_call c s)

abbrev pub after_calls : List Call → Standing → Standing
after_calls [] s = s
after_calls (c ∷ cs) s = after_calls cs (after_call c s)

abbrev pub with_visit : Option Visit → List Visit → List Visit
with_visit None vs = vs
with_visit (Some v) vs = v ∷ vs

-- the visits that calls make, in order
abbrev pub visited : List Call → Standing → List Visit
visited [] s = []
visited (c ∷ cs) s = with_visit (visit_of c s) (visited cs (after_call c s))

-- the second list is the first up to its first fault, without what lies below some of its Dids
pub data LeavesOut : List Visit → List Visit → Type 0 where
  Nothing : LeavesOut [] []
  Visits : (v : Visit) (vs ws : List Visit) → is_fault_here v.sight ≡ false → LeavesOut vs ws
      → LeavesOut (v ∷ vs) (v ∷ ws)
  Faults : (v : Visit) (vs : List Visit) → is_fault_here v.sight ≡ true → LeavesOut (v ∷ vs) (v ∷ [])
  Prunes : (v : Visit) (vs ws : List Visit) → is_did v.sight ≡ true → LeavesOut (skip v.path vs) ws
      → LeavesOut (v ∷ vs) (v ∷ ws)
