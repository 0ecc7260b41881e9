-- What one visit makes of a walk to a plan.
use Rattle.std.specs.Prelude.{◌≡◌, ◌<◌, ◌-◌, ◌^◌, ℕ, List}
use Rattle.std.specs.List.{All}
use Rattle.hp_passes.specs.declared.passing.Turn.{Turn}
use Rattle.hp_passes.specs.declared.passing.Turn.TheVariants.{On, Past, Last}
use Rattle.hp_passes.specs.Passes as passes
use Rattle.hp_syntax.specs.Walk.{Visit, count_told}
use Rattle.hp_after.specs.declared.reaching.Arrival.{Arrival}
use Rattle.hp_after.specs.declared.reaching.Reaching.{Reaching}
use Rattle.hp_after.specs.Reach.{Coming, reach_turn}
use Rattle.hp_after.specs.Stepping.{Follows}

-- an arrival tells what is known
pub record Tells (a : Arrival) (k : Coming) : Type 0 where
  pub answer : a.answer ≡ k.answer
  pub expansions : a.expansions ≡ count_told k.expansions

-- a turn, with what is known then
abbrev pub knowing : Turn → Coming → passes.Turn Coming
knowing On k = passes.On k
knowing Past k = passes.Past k
knowing Last k = passes.Last k

-- a visit turns the walk to a path so, and the arrival tells what is known then
pub record Turns (p : List ℕ) (k : Coming) (v : Visit) (x : Turn) (a : Arrival) : Type 0 where
  pub next : Coming
  pub turn : reach_turn p k v ≡ knowing x next
  pub tells : Tells a next

-- a visit that follows a target of small numbers turns the pass as it does the walk to the target
pub record MeetsReaching (s : Reaching) (c : Unit {0}) (v : Visit) (x : Turn) (t : Reaching) (d : Unit {0}) : Type 0 where
  pub target : t.target.now ≡ s.target.now
  pub turns : All (λ i. i < 2 ^ 64 - 1) s.target.now → Follows v.sight v.path s.target.now → (k : Coming)
      → Tells s.arrival k → Turns s.target.now k v x t.arrival
