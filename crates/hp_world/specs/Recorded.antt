-- What a world is seen as.
use Rattle.std.specs.Prelude.{ℕ, List}
use Rattle.std.specs.List.{All}
use Rattle.hp_syntax.specs.Terms.{Term}
use Rattle.hp_world.specs.declared.store.Store.{Store}
use Rattle.hp_world.specs.Histories.{History}
use Rattle.hp_world.specs.Keyed.{Keyed, KnowsParts, AtomsBelow}
use Rattle.hp_world.specs.Pasts.{HasStood}
use Rattle.hp_world.specs.Stages.{Stage}
use Rattle.hp_world.specs.Undoing.{history_of, stage_of}

-- the past before each change, oldest first, the present, and the indexes of places by parts of their atoms
pub record Recorded : Type 0 where
  pub past : List Stage
  pub now : Stage
  pub parts : List Keyed

abbrev pub history_in : Recorded → History Stage
history_in w = record { past = w.past; now = w.now }

-- the atoms of the indexes are cells, whose parts the indexes know, where cells name these terms
abbrev pub Knows : List Term → Recorded → Type 0
Knows terms w = All (KnowsParts terms) w.parts

-- the atoms of the indexes are below a count
abbrev pub IndexedBelow : ℕ → Recorded → Type 0
IndexedBelow n w = All (AtomsBelow n) w.parts

-- the indexes have at each place no atom but one that stands there or stood there in a past
abbrev pub IndexesStood : Recorded → Type 0
IndexesStood w = All (HasStood (history_in w)) w.parts

-- the record of a store
abbrev pub recorded_of : Store → Recorded
recorded_of s = record { past = (history_of s).past; now = stage_of s; parts = s.parts.items }
