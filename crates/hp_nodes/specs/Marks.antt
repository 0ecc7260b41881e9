-- Sets of numbers as they stand in memory: a mark for each number up to some number.
use Rattle.std.specs.Prelude.{◌≡◌, ℕ, Bool, false, List, slice_index_or}
use Rattle.hp_nodes.specs.declared.asking.Asking.{Asking}
use Rattle.hp_nodes.specs.Asked.{Known, also}

abbrev pub marked : List Bool → ℕ → Bool
marked marks n = slice_index_or marks n false

-- these numbers were marked
abbrev pub Marks : List ℕ → List Bool → List Bool → Type 0
Marks ns old new = marked new ≡ also ns (marked old)

-- what is known while nodes are gone through
abbrev pub known_of : Asking → Known
known_of a = record { head = marked a.head.items; sure = marked a.sure.items; seen = marked a.seen.items }
