use Rattle.std.proofs.Common.{◌≡◌, ◌++◌, drop}
use Rattle.hp_code.specs.Listing.{indices_text}
use Rattle.hp_code.proofs.lines.push_indices.Given as goal

abbrev pub invariant-loop-index : goal.invariant-loop-index
invariant-loop-index l =
    l.text.items ++ indices_text (drop l.index-index l.indices) ≡ l.fn.text.items ++ indices_text l.indices
