use Rattle.std.proofs.Common.{◌≡◌, ◌++◌, None, map, take}
use Rattle.std.specs.Prelude.{replicate}
use Rattle.hp_links.specs.Planted.{part_of}
use Rattle.hp_links.proofs.links.Links.push_entries.Given as goal

abbrev pub invariant-loop-entry : goal.invariant-loop-entry
invariant-loop-entry l = record {
  parts : l.self.parts.items ≡ l.initial.self.parts.items ++ map part_of (take l.entry-index l.entries);
  owners : l.self.owners.items ≡ l.initial.self.owners.items ++ replicate l.entry-index None;
  rows : l.self.rows ≡ l.initial.self.rows;
}
