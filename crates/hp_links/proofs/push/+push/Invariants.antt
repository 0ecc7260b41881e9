use Rattle.std.proofs.Common.{ℕ, ◌≤◌, ◌++◌, ◌∷◌, [], take}
use Rattle.std.specs.List.{All}
use Rattle.hp_eval.specs.GoalViews.{TreesBelow}
use Rattle.hp_links.specs.declared.entry.Entry.TheVariants.{List as Parts}
use Rattle.hp_links.specs.Entries.{EntryBelow}
use Rattle.hp_links.specs.Pushed.{all_kept, Adds}
use Rattle.hp_links.proofs.push.+push.Given as goal

abbrev pub invariant-push_list-loop-part : goal.invariant-push_list-loop-part
invariant-push_list-loop-part l = record {
  adds : Adds (all_kept (take l.part-index l.parts)) l.count (l.fn.entries.items ++ Parts l.order 0 ∷ [])
      l.entries.items;
  few : l.count ≤ l.part-index;
  below : (k : ℕ) → TreesBelow k l.parts → All (EntryBelow k) l.fn.entries.items
      → All (EntryBelow k) l.entries.items;
}
