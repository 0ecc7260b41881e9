use Rattle.std.proofs.Common.{◌≡◌, IfSome, map, option_map, take}
use Rattle.hp_doctor_why.specs.Reasons.{reason_of}
use Rattle.hp_doctor_why.specs.Searches.{IsFresh, tree_searched}
use Rattle.hp_doctor_why.specs.Whys.{kept}
use Rattle.hp_doctor_why.proofs.reasons.reasons_of_ends.Given as goal

abbrev pub invariant-loop-end : goal.invariant-loop-end
invariant-loop-end l = record {
  so_far :
      map (option_map kept) l.reasons.items
      ≡ map (λ e. reason_of (tree_searched l.search) e.path.items) (take l.end-index l.ends);
  left : IfSome l.left (IsFresh l.search);
}
