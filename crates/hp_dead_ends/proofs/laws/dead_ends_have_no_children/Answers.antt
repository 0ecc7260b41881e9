use Rattle.std.proofs.Common.{[]}
use Rattle.hp_syntax.specs.Walk.{visits}
use Rattle.hp_dead_ends.proofs.DeadLemmas.{all_dead, all_found, tree_tells}
use Rattle.hp_dead_ends.specs.DeadEnds.{with_root}
use Rattle.hp_dead_ends.proofs.laws.dead_ends_have_no_children.Goals as goal

pub returns : goal.returns
returns c = record {
  dead =
      λ rules nest root.
      all_dead rules nest (with_root root (visits rules nest root [])) (tree_tells rules nest root);
  found =
      λ rules nest root v.
      all_found rules nest (with_root root (visits rules nest root [])) (tree_tells rules nest root) v;
}
