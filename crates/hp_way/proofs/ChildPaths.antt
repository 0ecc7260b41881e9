-- What a path reaches with one more number is a child of what it reaches.
use Rattle.std.proofs.Common.{◌≡◌, ℕ, Bool, true, false, cond, List, [], ◌∷◌, ◌++◌, Option, Some, None, sym, ◌∙◌, ap}
use Rattle.std.specs.Prelude.{◌==◌}
use Rattle.std.specs.Option.{option_and_then}
use Rattle.hp_syntax.specs.Networks.{is_empty}
use Rattle.hp_syntax.specs.Syntax.{Rule}
use Rattle.hp_syntax.specs.Walk.{Node, children, did_at, node_at}

module _ (rules : List Rule) (nest : ℕ) where
  -- where a path leads through a child, it goes on from there as it does from the child
  through : (r : List ℕ) (n : Node) (q : List ℕ) (e z : Bool) (o : Option Node)
      → ((m : Node) → node_at rules nest m q ≡ Some n → node_at rules nest m (q ++ r) ≡ node_at rules nest n r)
      → cond e None (cond z None (option_and_then (λ m. node_at rules nest m q) o)) ≡ Some n
      → cond e None (cond z None (option_and_then (λ m. node_at rules nest m (q ++ r)) o)) ≡ node_at rules nest n r
  through r n q true z o deep h = absurd cc
  through r n q false true o deep h = absurd cc
  through r n q false false None deep h = absurd cc
  through r n q false false (Some m) deep h = deep m h

  -- a path goes on from the node that its beginning reaches
  goes_on : (q r : List ℕ) (root n : Node) → node_at rules nest root q ≡ Some n
      → node_at rules nest root (q ++ r) ≡ node_at rules nest n r
  unfolding node_at
  goes_on [] r root n h = let e : root ≡ n = cc in ap (λ k. node_at rules nest k r) e
  goes_on (i ∷ q) r root n h =
      through r n q (is_empty root.network) (root.depth == 0) (did_at (children rules nest root) i)
      (λ m k. goes_on q r m n k) h

  pub child_behind : (p : List ℕ) (i : ℕ) (root n m : Node) → node_at rules nest root p ≡ Some n
      → node_at rules nest root (p ++ i ∷ []) ≡ Some m → node_at rules nest n (i ∷ []) ≡ Some m
  child_behind p i root n m there here = sym (goes_on p (i ∷ []) root n there) ∙ here
