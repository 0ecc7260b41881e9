-- Nodes that stand at an index.
use Rattle.std.proofs.Common.{◌≡◌, ℕ, List, Some, slice_get, ap, sym, ◌∙◌}
use Rattle.hp_nodes.specs.Trees.{Laid}

-- what stands at an index stands there alone
pub one_there : (nodes : List Laid) (i : ℕ) (l m : Laid) → slice_get nodes i ≡ Some l → slice_get nodes i ≡ Some m
    → l.to ≡ m.to
one_there nodes i l m h k = let e : Some l ≡ Some m = sym h ∙ k in let f : l ≡ m = cc in ap (λ (x : Laid). x.to) f
