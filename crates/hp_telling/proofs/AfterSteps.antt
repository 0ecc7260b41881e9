-- The visits that are left after the plan of a path.
use Rattle.std.proofs.Common.{◌≡◌, ℕ, List, ◌++◌, ◌∷◌, sym, ◌∙◌, subst}
use Rattle.std.specs.List.{All}
use Rattle.std.proofs.lemmas.List.Elements.{All-tail}
use Rattle.hp_after.specs.Reach.{IsThere}
use Rattle.hp_laws.proofs.JoinLemmas.{all_right}
use Rattle.hp_net.specs.Standings.{Tree, Standing, IsAtItsNode, tree_visits}
use Rattle.hp_syntax.specs.Walk.{Visit, Plan, visit}

-- the visits after the plan of a path are at their nodes, where all visits of the tree are
pub at_behind : (t u : Tree) (s : Standing) (p : List ℕ) (vs : List Visit) → u ≡ t → vs ≡ tree_visits t
    → All (IsAtItsNode t) vs → IsThere t s p → All (IsAtItsNode u) s.rest
at_behind t u s p vs same new at there =
    let v = visit p there.node Plan in
    let all : All (IsAtItsNode t) (there.before ++ v ∷ s.rest) =
    subst (All (IsAtItsNode t)) (new ∙ there.plan) at in
    subst (λ w. All (IsAtItsNode w) s.rest) (sym same)
    (All-tail (IsAtItsNode t) v s.rest (all_right (IsAtItsNode t) there.before (v ∷ s.rest) all))
