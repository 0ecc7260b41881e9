-- The branches of an axiom in a code.
use Rattle.std.proofs.Common.{◌≡◌, ℕ, ◌+◌, ◌<◌, List, [], Some, None, slice_get, sym, ◌∙◌, subst, arith}
use Rattle.std.proofs.lemmas.Option.{same_Some}
use Rattle.hp_syntax.specs.Goals.{Goal, NoFilling}
use Rattle.hp_code.specs.CodeViews.{CodeView, IsCode}
use Rattle.hp_nodes.specs.Trees.{Laid}
use Rattle.hp_suspended.specs.Fitting.{AreClausesIn, IsExpressionAt}
use Rattle.hp_suspended.specs.Settings.{Setting}
use Rattle.hp_suspended.proofs.AxiomNodes.{axiom_found}
use Rattle.hp_suspended.proofs.NodeRanges.{node_in}
use Rattle.hp_suspended.proofs.RangeLemmas.{first_branch}

-- behind the node of an axiom's first branch stands its expression
pub first_body : (c : CodeView) (name : List ℕ) (k i : ℕ) (l : Laid) → IsCode c → slice_get (c.axiom_rules name) k ≡ Some i
    → slice_get c.nodes i ≡ Some l → i + 1 < l.to → IsExpressionAt c (i + 2)
first_body c name k i l is at' there less =
    let w : Setting = record { code = c; terms = []; places = [] } in
    let q : Goal = record { name = name; parts = NoFilling; tail = None } in
    let f = axiom_found w 0 k q i is at' in
    let own = same_Some f.node l (sym f.there ∙ there) in
    let branches = subst (λ (m : Laid). AreClausesIn c (i + 1) m.to) own f.facts.branches in
    let b = node_in c.nodes (i + 1) l.to branches.within less in
    let next : i + 1 + 1 ≡ i + 2 = omega arith in
    subst (IsExpressionAt c) next (first_branch w 0 (i + 1) l.to is branches less b.0 b.1).first
