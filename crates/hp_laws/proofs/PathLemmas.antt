-- The path of each visit leads from the node that it begins at to the visit's node.
use Rattle.std.proofs.Common.{◌≡◌, ℕ, suc, ◌+◌, false, cond, List, [], ◌∷◌, ◌++◌, Some, None, refl, sym, ◌∙◌, ap, arith, append_assoc, ⊎_elim}
use Rattle.std.specs.Prelude.{◌==◌, Contains}
use Rattle.std.specs.List.{All}
use Rattle.std.specs.Option.{option_and_then}
use Rattle.std.proofs.lemmas.Bool.{cond-false, ne_eqb}
use Rattle.std.proofs.lemmas.List.{append-nil}
use Rattle.std.proofs.lemmas.List.Elements.{All-weaker}
use Rattle.hp_syntax.specs.Syntax.{Rule}
use Rattle.hp_syntax.specs.Networks.{is_empty}
use Rattle.hp_syntax.specs.Walk.{Node, Child, DidChild, CutChild, FaultChild, children, Visit, numbered_children, visits, did_at, node_at}
use Rattle.hp_laws.proofs.JoinLemmas.{contains_cases, contains_none}
use Rattle.hp_laws.proofs.VisitLemmas.{all_visits_of_tree}

-- a numbered Did stands at its number among the Dids, counted from the first number
pub did_of_numbered : (j i : ℕ) (m : Node) (cs : List Child) → Contains (numbered_children j cs) (i, DidChild m)
    → (k : ℕ) × (i ≡ j + k) × (did_at cs k ≡ Some m)
did_of_numbered j i m [] h = absurd (contains_none (i, DidChild m) h)
did_of_numbered j i m (DidChild x ∷ cs) h =
    ⊎_elim (λ e. let f : DidChild x ≡ DidChild m = ap (λ y. y.1) e in
    let g : j ≡ i = ap (λ y. y.0) e in (0, omega arith, cc))
    (λ h. let r = did_of_numbered (suc j) i m cs h in let e = r.1 in (suc r.0, omega arith, r.2))
    (contains_cases (j, DidChild x) (i, DidChild m) (numbered_children (suc j) cs) h)
did_of_numbered j i m (CutChild ∷ cs) h =
    ⊎_elim (λ e. let f : CutChild ≡ DidChild m = ap (λ y. y.1) e in absurd cc)
    (λ h. did_of_numbered j i m cs h) (contains_cases (j, CutChild) (i, DidChild m) (numbered_children j cs) h)
did_of_numbered j i m (FaultChild f ∷ cs) h =
    ⊎_elim (λ e. let g : FaultChild f ≡ DidChild m = ap (λ y. y.1) e in absurd cc)
    (λ h. did_of_numbered j i m cs h) (contains_cases (j, FaultChild f) (i, DidChild m) (numbered_children j cs) h)

module _ (rules : List Rule) (nest : ℕ) where
  -- the child with a number is the Did that the number names
  pub did_at_number : (n m : Node) (i : ℕ) → Contains (numbered_children 0 (children rules nest n)) (i, DidChild m)
      → did_at (children rules nest n) i ≡ Some m
  did_at_number n m i h =
      let r = did_of_numbered 0 i m (children rules nest n) h in
      let e : i ≡ r.0 = (let f = r.1 in omega arith) in ap (did_at (children rules nest n)) e ∙ r.2

  -- the empty path stays at the node
  node_at_none : (n : Node) → node_at rules nest n [] ≡ Some n
  unfolding node_at
  node_at_none n = refl

  -- a path goes on from the child that its first number names
  node_at_child : (n m : Node) (d i : ℕ) (q : List ℕ) → is_empty n.network ≡ false → n.depth ≡ suc d
      → did_at (children rules nest n) i ≡ Some m → node_at rules nest n (i ∷ q) ≡ node_at rules nest m q
  unfolding node_at
  node_at_child n m d i q f e h =
      cond-false (is_empty n.network) None
      (cond (n.depth == 0) None (option_and_then (λ m. node_at rules nest m q) (did_at (children rules nest n) i))) f
      ∙ (cond-false (n.depth == 0) None
      (option_and_then (λ m. node_at rules nest m q) (did_at (children rules nest n) i))
      (ne_eqb n.depth 0 (λ z. omega arith))
      ∙ ap (option_and_then (λ m. node_at rules nest m q)) h)

  -- a visit of a node that a path from n reaches, where n itself stands at p
  abbrev Reached : Node → List ℕ → Visit → Type 0
  Reached n p v = (q : List ℕ) × (v.path ≡ p ++ q) × (node_at rules nest n q ≡ Some v.node)

  -- so the path of each visit leads from the root to its node
  pub visits_in_tree : (root : Node)
      → All (λ v. node_at rules nest root v.path ≡ Some v.node) (visits rules nest root [])
  visits_in_tree root =
      All-weaker (Reached root []) (λ v. node_at rules nest root v.path ≡ Some v.node)
      (λ v r. ap (node_at rules nest root) r.1 ∙ r.2) (visits rules nest root [])
      (all_visits_of_tree rules nest Reached (λ n p x. ([], sym (append-nil p), node_at_none n))
      (λ d n m p i v c e f g r. (
        i ∷ r.0,
        r.1 ∙ append_assoc p (i ∷ []) r.0,
        node_at_child n m d i r.0 e f (did_at_number n m i c) ∙ r.2,
      )) root [])
