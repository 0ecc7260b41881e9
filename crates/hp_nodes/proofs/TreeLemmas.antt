-- What holds of trees that are laid down.
use Rattle.std.proofs.Common.{◌≡◌, ℕ, zero, suc, ◌+◌, ◌-◌, List, [], ◌++◌, refl, ap, sym, ◌∙◌, arith}
use Rattle.std.proofs.lemmas.List.{append_assoc, append-nil}
use Rattle.hp_nodes.specs.Trees.{Laid, Tree, Trees, Node, NoTree, More, size, sizes, laid, all_laid, within, behind, trees}

-- trees before trees
abbrev pub followed : Trees → Trees → Trees
followed NoTree us = us
followed (More t ts) us = More t (followed ts us)

-- where some nodes are left, the first tree is among the first
pub within_more : (n m : ℕ) (t : Tree) (ts : Trees) → n ≡ suc m → within n (More t ts) ≡ More t (within (n - size t) ts)
unfolding within
within_more n m t ts e = rw e refl

-- and what is behind them is behind it
behind_more : (n m : ℕ) (t : Tree) (ts : Trees) → n ≡ suc m → behind n (More t ts) ≡ behind (n - size t) ts
unfolding behind
behind_more n m t ts e = rw e refl

-- as far as the nodes of some trees go stand these trees, whatever is behind them
within_followed : (ts us : Trees) → within (sizes ts) (followed ts us) ≡ ts
unfolding within size sizes
within_followed NoTree NoTree = refl
within_followed NoTree (More u us) = refl
within_followed (More (Node op s bs) ts) us =
    let n = suc (sizes bs) + sizes ts in
    let e : n ≡ suc (sizes bs + sizes ts) = omega arith in
    let d : n - suc (sizes bs) ≡ sizes ts = omega arith in
    within_more n (sizes bs + sizes ts) (Node op s bs) (followed ts us) e
    ∙ ap (λ k. More (Node op s bs) (within k (followed ts us))) d
    ∙ ap (λ xs. More (Node op s bs) xs) (within_followed ts us)

-- behind the nodes of some trees stands what is behind them
behind_followed : (ts us : Trees) → behind (sizes ts) (followed ts us) ≡ us
unfolding behind size sizes
behind_followed NoTree NoTree = refl
behind_followed NoTree (More u us) = refl
behind_followed (More (Node op s bs) ts) us =
    let n = suc (sizes bs) + sizes ts in
    let e : n ≡ suc (sizes bs + sizes ts) = omega arith in
    let d : n - suc (sizes bs) ≡ sizes ts = omega arith in
    behind_more n (sizes bs + sizes ts) (Node op s bs) (followed ts us) e
    ∙ ap (λ k. behind k (followed ts us)) d
    ∙ behind_followed ts us

mutual
  unfolding laid all_laid trees size sizes

  -- a tree that is laid down reads back as itself, before what stands behind it
  pub tree_back : (i : ℕ) (t : Tree) (ns : List Laid) → trees i (laid i t ++ ns) ≡ More t (trees (i + size t) ns)
  tree_back i (Node op s ts) ns =
      let us = trees (suc i + sizes ts) ns in
      let e : suc i + sizes ts - suc i ≡ sizes ts = omega arith in
      let j : suc i + sizes ts ≡ i + suc (sizes ts) = omega arith in
      ap (λ xs. More (Node op s (within (suc i + sizes ts - suc i) xs)) (behind (suc i + sizes ts - suc i) xs))
      (trees_back (suc i) ts ns)
      ∙ ap (λ n. More (Node op s (within n (followed ts us))) (behind n (followed ts us))) e
      ∙ ap (λ xs. More (Node op s xs) (behind (sizes ts) (followed ts us))) (within_followed ts us)
      ∙ ap (λ xs. More (Node op s ts) xs) (behind_followed ts us)
      ∙ ap (λ n. More (Node op s ts) (trees n ns)) j

  -- so do trees
  pub trees_back : (i : ℕ) (ts : Trees) (ns : List Laid)
      → trees i (all_laid i ts ++ ns) ≡ followed ts (trees (i + sizes ts) ns)
  trees_back i NoTree ns =
      let j : i ≡ i + zero = omega arith in
      ap (λ n. trees n ns) j
  trees_back i (More t ts) ns =
      let j : i + size t + sizes ts ≡ i + (size t + sizes ts) = omega arith in
      ap (trees i) (append_assoc (laid i t) (all_laid (i + size t) ts) ns)
      ∙ tree_back i t (all_laid (i + size t) ts ++ ns)
      ∙ ap (λ xs. More t xs) (trees_back (i + size t) ts ns)
      ∙ ap (λ n. More t (followed ts (trees n ns))) j

-- trees before none are these
followed_none : (ts : Trees) → followed ts NoTree ≡ ts
followed_none NoTree = refl
followed_none (More t ts) = ap (λ us. More t us) (followed_none ts)

-- trees that are laid down read back as themselves
pub laid_back : (i : ℕ) (ts : Trees) → trees i (all_laid i ts) ≡ ts
unfolding trees
laid_back i ts =
    ap (trees i) (sym (append-nil (all_laid i ts))) ∙ trees_back i ts [] ∙ followed_none ts
