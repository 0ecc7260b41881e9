-- Where the trees of a code's nodes end. (On nodes alone: it can stand beside the laws of nodes.)
use Rattle.std.proofs.Common.{◌≡◌, ℕ, zero, suc, ◌+◌, ◌-◌, ◌<◌, ◌≤◌, List, [], ◌∷◌, ◌++◌, length, drop, slice_get, Some, None, inl, inr, refl, ap, sym, subst, ◌∙◌, arith}
use Rattle.std.proofs.lemmas.List.{append_assoc, drop_all, length-drop}
use Rattle.std.proofs.lemmas.Option.{slice_get_cases, slice_get_within}
use Rattle.hp_nodes.specs.Trees.{Laid, Tree, Trees, Node, NoTree, More, size, sizes, laid, all_laid, within, behind, first_tree, trees, tree_at, trees_between}
use Rattle.hp_code.proofs.NodeLemmas.{drop_there, first_between, length-all_laid, node_there, none_between, positive}
use Rattle.hp_nodes.proofs.TreeLemmas.{followed, within_more}

-- the trees of so many nodes before those behind them are the trees
parted : (n : ℕ) (ts : Trees) → followed (within n ts) (behind n ts) ≡ ts
unfolding within behind
parted zero NoTree = refl
parted (suc n) NoTree = refl
parted zero (More t ts) = refl
parted (suc n) (More t ts) = ap (λ us. More t us) (parted (suc n - size t) ts)

-- trees before trees are laid down one after the other
laid_followed : (i : ℕ) (ts us : Trees) → all_laid i (followed ts us) ≡ all_laid i ts ++ all_laid (i + sizes ts) us
unfolding all_laid sizes
laid_followed i NoTree us =
    let same : i ≡ i + zero = omega arith in ap (λ j. all_laid j us) same
laid_followed i (More t ts) us =
    let same : i + size t + sizes ts ≡ i + (size t + sizes ts) = omega arith in
    ap (λ ns. laid i t ++ ns) (laid_followed (i + size t) ts us)
    ∙ ap (λ j. laid i t ++ (all_laid (i + size t) ts ++ all_laid j us)) same
    ∙ sym (append_assoc (laid i t) (all_laid (i + size t) ts) (all_laid (i + (size t + sizes ts)) us))

-- nodes from an index on are the trees that they read back as, laid down
abbrev AreLaid : ℕ → List Laid → Type 0
AreLaid i ns = ns ≡ all_laid i (trees i ns)

-- the first of them holds where those below it end, and those behind it are laid down too
record FirstLaid (i : ℕ) (n : Laid) (ns : List Laid) : Type 0 where
  ends : suc i + sizes (within (n.to - suc i) (trees (suc i) ns)) ≡ n.to
  others : AreLaid (suc i) ns

-- a list that is known in two ways has one head
pub head_same : {X : Type 0} (x y : X) (xs ys : List X) → x ∷ xs ≡ y ∷ ys → x ≡ y
head_same x y xs ys e = cc

-- and one tail
pub tail_same : {X : Type 0} (x y : X) (xs ys : List X) → x ∷ xs ≡ y ∷ ys → xs ≡ ys
tail_same x y xs ys e = cc

-- so the first of nodes that are laid down tells
first_laid : (i : ℕ) (n : Laid) (ns : List Laid) → AreLaid i (n ∷ ns) → FirstLaid i n ns
unfolding trees all_laid laid size
first_laid i n ns e =
    let far = n.to - suc i in
    let read = trees (suc i) ns in
    let below = within far read in
    let more = behind far read in
    let own : Laid = record { op = n.op; to = suc i + sizes below; span = n.span } in
    let later = all_laid (suc i) below ++ all_laid (i + suc (sizes below)) more in
    let same : i + suc (sizes below) ≡ suc i + sizes below = omega arith in
    record {
      ends = ap (λ l. l.to) (sym (head_same n own ns later e));
      others =
          tail_same n own ns later e ∙ ap (λ j. all_laid (suc i) below ++ all_laid j more) same
          ∙ sym (laid_followed (suc i) below more) ∙ ap (all_laid (suc i)) (parted far read);
    }

-- the tree of the first of them ends no later than they
first_within : (i : ℕ) (n : Laid) (ns : List Laid) → AreLaid i (n ∷ ns)
    → suc (sizes (within (n.to - suc i) (trees (suc i) ns))) ≤ length (n ∷ ns)
unfolding trees sizes size
first_within i n ns e =
    let long = ap length e ∙ length-all_laid i (trees i (n ∷ ns)) in
    omega (arith, long)

-- so they are from each later index on
laid_behind : (i m : ℕ) (ns : List Laid) → AreLaid i ns → AreLaid (i + m) (drop m ns)
unfolding trees all_laid
laid_behind i zero ns e = let same : i ≡ i + zero = omega arith in subst (λ j. AreLaid j ns) same e
laid_behind i (suc m) [] e = refl
laid_behind i (suc m) (n ∷ ns) e =
    let same : suc i + m ≡ i + suc m = omega arith in
    subst (λ j. AreLaid j (drop m ns)) same (laid_behind (suc i) m ns (first_laid i n ns e).others)

module _ (nodes : List Laid) (down : nodes ≡ all_laid 0 (trees 0 nodes)) where
  -- from each index on the nodes are laid down
  pub laid_from : (i : ℕ) → drop i nodes ≡ all_laid i (trees i (drop i nodes))
  laid_from i = subst (λ j. AreLaid j (drop i nodes)) (omega arith) (laid_behind 0 i nodes down)

  module _ (i : ℕ) (n : Laid) (there : slice_get nodes i ≡ Some n) where
    -- the trees below a node end where it says
    pub below_ends : suc i + sizes (trees_between nodes (suc i) n.to) ≡ n.to
    below_ends =
        (first_laid i n (drop (suc i) nodes) (subst (AreLaid i) (drop_there nodes i n there) (laid_from i))).ends

    -- a node's tree ends no later than the nodes
    pub ends_within : n.to ≤ length nodes
    ends_within =
        let whole = first_within i n (drop (suc i) nodes)
        (subst (AreLaid i) (drop_there nodes i n there) (laid_from i)) in
        let left : length (n ∷ drop (suc i) nodes) ≡ length nodes - i =
        sym (ap length (drop_there nodes i n there)) ∙ length-drop i nodes in
        omega (arith, whole, left, below_ends, slice_get_within nodes i n there)

-- trees between two indices: the first is that of the first node, and the others begin where it ends
pub record BeginsRange (nodes : List Laid) (k end : ℕ) (n : Laid) : Type 0 where
  pub tree : Tree
  pub at' : tree_at nodes k ≡ Some tree
  pub begins : trees_between nodes k end ≡ More tree (trees_between nodes n.to end)
  pub more : k < n.to
  pub most : n.to ≤ end
  pub whole : n.to + sizes (trees_between nodes n.to end) ≡ end

-- the trees of a range, of which the first is this one
range_first : (nodes : List Laid) (k end : ℕ) (n : Laid) → slice_get nodes k ≡ Some n → k < end
    → suc (sizes (trees_between nodes (suc k) n.to)) ≤ sizes (trees_between nodes k end)
unfolding trees sizes size
range_first nodes k end n there less =
    let below = trees_between nodes (suc k) n.to in
    let t = Node n.op n.span below in
    let more = behind (n.to - suc k) (trees (suc k) (drop (suc k) nodes)) in
    let some : end - k ≡ suc (end - k - 1) = omega (arith, less) in
    let read : trees_between nodes k end ≡ More t (within (end - k - size t) more) =
    ap (λ ns. within (end - k) (trees k ns)) (drop_there nodes k n there)
    ∙ within_more (end - k) (end - k - 1) t more some in
    let long = ap sizes read in
    omega (arith, long)

-- trees between two indices that aren't none begin with that of the first node
pub range_begins : (nodes : List Laid) → nodes ≡ all_laid 0 (trees 0 nodes) → (k end : ℕ) (n : Laid)
    → slice_get nodes k ≡ Some n → k + sizes (trees_between nodes k end) ≡ end → k < end → BeginsRange nodes k end n
unfolding sizes size
range_begins nodes down k end n there whole less =
    let tree = Node n.op n.span (trees_between nodes (suc k) n.to) in
    let at' : tree_at nodes k ≡ Some tree = node_there nodes k n there in
    let ends = below_ends nodes down k n there in
    let long = range_first nodes k end n there less in
    let most : n.to ≤ end = omega (arith, ends, long, whole) in
    let begins = first_between (trees 0 nodes) nodes down k end n there most tree at' in
    let parts = ap sizes begins in
    record {
      tree = tree;
      at' = at';
      begins = begins;
      more = omega (arith, ends);
      most = most;
      whole = omega (arith, ends, parts, whole);
    }

-- a range that ends where it begins holds no tree
pub range_ends : (nodes : List Laid) (k end : ℕ) → k + sizes (trees_between nodes k end) ≡ end → end ≤ k
    → trees_between nodes k end ≡ NoTree
range_ends nodes k end whole less =
    let same : k ≡ end = omega (arith, whole, less) in
    subst (λ j. trees_between nodes k j ≡ NoTree) same (none_between nodes k)

-- an index below the end of a range is a node's
pub node_in : (nodes : List Laid) (k end : ℕ) → end ≤ length nodes → k < end → (l : Laid) × (slice_get nodes k ≡ Some l)
node_in nodes k end within less = elim ((slice_get_cases nodes k).1) [
  | inl w ↦ (w.0, w.2)
  | inr w ↦ absurd (omega (arith, w.0, within, less))
]

-- where a tree is read there is a node
pub node_of_tree : (nodes : List Laid) (i : ℕ) (t : Tree) → tree_at nodes i ≡ Some t
    → (l : Laid) × (slice_get nodes i ≡ Some l)
unfolding trees
node_of_tree nodes i t e = elim ((slice_get_cases nodes i).1) [
  | inl w ↦ (w.0, w.2)
  | inr w ↦
      let none : tree_at nodes i ≡ None = ap (λ ns. first_tree (trees i ns)) (drop_all i nodes w.0) in
      let both : None ≡ Some t = sym none ∙ e in
      absurd cc
]

-- a tree before others between two indices is that of the first node, and the others begin where it ends
pub record StandsFirst (nodes : List Laid) (k end : ℕ) (t : Tree) (us : Trees) : Type 0 where
  pub node : Laid
  pub there : slice_get nodes k ≡ Some node
  pub tree : tree_at nodes k ≡ Some t
  pub less : k < end
  pub more : k < node.to
  pub most : node.to ≤ end
  pub others : trees_between nodes node.to end ≡ us
  pub whole : node.to + sizes (trees_between nodes node.to end) ≡ end

-- trees that are known in two ways have one first tree
first_same : (t u : Tree) (ts us : Trees) → More t ts ≡ More u us → t ≡ u
first_same t u ts us e = cc

-- and the same others
others_same : (t u : Tree) (ts us : Trees) → More t ts ≡ More u us → ts ≡ us
others_same t u ts us e = cc

-- the first of the trees of a range stands first in it
pub stands_first : (nodes : List Laid) → nodes ≡ all_laid 0 (trees 0 nodes) → (k end : ℕ) (t : Tree) (us : Trees)
    → k + sizes (trees_between nodes k end) ≡ end → end ≤ length nodes → trees_between nodes k end ≡ More t us
    → StandsFirst nodes k end t us
unfolding sizes
stands_first nodes down k end t us whole within read =
    let long = ap sizes read in
    let less : k < end = omega (arith, whole, long, positive t) in
    let l = node_in nodes k end within less in
    let b = range_begins nodes down k end l.0 l.1 whole less in
    let same = sym b.begins ∙ read in
    record {
      node = l.0;
      there = l.1;
      tree = b.at' ∙ ap Some (first_same b.tree t (trees_between nodes l.0.to end) us same);
      less = less;
      more = b.more;
      most = b.most;
      others = others_same b.tree t (trees_between nodes l.0.to end) us same;
      whole = b.whole;
    }
