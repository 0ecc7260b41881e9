-- What each node of trees that are laid down reads back as, by what is below it.
use Rattle.std.proofs.Common.{◌≡◌, ℕ, zero, suc, ◌+◌, ◌-◌, ◌<◌, ◌≤◌, List, [], ◌∷◌, ◌++◌, length, drop, map, slice_get, Some, inl, inr, refl, ap, ap₂, sym, ◌∙◌, arith}
use Rattle.std.proofs.lemmas.List.{append_assoc, append-nil, drop-drop, length-append, map-append}
use Rattle.std.proofs.lemmas.Option.{slice_get_cases, slice_get_within}
use Rattle.std.proofs.Math.Seq.{drop-append-add, drop-append_seam}
use Rattle.hp_syntax.specs.declared.pattern.Span.{Span}
use Rattle.hp_nodes.specs.Trees as trees
use Rattle.hp_nodes.proofs.TreeLemmas.{tree_back, within_more}

-- ---- what stands at an index

-- what is left of a list from an index on begins with what stands there
pub drop_there : {X : Type 0} (xs : List X) (i : ℕ) (x : X) → slice_get xs i ≡ Some x → drop i xs ≡ x ∷ drop (suc i) xs
drop_there [] i x e = absurd cc
drop_there (y ∷ ys) zero x e = ap (λ z. z ∷ ys) cc
drop_there (y ∷ ys) (suc i) x e = drop_there ys i x e

-- a node reads back with those that stand between it and where those below it end
pub node_there : (nodes : List trees.Laid) (i : ℕ) (n : trees.Laid) → slice_get nodes i ≡ Some n
    → trees.tree_at nodes i ≡ Some (trees.Node n.op n.span (trees.trees_between nodes (suc i) n.to))
unfolding trees.trees
node_there nodes i n e = ap (λ ns. trees.first_tree (trees.trees i ns)) (drop_there nodes i n e)

-- as far as no node goes there is no tree
within_none : (ts : trees.Trees) → trees.within zero ts ≡ trees.NoTree
unfolding trees.within
within_none trees.NoTree = refl
within_none (trees.More t ts) = refl

-- between an index and itself is none
pub none_between : (nodes : List trees.Laid) (i : ℕ) → trees.trees_between nodes i i ≡ trees.NoTree
none_between nodes i =
    let e : i - i ≡ zero = omega arith in
    ap (λ n. trees.within n (trees.trees i (drop i nodes))) e ∙ within_none (trees.trees i (drop i nodes))

-- ---- trees that are laid down

-- nodes begin with those of a tree, of which the first has this index
record BeginsTree (i : ℕ) (ns : List trees.Laid) : Type 0 where
  tree : trees.Tree
  rest : List trees.Laid
  is : ns ≡ trees.laid i tree ++ rest

mutual
  unfolding trees.laid trees.all_laid trees.size trees.sizes

  -- a tree has as many nodes as it says
  pub length-laid : (i : ℕ) (t : trees.Tree) → length (trees.laid i t) ≡ trees.size t
  length-laid i (trees.Node op s ts) = ap suc (length-all_laid (suc i) ts)

  -- so have trees
  pub length-all_laid : (i : ℕ) (ts : trees.Trees) → length (trees.all_laid i ts) ≡ trees.sizes ts
  length-all_laid i trees.NoTree = refl
  length-all_laid i (trees.More t ts) =
      length-append (trees.laid i t) (trees.all_laid (i + trees.size t) ts)
      ∙ ap (λ n. n + length (trees.all_laid (i + trees.size t) ts)) (length-laid i t)
      ∙ ap (λ n. trees.size t + n) (length-all_laid (i + trees.size t) ts)

-- the same nodes begin with a tree
begins_alike : (i : ℕ) (ms ns : List trees.Laid) → ms ≡ ns → BeginsTree i ns → BeginsTree i ms
begins_alike i ms ns e b = record { tree = b.tree; rest = b.rest; is = e ∙ b.is }

mutual
  unfolding trees.laid trees.all_laid trees.size trees.sizes

  -- from each node of a tree on stands the tree of that node
  tree_begins : (k i m : ℕ) (t : trees.Tree) (ns : List trees.Laid) → i ≡ k + m → m < trees.size t
      → BeginsTree i (drop m (trees.laid k t ++ ns))
  tree_begins k i zero t ns e l =
      let same : k ≡ i = omega arith in
      record { tree = t; rest = ns; is = ap (λ j. trees.laid j t ++ ns) same }
  tree_begins k i (suc m) (trees.Node op s ts) ns e l =
      trees_begin (suc k) i m ts ns (omega arith) (omega arith)

  -- so it does from each node of trees
  trees_begin : (k i m : ℕ) (ts : trees.Trees) (ns : List trees.Laid) → i ≡ k + m → m < trees.sizes ts
      → BeginsTree i (drop m (trees.all_laid k ts ++ ns))
  trees_begin k i m trees.NoTree ns e l = absurd (omega arith)
  trees_begin k i m (trees.More t ts) ns e l =
      let later = trees.all_laid (k + trees.size t) ts ++ ns in
      let whole = append_assoc (trees.laid k t) (trees.all_laid (k + trees.size t) ts) ns in
      let long = length-laid k t in
      begins_alike i (drop m ((trees.laid k t ++ trees.all_laid (k + trees.size t) ts) ++ ns))
      (drop m (trees.laid k t ++ later))
      (ap (drop m) whole)
      (elim ((slice_get_cases (trees.laid k t) m).1) [
        | inl w ↦ tree_begins k i m t later e (omega (arith, w.1, long))
        | inr w ↦
            let n = m - length (trees.laid k t) in
            let past : m ≡ length (trees.laid k t) + n = omega (arith, w.0) in
            begins_alike i (drop m (trees.laid k t ++ later)) (drop n later)
            (ap (λ j. drop j (trees.laid k t ++ later)) past ∙ drop-append-add (trees.laid k t) later n)
            (trees_begin (k + trees.size t) i n ts ns (omega (arith, w.0, long)) (omega (arith, w.0, long)))
      ])

-- the trees from an index on are the node's own, and those from where the nodes below it end
record ReadsFrom (nodes : List trees.Laid) (i to : ℕ) : Type 0 where
  tree : trees.Tree
  ends : i + trees.size tree ≡ to
  is : trees.trees i (drop i nodes) ≡ trees.More tree (trees.trees to (drop to nodes))

-- the head of a list that is known in two ways
head_same : {X : Type 0} (x y : X) (xs ys : List X) → x ∷ xs ≡ y ∷ ys → x ≡ y
head_same x y xs ys e = cc

-- where nodes begin with a tree, the first of them says where the tree ends
first_ends : (i : ℕ) (t : trees.Tree) (n : trees.Laid) (ms ns : List trees.Laid) → n ∷ ms ≡ trees.laid i t ++ ns
    → i + trees.size t ≡ n.to
unfolding trees.laid trees.size
first_ends i (trees.Node op s ts) n ms ns e =
    let own : trees.Laid = record { op = op; to = suc i + trees.sizes ts; span = s } in
    let same = head_same n own ms (trees.all_laid (suc i) ts ++ ns) e in
    let ends : i + suc (trees.sizes ts) ≡ suc i + trees.sizes ts = omega arith in
    ends ∙ sym (ap (λ l. l.to) same)

-- where nodes from an index on begin with a tree, those behind it stand from where it ends on
behind_tree : (nodes : List trees.Laid) (i to : ℕ) (t : trees.Tree) (rest : List trees.Laid) → drop i nodes
    ≡ trees.laid i t ++ rest
    → i + trees.size t ≡ to → drop to nodes ≡ rest
behind_tree nodes i to t rest e ends =
    let far : to ≡ i + length (trees.laid i t) = omega (arith, ends, length-laid i t) in
    ap (λ j. drop j nodes) far ∙ sym (drop-drop (length (trees.laid i t)) i nodes)
    ∙ ap (drop (length (trees.laid i t))) e ∙ drop-append_seam (trees.laid i t) rest

-- each node of trees that are laid down reads back before what stands where the nodes below it end
reads_from : (ts : trees.Trees) (nodes : List trees.Laid) → nodes ≡ trees.all_laid 0 ts → (i : ℕ) (n : trees.Laid)
    → slice_get nodes i ≡ Some n → ReadsFrom nodes i n.to
reads_from ts nodes laid_down i n e =
    let inside : i < trees.sizes ts =
    omega (arith, slice_get_within nodes i n e, ap length laid_down, length-all_laid 0 ts) in
    let b = trees_begin 0 i i ts [] (omega arith) inside in
    let here : drop i nodes ≡ trees.laid i b.tree ++ b.rest =
    ap (drop i) (laid_down ∙ sym (append-nil (trees.all_laid 0 ts))) ∙ b.is in
    let ends = first_ends i b.tree n (drop (suc i) nodes) b.rest (sym (drop_there nodes i n e) ∙ here) in
    let rest : drop n.to nodes ≡ b.rest = behind_tree nodes i n.to b.tree b.rest here ends in
    record {
      tree = b.tree;
      ends = ends;
      is =
          ap (trees.trees i) here ∙ tree_back i b.tree b.rest
          ∙ ap (λ j. trees.More b.tree (trees.trees j b.rest)) ends
          ∙ ap (λ ns. trees.More b.tree (trees.trees n.to ns)) (sym rest);
    }

-- one thing that is there in two ways
some_same : {X : Type 0} (x y : X) → Some x ≡ Some y → x ≡ y
some_same x y e = cc

-- a tree has a node
pub positive : (t : trees.Tree) → 1 ≤ trees.size t
unfolding trees.size
positive (trees.Node op s ts) = omega arith

-- of the trees between two indices the first is that of the first node, and the others begin where that ends
pub first_between : (ts : trees.Trees) (nodes : List trees.Laid) → nodes ≡ trees.all_laid 0 ts
    → (i to : ℕ) (n : trees.Laid)
    → slice_get nodes i ≡ Some n → n.to ≤ to → (t : trees.Tree) → trees.tree_at nodes i ≡ Some t
    → trees.trees_between nodes i to ≡ trees.More t (trees.trees_between nodes n.to to)
unfolding trees.size
first_between ts nodes laid_down i to n e l t at =
    from (reads_from ts nodes laid_down i n e)
  where
    from : ReadsFrom nodes i n.to → trees.trees_between nodes i to ≡ trees.More t (trees.trees_between nodes n.to to)
    from r =
        let own : r.tree ≡ t = some_same r.tree t (sym (ap trees.first_tree r.is) ∙ at) in
        let some : to - i ≡ suc (to - i - 1) = omega (arith, l, r.ends, positive r.tree) in
        let left : to - i - trees.size r.tree ≡ to - n.to = omega (arith, r.ends) in
        ap (trees.within (to - i)) r.is
        ∙ within_more (to - i) (to - i - 1) r.tree (trees.trees n.to (drop n.to nodes)) some
        ∙ ap (λ k. trees.More r.tree (trees.within k (trees.trees n.to (drop n.to nodes)))) left
        ∙ ap (λ u. trees.More u (trees.trees_between nodes n.to to)) own

-- ---- nodes that hold where those below them end

-- what a node does and where it stands
record Said : Type 0 where
  op : trees.Operation
  span : Span

abbrev said : trees.Laid → Said
said n = record { op = n.op; span = n.span }

-- a tree and trees as what their nodes say, in order
mutual
  tree_said : trees.Tree → List Said
  tree_said (trees.Node op s ts) = record { op = op; span = s } ∷ trees_said ts

  trees_said : trees.Trees → List Said
  trees_said trees.NoTree = []
  trees_said (trees.More t ts) = tree_said t ++ trees_said ts

mutual
  unfolding trees.laid trees.all_laid tree_said trees_said

  -- nodes that are laid down say what their trees say
  laid_said : (i : ℕ) (t : trees.Tree) → map said (trees.laid i t) ≡ tree_said t
  laid_said i (trees.Node op s ts) = ap (λ xs. record { op = op; span = s } ∷ xs) (all_laid_said (suc i) ts)

  all_laid_said : (i : ℕ) (ts : trees.Trees) → map said (trees.all_laid i ts) ≡ trees_said ts
  all_laid_said i trees.NoTree = refl
  all_laid_said i (trees.More t ts) =
      map-append said (trees.laid i t) (trees.all_laid (i + trees.size t) ts)
      ∙ ap₂ ◌++◌ (laid_said i t) (all_laid_said (i + trees.size t) ts)

-- trees that are parted say what they say whole
parted_said : (n : ℕ) (ts : trees.Trees) → trees_said (trees.within n ts) ++ trees_said (trees.behind n ts)
    ≡ trees_said ts
unfolding trees.within trees.behind trees_said
parted_said zero trees.NoTree = refl
parted_said (suc n) trees.NoTree = refl
parted_said zero (trees.More t ts) = refl
parted_said (suc n) (trees.More t ts) =
    append_assoc (tree_said t) (trees_said (trees.within (suc n - trees.size t) ts))
    (trees_said (trees.behind (suc n - trees.size t) ts))
    ∙ ap (λ xs. tree_said t ++ xs) (parted_said (suc n - trees.size t) ts)

-- the trees that nodes are say what the nodes say
read_said : (i : ℕ) (ns : List trees.Laid) → trees_said (trees.trees i ns) ≡ map said ns
unfolding trees.trees tree_said trees_said
read_said i [] = refl
read_said i (n ∷ ns) =
    ap (λ xs. said n ∷ xs) (parted_said (n.to - suc i) (trees.trees (suc i) ns) ∙ read_said (suc i) ns)

-- nodes that say the same and end at the same are the same
same_nodes : (xs ys : List trees.Laid) → map said xs ≡ map said ys → map (λ n. n.to) xs ≡ map (λ n. n.to) ys → xs ≡ ys
same_nodes [] [] e h = refl
same_nodes [] (y ∷ ys) e h = absurd cc
same_nodes (x ∷ xs) [] e h = absurd cc
same_nodes (x ∷ xs) (y ∷ ys) e h =
    ap₂ ◌∷◌
    (same_node (head_same (said x) (said y) (map said xs) (map said ys) e)
    (head_same x.to y.to (map (λ n. n.to) xs) (map (λ n. n.to) ys) h))
    (same_nodes xs ys (tail_same (said x) (said y) (map said xs) (map said ys) e)
    (tail_same x.to y.to (map (λ n. n.to) xs) (map (λ n. n.to) ys) h))
  where
    same_node : said x ≡ said y → x.to ≡ y.to → x ≡ y
    same_node s t =
        ap₂ (λ (w : Said) n. record { op = w.op; to = n; span = w.span }) s t

    tail_same : {X : Type 0} (a b : X) (as' bs : List X) → a ∷ as' ≡ b ∷ bs → as' ≡ bs
    tail_same a b as' bs e = cc

-- nodes that hold where those below them end are laid down
pub laid_by_ends : (nodes : List trees.Laid) → map (λ n. n.to) nodes
    ≡ map (λ n. n.to) (trees.all_laid 0 (trees.trees 0 nodes))
    → nodes ≡ trees.all_laid 0 (trees.trees 0 nodes)
laid_by_ends nodes e =
    same_nodes nodes (trees.all_laid 0 (trees.trees 0 nodes))
    (sym (all_laid_said 0 (trees.trees 0 nodes) ∙ read_said 0 nodes)) e
