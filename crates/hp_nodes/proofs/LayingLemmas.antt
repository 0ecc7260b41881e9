-- What holds of trees that are laid down behind nodes.
use Rattle.std.proofs.Common.{◌≡◌, ℕ, zero, suc, ◌+◌, ◌<◌, List, [], ◌∷◌, ◌++◌, map, length, get_or, set, refl, ap, sym, ◌∙◌, arith}
use Rattle.std.proofs.lemmas.List.{append_assoc, append-nil, length-append, length-map}
use Rattle.hp_syntax.specs.declared.pattern.Span.{Span}
use Rattle.hp_nodes.specs.declared.node.CodeNode.{CodeNode}
use Rattle.hp_nodes.specs.Compiled.{only}
use Rattle.hp_nodes.specs.Laying.{Lays, Opens, with_end, Closes}
use Rattle.hp_nodes.specs.NodeViews.{operation_of, laid_of}
use Rattle.hp_nodes.specs.Trees.{Operation, Laid, Tree, Trees, Node, NoTree, More, size, sizes, laid, all_laid}
use Rattle.hp_nodes.proofs.TreeLemmas.{followed}

-- ---- trees

mutual
  unfolding laid all_laid size sizes

  -- a tree is laid down in as many nodes as it has
  length-laid : (i : ℕ) (t : Tree) → length (laid i t) ≡ size t
  length-laid i (Node op s ts) = ap suc (length-all_laid (suc i) ts)

  -- so are trees
  length-all_laid : (i : ℕ) (ts : Trees) → length (all_laid i ts) ≡ sizes ts
  length-all_laid i NoTree = refl
  length-all_laid i (More t ts) =
      length-append (laid i t) (all_laid (i + size t) ts)
      ∙ ap (λ n. n + length (all_laid (i + size t) ts)) (length-laid i t)
      ∙ ap (λ n. size t + n) (length-all_laid (i + size t) ts)

-- trees that follow others are laid down behind them
all_laid-followed : (i : ℕ) (ts us : Trees) → all_laid i (followed ts us) ≡ all_laid i ts ++ all_laid (i + sizes ts) us
unfolding all_laid sizes
all_laid-followed i NoTree us =
    let j : i ≡ i + zero = omega arith in
    ap (λ n. all_laid n us) j
all_laid-followed i (More t ts) us =
    let j : i + size t + sizes ts ≡ i + (size t + sizes ts) = omega arith in
    ap (λ xs. laid i t ++ xs) (all_laid-followed (i + size t) ts us)
    ∙ sym (append_assoc (laid i t) (all_laid (i + size t) ts) (all_laid (i + size t + sizes ts) us))
    ∙ ap (λ n. (laid i t ++ all_laid (i + size t) ts) ++ all_laid n us) j

-- ---- trees behind nodes

-- nodes, and trees laid down behind them
abbrev pub laid_behind : List CodeNode → Trees → List Laid
laid_behind ns ts = map laid_of ns ++ all_laid (length ns) ts

-- trees add as many nodes as they have
pub length_after : (ts : Trees) (old new : List CodeNode) → Lays ts old new → length new ≡ length old + sizes ts
length_after ts old new h =
    sym (length-map new laid_of) ∙ ap length h ∙ length-append (map laid_of old) (all_laid (length old) ts)
    ∙ ap (λ n. n + length (all_laid (length old) ts)) (length-map old laid_of)
    ∙ ap (λ n. length old + n) (length-all_laid (length old) ts)

-- what is laid down behind trees follows them
pub laid_on : (ts us : Trees) (old new : List CodeNode) → Lays ts old new
    → laid_behind new us ≡ laid_behind old (followed ts us)
laid_on ts us old new h =
    ap (λ xs. xs ++ all_laid (length new) us) h
    ∙ append_assoc (map laid_of old) (all_laid (length old) ts) (all_laid (length new) us)
    ∙ ap (λ n. map laid_of old ++ (all_laid (length old) ts ++ all_laid n us)) (length_after ts old new h)
    ∙ ap (λ xs. map laid_of old ++ xs) (sym (all_laid-followed (length old) ts us))

-- trees that are laid down behind others follow them
pub lays_both : (ts us : Trees) (a b c : List CodeNode) → Lays ts a b → Lays us b c → Lays (followed ts us) a c
lays_both ts us a b c h k = k ∙ laid_on ts us a b h

-- a tree that is laid down, and trees behind it, are all of these
lays_more : (t : Tree) (ts : Trees) (a b c : List CodeNode) → Lays (only t) a b → Lays ts b c
    → Lays (More t ts) a c
lays_more t ts a b c h k = lays_both (only t) ts a b c h k

-- nodes with nothing behind them are these
pub laid_behind-none : (ns : List CodeNode) → laid_behind ns NoTree ≡ map laid_of ns
unfolding all_laid
laid_behind-none ns = append-nil (map laid_of ns)

-- where nothing is done, nothing is laid down
pub nothing_lays : (ns : List CodeNode) → Lays NoTree ns ns
nothing_lays ns = sym (laid_behind-none ns)

-- ---- a node with what is below it

-- of the nodes behind some, the first has their number for its index
with_end-append : (xs ns : List Laid) (n : Laid) (to : ℕ)
    → with_end (length xs) to (xs ++ n ∷ ns) ≡ xs ++ record n { to = to } ∷ ns
with_end-append [] ns n to = refl
with_end-append (x ∷ xs) ns n to = ap (λ zs. x ∷ zs) (with_end-append xs ns n to)

-- a node that is closed in its place is closed in the list
pub with_end-map : (ns : List CodeNode) (at to : ℕ) (n : CodeNode) → at < length ns → n ≡ get_or ns at n
    → map laid_of (set ns at (record n { to = to })) ≡ with_end at to (map laid_of ns)
with_end-map [] at to n below here = absurd (omega arith)
with_end-map (x ∷ ns) zero to n below here =
    ap (λ y. record { op = operation_of y.op; to = to; span = y.span } ∷ map laid_of ns) here
with_end-map (x ∷ ns) (suc at) to n below here =
    let within : at < length ns = omega arith in
    ap (λ ys. laid_of x ∷ ys) (with_end-map ns at to n within here)

module _ {op : Operation} {s : Span} {at : ℕ} {a b : List CodeNode} (opened : Opens op s at a b) where
  -- a node that is opened is one more
  length_opened : length b ≡ suc (length a)
  length_opened =
      let n : Laid = record { op = op; to = 0; span = s } in
      let e : length a + 1 ≡ suc (length a) = omega arith in
      sym (length-map b laid_of) ∙ ap length opened.behind ∙ length-append (map laid_of a) (n ∷ [])
      ∙ ap (λ k. k + 1) (length-map a laid_of) ∙ e

  -- a node that was opened is there when what is below it is laid down
  pub open_within : (ts : Trees) (c : List CodeNode) → Lays ts b c → at < length c
  open_within ts c below =
      let index = opened.index in
      let j = length_opened in
      let k = length_after ts b c below in
      omega arith

  -- a node that was opened, and is closed behind what is below it, is a tree with it
  pub node_lays : (ts : Trees) (c d : List CodeNode) → Lays ts b c → Closes at c d → Lays (only (Node op s ts)) a d
  unfolding laid all_laid
  node_lays ts c d below closed =
      let xs = map laid_of a in
      let n : Laid = record { op = op; to = 0; span = s } in
      let j = length_opened in
      let k = length_after ts b c below ∙ ap (λ m. m + sizes ts) j in
      closed
      ∙ ap (with_end at (length c)) (below ∙ ap (λ zs. zs ++ all_laid (length b) ts) opened.behind
      ∙ append_assoc xs (n ∷ []) (all_laid (length b) ts))
      ∙ ap (λ i. with_end i (length c) (xs ++ n ∷ all_laid (length b) ts)) (opened.index ∙ sym (length-map a laid_of))
      ∙ with_end-append xs (all_laid (length b) ts) n (length c)
      ∙ ap (λ m. xs ++ record n { to = length c } ∷ all_laid m ts) j
      ∙ ap (λ m. xs ++ record n { to = m } ∷ all_laid (suc (length a)) ts) k
      ∙ ap (λ zs. xs ++ zs) (sym (append-nil (laid (length a) (Node op s ts))))

  -- so is a node below which a tree and others are laid down
  pub open_within_more : (t : Tree) (ts : Trees) (c d : List CodeNode) → Lays (only t) b c → Lays ts c d
      → at < length d
  open_within_more t ts c d first rest = open_within (More t ts) d (lays_more t ts b c d first rest)

  -- and when it is closed it is a tree with all of these
  pub node_lays_more : (t : Tree) (ts : Trees) (c d e : List CodeNode) → Lays (only t) b c → Lays ts c d
      → Closes at d e → Lays (only (Node op s (More t ts))) a e
  node_lays_more t ts c d e first rest closed = node_lays (More t ts) d e (lays_more t ts b c d first rest) closed
