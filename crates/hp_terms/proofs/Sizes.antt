-- The size of a node counts it and all nodes in it. Recursion goes to smaller nodes.
use Rattle.std.proofs.Common.{◌≡◌, ℕ, ◌+◌, ◌-◌, ◌*◌, ◌<◌, ◌≤◌, Bool, true, false, cond, List, ◌∷◌, length, get_or, take, drop, Some, None, refl, ap, subst, arith}
use Rattle.std.specs.Prelude.{Vec}
use Rattle.std.specs.Global.{Global}
use Rattle.hp_syntax.specs.Forest as plain
use Rattle.hp_syntax.specs.Steps.{is_word}
use Rattle.hp_syntax.specs.Forest.{Word, Numeral, Group, Forest, Bare, Grow}
use Rattle.hp_syntax.proofs.ListLemmas.{element-smaller, others-smaller}
use Rattle.hp_text.specs.declared.forest.Node.{Node}
use Rattle.hp_text.specs.declared.forest.NodeKind.TheVariants as kinds
use Rattle.hp_text.specs.NodeLaws.{node_of-list}
use Rattle.hp_text.specs.Nodes.{node_of, nodes_of}
use Rattle.hp_terms.specs.Words.{behind}

abbrev mutual
  pub node_size : plain.Node → ℕ
  node_size (Word s name) = 1
  node_size (Numeral s n) = 1
  node_size (Group s parts) = forest_size parts + 1

  pub forest_size : Forest → ℕ
  forest_size Bare = 0
  forest_size (Grow n rest) = node_size n + forest_size rest + 1

-- each item of a list is smaller than all items together
pub item-smaller : (nodes : List Node) (i : ℕ) (n : Node) → i < length nodes → n ≡ get_or nodes i n
    → node_size (node_of n) < forest_size (nodes_of nodes)
item-smaller =
    element-smaller (λ n. node_size (node_of n)) (λ ns. forest_size (nodes_of ns)) (λ n ns. refl)

-- the items behind the first are smaller than all items together
pub rest-smaller : (nodes : List Node) → 1 ≤ length nodes
    → forest_size (nodes_of (take (length nodes - 1) (drop 1 nodes))) < forest_size (nodes_of nodes)
rest-smaller =
    others-smaller (λ n. node_size (node_of n)) (λ ns. forest_size (nodes_of ns)) (λ n ns. refl)

-- the items of a list are smaller than the list as one node
pub parts-smaller : (n : Node) (parts : Vec Node Global) (nodes : List Node) → n.kind ≡ kinds.List parts
    → nodes ≡ parts.items → forest_size (nodes_of nodes) < node_size (node_of n)
parts-smaller n parts nodes h e = rw (e, node_of-list n parts h) (omega arith)

-- what stands behind a word that items begin with is smaller than the items
pub behind-smaller : (word : List ℕ) (f g : Forest) → behind word f ≡ Some g → forest_size g < forest_size f
behind-smaller word Bare g e = absurd cc
behind-smaller word (Grow n rest) g e = either (is_word word n) e
  where
    either : (b : Bool) → cond b (Some rest) None ≡ Some g → forest_size g < forest_size (Grow n rest)
    either true h =
        let same : rest ≡ g = cc in
        subst (λ x. forest_size x < forest_size (Grow n rest)) same (omega arith)
    either false h = absurd cc

module _ (left others : List Node) (n : Node) (m : ℕ) (at : left ≡ n ∷ others)
    (least : forest_size (nodes_of left) ≤ m) where
  -- the first of items that are left is smaller than all items
  pub taken-smaller : node_size (node_of n) < m
  taken-smaller = let e = ap (λ ns. forest_size (nodes_of ns)) at in omega arith

  -- and so are the others
  pub others_left-smaller : forest_size (nodes_of others) < m
  others_left-smaller = let e = ap (λ ns. forest_size (nodes_of ns)) at in omega arith

-- items behind a first one are smaller than the items with it
pub behind_first-smaller : (f g : Forest) (n : plain.Node) → f ≡ Grow n g → forest_size g < forest_size f
behind_first-smaller f g n e = rw e (omega arith)

-- ---- measures of calls: twice a size, and one more where items are read as one term

module _ {a b t : ℕ} (smaller : a < b) where
  -- a call with something smaller has a smaller measure
  pub call-smaller : 2 * b ≡ t → (2 * a < t) × Unit {0}
  call-smaller e = (omega arith, tt)

  -- so has one that reads smaller items as one term
  pub term_call-smaller : 2 * b ≡ t → (2 * a + 1 < t) × Unit {0}
  term_call-smaller e = (omega arith, tt)

  -- so has one where the caller reads its items as one term too
  pub called-smaller : 2 * b + 1 ≡ t → (2 * a + 1 < t) × Unit {0}
  called-smaller e = (omega arith, tt)

-- a call with the same items has a smaller measure where the caller alone reads them as one term
pub step-smaller : (a : ℕ) {t : ℕ} → 2 * a + 1 ≡ t → (2 * a < t) × Unit {0}
step-smaller a e = (omega arith, tt)
