-- The trees of entries, and the networks that they are.
use Rattle.std.proofs.Common.{◌≡◌, ℕ, zero, suc, List, [], ◌∷◌, length, take, drop, map, refl, sym, ap, ap₂, subst, ◌∙◌, arith}
use Rattle.std.proofs.lemmas.List.{append-nil, take-map, drop-map, length-take-le, length-map}
use Rattle.hp_syntax.specs.Networks as plain
use Rattle.hp_syntax.specs.Terms.{Term}
use Rattle.hp_eval.specs.declared.tasks.TaskTree.{TaskTree}
use Rattle.hp_eval.specs.GoalViews.{as_networks, network_of}
use Rattle.hp_links.specs.declared.entry.Entry.{Entry}
use Rattle.hp_links.specs.declared.entry.Entry.TheVariants as entries
use Rattle.hp_links.specs.Entries.{forest, AreClosed}
use Rattle.hp_links.specs.Labelled.{Tree, Leaf, count, IsFull, AreFull, listed, network, networks}
use Rattle.hp_links.specs.Linked.{as_trees}
use Rattle.hp_links.specs.Planted.{trees_at}
use Rattle.hp_links.specs.Pushed.{shown, kept, Adds}

networks-as_trees : (terms : List Term) (ts : List Tree)
    → networks terms (as_trees ts) ≡ as_networks (map (network terms) ts)
networks-as_trees terms [] = refl
networks-as_trees terms (t ∷ ts) = ap (plain.And (network terms t)) (networks-as_trees terms ts)

-- the trees of entries are their networks
pub trees_networks : (terms : List Term) (k : ℕ) (es : List Entry)
    → map (network terms) (trees_at k es) ≡ forest terms es
trees_networks terms k [] = refl
trees_networks terms k (entries.Task cell immediate ∷ es) =
    ap (λ ns. network terms (Leaf k cell immediate) ∷ ns) (trees_networks terms (suc k) es)
trees_networks terms k (entries.List order n ∷ es) =
    let ts = trees_at (suc k) es in
    let h = trees_networks terms (suc k) es in
    ap₂ ◌∷◌
    (ap (listed order)
    (networks-as_trees terms (take n ts)
    ∙ ap as_networks (sym (take-map (network terms) n ts) ∙ ap (take n) h)))
    (sym (drop-map (network terms) n ts) ∙ ap (drop n) h)

-- each list in the trees has two parts or more
abbrev pub AllFull : List Tree → Type 0
AllFull [] = Unit {0}
AllFull (t ∷ ts) = IsFull t × AllFull ts

first_full : (n : ℕ) (ts : List Tree) → AllFull ts → AreFull (as_trees (take n ts))
first_full zero ts h = tt
first_full (suc n) [] h = tt
first_full (suc n) (t ∷ ts) h = (h.0, first_full n ts h.1)

last_full : (n : ℕ) (ts : List Tree) → AllFull ts → AllFull (drop n ts)
last_full zero ts h = h
last_full (suc n) [] h = tt
last_full (suc n) (t ∷ ts) h = last_full n ts h.1

count-as_trees : (ts : List Tree) → count (as_trees ts) ≡ length ts
count-as_trees [] = refl
count-as_trees (t ∷ ts) = ap suc (count-as_trees ts)

-- trees of closed entries are full
pub trees_full : (k : ℕ) (es : List Entry) → AreClosed es → AllFull (trees_at k es)
trees_full k [] h = tt
trees_full k (entries.Task cell immediate ∷ es) h = (tt, trees_full (suc k) es h)
trees_full k (entries.List order n ∷ es) h =
    let ts = trees_at (suc k) es in
    let full = trees_full (suc k) es h.2 in
    let two = h.0 in
    let most = h.1 in
    let many = ap length (trees_networks [] (suc k) es) in
    let long : count (as_trees (take n ts)) ≡ n =
    count-as_trees (take n ts) ∙ length-take-le n ts (omega (arith, many, length-map ts (network []))) in
    ((omega arith, first_full n ts full), last_full n ts full)

-- one tree alone
one_alone : (ts : List Tree) → length ts ≡ 1 → (t : Tree) × (ts ≡ t ∷ [])
one_alone [] e = absurd (omega arith)
one_alone (t ∷ []) e = (t, refl)
one_alone (t ∷ u ∷ ts) e = absurd (omega arith)

-- entries that are one network are one tree
pub one_tree_at : (k : ℕ) (es : List Entry) → length (forest [] es) ≡ 1 → (t : Tree) × (trees_at k es ≡ t ∷ [])
one_tree_at k es e =
    one_alone (trees_at k es)
    (sym (length-map (trees_at k es) (network [])) ∙ ap length (trees_networks [] k es) ∙ e)

module _ (tree : TaskTree) (many : ℕ) (es : List Entry) (a : Adds (kept tree) many [] es) where
  -- the entries of a tree are its normal form, if it isn't empty
  pub kept_forest : (terms : List Term) → forest terms es ≡ kept tree terms
  kept_forest terms =
      ap (forest terms) (a.is ∙ sym (append-nil a.added)) ∙ a.reads.forest terms [] ∙ append-nil (kept tree terms)

  pub kept_closed : AreClosed es
  kept_closed = subst AreClosed (append-nil a.added ∙ sym a.is) (a.reads.full [] tt)

  pub kept_many : (terms : List Term) → length (forest terms es) ≡ many
  kept_many terms = ap length (kept_forest terms) ∙ a.reads.count terms

  -- no entries are the empty network
  pub kept_none : many ≡ 0 → (terms : List Term) → plain.normal (network_of terms tree) ≡ plain.Empty
  unfolding kept
  kept_none none terms = empty (plain.normal (network_of terms tree)) (a.reads.count terms ∙ none)
    where
      empty : (n : plain.Network) → length (shown n) ≡ 0 → n ≡ plain.Empty
      empty plain.Empty e = refl
      empty (plain.Task t i) e = absurd (omega arith)
      empty (plain.Ordered ns) e = absurd (omega arith)
      empty (plain.Unordered ns) e = absurd (omega arith)

  -- one network of entries is the normal form
  pub kept_one : (k : ℕ) (t : Tree) → trees_at k es ≡ t ∷ [] → (terms : List Term)
      → network terms t ≡ plain.normal (network_of terms tree)
  unfolding kept
  kept_one k t is terms =
      one (plain.normal (network_of terms tree)) (network terms t)
      (sym (ap (map (network terms)) is) ∙ trees_networks terms k es ∙ kept_forest terms)
    where
      one : (n m : plain.Network) → m ∷ [] ≡ shown n → m ≡ n
      one plain.Empty m e = absurd cc
      one (plain.Task t i) m e = cc
      one (plain.Ordered ns) m e = cc
      one (plain.Unordered ns) m e = cc
