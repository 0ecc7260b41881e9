-- The tree of each number.
use Rattle.std.proofs.Common.{◌≡◌, ℕ, zero, suc, ◌+◌, ◌-◌, ◌<◌, Bool, List, [], ◌∷◌, length, get_or, take, drop, map, Option, Some, None, refl, sym, ap, ap₂, ◌∙◌, arith, add-zero}
use Rattle.std.specs.Prelude.{slice_get}
use Rattle.std.proofs.lemmas.List.{drop_more, get_or-drop}
use Rattle.std.proofs.lemmas.Option.{slice_get_within, get_or_from_slice_get}
use Rattle.hp_links.specs.declared.links.Part.{Part}
use Rattle.hp_links.specs.declared.links.Part.TheVariants.{Task, Row}
use Rattle.hp_links.specs.Frames.{frame_of, top, tops, StandFrom, Stands, AllStand, IsWhole}
use Rattle.hp_links.specs.Labelled.{Tree, Trees, Gone, Leaf, Branch, NoTree, With, count}
use Rattle.hp_links.specs.Linked.{Linked, as_trees, tree_over, trees_from, tree_of, tree_if, whole}

-- the tree of a number is that of its part, over the trees of greater numbers
part_above : (rows : List ℕ) (k i n : ℕ) (ps : List Part) (p : Part) → n ≡ k + i → slice_get ps i ≡ Some p
    → get_or (trees_from rows k ps) i Gone ≡ tree_over rows n p (drop (suc i) (trees_from rows k ps))
part_above rows k i n [] p e h = absurd cc
part_above rows k zero n (q ∷ ps) p e h =
    let f : k ≡ n = omega arith in
    let g : q ≡ p = cc in
    ap₂ (λ (j : ℕ) (x : Part). tree_over rows j x (trees_from rows (suc k) ps)) f g
part_above rows k (suc i) n (q ∷ ps) p e h = part_above rows (suc k) i n ps p (omega arith) h

-- the tree of a part's number is read from the trees of greater numbers
pub tree_of-part : (s : Linked) (k : ℕ) (p : Part) → slice_get s.parts k ≡ Some p
    → tree_of s k ≡ tree_over s.rows k p (drop (suc k) (trees_from s.rows 0 s.parts))
unfolding tree_of
tree_of-part s k p h = part_above s.rows 0 k k s.parts p (omega arith) h

-- a task's number has a leaf as its tree
pub tree_of-task : (s : Linked) (k cell : ℕ) (immediate : Bool) → slice_get s.parts k ≡ Some (Task cell immediate)
    → tree_of s k ≡ Leaf k cell immediate
tree_of-task s k cell immediate h = tree_of-part s k (Task cell immediate) h

-- what stands behind a place is read at its number
read_above : (xs : List Tree) (k j : ℕ) → k < j → get_or (drop (suc k) xs) (j - suc k) Gone ≡ get_or xs j Gone
read_above xs k j l =
    let e : suc k + (j - suc k) ≡ j = omega arith in
    get_or-drop (suc k) xs (j - suc k) Gone ∙ ap (λ n. get_or xs n Gone) e

-- numbers that stand from a place on are read there
pub row_read : (rows : List ℕ) (start : ℕ) (js : List ℕ) → StandFrom rows start js
    → take (length js) (drop start rows) ≡ js
row_read rows start [] h = refl
row_read rows start (j ∷ js) h =
    let here : slice_get rows start ≡ Some j =
    ap (slice_get rows) (sym (add-zero start)) ∙ h.at 0 (omega arith) in
    let within : start < length rows = slice_get_within rows start j here in
    let behind : StandFrom rows (start + 1) js = record {
      at = λ i l.
          let e : (start + 1) + i ≡ start + suc i = omega arith in
          ap (slice_get rows) e ∙ h.at (suc i) (omega arith);
    } in
    ap (take (suc (length js))) (drop_more rows start j within)
    ∙ ap₂ ◌∷◌ (get_or_from_slice_get rows start j j here) (row_read rows (start + 1) js behind)

-- parts have as many numbers
pub length-tops : (ts : Trees) → length (tops ts) ≡ count ts
length-tops NoTree = refl
length-tops (With t ts) = ap suc (length-tops ts)

-- a tree that stands in parts is the tree of its number
mutual
  unfolding tree_of

  pub tree_of-top : (s : Linked) (o : Option ℕ) (t : Tree) → Stands (frame_of s) o t → tree_of s (top t) ≡ t
  tree_of-top s o Gone h = absurd h
  tree_of-top s o (Leaf k cell immediate) h = tree_of-part s k (Task cell immediate) h.part
  tree_of-top s o (Branch k order ts) h =
      tree_of-part s k (Row order h.0 (count ts)) h.1.part
      ∙ ap
      (λ (js : List ℕ).
      Branch k order
      (as_trees (map (λ j. get_or (drop (suc k) (trees_from s.rows 0 s.parts)) (j - suc k) Gone) js)))
      (ap (λ n. take n (drop h.0 s.rows)) (sym (length-tops ts)) ∙ row_read s.rows h.0 (tops ts) h.2)
      ∙ ap (Branch k order) (trees_of-tops s k ts h.3)

  -- trees that stand in parts are the trees of their numbers
  trees_of-tops : (s : Linked) (k : ℕ) (ts : Trees) → AllStand (frame_of s) k ts
      → as_trees (map (λ j. get_or (drop (suc k) (trees_from s.rows 0 s.parts)) (j - suc k) Gone) (tops ts)) ≡ ts
  trees_of-tops s k NoTree h = refl
  trees_of-tops s k (With t ts) h =
      ap₂ With (read_above (trees_from s.rows 0 s.parts) k (top t) h.0 ∙ tree_of-top s (Some k) t h.1)
      (trees_of-tops s k ts h.2)

-- a tree that stands alone and has the root's number is the whole network
pub whole_is : (s : Linked) (t : Tree) → IsWhole (frame_of s) s.root t → whole s ≡ t
unfolding whole
whole_is s Gone h = ap (tree_if s) h.is
whole_is s (Leaf k cell immediate) h = ap (tree_if s) h.is ∙ tree_of-top s None (Leaf k cell immediate) h.stands
whole_is s (Branch k order ts) h = ap (tree_if s) h.is ∙ tree_of-top s None (Branch k order ts) h.stands
