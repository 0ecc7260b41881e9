-- What goals ask for, node by node and argument by argument.
use Rattle.std.proofs.Common.{◌≡◌, ℕ, ◌+◌, ◌<◌, ◌≤◌, Bool, true, false, ◌||◌, ◌&&◌, not, cond, List, [], ◌∷◌, ◌++◌, map, length, get_or, drop, refl, ap, ap₂, sym, ◌∙◌, arith}
use Rattle.std.specs.List.{filter, range_with_len}
use Rattle.std.proofs.lemmas.List.{append-nil, at_drop_all, drop_more, map-id}
use Rattle.std.proofs.lemmas.List.Elements.{filter_agree}
use Rattle.std.proofs.lemmas.List.FromFn.{filter_of_map_range_with_len_more}
use Rattle.hp_syntax.specs.declared.pattern.Pat.{Pat}
use Rattle.hp_syntax.specs.Views.{pattern_of, patterns_of}
use Rattle.hp_syntax.specs.Syntax.{Patterns}
use Rattle.hp_nodes.specs.declared.node.CodeNode.{CodeNode}
use Rattle.hp_nodes.specs.Asked.{Known, all_asked, also, asked_by, behind, is_in, is_known, is_sure, known_arguments, none, variables}
use Rattle.hp_nodes.specs.Marks.{Marks, marked}
use Rattle.hp_nodes.specs.NodeViews.{laid_of, operation_of}
use Rattle.hp_nodes.proofs.MarkLemmas.{also_both}

-- what is left of a list begins with the thing in this place
here : {X : Type 0} (xs : List X) (i : ℕ) (x : X) → i < length xs → x ≡ get_or xs i x
    → drop i xs ≡ x ∷ drop (i + 1) xs
here xs i x below at = drop_more xs i x below ∙ ap (λ y. y ∷ drop (i + 1) xs) (sym at)

-- ---- arguments

-- numbers are left where a test fails, and none where it passes
unless : (b : Bool) (ns : List ℕ) → cond (not b) ns [] ≡ cond b [] ns
unless true ns = refl
unless false ns = refl

-- what the arguments that are left ask for: nothing, once none of them may serve
abbrev pub left_to_ask : Bool → (ℕ → Bool) → (ℕ → Bool) → ℕ → Patterns → List ℕ
left_to_ask may_serve sure seen n args = cond may_serve (known_arguments sure seen n args) []

module _ (args : List Pat) (i : ℕ) (arg : Pat) (sure : ℕ → Bool) (seen asked seen' asked' : List Bool)
    (below : i < length args) (at : arg ≡ get_or args i arg)
    (shown : marked seen' ≡ also (variables (pattern_of arg)) (marked seen)) where
  -- what an argument that may serve asks for and what those behind it do is what was left to ask for
  argument_serves : Marks (cond (is_known (marked seen) (pattern_of arg)) ((i + 1) ∷ []) []) asked asked'
      → (whole : ℕ → Bool)
      → also (known_arguments sure (marked seen) (i + 1) (patterns_of (drop i args))) (marked asked) ≡ whole
      → also (cond (is_sure sure (pattern_of arg)) []
      (known_arguments sure (marked seen') (i + 1 + 1) (patterns_of (drop (i + 1) args)))) (marked asked') ≡ whole
  unfolding known_arguments
  argument_serves put whole left =
      let rest = patterns_of (drop (i + 1) args) in
      let behind =
      λ (s : ℕ → Bool). cond (is_sure sure (pattern_of arg)) [] (known_arguments sure s (i + 1 + 1) rest) in
      ap₂ (λ s. also (behind s)) shown put
      ∙ also_both (cond (is_known (marked seen) (pattern_of arg)) ((i + 1) ∷ []) [])
      (behind (also (variables (pattern_of arg)) (marked seen)))
      (marked asked)
      ∙ ap (λ as'. also (known_arguments sure (marked seen) (i + 1) (patterns_of as')) (marked asked))
      (sym (here args i arg below at))
      ∙ left

  -- once one more argument is come to, what was asked for and what is left to ask for are what they were together
  pub argument_more : (may_serve : Bool)
      → Marks (cond (may_serve && is_known (marked seen) (pattern_of arg)) ((i + 1) ∷ []) []) asked asked'
      → (whole : ℕ → Bool)
      → also (left_to_ask may_serve sure (marked seen) (i + 1) (patterns_of (drop i args))) (marked asked) ≡ whole
      → also (left_to_ask (may_serve && not (is_sure sure (pattern_of arg))) sure (marked seen') (i + 1 + 1)
      (patterns_of (drop (i + 1) args))) (marked asked') ≡ whole
  argument_more false put whole left = put ∙ left
  argument_more true put whole left =
      ap (λ ns. also ns (marked asked')) (unless (is_sure sure (pattern_of arg))
      (known_arguments sure (marked seen') (i + 1 + 1) (patterns_of (drop (i + 1) args))))
      ∙ argument_serves put whole left

-- when all arguments were come to, all was asked for
pub arguments_all : (args : List Pat) (i : ℕ) (may_serve : Bool) (sure seen : ℕ → Bool) (asked : List Bool)
    (whole : ℕ → Bool) → length args ≤ i
    → also (left_to_ask may_serve sure seen (i + 1) (patterns_of (drop i args))) (marked asked) ≡ whole
    → marked asked ≡ whole
unfolding known_arguments
arguments_all args i false sure seen asked whole past left = left
arguments_all args i true sure seen asked whole past left =
    ap (λ as'. also (known_arguments sure seen (i + 1) (patterns_of as')) (marked asked))
    (sym (at_drop_all (λ as'. as') args i past)) ∙ left

-- ---- nodes

module _ (nodes : List CodeNode) (i : ℕ) (node : CodeNode) (k k' : Known) (asked asked' : List Bool)
    (below : i < length nodes) (at : node ≡ get_or nodes i node) (known : k' ≡ behind (operation_of node.op) k)
    (put : Marks (asked_by (operation_of node.op) k) asked asked') where
  -- once one more node is come to, what was asked for and what is left to ask for are what they were together
  pub node_more : (whole : ℕ → Bool)
      → also (all_asked k (map laid_of (drop i nodes))) (marked asked) ≡ whole
      → also (all_asked k' (map laid_of (drop (i + 1) nodes))) (marked asked') ≡ whole
  unfolding all_asked
  node_more whole left =
      let rest = map laid_of (drop (i + 1) nodes) in
      ap₂ (λ known'. also (all_asked known' rest)) known put
      ∙ also_both (asked_by (operation_of node.op) k) (all_asked (behind (operation_of node.op) k) rest)
      (marked asked)
      ∙ ap (λ ns. also (all_asked k (map laid_of ns)) (marked asked)) (sym (here nodes i node below at))
      ∙ left

-- when all nodes were come to, all was asked for
pub nodes_all : (nodes : List CodeNode) (i : ℕ) (k : Known) (asked : List Bool) (whole : ℕ → Bool)
    → length nodes ≤ i → also (all_asked k (map laid_of (drop i nodes))) (marked asked) ≡ whole
    → marked asked ≡ whole
unfolding all_asked
nodes_all nodes i k asked whole past left =
    ap (λ ns. also (all_asked k (map laid_of ns)) (marked asked)) (sym (at_drop_all (λ ns. ns) nodes i past)) ∙ left

-- ---- parts

-- the parts of a set up to one more
part_more : (set : ℕ → Bool) (n : ℕ)
    → filter set (range_with_len 0 (n + 1)) ≡ filter set (range_with_len 0 n) ++ cond (set n) (n ∷ []) []
part_more set n = simp map-id at (filter_of_map_range_with_len_more set (λ k. k) 0 n n (omega arith))

module _ (set : ℕ → Bool) (n : ℕ) (parts : List ℕ) (so_far : parts ≡ filter set (range_with_len 0 n)) where
  -- a part of a set stands behind those before it
  pub part_taken : (parts' : List ℕ) → set n ≡ true → parts' ≡ parts ++ n ∷ []
      → parts' ≡ filter set (range_with_len 0 (n + 1))
  part_taken parts' is e =
      e ∙ ap (λ ns. ns ++ n ∷ []) so_far
      ∙ sym (ap (λ b. filter set (range_with_len 0 n) ++ cond b (n ∷ []) []) is) ∙ sym (part_more set n)

  -- one that isn't in it is left out
  pub part_left : set n ≡ false → parts ≡ filter set (range_with_len 0 (n + 1))
  part_left is =
      so_far ∙ sym (append-nil (filter set (range_with_len 0 n)))
      ∙ sym (ap (λ b. filter set (range_with_len 0 n) ++ cond b (n ∷ []) []) is) ∙ sym (part_more set n)

or_none : (b : Bool) → (b || false) ≡ b
or_none true = refl
or_none false = refl

-- the parts that are marked, where these numbers were added to none, are those among the numbers
pub parts_marked : (ns parts : List ℕ) (set : ℕ → Bool) → set ≡ also ns none
    → filter set parts ≡ filter (λ n. is_in n ns) parts
parts_marked ns parts set e =
    ap (λ s. filter s parts) e
    ∙ filter_agree (also ns none) (λ n. is_in n ns) (λ n. or_none (is_in n ns)) parts
