-- Listings that are written line by line.
use Rattle.std.proofs.Common.{◌≡◌, ℕ, suc, ◌+◌, ◌<◌, List, ◌∷◌, ◌++◌, length, drop, get_or, map, slice_get, option_map, Some, arith, ap, ap₂, sym, ◌∙◌}
use Rattle.std.proofs.lemmas.List.{append_assoc}
use Rattle.std.proofs.lemmas.Option.{slice_get-get_or, slice_get-map}
use Rattle.hp_tables.specs.declared.Kind.{Kind}
use Rattle.hp_nodes.specs.declared.node.CodeNode.{CodeNode}
use Rattle.hp_nodes.specs.NodeViews.{laid_of}
use Rattle.hp_nodes.specs.Trees.{Laid}
use Rattle.hp_code.specs.Listing.{head_line, head_of, name_lines, names_from, node_line, node_lines, word_of}
use Rattle.hp_code.proofs.NodeLemmas.{drop_there}

module _ (items : List CodeNode) (nodes : List Laid) (same : map laid_of items ≡ nodes) (i : ℕ) (node : CodeNode)
    (inside : i < length items) (is : node ≡ get_or items i node) where
  -- what is left of the nodes begins with the one that is read
  left_nodes : drop i nodes ≡ laid_of node ∷ drop (i + 1) nodes
  left_nodes =
      let next : suc i ≡ i + 1 = omega arith in
      drop_there nodes i (laid_of node)
      (ap (λ ns. slice_get ns i) (sym same) ∙ slice_get-map laid_of items i
      ∙ ap (option_map laid_of) (slice_get-get_or items i node inside ∙ ap Some (sym is)))
      ∙ ap (λ n. laid_of node ∷ drop n nodes) next

  -- the line of the next node goes behind those that are there
  pub node_more : (names : ℕ → List (List ℕ)) (vars own : List (List ℕ)) (old new whole : List ℕ)
      → old ++ node_lines names i vars (drop i nodes) ≡ whole → own ≡ names_from names i vars (laid_of node).op
      → new ≡ old ++ node_line i own (laid_of node) → new ++ node_lines names (i + 1) own (drop (i + 1) nodes) ≡ whole
  node_more names vars own old new whole so_far named e =
      let next : i + 1 ≡ suc i = omega arith in
      let rest = node_lines names (suc i) own (drop (i + 1) nodes) in
      ap₂ (λ xs n. xs ++ node_lines names n own (drop (i + 1) nodes)) e next
      ∙ append_assoc old (node_line i own (laid_of node)) rest
      ∙ ap (λ v. old ++ (node_line i v (laid_of node) ++ node_lines names (suc i) v (drop (i + 1) nodes))) named
      ∙ ap (λ ns. old ++ node_lines names i vars ns) (sym left_nodes) ∙ so_far

  -- the line of the next name goes behind those that are there
  pub name_more : (kind : Kind) (table : List ℕ → List ℕ) (old new whole : List ℕ)
      → old ++ name_lines kind table i (drop i nodes) ≡ whole
      → new ≡ old ++ head_line (word_of kind) table (head_of kind (laid_of node).op) i
      → new ++ name_lines kind table (i + 1) (drop (i + 1) nodes) ≡ whole
  name_more kind table old new whole so_far e =
      let next : i + 1 ≡ suc i = omega arith in
      ap₂ (λ xs n. xs ++ name_lines kind table n (drop (i + 1) nodes)) e next
      ∙ append_assoc old (head_line (word_of kind) table (head_of kind (laid_of node).op) i)
      (name_lines kind table (suc i) (drop (i + 1) nodes))
      ∙ ap (λ ns. old ++ name_lines kind table i ns) (sym left_nodes) ∙ so_far
