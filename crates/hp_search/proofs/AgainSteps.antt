-- A search that stands at its root begins again there, at another depth.
use Rattle.std.proofs.Common.{◌≡◌, ℕ, ◌≤◌, ◌<◌, [], MatchOption, Some, false, length, refl, sym, ◌∙◌, ap, subst, arith}
use Rattle.std.specs.Prelude.{pos, neg_ℤ, ◌≤ℤ◌}
use Rattle.std.proofs.lemmas.Int.{ints}
use Rattle.hp_syntax.specs.declared.limits.TheConstants.{GREATEST_DEPTH}
use Rattle.hp_syntax.specs.Walk.{Node, told}
use Rattle.hp_net.specs.Standings.{node_reached}
use Rattle.hp_tree.specs.SearchNodes.{most_cost, node_of}
use Rattle.hp_tree.specs.Stacks.{root_of}
use Rattle.hp_site.specs.declared.site.Site.{Site}
use Rattle.hp_site.specs.Sites.{IsSite, held_at, held_now}
use Rattle.hp_site.proofs.SiteLemmas.{held_is_now}
use Rattle.hp_agenda.specs.declared.frame.Frame.{Frame}
use Rattle.hp_agenda.specs.Frames.{Opens}
use Rattle.hp_search.specs.declared.search.Search.{Search}
use Rattle.hp_search.specs.Searches.{BeginsAt, IsSearch, levels_of, rules_in_search, stack_of, stands_in, tree_in}
use Rattle.hp_search.proofs.FrameLevels.{path_none}
use Rattle.hp_search.proofs.SearchSteps.{search_begins}

-- the site of a search where so many decompositions may follow
abbrev pub site_with : Search → ℕ → Site
site_with s depth = record s.site { depth = depth }

module _ (s : Search) (h : IsSearch s) where
  -- the node reached is the search node now
  node_here : node_reached (tree_in s) (stands_in s) ≡ Some (node_of s.cells (held_now s.site))
  node_here =
      h.stack.top.there ∙ ap (λ x. Some (node_of s.cells x)) (ap (held_at s.site) h.mark ∙ held_is_now s.site)

  -- what holds of the search node now holds of the node reached
  pub at_node : (P : Node → Type 0) → P (node_of s.cells (held_now s.site))
      → MatchOption (node_reached (tree_in s) (stands_in s)) ⊥ P
  at_node P p = subst (λ o. MatchOption o ⊥ P) (sym node_here) p

module _ (s : Search) (h : IsSearch s) (at : (stands_in s).path ≡ []) where
  -- at the root no frame is above
  none_above : s.above.items ≡ []
  none_above = path_none (rules_in_search s) s.site s.nest s.cells s.above.items at

  -- so the root is the search node now
  root_here : (tree_in s).root ≡ node_of s.cells (held_now s.site)
  root_here =
      ap (λ fs. root_of (stack_of s).top (levels_of s.site s.nest s.cells fs)) none_above
      ∙ ap (node_of s.cells) (ap (held_at s.site) h.mark ∙ held_is_now s.site)

  module _ (cost : (tree_in s).root.cost ≡ pos 0) (depth : ℕ) (deep : depth ≤ GREATEST_DEPTH) where
    free : s.site.cost ≡ pos 0
    free = sym (ap (λ (n : Node). n.cost) root_here) ∙ cost

    low : neg_ℤ (pos (most_cost depth)) ≤ℤ pos 0
    low = omega (arith, ints)

    high : pos 0 ≤ℤ pos (most_cost depth)
    high = omega (arith, ints)

    -- the site is one at each depth, since nothing has cost anything yet
    pub site_again : IsSite s.cells (site_with s depth)
    site_again = record {
      node = record {
        stage = h.site.node.stage;
        network = h.site.node.network;
        steps = h.site.node.steps;
        depth = deep;
        low = subst (λ z. neg_ℤ (pos (most_cost depth)) ≤ℤ z) (sym free) low;
        high = subst (λ z. z ≤ℤ pos (most_cost depth)) (sym free) high;
      };
      pasts = h.site.pasts;
      knows = h.site.knows;
      stood = h.site.stood;
    }

    -- with a frame that opens there, the search begins at the root with that depth
    pub begins_again : (top : Frame) → Opens (site_with s depth) s.nest s.cells top
        → BeginsAt (rules_in_search s) s.nest (record (tree_in s).root { depth = depth })
        (record s { site = site_with s depth; top = top; at_did = false; over = false })
    begins_again top opens =
        let new : Search = record s { site = site_with s depth; top = top; at_did = false; over = false } in
        let some : 0 < length s.cells = (let a = h.some in let b = h.top.base in omega (arith, a, b)) in
        subst (λ n. BeginsAt (rules_in_search s) s.nest n new)
        (ap (λ (n : Node). record n { depth = depth }) (sym root_here))
        (search_begins new site_again opens some h.levels none_above (h.path ∙ ap told at) refl refl)
