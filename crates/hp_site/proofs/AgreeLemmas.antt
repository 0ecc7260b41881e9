-- Search nodes in memory over terms that agree below a count.
use Rattle.std.proofs.Common.{◌≡◌, ℕ, ◌<◌, ◌≤◌, List, [], ◌∷◌, take, refl, sym, ◌∙◌, ap, ap₂, arith}
use Rattle.std.specs.Option.{option_and_then}
use Rattle.std.specs.Prelude.{slice_get}
use Rattle.std.proofs.lemmas.List.Elements.{All-head, All-tail, All-weaker}
use Rattle.hp_syntax.specs.Terms.{Term}
use Rattle.hp_cells.proofs.PlaceLemmas.{stays}
use Rattle.hp_eval.specs.GoalViews.{term_at, term_or_nil}
use Rattle.hp_world.specs.Stages.{AllBelow, live_atoms, terms_at}
use Rattle.hp_links.specs.declared.links.Part.{Part}
use Rattle.hp_links.specs.declared.links.Part.TheVariants.{Row, Task}
use Rattle.hp_links.specs.Linked.{PartBelow, place_of, whole}
use Rattle.hp_links.proofs.BelowLemmas.{network_agrees, whole_below}
use Rattle.hp_tree.specs.SearchNodes.{HeldNode, IsHeldNode, node_of}
use Rattle.hp_tree.proofs.SearchNodeLemmas.{node_is}

module _ (n : ℕ) (c d : List Term) (same : take n c ≡ take n d) where
  -- a cell below the count names the same term
  pub term_agrees : (cell : ℕ) → cell < n → term_at c cell ≡ term_at d cell
  term_agrees cell l =
      ap term_or_nil
      (sym (stays n c cell l) ∙ (ap (λ ts. slice_get ts cell) same ∙ stays n d cell l))

  -- cells below it name the same terms
  terms_agree : (cells : List ℕ) → AllBelow n cells → terms_at c cells ≡ terms_at d cells
  terms_agree [] h = refl
  terms_agree (x ∷ xs) h =
      ap₂ ◌∷◌ (term_agrees x (All-head (λ y. y < n) x xs h)) (terms_agree xs (All-tail (λ y. y < n) x xs h))

-- a node whose cells are below a count is the same over terms that agree below it
pub held_agrees : (n : ℕ) (c d : List Term) (h : HeldNode) → IsHeldNode n h → take n c ≡ take n d
    → node_of c h ≡ node_of d h
held_agrees n c d h is same =
    node_is c h (node_of d h)
    (terms_agree n c d same (live_atoms h.stage.places) is.stage.atoms)
    (terms_agree n c d same h.stage.guards is.stage.guards)
    (ap (λ net. (net, option_and_then (place_of h.network) h.network.focus))
    (network_agrees d c n (term_agrees n c d same) (whole h.network) (whole_below n h.network is.network)))
    (terms_agree n c d same h.steps is.steps) refl refl

-- a part whose cell is below a count has it below a greater count
part_below : (n m : ℕ) → n ≤ m → (p : Part) → PartBelow n p → PartBelow m p
part_below n m l (Task cell immediate) h = omega (arith, h, l)
part_below n m l (Row order start many) h = h

-- a node whose cells are below a count has them below a greater count
pub held_below : (n m : ℕ) (h : HeldNode) → n ≤ m → IsHeldNode n h → IsHeldNode m h
held_below n m h l is =
    let below : (xs : List ℕ) → AllBelow n xs → AllBelow m xs =
    All-weaker (λ x. x < n) (λ x. x < m) (λ x p. omega (arith, p, l)) in
    record {
      stage =
          record {
            atoms = below (live_atoms h.stage.places) is.stage.atoms;
            guards = below h.stage.guards is.stage.guards;
          };
      network = All-weaker (PartBelow n) (PartBelow m) (part_below n m l) h.network.parts is.network;
      steps = below h.steps is.steps;
      depth = is.depth;
      low = is.low;
      high = is.high;
    }
