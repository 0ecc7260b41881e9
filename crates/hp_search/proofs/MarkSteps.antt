-- The moments of the nodes on the path of a search.
use Rattle.std.specs.Prelude.{slice_get}
use Rattle.std.proofs.Common.{◌≡◌, ◌⊎◌, inl, inr, ℕ, ◌-◌, ◌≤◌, Bool, List, [], ◌∷◌, ◌++◌, length, map, reverse, take}
use Rattle.std.proofs.Common.{Some, sym, ◌∙◌, ap, subst, arith}
use Rattle.std.proofs.lemmas.List.{length-map, length-reverse, map-append, reverse-append, take-append-le}
use Rattle.std.proofs.lemmas.Option.{slice_get_within}
use Rattle.std.proofs.Math.Seq.{take-length}
use Rattle.std.proofs.lemmas.List.{reverse-reverse}
use Rattle.hp_syntax.specs.Syntax.{Rule}
use Rattle.hp_syntax.specs.Terms.{Term}
use Rattle.hp_syntax.specs.Walk.{Node, node_at}
use Rattle.hp_cells.proofs.PlaceLemmas.{before_or_last}
use Rattle.hp_tree.specs.SearchNodes.{node_of}
use Rattle.hp_tree.specs.Stacks.{AreReached, given_at, path_to}
use Rattle.hp_site.specs.declared.mark.Mark.{Mark}
use Rattle.hp_site.specs.declared.site.Site.{Site}
use Rattle.hp_site.specs.Sites.{IsWithin, held_at}
use Rattle.hp_site.proofs.SiteLemmas.{within_after, within_itself}
use Rattle.hp_agenda.specs.declared.frame.Frame.{Frame}
use Rattle.hp_agenda.specs.Frames.{LeadTo, level_of}
use Rattle.hp_search.specs.declared.search.Search.{Search}
use Rattle.hp_search.specs.Planned.{HasMarks, marks_of, planned}
use Rattle.hp_search.specs.Searches.{IsSearch, rules_in_search, stack_of, tree_in}
use Rattle.hp_search.proofs.FrameLevels.{path_length}

-- the moments of frames, the nearest first, in the order of the path
abbrev pub moments : List Frame → List Mark
moments gs = map (λ (f : Frame). f.mark) (reverse gs)

-- with one more frame there is its moment behind the others
pub moments_next : (g : Frame) (gs : List Frame) → moments (g ∷ gs) ≡ moments gs ++ g.mark ∷ []
moments_next g gs =
    ap (map (λ (f : Frame). f.mark)) (reverse-append (g ∷ []) gs)
    ∙ map-append (λ (f : Frame). f.mark) (reverse gs) (g ∷ [])

pub many : (gs : List Frame) → length (moments gs) ≡ length gs
many gs = length-map (reverse gs) (λ (f : Frame). f.mark) ∙ length-reverse gs

-- a moment of one more frame is one of the others, or its own
one_or_last : (g : Frame) (gs : List Frame) (k : ℕ) (m : Mark) → slice_get (moments (g ∷ gs)) k ≡ Some m
    → (slice_get (moments gs) k ≡ Some m) ⊎ ((k ≡ length gs) × (g.mark ≡ m))
one_or_last g gs k m e =
    let there = sym (ap (λ xs. slice_get xs k) (moments_next g gs)) ∙ e in
    elim (before_or_last (moments gs) g.mark k m there) [
      | inl h ↦ inl h
      | inr h ↦ inr (h.0 ∙ many gs, h.1)
    ]

module _ (site : Site) (nest : ℕ) (terms : List Term) where
  -- frames lead to a moment that none of theirs is behind
  lead_within : (m : Mark) (b : ℕ) (gs : List Frame) → LeadTo site nest terms m b gs → (k : ℕ) (n : Mark)
      → slice_get (moments gs) k ≡ Some n → IsWithin n m
  lead_within m b [] lead k n e = absurd cc
  lead_within m b (g ∷ gs) lead k n e = elim (one_or_last g gs k n e) [
    | inl h ↦ within_after n g.mark m (lead_within g.mark g.base gs lead.3 k n h) lead.1
    | inr h ↦ subst (λ z. IsWithin z m) h.1 lead.1
  ]

  -- no moment of frames is behind a later one
  lead_rises : (m : Mark) (b : ℕ) (gs : List Frame) → LeadTo site nest terms m b gs → (j k : ℕ) (n p : Mark) → j ≤ k
      → slice_get (moments gs) j ≡ Some n → slice_get (moments gs) k ≡ Some p → IsWithin n p
  lead_rises m b [] lead j k n p l e f = absurd cc
  lead_rises m b (g ∷ gs) lead j k n p l e f = elim (one_or_last g gs j n e) [
    | inl h ↦ elim (one_or_last g gs k p f) [
      | inl i ↦ lead_rises g.mark g.base gs lead.3 j k n p l h i
      | inr i ↦ subst (IsWithin n) i.1 (lead_within g.mark g.base gs lead.3 j n h)
    ]
    | inr h ↦ elim (one_or_last g gs k p f) [
      | inl i ↦
          let inside = slice_get_within (moments gs) k p i in
          let count = many gs in
          absurd (omega (arith, inside, count, h.0, l))
      | inr i ↦ subst (λ z. IsWithin z p) h.1 (subst (IsWithin g.mark) i.1 (within_itself g.mark))
    ]
  ]

  module _ (rules : List Rule) (root : Node) where
    -- the path to frames goes on from that to those above them
    path_begins : (g : Frame) (gs : List Frame) (k : ℕ) → k ≤ length gs
        → take k (path_to rules nest (map (level_of site nest terms) (g ∷ gs)))
        ≡ take k (path_to rules nest (map (level_of site nest terms) gs))
    path_begins g gs k l =
        let count = path_length rules nest (map (level_of site nest terms) gs)
        ∙ length-map gs (level_of site nest terms) in
        take-append-le k (path_to rules nest (map (level_of site nest terms) gs))
        ((given_at rules nest (level_of site nest terms g) - 1) ∷ []) (omega (arith, count, l))

    path_whole : (gs : List Frame) → take (length gs) (path_to rules nest (map (level_of site nest terms) gs))
        ≡ path_to rules nest (map (level_of site nest terms) gs)
    path_whole gs =
        let p = path_to rules nest (map (level_of site nest terms) gs) in
        ap (λ n. take n p)
        (sym (path_length rules nest (map (level_of site nest terms) gs) ∙ length-map gs (level_of site nest terms)))
        ∙ take-length p

    -- each moment of frames is that of the node that so much of the path reaches
    lead_nodes : (gs : List Frame) → AreReached rules nest root (map (level_of site nest terms) gs) → (k : ℕ) (m : Mark)
        → slice_get (moments gs) k ≡ Some m
        → node_at rules nest root (take k (path_to rules nest (map (level_of site nest terms) gs)))
        ≡ Some (node_of terms (held_at site m))
    lead_nodes [] reached k m e = absurd cc
    lead_nodes (g ∷ gs) reached k m e = elim (one_or_last g gs k m e) [
      | inl h ↦
          let inside = slice_get_within (moments gs) k m h in
          let count = many gs in
          ap (node_at rules nest root) (path_begins g gs k (omega (arith, inside, count)))
          ∙ lead_nodes gs reached.2 k m h
      | inr h ↦
          ap (node_at rules nest root)
          (path_begins g gs k (omega (arith, h.0))
          ∙ (ap (λ n. take n (path_to rules nest (map (level_of site nest terms) gs))) h.0 ∙ path_whole gs))
          ∙ (reached.0.there ∙ ap (λ z. Some (node_of terms (held_at site z))) h.1)
    ]

-- the moments of the path of a search are those of the frames above the node reached, and its own
pub marks_are : (s : Search) (live : Bool)
    → marks_of (planned s live) ≡ moments (reverse s.above.items) ++ s.top.mark ∷ []
marks_are s live =
    map-append (λ (f : Frame). f.mark) s.above.items (s.top ∷ [])
    ∙ ap (λ fs. map (λ (f : Frame). f.mark) fs ++ s.top.mark ∷ []) (sym (reverse-reverse s.above.items))

-- the pasts at each moment of the path of a search are those of the node there
pub has_marks : (s : Search) (live : Bool) → IsSearch s → HasMarks (planned s live)
has_marks s live h =
    let gs = reverse s.above.items in
    let rules = rules_in_search s in
    let all : map (λ (f : Frame). f.mark) (s.above.items ++ s.top ∷ []) ≡ moments gs ++ s.top.mark ∷ [] =
    marks_are s live in
    record {
      nodes =
          λ k m e.
          elim (before_or_last (moments gs) s.top.mark k m (sym (ap (λ xs. slice_get xs k) all) ∙ e)) [
            | inl i ↦ lead_nodes s.site s.nest s.cells rules (tree_in s).root gs h.stack.above k m i
            | inr i ↦
                ap (node_at rules s.nest (tree_in s).root)
                (ap (λ n. take n (path_to rules s.nest (stack_of s).above)) (i.0 ∙ many gs)
                ∙ path_whole s.site s.nest s.cells rules (tree_in s).root gs)
                ∙ (h.stack.top.there ∙ ap (λ z. Some (node_of s.cells (held_at s.site z))) i.1)
          ];
      rising =
          λ j k m n l e f.
          elim (before_or_last (moments gs) s.top.mark j m (sym (ap (λ xs. slice_get xs j) all) ∙ e)) [
            | inl i ↦ elim (before_or_last (moments gs) s.top.mark k n (sym (ap (λ xs. slice_get xs k) all) ∙ f)) [
              | inl o ↦ lead_rises s.site s.nest s.cells s.top.mark s.top.base gs h.above j k m n l i o
              | inr o ↦
                  subst (IsWithin m) o.1
                  (lead_within s.site s.nest s.cells s.top.mark s.top.base gs h.above j m i)
            ]
            | inr i ↦ elim (before_or_last (moments gs) s.top.mark k n (sym (ap (λ xs. slice_get xs k) all) ∙ f)) [
              | inl o ↦
                  let inside = slice_get_within (moments gs) k n o in
                  absurd (omega (arith, inside, i.0, l))
              | inr o ↦ subst (λ z. IsWithin z n) i.1 (subst (IsWithin s.top.mark) o.1 (within_itself s.top.mark))
            ]
          ];
      last = h.mark;
    }
