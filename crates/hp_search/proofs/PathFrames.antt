-- The frames on the path of a search, by how many numbers of the path reach their nodes.
use Rattle.std.proofs.Common.{◌≡◌, ◌⊎◌, inl, inr, ℕ, zero, suc, ◌+◌, ◌≤◌, Bool, List, [], ◌∷◌, ◌++◌, length, map}
use Rattle.std.proofs.Common.{reverse}
use Rattle.std.proofs.Common.{Option, Some, refl, sym, ◌∙◌, ap, subst, arith}
use Rattle.std.specs.Prelude.{MatchOption, option_map, slice_get}
use Rattle.std.proofs.lemmas.List.{length-append, length-map, length-reverse, reverse-append, reverse-reverse}
use Rattle.std.proofs.lemmas.Option.{same_Some, slice_get-map, slice_get_within}
use Rattle.hp_cells.proofs.PlaceLemmas.{before_or_last, kept, stands_last}
use Rattle.hp_syntax.specs.Terms.{Term}
use Rattle.hp_syntax.specs.Walk.{DidChild, Node}
use Rattle.hp_tree.specs.SearchNodes.{IsHeldNode, node_of}
use Rattle.hp_world.specs.Stages.{Stage}
use Rattle.hp_site.specs.declared.mark.Mark.{Mark}
use Rattle.hp_site.specs.declared.site.Site.{Site}
use Rattle.hp_site.specs.Sites.{IsMark, IsWithin, held_at}
use Rattle.hp_site.proofs.AgreeLemmas.{held_below}
use Rattle.hp_agenda.specs.declared.frame.Frame.{Frame}
use Rattle.hp_agenda.specs.Begun.{HasLast}
use Rattle.hp_agenda.specs.Frames.{CameTo, IsFrame, LeadTo, level_of}
use Rattle.hp_search.specs.declared.search.Search.{Search}
use Rattle.hp_search.specs.Led.{IsStageAt, node_on}
use Rattle.hp_search.specs.Planned.{Planned, marks_of, planned, stands_planned, tree_planned}
use Rattle.hp_search.specs.Searches.{IsSearch, levels_of}
use Rattle.hp_search.proofs.FrameLevels.{path_length}
use Rattle.hp_search.proofs.MarkSteps.{has_marks, many, marks_are, moments, moments_next}

-- a frame of one more, the nearest first, is one of the others or that one
frame_cases : (g : Frame) (gs : List Frame) (k : ℕ) (f : Frame) → slice_get (reverse (g ∷ gs)) k ≡ Some f
    → (slice_get (reverse gs) k ≡ Some f) ⊎ ((k ≡ length gs) × (g ≡ f))
frame_cases g gs k f e =
    let there = sym (ap (λ (xs : List Frame). slice_get xs k) (reverse-append (g ∷ []) gs)) ∙ e in
    elim (before_or_last (reverse gs) g k f there) [
      | inl h ↦ inl h
      | inr h ↦ inr (h.0 ∙ length-reverse gs, h.1)
    ]

module _ (site : Site) (nest : ℕ) (terms : List Term) where
  -- frames that lead to a moment are such up to their floors, which are within its cells
  frame_on : (m : Mark) (b : ℕ) (gs : List Frame) → LeadTo site nest terms m b gs → (k : ℕ) (f : Frame)
      → slice_get (reverse gs) k ≡ Some f → IsFrame site nest terms f.floor f × (f.floor ≤ b)
  frame_on m b [] lead k f e = absurd cc
  frame_on m b (g ∷ gs) lead k f e = elim (frame_cases g gs k f e) [
    | inl h ↦
        let own = frame_on g.mark g.base gs lead.3 k f h in
        let under : f.floor ≤ g.base = own.1 in
        let low : g.base ≤ g.floor = lead.0.base in
        let high : g.floor ≤ b = lead.2 in
        (own.0, omega arith)
    | inr h ↦ subst (λ (z : Frame). IsFrame site nest terms z.floor z × (z.floor ≤ b)) h.1 (lead.0, lead.2)
  ]

  -- behind the frame of each node on the path there is a next moment, and the last child that was given at the frame is
  -- the node of that moment
  pub record GaveNext (m : Mark) (gs : List Frame) (k : ℕ) (f : Frame) : Type 0 where
    pub mark : Mark
    pub next : slice_get (moments gs ++ m ∷ []) (suc k) ≡ Some mark
    pub last : HasLast site.scene nest terms (held_at site f.mark) f.agenda
        (DidChild (node_of terms (held_at site mark)) ∷ [])

  -- so it is of frames that came to a moment
  child_on : (m : Mark) (gs : List Frame) → CameTo site nest terms m gs → (k : ℕ) (f : Frame)
      → slice_get (reverse gs) k ≡ Some f → GaveNext m gs k f
  child_on m [] came k f e = absurd cc
  child_on m (g ∷ gs) came k f e = elim (frame_cases g gs k f e) [
    | inl h ↦
        let own = child_on g.mark gs came.1 k f h in
        record {
          mark = own.mark;
          next =
              kept (moments (g ∷ gs)) (m ∷ []) (suc k) own.mark
              (ap (λ (xs : List Mark). slice_get xs (suc k)) (moments_next g gs) ∙ own.next);
          last = own.last;
        }
    | inr h ↦
        subst (GaveNext m (g ∷ gs) k) h.1
        (record {
          mark = m;
          next =
              ap (slice_get (moments (g ∷ gs) ++ m ∷ [])) (ap suc h.0 ∙ sym (many (g ∷ gs)))
              ∙ stands_last (moments (g ∷ gs)) m;
          last = came.0;
        })
  ]

-- ---- the frames of a search

-- a frame above the node reached stands at the same place where that one's comes last
framed : (s : Search) (k : ℕ) (f : Frame) → slice_get s.above.items k ≡ Some f
    → slice_get (s.above.items ++ s.top ∷ []) k ≡ Some f
framed s k f there = kept s.above.items (s.top ∷ []) k f there

-- the moment of a frame
marked : (s : Search) (live : Bool) (k : ℕ) (f : Frame) → slice_get (s.above.items ++ s.top ∷ []) k ≡ Some f
    → slice_get (marks_of (planned s live)) k ≡ Some f.mark
marked s live k f there =
    slice_get-map (λ (g : Frame). g.mark) (s.above.items ++ s.top ∷ []) k
    ∙ ap (option_map (λ (g : Frame). g.mark)) there

-- that of one above the node reached, and that of the node reached
pub mark_above : (s : Search) (live : Bool) (k : ℕ) (f : Frame) → slice_get s.above.items k ≡ Some f
    → slice_get (marks_of (planned s live)) k ≡ Some f.mark
mark_above s live k f there = marked s live k f (framed s k f there)

pub mark_top : (s : Search) (live : Bool) (k : ℕ) → k ≡ length s.above.items
    → slice_get (marks_of (planned s live)) k ≡ Some s.top.mark
mark_top s live k e =
    marked s live k s.top (ap (slice_get (s.above.items ++ s.top ∷ [])) e ∙ stands_last s.above.items s.top)

-- the path has a number for each frame above the node reached
pub path_above : (p : Planned) → length (stands_planned p).path ≡ length p.above
path_above p =
    path_length (tree_planned p).rules p.nest (levels_of p.site p.nest p.terms p.above)
    ∙ (length-map (reverse p.above) (level_of p.site p.nest p.terms) ∙ length-reverse p.above)

module _ (s : Search) (h : IsSearch s) (k : ℕ) (f : Frame) (there : slice_get s.above.items k ≡ Some f) where
  on_path : slice_get (reverse (reverse s.above.items)) k ≡ Some f
  on_path = ap (λ (xs : List Frame). slice_get xs k) (reverse-reverse s.above.items) ∙ there

  pub frame_there : IsFrame s.site s.nest s.cells f.floor f × (f.floor ≤ s.top.base)
  frame_there =
      frame_on s.site s.nest s.cells s.top.mark s.top.base (reverse s.above.items) h.above k f on_path

  -- what it needs are cells of the search
  pub floor_within : f.floor ≤ length s.cells
  floor_within =
      let low : f.floor ≤ s.top.base = frame_there.1 in
      let high : s.top.base ≤ length s.cells = h.top.base in
      omega arith

  pub child_there : GaveNext s.site s.nest s.cells s.top.mark (reverse s.above.items) k f
  child_there = child_on s.site s.nest s.cells s.top.mark (reverse s.above.items) h.came k f on_path

  -- the moment of the next node on the path
  pub mark_next : (live : Bool) → slice_get (marks_of (planned s live)) (k + 1) ≡ Some child_there.mark
  mark_next live =
      let one : k + 1 ≡ suc k = omega arith in
      ap (slice_get (marks_of (planned s live))) one
      ∙ (ap (λ (xs : List Mark). slice_get xs (suc k)) (marks_are s live) ∙ child_there.next)

-- ---- the moments of a search

-- a moment of frames is that of one of them
mark_of_frame : (fs : List Frame) (k : ℕ) (m : Mark) → slice_get (map (λ (f : Frame). f.mark) fs) k ≡ Some m
    → (f : Frame) × (slice_get fs k ≡ Some f) × (f.mark ≡ m)
mark_of_frame [] k m e = absurd cc
mark_of_frame (f ∷ fs) zero m e = (f, refl, same_Some f.mark m e)
mark_of_frame (f ∷ fs) (suc k) m e = mark_of_frame fs k m e

module _ (s : Search) (live : Bool) (h : IsSearch s) (k : ℕ) (m : Mark)
    (there : slice_get (marks_of (planned s live)) k ≡ Some m) where
  -- no moment is behind this one
  pub mark_within : IsMark s.site m
  mark_within =
      let many_marks = length-map (s.above.items ++ s.top ∷ []) (λ (f : Frame). f.mark) in
      let many_frames = length-append s.above.items (s.top ∷ []) in
      let inside = slice_get_within (marks_of (planned s live)) k m there in
      let low : k ≤ length s.above.items = omega (arith, many_marks, many_frames, inside) in
      subst (IsWithin m) h.mark
      ((has_marks s live h).rising k (length s.above.items) m s.top.mark low there
      (mark_top s live (length s.above.items) refl))

  -- the search node there needs no other cells
  held_there : IsHeldNode (length s.cells) (held_at s.site m)
  held_there =
      let found = mark_of_frame (s.above.items ++ s.top ∷ []) k m there in
      subst (λ z. IsHeldNode (length s.cells) (held_at s.site z)) found.2
      (elim (before_or_last s.above.items s.top k found.0 found.1) [
        | inl e ↦
            let own = frame_there s h k found.0 e in
            let low : found.0.base ≤ found.0.floor = own.0.base in
            let high : found.0.floor ≤ length s.cells = floor_within s h k found.0 e in
            held_below found.0.base (length s.cells) (held_at s.site found.0.mark) (omega arith) own.0.node
        | inr e ↦
            subst (λ (z : Frame). IsHeldNode (length s.cells) (held_at s.site z.mark)) e.1
            (held_below s.top.base (length s.cells) (held_at s.site s.top.mark) h.top.base h.top.node)
      ])

  -- what the steps of the node there cost
  pub cost_there : MatchOption (node_on (planned s live) k) ⊥ (λ n. m.cost ≡ n.cost)
  cost_there =
      subst (λ (o : Option Node). MatchOption o ⊥ (λ n. m.cost ≡ n.cost)) (sym ((has_marks s live h).nodes k m there))
      refl

  -- the stage of the search node there is that of the node
  pub stage_there : (g : Stage) → g ≡ (held_at s.site m).stage → IsStageAt (planned s live) k g
  stage_there g e =
      subst (IsStageAt (planned s live) k) (sym e)
      (record {
        node = node_of s.cells (held_at s.site m);
        there = (has_marks s live h).nodes k m there;
        state = refl;
        guards = refl;
        below = held_there.stage;
      })
