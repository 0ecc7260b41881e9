-- Nothing more comes at the node reached: its cells are given back, and the search goes back or is pruned.
use Rattle.std.proofs.Common.{◌≡◌, ℕ, ◌-◌, ◌^◌, ◌<◌, ◌≤◌, min, Bool, true, false, List, [], ◌∷◌, ◌++◌, length, map}
use Rattle.std.proofs.Common.{reverse, take, None, refl, sym, ◌∙◌, ap, ap₂, subst, arith}
use Rattle.std.specs.Prelude.{Vec}
use Rattle.std.specs.Global.{Global}
use Rattle.std.proofs.lemmas.List.{length-append, map-append, reverse-append}
use Rattle.std.proofs.Common.{inl, inr, length-take-le, take-take}
use Rattle.std.proofs.lemmas.Bool.{cases_lt}
use Rattle.std.proofs.Math.Seq.{take-append_seam}
use Rattle.std.proofs.lemmas.List.Elements.{All-head, All-same, All-weaker}
use Rattle.hp_laws.proofs.JoinLemmas.{all_left, all_right}
use Rattle.hp_syntax.specs.Terms.{Term}
use Rattle.hp_net.specs.Standings.{gone_back, next_below, pruned}
use Rattle.hp_syntax.specs.Walk.{DidChild, told}
use Rattle.hp_tree.specs.Successors.{dids_in}
use Rattle.hp_tree.specs.Stacks.{Stack, given_at, path_to, root_of, standing_of, with_left, IsStack}
use Rattle.hp_tree.specs.SearchNodes.{HeldNode, IsHeldNode, node_of}
use Rattle.hp_tree.proofs.StackLemmas.{back_to, pruned_to}
use Rattle.hp_site.specs.declared.mark.Mark.{Mark}
use Rattle.hp_site.specs.declared.site.Site.{Site}
use Rattle.hp_site.specs.Sites.{AtomsWithin, IsMark, IsSite, Keeps, held_at, held_now}
use Rattle.hp_site.proofs.SiteLemmas.{atoms_undone, begin_alike, held_is_now, keeps_all, keeps_held, within_itself}
use Rattle.hp_site.proofs.AgreeLemmas.{held_below}
use Rattle.hp_world.specs.Histories.{History, mark_of, past_at}
use Rattle.hp_world.specs.Pasts.{PastsBelow}
use Rattle.hp_world.specs.Recorded.{IndexesStood, Knows, history_in}
use Rattle.hp_world.specs.Stages.{AllBelow, Stage, live_atoms}
use Rattle.hp_world.proofs.LearningLemmas.{all_known_where_agreed}
use Rattle.hp_world.proofs.PastLemmas.{all_stood_below, past_end}
use Rattle.hp_suspended.specs.SceneViews.{code_in}
use Rattle.hp_agenda.specs.Queues.{IsQueue, MaybeOpen}
use Rattle.hp_agenda.specs.declared.frame.Frame.{Frame}
use Rattle.hp_agenda.specs.Begun.{AreFirst, HasLast}
use Rattle.hp_agenda.specs.Frames.{CameTo, IsFrame, LeadTo, left_of, level_of, rules_at}
use Rattle.hp_search.specs.declared.search.Search.{Search}
use Rattle.hp_search.specs.Searches.{Goes, HasCell, IsCleared, IsSearch, IsRisen, levels_of, root_base, rules_in_search}
use Rattle.hp_search.specs.Searches.{stack_of, stands_in, tree_in}
use Rattle.hp_agenda.proofs.AgreeSteps.{agenda_within}
use Rattle.hp_agenda.proofs.BegunLemmas.{has_last_agrees, has_last_at, has_settled, none_open}
use Rattle.hp_agenda.proofs.LevelLemmas.{came_kept, cleared_agenda, cleared_left, frame_kept, lead_kept}
use Rattle.hp_search.proofs.FrameLevels.{level_by, stack_by, levels_push, root_node, base_alike, base_pushed}

-- ---- where nothing more comes

-- terms up to a count agree with all below it
cut_agrees : (n : ℕ) (terms : List Term) → take n terms ≡ take n (take n terms)
cut_agrees n terms = sym (take-take n n terms (omega arith))

-- where the atoms up to this moment are below a count, so are those of all pasts
pasts_of : (n : ℕ) (h : History Stage) → AtomsWithin n (mark_of h) h → PastsBelow n h
pasts_of n h within = λ m. elim (cases_lt (mark_of h) m) [
  | inr l ↦ within m l
  | inl l ↦
      let same : past_at h (mark_of h) ≡ past_at h m =
      past_end h (mark_of h) (omega arith) ∙ sym (past_end h m (omega (arith, l))) in
      subst (λ (g : Stage). AllBelow n (live_atoms g.places)) same (within (mark_of h) (omega arith))
]

-- a site whose cells are below a count is one of so many terms
site_cut : (n : ℕ) (site : Site) (terms : List Term) → n ≤ length terms → IsHeldNode n (held_now site)
    → PastsBelow n (history_in site.scene.world) → Knows terms site.scene.world → IndexesStood site.scene.world
    → IsSite (take n terms) site
site_cut n site terms l node pasts knows stood =
    let many : length (take n terms) ≡ n = length-take-le n terms l in
    record {
      node = subst (λ k. IsHeldNode k (held_now site)) (sym many) node;
      pasts = subst (λ k. PastsBelow k (history_in site.scene.world)) (sym many) pasts;
      knows =
          all_known_where_agreed n terms (take n terms) site.scene.world
          (all_stood_below n site.scene.world stood pasts) knows (cut_agrees n terms);
      stood = stood;
    }

module _ (s : Search) (h : IsSearch s) (t : Frame) (cleared : IsCleared s.top t) where
  -- a frame that has let all go has nothing left
  none_left : (n : HeldNode) (terms : List Term) → left_of s.site.scene s.nest terms n t ≡ []
  none_left n terms = cleared_left s.site.scene s.nest terms n t cleared.end cleared.none cleared.at_end cleared.no_more

  -- it is a frame of the same moment, that needs no cell above its base
  cleared_frame : IsFrame s.site s.nest s.cells s.top.base t
  cleared_frame = record {
    mark = subst (IsMark s.site) (sym cleared.mark) h.top.mark;
    node =
        subst (λ b. IsHeldNode b (held_at s.site t.mark)) (sym cleared.base)
        (subst (λ m. IsHeldNode s.top.base (held_at s.site m)) (sym cleared.mark) h.top.node);
    atoms =
        subst (λ (m : Mark). AtomsWithin t.base m.world (history_in s.site.scene.world)) (sym cleared.mark)
        (subst (λ b. AtomsWithin b s.top.mark.world (history_in s.site.scene.world)) (sym cleared.base) h.top.atoms);
    base = subst (λ b. b ≤ s.top.base) (sym cleared.base) (omega arith);
    agenda =
        record {
          choice =
              subst (MaybeOpen s.site.scene s.cells t.base s.top.base (held_at s.site t.mark)) (sym cleared.none) tt;
          queue =
              subst (λ m. IsQueue (code_in s.site.scene) (held_at s.site m) t.agenda.queue) (sym cleared.mark)
              (cleared_agenda s.site.scene s.cells s.top.base (length s.cells) (held_at s.site s.top.mark) s.top.agenda
              t.agenda h.top.agenda cleared.none cleared.candidates cleared.rules cleared.at_end
              cleared.no_more).queue;
        };
    dids =
        λ l. absurd (let none = ap dids_in (none_left (held_at s.site t.mark) s.cells) in omega (arith, none, l));
  }

  -- its level has nothing left
  cleared_level : level_of s.site s.nest s.cells t ≡ with_left (stack_of s).top []
  cleared_level =
      ap₂ level_by (ap (λ m. node_of s.cells (held_at s.site m)) cleared.mark)
      (none_left (held_at s.site t.mark) s.cells)

  -- it has the same candidates
  cleared_last : (terms : List Term) → HasLast s.site.scene s.nest terms (held_at s.site t.mark) t.agenda []
  cleared_last terms =
      none_open s.site.scene s.nest terms (held_at s.site t.mark) t.agenda
      (subst (λ m. AreFirst (held_at s.site m).network t.agenda.queue.candidates.items) (sym cleared.mark)
      (subst (λ v. AreFirst (held_at s.site s.top.mark).network v.items) (sym cleared.candidates) h.last.first))
      cleared.none

  came_cleared : CameTo s.site s.nest s.cells t.mark (reverse s.above.items)
  came_cleared =
      subst (λ m. CameTo s.site s.nest s.cells m (reverse s.above.items)) (sym cleared.mark) h.came

  lead_cleared : LeadTo s.site s.nest s.cells t.mark t.base (reverse s.above.items)
  lead_cleared =
      subst (λ m. LeadTo s.site s.nest s.cells m t.base (reverse s.above.items)) (sym cleared.mark)
      (subst (λ b. LeadTo s.site s.nest s.cells s.top.mark b (reverse s.above.items)) (sym cleared.base) h.above)

  -- the search where its cells are cut to those at which the node was reached
  abbrev pub cut_search : Search
  cut_search = record s { top = t; cells = take s.top.base s.cells; at_did = false }

  keeps_top : Keeps t.mark s.site s.site
  keeps_top =
      subst (λ m. Keeps m s.site s.site) (sym (cleared.mark ∙ h.mark)) (keeps_all s.site)

  cut_frame : (level_of s.site s.nest (take s.top.base s.cells) t ≡ level_of s.site s.nest s.cells t)
      × IsFrame s.site s.nest (take s.top.base s.cells) s.top.base t
  cut_frame =
      let kept = frame_kept s.nest s.top.base s.site s.site s.cells (take s.top.base s.cells) t cleared_frame keeps_top
      (cut_agrees s.top.base s.cells) in
      (kept.level, kept.frame)

  cut_lead : (map (level_of s.site s.nest (take s.top.base s.cells)) (reverse s.above.items) ≡ (stack_of s).above)
      × LeadTo s.site s.nest (take s.top.base s.cells) t.mark t.base (reverse s.above.items)
  cut_lead =
      let kept = lead_kept s.nest t.mark t.base s.site s.site s.cells (take s.top.base s.cells) (reverse s.above.items)
      lead_cleared keeps_top
      (subst (λ b. take b s.cells ≡ take b (take s.top.base s.cells)) (sym cleared.base)
      (cut_agrees s.top.base s.cells)) in
      (kept.levels, kept.lead)

  -- its levels are the same, but for the one reached, where nothing is left
  pub cut_stack : (did : Bool) → stack_of (record cut_search { at_did = did })
      ≡ stack_by (with_left (stack_of s).top []) (stack_of s).above did s.over
  cut_stack did = ap₂ (λ l ls. stack_by l ls did s.over) (cut_frame.0 ∙ cleared_level) cut_lead.0

  cut_site : IsSite (take s.top.base s.cells) s.site
  cut_site =
      site_cut s.top.base s.site s.cells h.top.base
      (subst (IsHeldNode s.top.base) (ap (held_at s.site) h.mark ∙ held_is_now s.site) h.top.node)
      (pasts_of s.top.base (history_in s.site.scene.world)
      (subst (λ (m : Mark). AtomsWithin s.top.base m.world (history_in s.site.scene.world)) h.mark h.top.atoms))
      h.site.knows h.site.stood

  many_cut : length (take s.top.base s.cells) ≡ s.top.base
  many_cut = length-take-le s.top.base s.cells h.top.base

  -- it is a search, where the stack with nothing left there is one
  pub cut_is : IsStack (rules_in_search s) s.nest
      (stack_by (with_left (stack_of s).top []) (stack_of s).above false s.over)
      → IsSearch cut_search
  cut_is stack = record {
    site = cut_site;
    mark = cleared.mark ∙ h.mark;
    top = subst (λ n. IsFrame s.site s.nest (take s.top.base s.cells) n t) (sym many_cut) cut_frame.1;
    above = cut_lead.1;
    last = cleared_last (take s.top.base s.cells);
    came =
        came_kept s.nest t.mark t.base s.site s.site s.cells (take s.top.base s.cells) (reverse s.above.items)
        lead_cleared cleared_frame.node keeps_top
        (subst (λ b. take b s.cells ≡ take b (take s.top.base s.cells)) (sym cleared.base)
        (cut_agrees s.top.base s.cells))
        came_cleared;
    some = subst (λ b. 0 < b) (sym cleared.base) h.some;
    each = h.each;
    stack = subst (IsStack (rules_in_search s) s.nest) (sym (cut_stack false)) stack;
    path = h.path ∙ ap (λ ls. told (path_to (rules_in_search s) s.nest ls)) (sym cut_lead.0);
    levels = h.levels;
  }

  pub cut_tree : tree_in cut_search ≡ tree_in s
  cut_tree =
      ap (λ (k : Stack). record { rules = rules_in_search s; nest = s.nest; root = root_of k.top k.above })
      (cut_stack false)
      ∙ ap (λ r. record { rules = rules_in_search s; nest = s.nest; root = r })
      (root_node (with_left (stack_of s).top []) (stack_of s).top (stack_of s).above refl)

  -- the same without giving cells back
  abbrev bare_search : Search
  bare_search = record s { top = t; at_did = false }

  bare_stack : stack_of bare_search ≡ stack_by (with_left (stack_of s).top []) (stack_of s).above false s.over
  bare_stack = ap (λ l. stack_by l (stack_of s).above false s.over) cleared_level

  bare_is : IsStack (rules_in_search s) s.nest
      (stack_by (with_left (stack_of s).top []) (stack_of s).above false s.over)
      → IsSearch bare_search
  bare_is stack = record {
    site = h.site;
    mark = cleared.mark ∙ h.mark;
    top = record {
      mark = cleared_frame.mark;
      node = cleared_frame.node;
      atoms = cleared_frame.atoms;
      base = (let a = cleared_frame.base in let b = h.top.base in omega arith);
      agenda =
          agenda_within s.site.scene s.cells t.base t.base s.top.base (length s.cells) (held_at s.site t.mark) t.agenda
          cleared_frame.agenda (omega arith) h.top.base;
      dids = cleared_frame.dids;
    };
    above = lead_cleared;
    last = cleared_last s.cells;
    came = came_cleared;
    some = subst (λ b. 0 < b) (sym cleared.base) h.some;
    each = h.each;
    stack = subst (IsStack (rules_in_search s) s.nest) (sym bare_stack) stack;
    path = h.path;
    levels = h.levels;
  }

-- ---- going back and pruning

-- all but the last of a list with one more
prefix_push : {X : Type 0} (xs : List X) (x : X) → take (length (xs ++ x ∷ []) - 1) (xs ++ x ∷ []) ≡ xs
prefix_push xs x =
    let l = length-append xs (x ∷ []) in
    let n : length (xs ++ x ∷ []) - 1 ≡ length xs = omega (arith, l) in
    ap (λ k. take k (xs ++ x ∷ [])) n ∙ take-append_seam xs (x ∷ [])

-- the nearest frame leads to the one reached
pub lead_first : (s : Search) → IsSearch s → (f : Frame) (fs : List Frame) → s.above.items ≡ fs ++ f ∷ []
    → LeadTo s.site s.nest s.cells s.top.mark s.top.base (f ∷ reverse fs)
lead_first s h f fs pushed =
    subst (LeadTo s.site s.nest s.cells s.top.mark s.top.base) (ap reverse pushed ∙ reverse-append fs (f ∷ [])) h.above

-- it came to it
pub came_first : (s : Search) → IsSearch s → (f : Frame) (fs : List Frame) → s.above.items ≡ fs ++ f ∷ []
    → CameTo s.site s.nest s.cells s.top.mark (f ∷ reverse fs)
came_first s h f fs pushed =
    subst (CameTo s.site s.nest s.cells s.top.mark) (ap reverse pushed ∙ reverse-append fs (f ∷ [])) h.came

-- going back leads to the frame above
module _ (s : Search) (h : IsSearch s) (f : Frame) (fs : List Frame) (above : Vec Frame Global)
    (pushed : s.above.items ≡ fs ++ f ∷ []) (is : above.items ≡ fs) (new : Search)
    (risen : IsRisen (record s { above = above }) f new) where
  own_lead : LeadTo s.site s.nest s.cells s.top.mark s.top.base (f ∷ reverse fs)
  own_lead = lead_first s h f fs pushed

  back_frame : (level_of new.site s.nest (take f.floor s.cells) f ≡ level_of s.site s.nest s.cells f)
      × IsFrame new.site s.nest (take f.floor s.cells) f.floor f
  back_frame =
      let kept = frame_kept s.nest f.floor s.site new.site s.cells (take f.floor s.cells) f own_lead.0 risen.keeps
      (cut_agrees f.floor s.cells) in
      (kept.level, kept.frame)

  own_came : CameTo s.site s.nest s.cells s.top.mark (f ∷ reverse fs)
  own_came = came_first s h f fs pushed

  back_last : HasLast new.site.scene s.nest (take f.floor s.cells) (held_at new.site f.mark) f.agenda []
  back_last =
      let held = held_at s.site f.mark in
      has_last_at s.site.scene new.site.scene (sym risen.keeps.code) s.nest (take f.floor s.cells) held
      (held_at new.site f.mark) f.agenda []
      (sym (keeps_held f.mark f.mark s.site new.site risen.keeps (within_itself f.mark)))
      (has_last_agrees f.floor s.cells (take f.floor s.cells) s.site.scene s.nest f.base held
      (held_below f.base f.floor held own_lead.0.base own_lead.0.node) (cut_agrees f.floor s.cells) f.agenda []
      own_lead.0.agenda
      (has_settled s.site.scene s.nest s.cells held f.agenda
      (DidChild (node_of s.cells (held_at s.site s.top.mark)) ∷ []) own_came.0))

  back_lead : (map (level_of new.site s.nest (take f.floor s.cells)) (reverse fs)
      ≡ map (level_of s.site s.nest s.cells) (reverse fs))
      × LeadTo new.site s.nest (take f.floor s.cells) f.mark f.base (reverse fs)
  back_lead =
      let kept = lead_kept s.nest f.mark f.base s.site new.site s.cells (take f.floor s.cells) (reverse fs) own_lead.3
      risen.keeps
      (begin_alike f.base f.floor s.cells (take f.floor s.cells) own_lead.0.base (cut_agrees f.floor s.cells)) in
      (kept.levels, kept.lead)

  many_left : length (take f.floor s.cells) ≡ f.floor
  many_left =
      length-take-le f.floor s.cells (let a = own_lead.2 in let b = h.top.base in omega arith)

  back_site : IsSite (take f.floor s.cells) new.site
  back_site =
      let pasts : PastsBelow f.base (history_in new.site.scene.world) =
      atoms_undone f.base f.mark s.site new.site risen.history own_lead.0.atoms in
      site_cut f.floor new.site s.cells (let a = own_lead.2 in let b = h.top.base in omega arith)
      (held_below f.base f.floor (held_now new.site) own_lead.0.base
      (subst (IsHeldNode f.base) (sym risen.held) own_lead.0.node))
      (λ m. All-weaker (λ c. c < f.base) (λ c. c < f.floor) (λ c p. let l = own_lead.0.base in omega arith)
      (live_atoms (past_at (history_in new.site.scene.world) m).places) (pasts m))
      (risen.knows s.cells h.site.knows) risen.stood

  -- its levels are those above the node reached
  pub goes_back : next_below (stands_in s).path (stands_in s).rest ≡ None → Goes s (gone_back (stands_in s)) new
  goes_back e =
      let rules = rules_in_search s in
      let after : Search = record s {
        site = new.site;
        cells = take f.floor s.cells;
        top = f;
        above = above;
        path = new.path;
        at_did = false;
      } in
      let l = level_of s.site s.nest s.cells f in
      let ls = levels_of s.site s.nest s.cells fs in
      let split : (stack_of s).above ≡ l ∷ ls =
      ap (levels_of s.site s.nest s.cells) pushed ∙ levels_push s.site s.nest s.cells fs f in
      let leads = back_to rules s.nest (stack_of s).top l ls s.at_did s.over (stack_of s)
      (ap (λ ks. stack_by (stack_of s).top ks s.at_did s.over) split) h.stack e in
      let same : levels_of new.site s.nest (take f.floor s.cells) above.items ≡ ls =
      ap (levels_of new.site s.nest (take f.floor s.cells)) is ∙ back_lead.0 in
      let stack : stack_of after ≡ stack_by l ls false s.over =
      ap₂ (λ k ks. stack_by k ks false s.over) back_frame.0 same in
      let rules_are : rules_at new.site ≡ rules =
      ap (λ c. rules_at (record s.site { scene = record s.site.scene { code = c } })) risen.keeps.code in
      let told_is = h.path ∙ (ap (λ ks. told (path_to rules s.nest ks)) split
      ∙ map-append (λ i. min i (2 ^ 64 - 1)) (path_to rules s.nest ls) ((given_at rules s.nest l - 1) ∷ [])) in
      subst (Goes s (gone_back (stands_in s))) (sym risen.same)
      (record {
        stands = ap₂ (λ rs k. standing_of rs s.nest k) rules_are stack ∙ sym leads.stands;
        tree =
            ap₂ (λ rs (k : Stack). record { rules = rs; nest = s.nest; root = root_of k.top k.above }) rules_are stack
            ∙ ap (λ r. record { rules = rules; nest = s.nest; root = r }) leads.root;
        base = ap (root_base f) is ∙ sym (ap (root_base s.top) pushed ∙ base_pushed s.top f f fs refl);
        search = record {
          site = back_site;
          mark = sym risen.mark;
          top = subst (λ n. IsFrame new.site s.nest (take f.floor s.cells) n f) (sym many_left) back_frame.1;
          above =
              subst (λ xs. LeadTo new.site s.nest (take f.floor s.cells) f.mark f.base (reverse xs)) (sym is)
              back_lead.1;
          last = back_last;
          came =
              subst (λ xs. CameTo new.site s.nest (take f.floor s.cells) f.mark (reverse xs)) (sym is)
              (came_kept s.nest f.mark f.base s.site new.site s.cells (take f.floor s.cells) (reverse fs) own_lead.3
              own_lead.0.node risen.keeps
              (begin_alike f.base f.floor s.cells (take f.floor s.cells) own_lead.0.base (cut_agrees f.floor s.cells))
              own_came.1);
          some = All-head HasCell f [] (all_right HasCell fs (f ∷ []) (All-same HasCell (fs ++ f ∷ []) s.above.items
              (sym pushed) h.each));
          each =
              All-same HasCell above.items fs is
              (all_left HasCell fs (f ∷ []) (All-same HasCell (fs ++ f ∷ []) s.above.items (sym pushed) h.each));
          stack =
              subst (λ rs. IsStack rs s.nest (stack_of after)) (sym rules_are)
              (subst (IsStack rules s.nest) (sym stack) leads.stack);
          path =
              risen.path
              ∙ (ap (λ xs. take (length xs - 1) xs) told_is
              ∙ (prefix_push (told (path_to rules s.nest ls)) (min (given_at rules s.nest l - 1) (2 ^ 64 - 1))
              ∙ ap₂ (λ rs ks. told (path_to rs s.nest ks)) (sym rules_are) (sym same)));
          levels = h.levels;
        };
      })

-- at the root there is no frame above
pub back_at_root : (s : Search) → s.above.items ≡ [] → (stands_in s).path ≡ []
back_at_root s e = ap (λ fs. path_to (rules_in_search s) s.nest (levels_of s.site s.nest s.cells fs)) e

-- pruning leaves nothing at the frame reached
pub goes_pruned : (s : Search) → IsSearch s → s.at_did ≡ true → (t : Frame) → IsCleared s.top t
    → Goes s (pruned (stands_in s)) (record s { top = t; at_did = false })
goes_pruned s h did t cleared =
    let rules = rules_in_search s in
    let leads = pruned_to rules s.nest (stack_of s) h.stack did in
    record {
      stands = ap (standing_of rules s.nest) (bare_stack s h t cleared) ∙ sym leads.stands;
      tree =
          ap (λ (k : Stack). record { rules = rules; nest = s.nest; root = root_of k.top k.above })
          (bare_stack s h t cleared)
          ∙ ap (λ r. record { rules = rules; nest = s.nest; root = r }) leads.root;
      base = base_alike t s.top s.above.items cleared.base;
      search = bare_is s h t cleared leads.stack;
    }
