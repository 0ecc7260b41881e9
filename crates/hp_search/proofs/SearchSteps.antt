-- The calls of a search, step by step.
use Rattle.std.proofs.Common.{◌≡◌, ℕ, suc, ◌+◌, ◌-◌, ◌^◌, ◌<◌, ◌≤◌, min, Bool, true, false, List, [], ◌∷◌, ◌++◌, length}
use Rattle.std.proofs.Common.{map, reverse, take, Option, Some, None, option_map, refl, sym, ◌∙◌, ap, ap₂, subst, arith}
use Rattle.std.specs.Prelude.{Vec, IfOk, OnErr, Result, Ok, Err}
use Rattle.std.specs.Global.{Global}
use Rattle.std.proofs.lemmas.List.{append-nil, map-append, reverse-append}
use Rattle.std.proofs.Common.{length-take-le}
use Rattle.std.proofs.lemmas.List.Elements.{All-nil, All-cons, All-append, All-same}
use Rattle.hp_syntax.specs.Syntax.{Rule}
use Rattle.hp_syntax.specs.Terms.{Term}
use Rattle.hp_syntax.specs.Walk.{Child, Node, DidChild, CutChild, FaultChild, visits, node_at, told}
use Rattle.hp_eval.specs.Growth.{Grows}
use Rattle.hp_eval.proofs.GrowthLemmas.{grows_length, kept_agree}
use Rattle.hp_net.specs.declared.walk.Step.{Step}
use Rattle.hp_net.specs.declared.walk.Step.TheVariants as steps
use Rattle.hp_net.specs.Standings.{standing, step_of}
use Rattle.hp_tree.specs.Successors.{Successor, ThePlan, TheChild, successors, visits_of, dids_in}
use Rattle.hp_tree.specs.Stacks.{Level, Stack, given_at, path_to, root_of, standing_of, told_of, with_left, taken}
use Rattle.hp_tree.specs.Stacks.{AreReached, IsStack}
use Rattle.hp_tree.specs.SearchNodes.{IsHeldNode, node_of}
use Rattle.hp_tree.proofs.SearchNodeLemmas.{node_stays}
use Rattle.hp_tree.proofs.StackLemmas.{step_next, step_over, step_end, dids_append, level_all, level_new, given_new}
use Rattle.hp_tree.proofs.StackLemmas.{given_did, given_other}
use Rattle.hp_tree.proofs.SuccessorLemmas.{visits_split}
use Rattle.hp_choice.specs.declared.choice.Given.TheVariants as given
use Rattle.hp_site.specs.declared.mark.Mark.{Mark}
use Rattle.hp_site.specs.declared.site.Site.{Site}
use Rattle.hp_site.specs.Sites.{AtomsWithin, IsMark, IsSite, IsWithin, Keeps, held_at, held_now, mark_now}
use Rattle.hp_site.proofs.SiteLemmas.{atoms_kept, held_is_now, keeps_held, within_itself}
use Rattle.hp_world.specs.Recorded.{history_in}
use Rattle.hp_agenda.specs.Agendas.{IsAgenda}
use Rattle.hp_agenda.specs.Begun.{HasLast, did_given}
use Rattle.hp_agenda.specs.declared.frame.Frame.{Frame}
use Rattle.hp_agenda.specs.declared.frame.Successor as made
use Rattle.hp_agenda.specs.declared.frame.Successor.TheVariants as nexts
use Rattle.hp_agenda.specs.Frames.{CameTo, given_in, FloorStands, IsFrame, LeadTo, Opens, StaysAt, TakesSuccessor, bound_of}
use Rattle.hp_agenda.specs.Frames.{end_successors, left_of, level_of, rules_at}
use Rattle.hp_search.specs.declared.search.Search.{Search}
use Rattle.hp_search.specs.Searches.{BeginsAt, GivesBack, HasCell, IsCleared, IsRested, IsSearch, IsTaken, Moves}
use Rattle.hp_search.specs.Searches.{base_in, levels_of, root_base, rules_in_search, stack_of, stands_in, tree_in}
use Rattle.hp_agenda.proofs.AgreeSteps.{agenda_in_scene, agenda_scene}
use Rattle.hp_agenda.proofs.BegunLemmas.{has_last_at, has_settled}
use Rattle.hp_agenda.proofs.LevelLemmas.{came_kept, lead_kept, opened_frame, opened_level}
use Rattle.hp_search.proofs.BackSteps.{cut_stack, cut_is, cut_tree}
use Rattle.hp_search.proofs.FrameLevels.{level_by, stack_by, levels_push, root_node, base_alike, base_pushed, path_none}

-- a successor that is no Did leaves as many Dids
dids_other : (x : Successor) (cs : List Successor) → dids_in (x ∷ []) ≡ 0 → dids_in (x ∷ cs) ≡ dids_in cs
dids_other x cs e = let a = dids_append (x ∷ []) cs in omega (arith, a, e)

-- ---- a step

-- a call leaves a site and terms in which all up to now stands, and the frame of the same moment
pub record Leaves (s : Search) (site : Site) (new : List Term) (t : Frame) : Type 0 where
  pub grows : Grows s.cells new
  pub keeps : Keeps (mark_now s.site) s.site site
  pub mark : t.mark ≡ s.top.mark

-- a frame whose next successor was asked for, over a site and terms that the call leaves
pub record IsAsked (s : Search) (site : Site) (new : List Term) (next : Option made.Successor) (t : Frame)
    : Type 0 where
  pub good : IsSite new site
  pub base : t.base ≡ s.top.base
  pub dids : t.dids ≡ s.top.dids
  pub takes : TakesSuccessor new next (held_now site)
      (left_of s.site.scene s.nest s.cells (held_now s.site) s.top)
      (left_of s.site.scene s.nest new (held_now s.site) t)
  pub agenda : IsAgenda s.site.scene new s.top.base (bound_of next (length new)) (held_now s.site) t.agenda
  pub floor : FloorStands next (length s.cells) (length new)
  pub stays : StaysAt next s.site site
  pub last : HasLast s.site.scene s.nest new (held_now s.site) t.agenda (did_given new (held_now site) (given_in next))

module _ (s : Search) (h : IsSearch s) (site : Site) (new : List Term) (t : Frame) (leaves : Leaves s site new t) where
  abbrev own_rules : List Rule
  own_rules = rules_in_search s

  -- the search node of the frame is that where the search stood
  held_is : held_at site t.mark ≡ held_now s.site
  held_is =
      ap (held_at site) (leaves.mark ∙ h.mark)
      ∙ keeps_held (mark_now s.site) (mark_now s.site) s.site site leaves.keeps (within_itself (mark_now s.site))
      ∙ held_is_now s.site

  -- it was before
  held_was : held_at s.site s.top.mark ≡ held_now s.site
  held_was = ap (held_at s.site) h.mark ∙ held_is_now s.site

  node_is : node_of new (held_at site t.mark) ≡ (stack_of s).top.node
  node_is =
      ap (node_of new) held_is ∙ node_stays s.cells new leaves.grows (held_now s.site) h.site.node
      ∙ ap (node_of s.cells) (sym held_was)

  code_is : site.scene.code ≡ s.site.scene.code
  code_is = leaves.keeps.code

  rules_are : rules_at site ≡ own_rules
  rules_are = ap (λ c. rules_at (record site { scene = record site.scene { code = c } })) code_is

  -- the frames above are the same levels
  lead_is : (map (level_of site s.nest new) (reverse s.above.items) ≡ (stack_of s).above)
      × LeadTo site s.nest new s.top.mark s.top.base (reverse s.above.items)
  lead_is =
      let kept = lead_kept s.nest s.top.mark s.top.base s.site site s.cells new (reverse s.above.items) h.above
      (subst (λ m. Keeps m s.site site) (sym h.mark) leaves.keeps)
      (kept_agree s.cells new leaves.grows s.top.base h.top.base) in
      (kept.levels, kept.lead)

  abbrev above_is : levels_of site s.nest new s.above.items ≡ (stack_of s).above
  above_is = lead_is.0

  -- the root of the tree is the same
  root_is : root_of (level_of site s.nest new t) (levels_of site s.nest new s.above.items)
      ≡ root_of (stack_of s).top (stack_of s).above
  root_is =
      root_node (level_of site s.nest new t) (stack_of s).top (levels_of site s.nest new s.above.items) node_is
      ∙ ap (root_of (stack_of s).top) above_is

  pub tree_is : (did over : Bool)
      → tree_in (record s { site = site; cells = new; top = t; at_did = did; over = over }) ≡ tree_in s
  tree_is did over = ap₂ (λ rs r. record { rules = rs; nest = s.nest; root = r }) rules_are root_is

  came_is : CameTo site s.nest new t.mark (reverse s.above.items)
  came_is =
      subst (λ m. CameTo site s.nest new m (reverse s.above.items)) (sym leaves.mark)
      (came_kept s.nest s.top.mark s.top.base s.site site s.cells new (reverse s.above.items) h.above h.top.node
      (subst (λ m. Keeps m s.site site) (sym h.mark) leaves.keeps)
      (kept_agree s.cells new leaves.grows s.top.base h.top.base) h.came)

  -- what the frame has given was given there
  last_is : (last : List Child) → HasLast s.site.scene s.nest new (held_now s.site) t.agenda last
      → HasLast site.scene s.nest new (held_at site t.mark) t.agenda last
  last_is last =
      has_last_at s.site.scene site.scene (sym code_is) s.nest new (held_now s.site) (held_at site t.mark) t.agenda last
      (sym held_is)

  path_is : s.path.items
      ≡ told (path_to (rules_at site) s.nest (levels_of site s.nest new s.above.items))
  path_is = h.path ∙ ap₂ (λ rs ls. told (path_to rs s.nest ls)) (sym rules_are) (sym above_is)

  module _ (next : Option made.Successor) (asked : IsAsked s site new next t) where
    -- what was left before
    left_was : (stack_of s).top.left ≡ left_of s.site.scene s.nest s.cells (held_now s.site) s.top
    left_was = ap (λ k. left_of s.site.scene s.nest s.cells k s.top) held_was

    -- what is left
    left_is : left_of site.scene s.nest new (held_at site t.mark) t
        ≡ left_of s.site.scene s.nest new (held_now s.site) t
    left_is =
        ap (λ k. left_of site.scene s.nest new k t) held_is
        ∙ ap (λ cs. end_successors t.end ++ map TheChild cs)
        (agenda_scene site.scene s.site.scene code_is s.nest new (held_now s.site) t.agenda)

    -- the level of the frame
    top_is : level_of site s.nest new t
        ≡ with_left (stack_of s).top (left_of s.site.scene s.nest new (held_now s.site) t)
    top_is = ap₂ level_by node_is left_is

    -- the frame is one of this moment, where as many Dids are told as were given
    frame_is : (n : ℕ) → s.top.base ≤ n → IsAgenda s.site.scene new s.top.base n (held_now s.site) t.agenda
        → (k floor : ℕ) → (0 < dids_in (level_of site s.nest new t).left
        → k ≡ min (given_at (rules_at site) s.nest (level_of site s.nest new t)) (2 ^ 64 - 1))
        → IsFrame site s.nest new n (record t { dids = k; floor = floor })
    frame_is n l agenda k floor numbered = record {
      mark = subst (IsMark site) (sym (leaves.mark ∙ h.mark)) leaves.keeps.mark;
      node =
          subst (λ b. IsHeldNode b (held_at site t.mark)) (sym asked.base)
          (subst (IsHeldNode s.top.base) (held_was ∙ sym held_is) h.top.node);
      atoms =
          subst (λ (m : Mark). AtomsWithin t.base m.world (history_in site.scene.world)) (sym leaves.mark)
          (subst (λ b. AtomsWithin b s.top.mark.world (history_in site.scene.world)) (sym asked.base)
          (atoms_kept s.top.base s.top.mark s.site site
          (subst (λ m. Keeps m s.site site) (sym h.mark) leaves.keeps) h.top.atoms));
      base = subst (λ b. b ≤ n) (sym asked.base) l;
      agenda =
          subst (λ b. IsAgenda site.scene new b n (held_at site t.mark) t.agenda) (sym asked.base)
          (subst (λ z. IsAgenda site.scene new s.top.base n z t.agenda) (sym held_is)
          (agenda_in_scene s.site.scene site.scene (sym code_is) new s.top.base n (held_now s.site) t.agenda agenda));
      dids = numbered;
    }

    lead_on : LeadTo site s.nest new t.mark t.base (reverse s.above.items)
    lead_on =
        subst (λ m. LeadTo site s.nest new m t.base (reverse s.above.items)) (sym leaves.mark)
        (subst (λ b. LeadTo site s.nest new s.top.mark b (reverse s.above.items)) (sym asked.base) lead_is.1)

    module _ (stays : mark_now site ≡ mark_now s.site)
        (agenda : IsAgenda s.site.scene new s.top.base (length new) (held_now s.site) t.agenda) where
      -- where the search stays at its node, it is a search
      stays_search : (did over : Bool) (k : Stack)
          → stack_of (record s { site = site; cells = new; top = t; at_did = did; over = over }) ≡ k
          → IsStack own_rules s.nest k
          → (0 < dids_in (level_of site s.nest new t).left
          → t.dids ≡ min (given_at (rules_at site) s.nest (level_of site s.nest new t)) (2 ^ 64 - 1))
          → IsSearch (record s { site = site; cells = new; top = t; at_did = did; over = over })
      stays_search did over k same stack numbered = record {
        site = asked.good;
        mark = leaves.mark ∙ h.mark ∙ sym stays;
        top =
            frame_is (length new)
            (let a = h.top.base in let b = grows_length s.cells new leaves.grows in omega arith) agenda t.dids t.floor
            numbered;
        above = lead_on;
        last =
            last_is []
            (has_settled s.site.scene s.nest new (held_now s.site) t.agenda
            (did_given new (held_now site) (given_in next)) asked.last);
        came = came_is;
        some = subst (λ b. 0 < b) (sym asked.base) h.some;
        each = h.each;
        stack =
            subst
            (λ rs. IsStack rs s.nest
            (stack_of (record s { site = site; cells = new; top = t; at_did = did; over = over })))
            (sym rules_are) (subst (IsStack own_rules s.nest) (sym same) stack);
        path = path_is;
        levels = h.levels;
      }

      -- a successor that is no Did is taken
      moves_left : (x : Successor)
          → (stack_of s).top.left ≡ x ∷ left_of s.site.scene s.nest new (held_now s.site) t
          → (o : Bool) → s.over ≡ false → dids_in (x ∷ []) ≡ 0
          → taken own_rules s.nest (stack_of s) x (left_of s.site.scene s.nest new (held_now s.site) t)
          ≡ stack_by (with_left (stack_of s).top (left_of s.site.scene s.nest new (held_now s.site) t))
          (stack_of s).above false o
          → Moves s (Some (told_of x))
          (record s { site = site; cells = new; top = t; at_did = false; over = o })
      moves_left x first o on none there =
          let cs = left_of s.site.scene s.nest new (held_now s.site) t in
          let step = step_next own_rules s.nest (stack_of s) x cs h.stack on first in
          let stack = ap₂ (λ l ls. stack_by l ls false o) top_is above_is ∙ sym there in
          record {
            answer = sym step.answer;
            stands = ap₂ (λ rs k. standing_of rs s.nest k) rules_are stack ∙ sym step.stands;
            tree = tree_is false o;
            base = base_alike t s.top s.above.items asked.base;
            search =
                stays_search false o _ stack step.stack
                (λ l.
                let many = ap dids_in first ∙ dids_other x cs none in
                let now = ap dids_in left_is in
                asked.dids
                ∙ (h.top.dids (omega (arith, many, now, l))
                ∙ ap (λ k. min k (2 ^ 64 - 1))
                (sym (given_other own_rules s.nest (stack_of s).top x cs first none h.stack.top.level)
                ∙ ap₂ (λ rs k. given_at rs s.nest k) (sym rules_are) (sym top_is))));
          }

      -- where there is none, the search stays
      moves_none : s.over ≡ false
          → (stack_of s).top.left ≡ left_of s.site.scene s.nest new (held_now s.site) t
          → left_of s.site.scene s.nest new (held_now s.site) t ≡ []
          → Moves s None (record s { site = site; cells = new; top = t; at_did = false })
      moves_none on next none =
          let (nothing, leads) = step_end own_rules s.nest (stack_of s) h.stack on (next ∙ none) in
          let stack = ap₂ (λ l ls. stack_by l ls false s.over)
          (top_is ∙ ap (with_left (stack_of s).top) (sym next)) above_is in
          record {
            answer = sym (ap (option_map step_of) nothing);
            stands = ap₂ (λ rs k. standing_of rs s.nest k) rules_are stack ∙ sym leads.stands;
            tree = tree_is false s.over;
            base = base_alike t s.top s.above.items asked.base;
            search =
                stays_search false s.over _ stack leads.stack
                (λ l. absurd (let few = ap dids_in (left_is ∙ none) in omega (arith, few, l)));
          }

    -- a Did is taken: the search goes down to it
    module _ (floor : ℕ)
        (first : (stack_of s).top.left ≡ TheChild (DidChild (node_of new (held_now site)))
        ∷ left_of s.site.scene s.nest new (held_now s.site) t)
        (agenda : IsAgenda s.site.scene new s.top.base floor (held_now s.site) t.agenda)
        (last : HasLast s.site.scene s.nest new (held_now s.site) t.agenda
        (did_given new (held_now site) (Some (given.Did floor))))
        (low : length s.cells ≤ floor) (high : floor ≤ length new)
        (f : Frame) (opens : Opens site s.nest new f) (above : Vec Frame Global)
        (pushed : above.items ≡ s.above.items ++ record t { dids = min (t.dids + 1) (2 ^ 64 - 1); floor = floor } ∷ [])
        (path : Vec ℕ Global) (noted : path.items ≡ s.path.items ++ t.dids ∷ []) where
      number_is : t.dids ≡ min (given_at own_rules s.nest (stack_of s).top) (2 ^ 64 - 1)
      number_is = let many = ap dids_in first in asked.dids ∙ h.top.dids (omega (arith, many))

      one_more : given_at (rules_at site) s.nest (level_of site s.nest new t)
          ≡ suc (given_at own_rules s.nest (stack_of s).top)
      one_more =
          ap₂ (λ rs l. given_at rs s.nest l) rules_are top_is
          ∙ given_did own_rules s.nest (stack_of s).top (node_of new (held_now site))
          (left_of s.site.scene s.nest new (held_now s.site) t) first h.stack.top.level

      abbrev parent_frame : Frame
      parent_frame = record t { dids = min (t.dids + 1) (2 ^ 64 - 1); floor = floor }

      frame_did : IsFrame site s.nest new floor parent_frame
      frame_did =
          frame_is floor (let a = h.top.base in omega arith) agenda (min (t.dids + 1) (2 ^ 64 - 1)) floor
          (λ l.
          let n = number_is in
          let k : min (t.dids + 1) (2 ^ 64 - 1) ≡ min (suc (given_at own_rules s.nest (stack_of s).top)) (2 ^ 64 - 1) =
          omega (arith, n) in
          k ∙ ap (λ z. min z (2 ^ 64 - 1)) (sym one_more))

      pushed_is : levels_of site s.nest new above.items
          ≡ with_left (stack_of s).top (left_of s.site.scene s.nest new (held_now s.site) t) ∷ (stack_of s).above
      pushed_is =
          ap (levels_of site s.nest new) pushed
          ∙ (levels_push site s.nest new s.above.items parent_frame ∙ ap₂ ◌∷◌ top_is above_is)

      noted_is : path.items ≡ told (path_to (rules_at site) s.nest (levels_of site s.nest new above.items))
      noted_is =
          let j : given_at own_rules s.nest
          (with_left (stack_of s).top (left_of s.site.scene s.nest new (held_now s.site) t)) - 1
          ≡ given_at own_rules s.nest (stack_of s).top =
          (let e = given_did own_rules s.nest (stack_of s).top (node_of new (held_now site))
          (left_of s.site.scene s.nest new (held_now s.site) t) first h.stack.top.level in omega (arith, e)) in
          noted
          ∙ (ap₂ (λ xs i. xs ++ i ∷ []) h.path (number_is ∙ ap (λ k. min k (2 ^ 64 - 1)) (sym j))
          ∙ (sym (map-append (λ i. min i (2 ^ 64 - 1)) (path_to own_rules s.nest (stack_of s).above) _)
          ∙ ap₂ (λ rs ls. told (path_to rs s.nest ls)) (sym rules_are) (sym pushed_is)))

      lead_down : LeadTo site s.nest new f.mark f.base (reverse above.items)
      lead_down =
          subst (λ fs. LeadTo site s.nest new f.mark f.base (reverse fs)) (sym pushed)
          (subst (LeadTo site s.nest new f.mark f.base) (sym (reverse-append s.above.items (parent_frame ∷ []))) (
            frame_did,
            subst (IsWithin t.mark) (sym opens.mark)
                (subst (IsMark site) (sym (leaves.mark ∙ h.mark)) leaves.keeps.mark),
            subst (λ b. floor ≤ b) (sym opens.base) high,
            lead_on,
          ))

      here : held_at site f.mark ≡ held_now site
      here = ap (held_at site) opens.mark ∙ held_is_now site

      came_down : CameTo site s.nest new f.mark (reverse above.items)
      came_down =
          subst (λ fs. CameTo site s.nest new f.mark (reverse fs)) (sym pushed)
          (subst (CameTo site s.nest new f.mark) (sym (reverse-append s.above.items (parent_frame ∷ []))) (
            subst (λ k. HasLast site.scene s.nest new (held_at site t.mark) t.agenda (DidChild (node_of new k) ∷ []))
                (sym here) (last_is (DidChild (node_of new (held_now site)) ∷ []) last),
            came_is,
          ))

      -- and answers so
      moves_did : s.over ≡ false
          → Moves s (Some steps.Did)
          (record s { site = site; cells = new; top = f; above = above; path = path; at_did = true })
      moves_did on =
          let cs = left_of s.site.scene s.nest new (held_now s.site) t in
          let step = step_next own_rules s.nest (stack_of s) (TheChild (DidChild (node_of new (held_now site)))) cs
          h.stack on first in
          let level = opened_level site s.nest new f opens
          ∙ ap (λ rs. level_by (node_of new (held_now site)) (successors rs s.nest (node_of new (held_now site))))
          rules_are in
          let stack = ap₂ (λ l ls. stack_by l ls true s.over) level pushed_is in
          record {
            answer = sym step.answer;
            stands = ap₂ (λ rs k. standing_of rs s.nest k) rules_are stack ∙ sym step.stands;
            tree =
                ap₂ (λ rs r. record { rules = rs; nest = s.nest; root = r }) rules_are
                (ap (root_of (level_of site s.nest new f)) pushed_is
                ∙ root_node (with_left (stack_of s).top cs) (stack_of s).top (stack_of s).above refl);
            base = ap (root_base f) pushed ∙ base_pushed f parent_frame s.top s.above.items asked.base;
            search = record {
              site = asked.good;
              mark = opens.mark;
              top = opened_frame site s.nest new f asked.good opens;
              above = lead_down;
              last =
                  subst (λ k. HasLast site.scene s.nest new k f.agenda []) (sym here) opens.last;
              came = came_down;
              some =
                  subst (λ b. 0 < b) (sym opens.base)
                  (let a = h.some in let b = h.top.base in
                  let c = grows_length s.cells new leaves.grows in omega arith);
              each =
                  All-same HasCell above.items _ pushed
                  (All-append HasCell s.above.items (parent_frame ∷ []) h.each
                  (All-cons HasCell parent_frame [] (subst (λ b. 0 < b) (sym asked.base) h.some) (All-nil HasCell)));
              stack =
                  subst
                  (λ rs. IsStack rs s.nest
                  (stack_of (record s {
                    site = site;
                    cells = new;
                    top = f;
                    above = above;
                    path = path;
                    at_did = true;
                  })))
                  (sym rules_are) (subst (IsStack own_rules s.nest) (sym stack) step.stack);
              path = noted_is;
              levels = h.levels;
            };
          }

-- ---- where the search rests

module _ (rules : List Rule) (nest : ℕ) where
  -- a stack where nothing is left at the node reached is one
  cleared_stack : (k : Stack) → IsStack rules nest k
      → IsStack rules nest (stack_by (with_left k.top []) k.above false k.over)
  cleared_stack k h =
      let same = root_node (with_left k.top []) k.top k.above refl in
      record {
        top = record {
          level = level_all rules nest k.top.node;
          there = ap (λ r. node_at rules nest r (path_to rules nest k.above)) same ∙ h.top.there;
        };
        above = subst (λ r. AreReached rules nest r k.above) (sym same) h.above;
        fresh = λ e. absurd (let never : false ≡ true = e in cc);
      }

  -- after a fault the place is the same, whatever is left at the node reached
  over_alike : (l k : Level) (ls : List Level) (o : Bool) → o ≡ true
      → standing_of rules nest (stack_by l ls false o) ≡ standing_of rules nest (stack_by k ls false o)
  over_alike l k ls o e =
      ap (λ b. standing_of rules nest (stack_by l ls false b)) e
      ∙ sym (ap (λ b. standing_of rules nest (stack_by k ls false b)) e)

-- where nothing was left at the node reached, giving its cells back leads to the same place
rested_moves : (s m : Search) → Moves s None m → m.at_did ≡ false → (stack_of m).top.left ≡ [] → (t : Frame)
    → IsCleared m.top t → Moves s None (record m { top = t; cells = take m.top.base m.cells; at_did = false })
rested_moves s m moves did none t cleared =
    let h = moves.search in
    let stack : stack_of (record m { top = t; cells = take m.top.base m.cells; at_did = false }) ≡ stack_of m =
    cut_stack m h t cleared false
    ∙ ap₂ (λ cs d. stack_by (with_left (stack_of m).top cs) (stack_of m).above d m.over) (sym none) (sym did) in
    record {
      answer = moves.answer;
      stands = ap (standing_of (rules_in_search m) m.nest) stack ∙ moves.stands;
      tree = cut_tree m h t cleared ∙ moves.tree;
      base = base_alike t m.top m.above.items cleared.base ∙ moves.base;
      search =
          cut_is m h t cleared (subst (IsStack (rules_in_search m) m.nest) (sym stack ∙ cut_stack m h t cleared false)
          h.stack);
    }

-- after a fault the search rests
pub moves_over : (s : Search) → IsSearch s → s.over ≡ true → (new : Search) → IsRested s new → Moves s None new
moves_over s h over new rested =
    let rules = rules_in_search s in
    let t = new.top in
    let (nothing, leads) = step_over rules s.nest (stack_of s) h.stack over in
    subst (Moves s None) (sym rested.same)
    (record {
      answer = sym (ap (option_map step_of) nothing);
      stands =
          ap (standing_of rules s.nest) (cut_stack s h t rested.top false)
          ∙ over_alike rules s.nest (with_left (stack_of s).top []) (stack_of s).top (stack_of s).above s.over over
          ∙ sym leads.stands;
      tree = cut_tree s h t rested.top;
      base = base_alike t s.top s.above.items rested.top.base;
      search = cut_is s h t rested.top (cleared_stack rules s.nest (stack_of s) h.stack);
    })

-- the frame that is reached has given what it has at the search node now
pub last_now : (s : Search) → IsSearch s → HasLast s.site.scene s.nest s.cells (held_now s.site) s.top.agenda []
last_now s h =
    subst (λ k. HasLast s.site.scene s.nest s.cells k s.top.agenda [])
    (ap (held_at s.site) h.mark ∙ held_is_now s.site) h.last

-- the search before a successor is taken, over the site and the terms that the call for it left
abbrev pub asked_search : Search → Site → List Term → Frame → Search
asked_search s site new t = record s { site = site; cells = new; top = t }

-- the next successor is taken, whatever it is
pub moves_on : (s : Search) → IsSearch s → s.over ≡ false → (site : Site) (new : List Term) (t : Frame)
    → Leaves s site new t → (next : Option made.Successor) → IsAsked s site new next t
    → (o : Option Step) (last : Search) → IsTaken (asked_search s site new t) next o last → Moves s o last
moves_on s h on site new t leaves None asked o last (e, rested) =
    let first = left_was s h site new t leaves None asked ∙ asked.takes.first in
    let none = asked.takes.all refl in
    let moves = moves_none s h site new t leaves None asked asked.stays asked.agenda on first none in
    subst (λ z. Moves s z last) (sym e)
    (subst (Moves s None) (sym rested.same)
    (rested_moves s (record s { site = site; cells = new; top = t; at_did = false }) moves refl
    (left_is s h site new t leaves None asked ∙ none) last.top rested.top))
moves_on s h on site new t leaves (Some nexts.Plan) asked o last (e, l) =
    subst (λ z. Moves s o z) (sym l)
    (subst (λ z. Moves s z (record s { site = site; cells = new; top = t; at_did = false })) (sym e)
    (moves_left s h site new t leaves (Some nexts.Plan) asked asked.stays asked.agenda ThePlan
    (left_was s h site new t leaves (Some nexts.Plan) asked ∙ asked.takes.first) s.over on refl refl))
moves_on s h on site new t leaves (Some (nexts.Child given.Cut)) asked o last (e, l) =
    subst (λ z. Moves s o z) (sym l)
    (subst (λ z. Moves s z (record s { site = site; cells = new; top = t; at_did = false })) (sym e)
    (moves_left s h site new t leaves (Some (nexts.Child given.Cut)) asked asked.stays asked.agenda (TheChild CutChild)
    (left_was s h site new t leaves (Some (nexts.Child given.Cut)) asked ∙ asked.takes.first) s.over on refl refl))
moves_on s h on site new t leaves (Some (nexts.Child (given.Fault f))) asked o last (e, l) =
    subst (λ z. Moves s o z) (sym l)
    (subst (λ z. Moves s z (record s { site = site; cells = new; top = t; at_did = false; over = true })) (sym e)
    (moves_left s h site new t leaves (Some (nexts.Child (given.Fault f))) asked asked.stays asked.agenda
    (TheChild (FaultChild f))
    (left_was s h site new t leaves (Some (nexts.Child (given.Fault f))) asked ∙ asked.takes.first) true on refl refl))
moves_on s h on site new t leaves (Some (nexts.Child (given.Did floor))) asked o last (e, l) =
    subst (λ z. Moves s o z) (sym l.same)
    (subst
    (λ z. Moves s z (record s {
      site = site;
      cells = new;
      top = last.top;
      above = last.above;
      path = last.path;
      at_did = true;
    }))
    (sym e)
    (moves_did s h site new t leaves (Some (nexts.Child (given.Did floor))) asked floor
    (left_was s h site new t leaves (Some (nexts.Child (given.Did floor))) asked ∙ asked.takes.first) asked.agenda
    asked.last asked.floor.0 asked.floor.1 last.top (l.top s.nest) last.above l.above last.path l.path on))

-- ---- the beginning of a search

begin_stack : (rules : List Rule) (nest : ℕ) (n : Node)
    → IsStack rules nest (stack_by (level_by n (successors rules nest n)) [] false false)
unfolding node_at
begin_stack rules nest n = record {
  top = record { level = level_new rules nest n; there = refl };
  above = tt;
  fresh = λ k. absurd (let never : false ≡ true = k in cc);
}

begin_stands : (rules : List Rule) (nest : ℕ) (n : Node)
    → standing_of rules nest (stack_by (level_by n (successors rules nest n)) [] false false)
    ≡ standing [] (visits rules nest n []) false
begin_stands rules nest n =
    ap (λ vs. standing [] vs false)
    (append-nil (visits_of rules nest n [] (given_at rules nest (level_by n (successors rules nest n)))
    (successors rules nest n))
    ∙ (ap (λ k. visits_of rules nest n [] k (successors rules nest n)) (given_new rules nest n)
    ∙ sym (visits_split rules nest n [])))

-- a search of one frame that opens begins at the search node
pub search_begins : (s : Search) → IsSite s.cells s.site → Opens s.site s.nest s.cells s.top → 0 < length s.cells
    → s.nest ≤ 128 → s.above.items ≡ [] → s.path.items ≡ [] → s.at_did ≡ false → s.over ≡ false
    → BeginsAt (rules_in_search s) s.nest (node_of s.cells (held_now s.site)) s
search_begins s good opens some levels above path did on =
    let rules = rules_in_search s in
    let n = node_of s.cells (held_now s.site) in
    let level = opened_level s.site s.nest s.cells s.top opens in
    let none : levels_of s.site s.nest s.cells s.above.items ≡ [] = ap (levels_of s.site s.nest s.cells) above in
    let stack = ap₂ (λ l ls. stack_by l ls s.at_did s.over) level none
    ∙ ap₂ (λ d o. stack_by (level_by n (successors rules s.nest n)) [] d o) did on in
    record {
      tree = ap (λ (k : Stack). record { rules = rules; nest = s.nest; root = root_of k.top k.above }) stack;
      stands = ap (standing_of rules s.nest) stack ∙ begin_stands rules s.nest n;
      search = record {
        site = good;
        mark = opens.mark;
        top = opened_frame s.site s.nest s.cells s.top good opens;
        above = subst (λ fs. LeadTo s.site s.nest s.cells s.top.mark s.top.base (reverse fs)) (sym above) tt;
        last =
            subst (λ k. HasLast s.site.scene s.nest s.cells k s.top.agenda [])
            (sym (ap (held_at s.site) opens.mark ∙ held_is_now s.site)) opens.last;
        came = subst (λ fs. CameTo s.site s.nest s.cells s.top.mark (reverse fs)) (sym above) tt;
        some = subst (λ b. 0 < b) (sym opens.base) some;
        each = All-same HasCell s.above.items [] above (All-nil HasCell);
        stack = subst (IsStack rules s.nest) (sym stack) (begin_stack rules s.nest n);
        path = path ∙ ap (λ ls. told (path_to rules s.nest ls)) (sym none);
        levels = levels;
      };
    }

-- ---- what holds whether a call fails or not

-- what holds of each answer holds
pub of_each : {X E : Type 0} {A : Type 0} (r : Result X E) → IfOk r (λ x. A) → OnErr r A → A
of_each (Ok x) h k = h
of_each (Err e) h k = k

-- what an error leads to leads on
pub on_err : {X E : Type 0} {A B : Type 0} (r : Result X E) → (A → B) → OnErr r A → OnErr r B
on_err (Ok x) f h = h
on_err (Err e) f h = f h

-- ---- the cells of the root

-- where nothing more comes at the root, the cells are those at which it was reached
rested_back : (s m new : Search) → m.above.items ≡ s.above.items → m.top.base ≤ length m.cells → IsRested m new
    → (stands_in s).path ≡ [] → length new.cells ≡ base_in new
rested_back s m new above within rested path =
    let none = path_none (rules_in_search s) s.site s.nest s.cells s.above.items path in
    subst (λ z. length z.cells ≡ base_in z) (sym rested.same)
    (length-take-le m.top.base m.cells within ∙ sym rested.top.base
    ∙ sym (ap (root_base new.top) (above ∙ none)))

pub gives_back_over : (s : Search) → IsSearch s → (new : Search) → IsRested s new → GivesBack s None new
gives_back_over s h new rested = λ e path. rested_back s s new refl h.top.base rested path

pub gives_back : (s : Search) → IsSearch s → (site : Site) (new : List Term) (t : Frame) → Leaves s site new t
    → t.base ≡ s.top.base → (next : Option made.Successor) → (o : Option Step) (last : Search)
    → IsTaken (asked_search s site new t) next o last → GivesBack s o last
gives_back s h site new t leaves base None o last (e, rested) =
    λ none path. rested_back s (asked_search s site new t) last refl
    (subst (λ b. b ≤ length new) (sym base)
    (let a = h.top.base in let b = grows_length s.cells new leaves.grows in omega arith)) rested path
gives_back s h site new t leaves base (Some nexts.Plan) o last (e, l) = λ none path. absurd cc
gives_back s h site new t leaves base (Some (nexts.Child given.Cut)) o last (e, l) = λ none path. absurd cc
gives_back s h site new t leaves base (Some (nexts.Child (given.Fault f))) o last (e, l) = λ none path. absurd cc
gives_back s h site new t leaves base (Some (nexts.Child (given.Did floor))) o last (e, l) = λ none path. absurd cc
