-- The calls of a search, step by step.
use Rattle.std.proofs.Common.{◌≡◌, ℕ, suc, ◌+◌, ◌-◌, ◌^◌, ◌<◌, ◌≤◌, min, Bool, true, false, List, [], ◌∷◌, ◌++◌, length, map, reverse, take, Option, Some, None, option_map, refl, sym, ◌∙◌, ap, ap₂, subst, arith}
use Rattle.std.specs.Prelude.{Vec}
use Rattle.std.specs.Global.{Global}
use Rattle.std.specs.List.{All}
use Rattle.std.proofs.lemmas.List.{append-nil, drop_all, length-append, map-append, reverse-append}
use Rattle.std.proofs.Math.Seq.{take-append_seam}
use Rattle.hp_laws.proofs.JoinLemmas.{all_left, all_right}
use Rattle.std.proofs.lemmas.List.Elements.{All-nil, All-cons, All-append, All-head, All-tail, All-weaker, All-same}
use Rattle.hp_syntax.specs.declared.limits.TheConstants.{MOST_VARIABLES}
use Rattle.hp_syntax.specs.Checks.{HasFewVariables}
use Rattle.hp_syntax.specs.Syntax.{Rule, Does, Refines, Concludes}
use Rattle.hp_syntax.specs.Terms.{Term}
use Rattle.hp_syntax.specs.Walk.{Node, DidChild, CutChild, FaultChild, visits, node_at, told}
use Rattle.hp_syntax.specs.Events.{axioms_of}
use Rattle.hp_answers.specs.RuleIndexes.{AreFew}
use Rattle.hp_eval.specs.Growth.{Grows}
use Rattle.hp_net.specs.declared.walk.Step.{Step}
use Rattle.hp_net.specs.declared.walk.Step.TheVariants as steps
use Rattle.hp_net.specs.Standings.{gone_back, next_below, pruned, standing, step_of}
use Rattle.hp_tree.specs.Successors.{Successor, ThePlan, TheChild, successors, visits_of, dids_in}
use Rattle.hp_tree.specs.Stacks.{Level, Stack, given_at, path_to, root_of, standing_of, told_of, with_left, taken, IsStack}
use Rattle.hp_tree.specs.SearchNodes.{node_of}
use Rattle.hp_tree.proofs.SearchNodeLemmas.{node_stays, node_grows}
use Rattle.hp_tree.proofs.StackLemmas.{step_next, step_over, step_end, back_to, pruned_to, dids_append, level_new, given_new, given_did, given_other}
use Rattle.hp_tree.proofs.SuccessorLemmas.{visits_split}
use Rattle.hp_plain.specs.declared.candidate.Child.TheVariants as children
use Rattle.hp_plain.specs.declared.frame.Frame.{Frame}
use Rattle.hp_plain.specs.declared.frame.Successor as made
use Rattle.hp_plain.specs.declared.frame.Successor.TheVariants as nexts
use Rattle.hp_plain.specs.declared.search.Search.{Search}
use Rattle.hp_plain.specs.declared.search_node.SearchNode.{SearchNode}
use Rattle.hp_plain.specs.Agendas.{IsAgenda}
use Rattle.hp_plain.specs.Frames.{end_successors, left_of, level_of, IsFrame, Opens, TakesSuccessor}
use Rattle.hp_plain.specs.SearchNodes.{held, node_in, IsSearchNode}
use Rattle.hp_plain.specs.Searches.{rules_in_search, levels_of, stack_of, tree_in, stands_in, IsSearch, Moves, Goes, IsTaken, BeginsAt}
use Rattle.hp_tree.specs.Children.{by_candidates}
use Rattle.hp_plain.proofs.AgendaSteps.{maybe_choice_stays, maybe_choice_grows, queue_stays}

-- a level by its parts
abbrev level_by : Node → List Successor → Level
level_by n cs = record { node = n; left = cs }

-- ---- frames where terms are added

module _ (rules : List Rule) (nest : ℕ) (old new : List Term) (g : Grows old new) where
  -- a frame has the same left
  left_stays : (f : Frame) → IsFrame rules nest old f → left_of rules nest new f ≡ left_of rules nest old f
  left_stays f h =
      ap₂ (λ xs ys. end_successors f.end ++ map TheChild (xs ++ ys))
      (maybe_choice_stays old new g rules nest f.node h.node f.agenda.open h.agenda.choice)
      (queue_stays old new g rules nest f.node h.node f.agenda.queue)

  -- so it is the same level
  pub level_stays : (f : Frame) → IsFrame rules nest old f → level_of rules nest new f ≡ level_of rules nest old f
  level_stays f h =
      ap₂ level_by (node_stays old new g (held f.node) h.node) (left_stays f h)

  -- a frame stays one
  pub frame_grows : (f : Frame) → IsFrame rules nest old f → IsFrame rules nest new f
  frame_grows f h = record {
    node = node_grows old new g (held f.node) h.node;
    agenda =
        record {
          choice = maybe_choice_grows old new g f.node f.agenda.open h.agenda.choice;
          queue = h.agenda.queue;
        };
    dids = subst (λ l. 0 < dids_in l.left → f.dids ≡ min (given_at rules nest l) (2 ^ 64 - 1)) (sym
        (level_stays f h)) h.dids;
  }

  each_level_stays : (fs : List Frame) → All (IsFrame rules nest old) fs
      → map (level_of rules nest new) fs ≡ map (level_of rules nest old) fs
  each_level_stays [] h = refl
  each_level_stays (f ∷ fs) h =
      ap₂ ◌∷◌ (level_stays f (All-head (IsFrame rules nest old) f fs h))
      (each_level_stays fs (All-tail (IsFrame rules nest old) f fs h))

  -- frames are the same levels
  pub levels_stay : (fs : List Frame) → All (IsFrame rules nest old) fs
      → levels_of rules nest new fs ≡ levels_of rules nest old fs
  levels_stay fs h = ap reverse (each_level_stays fs h)

-- frames with one more are levels, of which that is the nearest
pub levels_push : (rules : List Rule) (nest : ℕ) (terms : List Term) (fs : List Frame) (f : Frame)
    → levels_of rules nest terms (fs ++ f ∷ []) ≡ level_of rules nest terms f ∷ levels_of rules nest terms fs
levels_push rules nest terms fs f =
    ap reverse (map-append (level_of rules nest terms) fs (f ∷ []))
    ∙ reverse-append (map (level_of rules nest terms) fs) (level_of rules nest terms f ∷ [])

-- where the frame reached goes above a new one, the tree stays
pub tree_entered : (s : Search) (top : Frame) (above : Vec Frame Global) (path : Vec ℕ Global) (d : ℕ)
    → above.items ≡ s.above.items ++ record s.top { dids = d } ∷ []
    → tree_in (record s { top = top; above = above; path = path; at_did = true }) ≡ tree_in s
tree_entered s top above path d e =
    let rules = rules_in_search s in
    ap (λ ls. record { rules = rules; nest = s.nest; root = root_of (level_of rules s.nest s.cells top) ls })
    (ap (levels_of rules s.nest s.cells) e
    ∙ levels_push rules s.nest s.cells s.above.items (record s.top { dids = d }))

-- where the frames above stay, the tree stays
pub tree_above : (s : Search) (above : Vec Frame Global) (path : Vec ℕ Global) → above.items ≡ s.above.items
    → tree_in (record s { above = above; path = path }) ≡ tree_in s
tree_above s above path e =
    let rules = rules_in_search s in
    ap (λ fs. record {
      rules = rules;
      nest = s.nest;
      root = root_of (level_of rules s.nest s.cells s.top)
          (levels_of rules s.nest s.cells fs);
    })
    e

-- a search that begins at a node begins at an equal one
pub begins_tree : (rules : List Rule) (nest : ℕ) (n m : Node) (s : Search) → BeginsAt rules nest n s → n ≡ m
    → tree_in s ≡ record { rules = rules; nest = nest; root = m }
begins_tree rules nest n m s h e = h.tree ∙ ap (λ r. record { rules = rules; nest = nest; root = r }) e

-- where a search begins at a node, all visits of an equal one are left
pub begins_stands : (rules : List Rule) (nest : ℕ) (n m : Node) (s : Search) → BeginsAt rules nest n s → n ≡ m
    → stands_in s ≡ standing [] (visits rules nest m []) false
begins_stands rules nest n m s h e = h.stands ∙ ap (λ r. standing [] (visits rules nest r []) false) e

-- a node whose list of steps is empty is the node without steps
pub without_steps : (terms : List Term) (s : SearchNode) (n : Node) → s.steps.items ≡ []
    → node_of terms
    (record { stage = s.world.now; network = s.net.now; steps = []; cost = s.cost; depth = s.depth }) ≡ n
    → node_in terms s ≡ n
without_steps terms s n e h =
    ap
    (λ ks. node_of terms
    (record { stage = s.world.now; network = s.net.now; steps = ks; cost = s.cost; depth = s.depth }))
    e
    ∙ h

-- a root is told by the node of its level
root_node : (l k : Level) (ls : List Level) → l.node ≡ k.node → root_of l ls ≡ root_of k ls
root_node l k [] e = e
root_node l k (j ∷ ls) e = refl

-- a successor that is no Did leaves as many Dids
dids_other : (x : Successor) (cs : List Successor) → dids_in (x ∷ []) ≡ 0 → dids_in (x ∷ cs) ≡ dids_in cs
dids_other x cs e = let a = dids_append (x ∷ []) cs in omega (arith, a, e)

-- a stack by its parts
abbrev stack_by : Level → List Level → Bool → Bool → Stack
stack_by l ls d o = record { top = l; above = ls; at_did = d; over = o }

module _ (rules : List Rule) (nest : ℕ) (terms : List Term) (m : SearchNode) (f : Frame) where
  -- a frame that opens is a level where nothing is given
  pub opened_level : Opens rules nest terms m f
      → level_of rules nest terms f ≡ level_by (node_in terms m) (successors rules nest (node_in terms m))
  opened_level opens = ap₂ level_by (ap (node_in terms) opens.node) opens.left

  -- it is a frame
  pub opened_frame : IsSearchNode (length terms) m → Opens rules nest terms m f → IsFrame rules nest terms f
  opened_frame fits opens = record {
    node = subst (IsSearchNode (length terms)) (sym opens.node) fits;
    agenda = subst (λ z. IsAgenda rules (length terms) z f.agenda) (sym opens.node) opens.agenda;
    dids =
        λ l.
        let none = ap (given_at rules nest) (opened_level opens) ∙ given_new rules nest (node_in terms m) in
        opens.dids ∙ ap (λ k. min k (2 ^ 64 - 1)) (sym none);
  }

module _ (s : Search) (h : IsSearch s) (new : List Term) (g : Grows s.cells new) (t : Frame)
    (node : t.node ≡ s.top.node) where
  node_is : node_in new t.node ≡ node_in s.cells s.top.node
  node_is = ap (node_in new) node ∙ node_stays s.cells new g (held s.top.node) h.top.node

  above_is : levels_of (rules_in_search s) s.nest new s.above.items ≡ (stack_of s).above
  above_is = levels_stay (rules_in_search s) s.nest s.cells new g s.above.items h.above

  above_grow : All (IsFrame (rules_in_search s) s.nest new) s.above.items
  above_grow =
      All-weaker (IsFrame (rules_in_search s) s.nest s.cells) (IsFrame (rules_in_search s) s.nest new)
      (frame_grows (rules_in_search s) s.nest s.cells new g) s.above.items h.above

  top_fits : IsSearchNode (length new) t.node
  top_fits =
      subst (IsSearchNode (length new)) (sym node) (node_grows s.cells new g (held s.top.node) h.top.node)

  -- the tree stays where terms are added and a successor is taken
  pub tree_stays : tree_in (record s { top = t; cells = new }) ≡ tree_in s
  tree_stays =
      ap (λ r. record { rules = rules_in_search s; nest = s.nest; root = r })
      (root_node (level_of (rules_in_search s) s.nest new t) (stack_of s).top
      (levels_of (rules_in_search s) s.nest new s.above.items) node_is
      ∙ ap (root_of (stack_of s).top) above_is)

  module _ (same : t.dids ≡ s.top.dids) (agenda : IsAgenda (rules_in_search s) (length new) t.node t.agenda) where
    top_is : level_of (rules_in_search s) s.nest new t
        ≡ with_left (stack_of s).top (left_of (rules_in_search s) s.nest new t)
    top_is = ap (λ n. level_by n (left_of (rules_in_search s) s.nest new t)) node_is

    module _ (x : Successor)
        (next : left_of (rules_in_search s) s.nest s.cells s.top ≡ x ∷ left_of (rules_in_search s) s.nest new t) where
      frame_other : dids_in (x ∷ []) ≡ 0 → IsFrame (rules_in_search s) s.nest new t
      frame_other none = record {
        node = top_fits;
        agenda = agenda;
        dids =
            λ l.
            let cs = left_of (rules_in_search s) s.nest new t in
            let many = ap dids_in next ∙ dids_other x cs none in
            same
            ∙ (h.top.dids (omega (arith, many, l))
            ∙ ap (λ k. min k (2 ^ 64 - 1))
            (sym (given_other (rules_in_search s) s.nest (stack_of s).top x cs next none h.stack.top.level)
            ∙ ap (given_at (rules_in_search s) s.nest) (sym top_is)));
      }

      -- a successor that is no Did is taken
      pub moves_left : (o : Bool) → s.over ≡ false → dids_in (x ∷ []) ≡ 0
          → taken (rules_in_search s) s.nest (stack_of s) x (left_of (rules_in_search s) s.nest new t)
          ≡ stack_by (with_left (stack_of s).top (left_of (rules_in_search s) s.nest new t)) (stack_of s).above false o
          → Moves s (Some (told_of x)) (record s { top = t; cells = new; at_did = false; over = o })
      moves_left o on none there =
          let rules = rules_in_search s in
          let cs = left_of rules s.nest new t in
          let step = step_next rules s.nest (stack_of s) x cs h.stack on next in
          let stack = ap₂ (λ l ls. stack_by l ls false o) top_is above_is ∙ sym there in
          record {
            answer = sym step.answer;
            stands = ap (standing_of rules s.nest) stack ∙ sym step.stands;
            search =
                record {
                  top = frame_other none;
                  above = above_grow;
                  stack = subst (IsStack rules s.nest) (sym stack) step.stack;
                  path = h.path ∙ ap (λ ls. told (path_to rules s.nest ls)) (sym above_is);
                  few = h.few;
                };
          }

    -- where there is no successor the search rests
    pub moves_none : s.over ≡ false
        → left_of (rules_in_search s) s.nest s.cells s.top ≡ left_of (rules_in_search s) s.nest new t
        → left_of (rules_in_search s) s.nest new t ≡ []
        → Moves s None (record s { top = t; cells = new; at_did = false })
    moves_none on next none =
        let rules = rules_in_search s in
        let cs = left_of rules s.nest new t in
        let (nothing, leads) = step_end rules s.nest (stack_of s) h.stack on (next ∙ none) in
        let stack = ap₂ (λ l ls. stack_by l ls false s.over)
        (top_is ∙ ap (with_left (stack_of s).top) (sym next)) above_is in
        record {
          answer = sym (ap (option_map step_of) nothing);
          stands = ap (standing_of rules s.nest) stack ∙ sym leads.stands;
          search =
              record {
                top =
                    record {
                      node = top_fits;
                      agenda = agenda;
                      dids = λ l. absurd (let few = ap dids_in none in omega (arith, few, l));
                    };
                above = above_grow;
                stack = subst (IsStack rules s.nest) (sym stack) leads.stack;
                path = h.path ∙ ap (λ ls. told (path_to rules s.nest ls)) (sym above_is);
                few = h.few;
              };
        }

    -- a Did is taken: the search goes down to it
    module _ (m : SearchNode) (fits : IsSearchNode (length new) m)
        (next : left_of (rules_in_search s) s.nest s.cells s.top
        ≡ TheChild (DidChild (node_in new m)) ∷ left_of (rules_in_search s) s.nest new t)
        (f : Frame) (opens : Opens (rules_in_search s) s.nest new m f) (above : Vec Frame Global)
        (pushed : above.items ≡ s.above.items ++ record t { dids = min (t.dids + 1) (2 ^ 64 - 1) } ∷ [])
        (path : Vec ℕ Global) (noted : path.items ≡ s.path.items ++ t.dids ∷ []) where
      number_is : t.dids ≡ min (given_at (rules_in_search s) s.nest (stack_of s).top) (2 ^ 64 - 1)
      number_is = let many = ap dids_in next in same ∙ h.top.dids (omega (arith, many))

      one_more : given_at (rules_in_search s) s.nest (level_of (rules_in_search s) s.nest new t)
          ≡ suc (given_at (rules_in_search s) s.nest (stack_of s).top)
      one_more =
          ap (given_at (rules_in_search s) s.nest) top_is
          ∙ given_did (rules_in_search s) s.nest (stack_of s).top (node_in new m)
          (left_of (rules_in_search s) s.nest new t) next h.stack.top.level

      frame_did : IsFrame (rules_in_search s) s.nest new (record t { dids = min (t.dids + 1) (2 ^ 64 - 1) })
      frame_did = record {
        node = top_fits;
        agenda = agenda;
        dids =
            λ l.
            let n = number_is in
            let e = one_more in
            (let k : min (t.dids + 1) (2 ^ 64 - 1)
            ≡ min (suc (given_at (rules_in_search s) s.nest (stack_of s).top)) (2 ^ 64 - 1) = omega (arith, n) in
            k ∙ ap (λ z. min z (2 ^ 64 - 1)) (sym e));
      }

      pushed_is : levels_of (rules_in_search s) s.nest new above.items
          ≡ with_left (stack_of s).top (left_of (rules_in_search s) s.nest new t) ∷ (stack_of s).above
      pushed_is =
          ap (levels_of (rules_in_search s) s.nest new) pushed
          ∙ (levels_push (rules_in_search s) s.nest new s.above.items
          (record t { dids = min (t.dids + 1) (2 ^ 64 - 1) })
          ∙ ap₂ ◌∷◌ top_is above_is)

      noted_is : path.items
          ≡ told (path_to (rules_in_search s) s.nest (levels_of (rules_in_search s) s.nest new above.items))
      noted_is =
          let rules = rules_in_search s in
          let j : given_at rules s.nest (with_left (stack_of s).top (left_of rules s.nest new t)) - 1
          ≡ given_at rules s.nest (stack_of s).top =
          (let e = given_did rules s.nest (stack_of s).top (node_in new m) (left_of rules s.nest new t) next
          h.stack.top.level in omega (arith, e)) in
          noted
          ∙ (ap₂ (λ xs i. xs ++ i ∷ []) h.path (number_is ∙ ap (λ k. min k (2 ^ 64 - 1)) (sym j))
          ∙ (sym (map-append (λ i. min i (2 ^ 64 - 1)) (path_to rules s.nest (stack_of s).above)
          ((given_at rules s.nest (with_left (stack_of s).top (left_of rules s.nest new t)) - 1) ∷ []))
          ∙ ap (λ ls. told (path_to rules s.nest ls)) (sym pushed_is)))

      -- and answers so
      pub moves_did : s.over ≡ false
          → Moves s (Some steps.Did) (record s { top = f; cells = new; above = above; path = path; at_did = true })
      moves_did on =
          let rules = rules_in_search s in
          let cs = left_of rules s.nest new t in
          let step = step_next rules s.nest (stack_of s) (TheChild (DidChild (node_in new m))) cs h.stack on next in
          let stack = ap₂ (λ l ls. stack_by l ls true s.over) (opened_level rules s.nest new m f opens) pushed_is in
          record {
            answer = sym step.answer;
            stands = ap (standing_of rules s.nest) stack ∙ sym step.stands;
            search =
                record {
                  top = opened_frame rules s.nest new m f fits opens;
                  above =
                      All-same (IsFrame rules s.nest new) above.items _ pushed
                      (All-append (IsFrame rules s.nest new) s.above.items _ above_grow
                      (All-cons (IsFrame rules s.nest new) _ [] frame_did (All-nil (IsFrame rules s.nest new))));
                  stack = subst (IsStack rules s.nest) (sym stack) step.stack;
                  path = noted_is;
                  few = h.few;
                };
          }

    -- the next successor is taken, whatever it is
    pub moves_on : s.over ≡ false → (next : Option made.Successor)
        → TakesSuccessor new next (left_of (rules_in_search s) s.nest s.cells s.top)
        (left_of (rules_in_search s) s.nest new t)
        → (o : Option Step) (last : Search) → IsTaken (record s { top = t; cells = new }) next o last
        → Moves s o last
    moves_on on None c o last (e, l) =
        subst (λ z. Moves s o z) (sym l) (subst (λ z. Moves s z (record s { top = t; cells = new; at_did = false }))
        (sym e)
        (moves_none on c.first (c.all refl)))
    moves_on on (Some nexts.Plan) c o last (e, l) =
        subst (λ z. Moves s o z) (sym l) (subst (λ z. Moves s z (record s { top = t; cells = new; at_did = false }))
        (sym e)
        (moves_left ThePlan c.first s.over on refl refl))
    moves_on on (Some (nexts.Child children.Cut)) c o last (e, l) =
        subst (λ z. Moves s o z) (sym l) (subst (λ z. Moves s z (record s { top = t; cells = new; at_did = false }))
        (sym e)
        (moves_left (TheChild CutChild) c.first s.over on refl refl))
    moves_on on (Some (nexts.Child (children.Fault f))) c o last (e, l) =
        subst (λ z. Moves s o z) (sym l)
        (subst (λ z. Moves s z (record s { top = t; cells = new; at_did = false; over = true })) (sym e)
        (moves_left (TheChild (FaultChild f)) c.first true on refl refl))
    moves_on on (Some (nexts.Child (children.Did m))) c o last (e, l) =
        subst (λ z. Moves s o z) (sym l.same)
        (subst (λ z. Moves s z (record s {
          top = last.top;
          cells = new;
          above = last.above;
          path = last.path;
          at_did
              = true;
        }))
        (sym e)
        (moves_did m c.fits c.first last.top (l.top new c.fits) last.above l.above last.path l.path on))

-- after a fault the search rests
pub moves_over : (s : Search) → IsSearch s → s.over ≡ true → Moves s None (record s { at_did = false })
moves_over s h over =
    let rules = rules_in_search s in
    let (nothing, leads) = step_over rules s.nest (stack_of s) h.stack over in
    record {
      answer = sym (ap (option_map step_of) nothing);
      stands = sym leads.stands;
      search = record { top = h.top; above = h.above; stack = leads.stack; path = h.path; few = h.few };
    }

-- ---- the other calls

-- all but the last of a list with one more
prefix_push : {X : Type 0} (xs : List X) (x : X) → take (length (xs ++ x ∷ []) - 1) (xs ++ x ∷ []) ≡ xs
prefix_push xs x =
    let l = length-append xs (x ∷ []) in
    let n : length (xs ++ x ∷ []) - 1 ≡ length xs = omega (arith, l) in
    ap (λ k. take k (xs ++ x ∷ [])) n ∙ take-append_seam xs (x ∷ [])

-- going back leads to the frame above
pub goes_back : (s : Search) → IsSearch s
    → (f : Frame) (fs : List Frame) (above : Vec Frame Global) (path : Vec ℕ Global)
    → s.above.items ≡ fs ++ f ∷ [] → above.items ≡ fs
    → path.items ≡ take (length s.path.items - 1) s.path.items
    → next_below (stands_in s).path (stands_in s).rest ≡ None
    → Goes s (gone_back (stands_in s)) (record s { top = f; above = above; path = path; at_did = false })
goes_back s h f fs above path pushed is shorter e =
    let rules = rules_in_search s in
    let l = level_of rules s.nest s.cells f in
    let ls = levels_of rules s.nest s.cells fs in
    let split = ap (levels_of rules s.nest s.cells) pushed ∙ levels_push rules s.nest s.cells fs f in
    let leads = back_to rules s.nest (stack_of s).top l ls s.at_did s.over (stack_of s)
    (ap (λ ks. stack_by (stack_of s).top ks s.at_did s.over) split) h.stack e in
    let same = ap (levels_of rules s.nest s.cells) is in
    let stack = ap (λ ks. stack_by l ks false s.over) same in
    let frames = All-same (IsFrame rules s.nest s.cells) (fs ++ f ∷ []) s.above.items (sym pushed) h.above in
    let told_is = h.path ∙ (ap (λ ks. told (path_to rules s.nest ks)) split
    ∙ map-append (λ i. min i (2 ^ 64 - 1)) (path_to rules s.nest ls) ((given_at rules s.nest l - 1) ∷ [])) in
    record {
      stands = ap (standing_of rules s.nest) stack ∙ sym leads.stands;
      tree =
          ap (λ r. record { rules = rules; nest = s.nest; root = r })
          (ap (root_of l) same ∙ leads.root);
      search =
          record {
            top = All-head (IsFrame rules s.nest s.cells) f [] (all_right (IsFrame rules s.nest s.cells) fs
                (f ∷ []) frames);
            above =
                All-same (IsFrame rules s.nest s.cells) above.items fs is
                (all_left (IsFrame rules s.nest s.cells) fs (f ∷ []) frames);
            stack = subst (IsStack rules s.nest) (sym stack) leads.stack;
            path =
                shorter
                ∙ (ap (λ xs. take (length xs - 1) xs) told_is
                ∙ (prefix_push (told (path_to rules s.nest ls)) (min (given_at rules s.nest l - 1) (2 ^ 64 - 1))
                ∙ ap (λ ks. told (path_to rules s.nest ks)) (sym same)));
            few = h.few;
          };
    }

-- at the root there is no frame above
pub back_at_root : (s : Search) → s.above.items ≡ [] → (stands_in s).path ≡ []
back_at_root s e = ap (λ fs. path_to (rules_in_search s) s.nest (levels_of (rules_in_search s) s.nest s.cells fs)) e

-- pruning leaves nothing at the frame reached
pub goes_pruned : (s : Search) → IsSearch s → s.at_did ≡ true → (n : ℕ) → n ≡ length s.top.agenda.queue.candidates.items
    → Goes s (pruned (stands_in s)) (record s {
      top = record s.top {
        end = None;
        agenda = record { «open» = None; queue = record s.top.agenda.queue { at = n } };
      };
      at_did = false;
    })
goes_pruned s h did n is =
    let rules = rules_in_search s in
    let t = record s.top {
      end = None;
      agenda = record { «open» = None; queue = record s.top.agenda.queue { at = n } };
    } in
    let none : left_of rules s.nest s.cells t ≡ [] =
    ap (λ ks. map TheChild (by_candidates rules s.nest (node_in s.cells s.top.node) s.top.node.net.now ks
    s.top.agenda.queue.tried)) (drop_all n s.top.agenda.queue.candidates.items (omega (arith, is))) in
    let leads = pruned_to rules s.nest (stack_of s) h.stack did in
    let stack = ap (λ cs. stack_by (with_left (stack_of s).top cs) (stack_of s).above false s.over) none in
    record {
      stands = ap (standing_of rules s.nest) stack ∙ sym leads.stands;
      tree =
          ap (λ r. record { rules = rules; nest = s.nest; root = r })
          (root_node (level_of rules s.nest s.cells t) (stack_of s).top (stack_of s).above refl);
      search =
          record {
            top =
                record {
                  node = h.top.node;
                  agenda =
                      record {
                        choice = tt;
                        queue =
                            record {
                              candidates = h.top.agenda.queue.candidates;
                              tried = h.top.agenda.queue.tried;
                              deep = λ l. absurd (omega (arith, is, l));
                            };
                      };
                  dids = λ l. absurd (let few = ap dids_in none in omega (arith, few, l));
                };
            above = h.above;
            stack = subst (IsStack rules s.nest) (sym stack) leads.stack;
            path = h.path;
            few = h.few;
          };
    }

-- ---- the beginning of a search

begin_stack : (rules : List Rule) (nest : ℕ) (n : Node)
    → IsStack rules nest (stack_by (level_by n (successors rules nest n)) [] false false)
unfolding node_at
begin_stack rules nest n = record {
  top = record { level = level_new rules nest n; there = refl };
  above = tt;
  fresh = λ k. absurd (let never : false ≡ true = k in cc);
}

begin_stands : (rules : List Rule) (nest : ℕ) (n : Node)
    → standing_of rules nest (stack_by (level_by n (successors rules nest n)) [] false false)
    ≡ standing [] (visits rules nest n []) false
begin_stands rules nest n =
    ap (λ vs. standing [] vs false)
    (append-nil (visits_of rules nest n [] (given_at rules nest (level_by n (successors rules nest n)))
    (successors rules nest n))
    ∙ (ap (λ k. visits_of rules nest n [] k (successors rules nest n)) (given_new rules nest n)
    ∙ sym (visits_split rules nest n [])))

-- a search of one frame that opens begins at the frame's node
pub search_begins : (s : Search) (node : SearchNode) → IsSearchNode (length s.cells) node
    → Opens (rules_in_search s) s.nest s.cells node s.top → All HasFewVariables (rules_in_search s) → s.above.items ≡ []
    → s.path.items ≡ [] → s.at_did ≡ false → s.over ≡ false
    → BeginsAt (rules_in_search s) s.nest (node_in s.cells node) s
search_begins s node fits opens few above path did on =
    let rules = rules_in_search s in
    let n = node_in s.cells node in
    let level = opened_level rules s.nest s.cells node s.top opens in
    let levels : levels_of rules s.nest s.cells s.above.items ≡ [] = ap (levels_of rules s.nest s.cells) above in
    let stack = ap₂ (λ l ls. stack_by l ls s.at_did s.over) level levels
    ∙ ap₂ (λ d o. stack_by (level_by n (successors rules s.nest n)) [] d o) did on in
    record {
      tree =
          ap (λ (k : Stack). record { rules = rules; nest = s.nest; root = root_of k.top k.above }) stack;
      stands = ap (standing_of rules s.nest) stack ∙ begin_stands rules s.nest n;
      search =
          record {
            top = opened_frame rules s.nest s.cells node s.top fits opens;
            above =
                All-same (IsFrame rules s.nest s.cells) s.above.items [] above (All-nil (IsFrame rules s.nest s.cells));
            stack = subst (IsStack rules s.nest) (sym stack) (begin_stack rules s.nest n);
            path = path ∙ ap (λ ls. told (path_to rules s.nest ls)) (sym levels);
            few = few;
          };
    }

-- where rules have few variables, axioms do
pub few_axioms : (rules : List Rule) → All HasFewVariables rules → AreFew (axioms_of rules)
few_axioms [] h = All-nil (λ x. length x.vars ≤ MOST_VARIABLES)
few_axioms (Does o ∷ rs) h = few_axioms rs (All-tail HasFewVariables (Does o) rs h)
few_axioms (Refines m ∷ rs) h = few_axioms rs (All-tail HasFewVariables (Refines m) rs h)
few_axioms (Concludes x ∷ rs) h =
    All-cons (λ x. length x.vars ≤ MOST_VARIABLES) x (axioms_of rs) (All-head HasFewVariables (Concludes x) rs h)
    (few_axioms rs (All-tail HasFewVariables (Concludes x) rs h))
