-- The decompositions that led to the node reached, as the frames on the path tell them.
use Rattle.std.proofs.Common.{◌≡◌, ◌≢◌, ℕ, suc, ◌+◌, ◌-◌, ◌<◌, ◌≤◌, Bool, true, get_or, List, [], ◌∷◌, ◌++◌, length}
use Rattle.std.proofs.Common.{Some, None, is_some, refl, sym, ◌∙◌, ap, subst, arith}
use Rattle.std.specs.Prelude.{Box, Contains, slice_get}
use Rattle.std.proofs.lemmas.List.{length-append}
use Rattle.std.proofs.lemmas.List.Elements.{Contains-append_left, Contains-push}
use Rattle.std.proofs.lemmas.Option.{slice_get-get_or}
use Rattle.std.specs.Global.{Global}
use Rattle.hp_syntax.specs.Terms.{Term}
use Rattle.hp_syntax.specs.Walk.{Child, DidChild, Node, node_at, rule_children}
use Rattle.hp_code.specs.CodeViews.{rules_in}
use Rattle.hp_net.specs.Standings.{parent}
use Rattle.hp_suspended.specs.SceneViews.{code_in}
use Rattle.hp_eval.specs.GoalViews.{term_at}
use Rattle.hp_tree.specs.Children.{place_in}
use Rattle.hp_tree.specs.SearchNodes.{node_of}
use Rattle.hp_tree.specs.Stacks.{AreReached, given_at, path_to}
use Rattle.hp_site.specs.declared.mark.Mark.{Mark}
use Rattle.hp_site.specs.declared.site.Site.{Site}
use Rattle.hp_site.specs.Sites.{held_at}
use Rattle.hp_choice.specs.declared.choice.Choice.{Choice}
use Rattle.hp_agenda.specs.Begun.{ChoiceGave, LastGiven}
use Rattle.hp_agenda.specs.Queues.{IsOpen, MaybeOpen, rule_of}
use Rattle.hp_agenda.specs.Frames.{IsFrame, level_of}
use Rattle.hp_agenda.specs.declared.frame.Frame.{Frame}
use Rattle.hp_search.specs.declared.search.Search.{Search}
use Rattle.hp_search.specs.Led.{IsLed, IsLedAt, LedTo, TellsDecomposition}
use Rattle.hp_search.specs.Planned.{planned}
use Rattle.hp_search.specs.Searches.{IsSearch, levels_of, rules_in_search, stack_of, stands_in, tree_in}
use Rattle.hp_search.proofs.BackSteps.{back_at_root, came_first, lead_first}
use Rattle.hp_search.proofs.FrameLevels.{levels_push}
use Rattle.hp_search.proofs.LedSteps.{rule_leads}
use Rattle.hp_search.proofs.MarkSteps.{has_marks}
use Rattle.hp_search.proofs.PathFrames.{child_there, floor_within, frame_there, mark_above, mark_next}

-- a path without its last number
parent_push : (p : List ℕ) (j : ℕ) → parent (p ++ j ∷ []) ≡ p
parent_push [] j = refl
parent_push (i ∷ []) j = refl
parent_push (i ∷ k ∷ p) j = ap (λ q. i ∷ q) (parent_push (k ∷ p) j)

-- a path with a number isn't empty
not_empty : (p : List ℕ) (j : ℕ) → p ++ j ∷ [] ≢ []
not_empty p j e = let a = ap length e in let b = length-append p (j ∷ []) in omega (arith, a, b)

-- ---- a frame, and the moment of the next node on the path

-- the task of a choice that is open at a frame is below what the frame needs
task_below : (site : Site) (nest : ℕ) (terms : List Term) (n : ℕ) (f : Frame) (x : Box Choice Global)
    → IsFrame site nest terms n f → f.agenda.open ≡ Some x → x.value.task < n
task_below site nest terms n f x frame is =
    let opened : IsOpen site.scene terms f.base n (held_at site f.mark) x.value =
    subst (MaybeOpen site.scene terms f.base n (held_at site f.mark)) is frame.agenda.choice in
    opened.choice.task

module _ (s : Search) (f : Frame) (m : Mark)
    (last : LastGiven s.site.scene s.nest s.cells (held_at s.site f.mark) f.agenda.queue.at f.agenda.open
    (DidChild (node_of s.cells (held_at s.site m)) ∷ [])) where
  abbrev own_node : Node
  own_node = node_of s.cells (held_at s.site f.mark)

  abbrev own_child : Node
  own_child = node_of s.cells (held_at s.site m)

  -- a choice is open there
  pub open_there : f.agenda.open ≡ None → ⊥
  open_there none =
      let given = subst (λ o. LastGiven s.site.scene s.nest s.cells (held_at s.site f.mark) f.agenda.queue.at o
      (DidChild own_child ∷ [])) none last in
      let long = ap length given in
      omega (arith, long)

  module _ (x : Box Choice Global) (is : f.agenda.open ≡ Some x) where
    gave : (earlier : List Child)
        × ChoiceGave s.site.scene s.nest s.cells (held_at s.site f.mark) f.agenda.queue.at x.value
        (earlier ++ DidChild own_child ∷ [])
    gave =
        subst (λ o. LastGiven s.site.scene s.nest s.cells (held_at s.site f.mark) f.agenda.queue.at o
        (DidChild own_child ∷ [])) is last

    -- its rule is one of the code
    pub gave_rule : is_some (rule_of (code_in s.site.scene) x.value.rule) ≡ true
    gave_rule = ap is_some gave.1.is

    -- with the place of the rule, the candidate and the branch lead to the next node
    gave_leads : (place : ℕ)
        → slice_get (rules_in (code_in s.site.scene)) place ≡ rule_of (code_in s.site.scene) x.value.rule
        → LedTo (rules_in_search s) s.nest s.cells own_node own_child
        (record { candidate = f.agenda.queue.at; task = x.value.task; rule = place; branch = x.value.branch })
    gave_leads place there =
        let own = gave.1 in
        let known = there ∙ own.is in
        let given : Contains (rule_children (rules_in_search s) s.nest own_node
        (place_in (held_at s.site f.mark).network x.value.id) (term_at s.cells x.value.task) own.own)
        (DidChild own_child) =
        subst (λ cs. Contains cs (DidChild own_child)) (sym own.children)
        (Contains-append_left (gave.0 ++ DidChild own_child ∷ []) _ (DidChild own_child)
        (Contains-push gave.0 (DidChild own_child))) in
        let led = rule_leads (rules_in_search s) s.nest f.agenda.queue.at place own_node own_child
        (place_in (held_at s.site f.mark).network x.value.id) (term_at s.cells x.value.task) own.next own.own
        known given in
        record {
          event = led.event;
          leads = led.leads;
          place = place_in (held_at s.site f.mark).network x.value.id;
          next = own.next;
          own = own.own;
          is = known;
          serves = own.serves;
        }

-- ---- the frame of the parent

module _ (s : Search) (h : IsSearch s) (f : Frame) (fs : List Frame) (pushed : s.above.items ≡ fs ++ f ∷ []) where
  -- the last child that was given there is the node reached
  pub open_last : LastGiven s.site.scene s.nest s.cells (held_at s.site f.mark) f.agenda.queue.at f.agenda.open
      (DidChild (node_of s.cells (held_at s.site s.top.mark)) ∷ [])
  open_last = (came_first s h f fs pushed).0.given

  pub is_led : (x : Box Choice Global) → f.agenda.open ≡ Some x → (live : Bool) (place : ℕ)
      → slice_get (rules_in (code_in s.site.scene)) place ≡ rule_of (code_in s.site.scene) x.value.rule
      → IsLed (planned s live)
      (record { candidate = f.agenda.queue.at; task = x.value.task; rule = place; branch = x.value.branch })
  is_led x is live place there =
      let rules = rules_in_search s in
      let l = level_of s.site s.nest s.cells f in
      let ls = levels_of s.site s.nest s.cells fs in
      let split : (stack_of s).above ≡ l ∷ ls =
      ap (levels_of s.site s.nest s.cells) pushed ∙ levels_push s.site s.nest s.cells fs f in
      let path : (stands_in s).path ≡ path_to rules s.nest ls ++ (given_at rules s.nest l - 1) ∷ [] =
      ap (path_to rules s.nest) split in
      let reached = subst (AreReached rules s.nest (tree_in s).root) split h.stack.above in
      let lead = lead_first s h f fs pushed in
      let low : x.value.task < f.floor = task_below s.site s.nest s.cells f.floor f x lead.0 is in
      let high : f.floor ≤ s.top.base = lead.2 in
      let all : s.top.base ≤ length s.cells = h.top.base in
      record {
        below = λ e. not_empty (path_to rules s.nest ls) (given_at rules s.nest l - 1) (sym path ∙ e);
        above = node_of s.cells (held_at s.site f.mark);
        there =
            ap (λ p. node_at rules s.nest (tree_in s).root (parent p)) path
            ∙ (ap (node_at rules s.nest (tree_in s).root)
            (parent_push (path_to rules s.nest ls) (given_at rules s.nest l - 1)) ∙ reached.0.there);
        reached = node_of s.cells (held_at s.site s.top.mark);
        here = h.stack.top.there;
        led = gave_leads s f s.top.mark open_last x is place there;
        named = omega arith;
      }

-- ---- a frame on the path

module _ (s : Search) (h : IsSearch s) (k : ℕ) (f : Frame) (stands : slice_get s.above.items k ≡ Some f) where
  -- the last child that was given there is the next node on the path
  pub last_there : LastGiven s.site.scene s.nest s.cells (held_at s.site f.mark) f.agenda.queue.at f.agenda.open
      (DidChild (node_of s.cells (held_at s.site (child_there s h k f stands).mark)) ∷ [])
  last_there = (child_there s h k f stands).last.given

  pub is_led_at : (x : Box Choice Global) → f.agenda.open ≡ Some x → (live : Bool) (place : ℕ)
      → slice_get (rules_in (code_in s.site.scene)) place ≡ rule_of (code_in s.site.scene) x.value.rule
      → IsLedAt (planned s live) k
      (record { candidate = f.agenda.queue.at; task = x.value.task; rule = place; branch = x.value.branch })
  is_led_at x is live place there =
      let marks = has_marks s live h in
      let low : x.value.task < f.floor =
      task_below s.site s.nest s.cells f.floor f x (frame_there s h k f stands).0 is in
      let high : f.floor ≤ length s.cells = floor_within s h k f stands in
      record {
        above = node_of s.cells (held_at s.site f.mark);
        there = marks.nodes k f.mark (mark_above s live k f stands);
        reached = node_of s.cells (held_at s.site (child_there s h k f stands).mark);
        here = marks.nodes (k + 1) (child_there s h k f stands).mark (mark_next s h k f stands live);
        led = gave_leads s f (child_there s h k f stands).mark last_there x is place there;
        named = omega arith;
      }

-- without frames above the path is empty
pub none_led : (s : Search) (live : Bool) → s.above.items ≡ [] → TellsDecomposition (planned s live) None
none_led s live none = back_at_root s none

-- ---- the last frame

-- with one more before it, a list still is something and its last element
last_later : {A : Type 0} (y x : A) (xs : List A) → (ys : List A) × (xs ≡ ys ++ x ∷ [])
    → (ys : List A) × (y ∷ xs ≡ ys ++ x ∷ [])
last_later y x xs (ys, e) = (y ∷ ys, ap (λ ws. y ∷ ws) e)

-- a list is what stands before its last element, and that
pub last_split : {A : Type 0} (xs : List A) (x : A) → slice_get xs (length xs - 1) ≡ Some x
    → (ys : List A) × (xs ≡ ys ++ x ∷ [])
last_split [] x e = absurd cc
last_split (y ∷ []) x e = ([], ap (λ z. z ∷ []) cc)
last_split (y ∷ z ∷ zs) x e =
    let n : length (y ∷ z ∷ zs) - 1 ≡ suc (length (z ∷ zs) - 1) = omega arith in
    let same : slice_get (z ∷ zs) (length (z ∷ zs) - 1) ≡ slice_get (y ∷ z ∷ zs) (length (y ∷ z ∷ zs) - 1) =
    ap (slice_get (y ∷ z ∷ zs)) (sym n) in
    last_later y x (z ∷ zs) (last_split (z ∷ zs) x (same ∙ e))

-- without a last element it is empty
pub last_none : {A : Type 0} (xs : List A) → slice_get xs (length xs - 1) ≡ None → xs ≡ []
last_none [] e = refl
last_none (x ∷ xs) e =
    let there = slice_get-get_or (x ∷ xs) (length (x ∷ xs) - 1) x (omega arith) in
    absurd (let both : Some (get_or (x ∷ xs) (length (x ∷ xs) - 1) x) ≡ None = sym there ∙ e in cc)
