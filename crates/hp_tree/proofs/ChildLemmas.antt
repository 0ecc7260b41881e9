-- The children of a node by candidates, by rules and by events.
use Rattle.std.proofs.Common.{◌≡◌, ℕ, ◌+◌, ◌<◌, ◌≤◌, ℤ, List, [], ◌∷◌, ◌++◌, length, map, drop, get_or, Option, Some, None, Result, Ok, refl, sym, ◌∙◌, ap, ap₂, append_assoc}
use Rattle.std.specs.List.{All}
use Rattle.std.specs.Option.{option_map_or}
use Rattle.std.specs.Prelude.{flat_map, slice_get}
use Rattle.std.proofs.lemmas.List.{drop_all}
use Rattle.std.proofs.lemmas.List.Elements.{All-nil, All-cons, All-head, All-tail}
use Rattle.std.proofs.lemmas.Option.{get_or_from_slice_get, slice_get_within}
use Rattle.hp_syntax.specs.declared.fault.RunFault.{RunFault}
use Rattle.hp_syntax.specs.Changes as changes
use Rattle.hp_syntax.specs.Events.{Event, axioms_of}
use Rattle.hp_syntax.specs.Networks.{Network, Empty, Task, Ordered, Unordered, Place, part_at, candidates}
use Rattle.hp_syntax.specs.Preconditions.{precondition_events}
use Rattle.hp_syntax.specs.Syntax.{Branch, Operator, Rule}
use Rattle.hp_syntax.specs.Terms.{Term}
use Rattle.hp_syntax.specs.Values.{Bindings}
use Rattle.hp_syntax.specs.Walk.{Node, child_of, operated, after_effects, decomposed, branch_children, operator_children, task_children, children}
use Rattle.hp_eval.proofs.Loops.{left_more}
use Rattle.hp_links.specs.Linked.{Linked, NamesTask, place_of}
use Rattle.hp_laws.specs.RulesByName.{relevant_to}
use Rattle.hp_laws.proofs.RuleNameLemmas.{relevant_give}
use Rattle.hp_tree.specs.Children.{place_or_whole, place_in, IsCandidate, branch_done, task_by, one_by, relevant_by, by_candidates}

-- ---- candidates

-- ids that name places stand there
places_are : (net : Linked) (ids : List ℕ) (ps : List Place) → map (place_of net) ids ≡ map Some ps
    → map (place_in net) ids ≡ ps
places_are net [] [] h = refl
places_are net [] (p ∷ ps) h = absurd cc
places_are net (i ∷ ids) [] h = absurd cc
places_are net (i ∷ ids) (p ∷ ps) h =
    let e : place_of net i ≡ Some p = cc in
    let t : map (place_of net) ids ≡ map Some ps = cc in
    ap₂ ◌∷◌ (ap place_or_whole e) (places_are net ids ps t)

-- ids that name tasks and places are candidates
pub candidates_are : (net : Linked) (ids : List ℕ) (ps : List Place) → All (NamesTask net) ids
    → map (place_of net) ids ≡ map Some ps → All (IsCandidate net) ids
candidates_are net [] ps n h = All-nil (IsCandidate net)
candidates_are net (i ∷ ids) [] n h = absurd cc
candidates_are net (i ∷ ids) (p ∷ ps) n h =
    let e : place_of net i ≡ Some p = cc in
    let t : map (place_of net) ids ≡ map Some ps = cc in
    All-cons (IsCandidate net) i ids
    (record {
      names = All-head (NamesTask net) i ids n;
      stands = e ∙ ap (λ z. Some (place_or_whole z)) (sym e);
    })
    (candidates_are net ids ps (All-tail (NamesTask net) i ids n) t)

module _ (rules : List Rule) (nest : ℕ) where
  -- the rules relevant to a part of a network give all its children
  by_relevant : (n : Node) (p : Place) (o : Option Network)
      → relevant_by rules nest n p o 0 ≡ task_children rules nest n p o
  by_relevant n p None = refl
  by_relevant n p (Some Empty) = refl
  by_relevant n p (Some (Task t i)) = relevant_give rules nest n p t rules
  by_relevant n p (Some (Ordered ns)) = refl
  by_relevant n p (Some (Unordered ns)) = refl

  by_places : (n : Node) (net : Linked) (ids : List ℕ)
      → by_candidates rules nest n net ids 0
      ≡ flat_map (λ p. task_children rules nest n p (part_at n.network p)) (map (place_in net) ids)
  by_places n net [] = refl
  by_places n net (i ∷ ids) =
      ap₂ ◌++◌ (by_relevant n (place_in net i) (part_at n.network (place_in net i))) (by_places n net ids)

  -- the children by all candidates are those of the node
  pub by_all : (n : Node) (net : Linked) (ids : List ℕ)
      → map (place_of net) ids ≡ map Some (candidates n.network n.focus)
      → by_candidates rules nest n net ids 0 ≡ children rules nest n
  unfolding children
  by_all n net ids h =
      by_places n net ids
      ∙ ap (flat_map (λ p. task_children rules nest n p (part_at n.network p)))
      (places_are net ids (candidates n.network n.focus) h)

  -- ---- the next rule and the next candidate

  -- of the rules that are left the next is looked at first
  rules_next : (n : Node) (p : Place) (part : Option Network) (r : Rule) (rs : List Rule)
      → task_by rules nest n p part (r ∷ rs) ≡ one_by rules nest n p part (Some r) ++ task_by rules nest n p part rs
  rules_next n p None r rs = refl
  rules_next n p (Some Empty) r rs = refl
  rules_next n p (Some (Task t i)) r rs = refl
  rules_next n p (Some (Ordered ns)) r rs = refl
  rules_next n p (Some (Unordered ns)) r rs = refl

  -- where none is left there are no children
  rules_end : (n : Node) (p : Place) (part : Option Network) → task_by rules nest n p part [] ≡ []
  rules_end n p None = refl
  rules_end n p (Some Empty) = refl
  rules_end n p (Some (Task t i)) = refl
  rules_end n p (Some (Ordered ns)) = refl
  rules_end n p (Some (Unordered ns)) = refl

  module _ (n : Node) (net : Linked) (cs : List ℕ) (at c : ℕ) (within : at < length cs) (is : c ≡ get_or cs at c)
    where
      -- the children by the next candidate and the next rule that is relevant to it are first
      pub candidate_next : (k place : ℕ) (r : Rule)
          → slice_get (relevant_to (part_at n.network (place_in net c)) rules) k ≡ Some r
          → slice_get rules place ≡ Some r
          → by_candidates rules nest n net (drop at cs) k
          ≡ one_by rules nest n (place_in net c) (part_at n.network (place_in net c)) (slice_get rules place)
          ++ by_candidates rules nest n net (drop at cs) (k + 1)
      candidate_next k place r e there =
          let p = place_in net c in
          let part = part_at n.network p in
          let own = relevant_to part rules in
          let next = left_more cs at c within is in
          let rest = by_candidates rules nest n net (drop (at + 1) cs) 0 in
          ap (λ ks. by_candidates rules nest n net ks k) next
          ∙ (ap (λ rs. task_by rules nest n p part rs ++ rest)
          (left_more own k r (slice_get_within own k r e) (sym (get_or_from_slice_get own k r r e)))
          ∙ (ap (λ xs. xs ++ rest) (rules_next n p part r (drop (k + 1) own))
          ∙ (append_assoc (one_by rules nest n p part (Some r)) (relevant_by rules nest n p part (k + 1)) rest
          ∙ ap₂ (λ o ks. one_by rules nest n p part o ++ by_candidates rules nest n net ks (k + 1)) (sym there)
          (sym next))))

      -- where no such rule is left, those by the others are
      pub candidate_done : (k : ℕ) → length (relevant_to (part_at n.network (place_in net c)) rules) ≤ k
          → by_candidates rules nest n net (drop at cs) k ≡ by_candidates rules nest n net (drop (at + 1) cs) 0
      candidate_done k l =
          let p = place_in net c in
          let part = part_at n.network p in
          let rest = by_candidates rules nest n net (drop (at + 1) cs) 0 in
          ap (λ ks. by_candidates rules nest n net ks k) (left_more cs at c within is)
          ∙ (ap (λ rs. task_by rules nest n p part rs ++ rest) (drop_all k (relevant_to part rules) l)
          ∙ ap (λ xs. xs ++ rest) (rules_end n p part))

-- ---- events

-- the children by an operator are those that its precondition's events give
pub operator_met : (rules : List Rule) (nest : ℕ) (n : Node) (p : Place) (t : Term) (o : Operator) (m : Option Bindings)
    → flat_map (child_of (λ b. after_effects n p t (changes.effects (axioms_of rules) nest n.state o b)))
    (option_map_or (precondition_events (axioms_of rules) nest n.state o.pre) m [])
    ≡ operator_children rules nest n p t o m
operator_met rules nest n p t o None = refl
operator_met rules nest n p t o (Some e) = refl

-- the events of the branch that is chosen give its children
pub branch_chosen : (n : Node) (p : Place) (branches : List Branch) (i : ℕ) (b : Branch) (xs : List Event)
    (whole : Option (Branch × List Event)) → slice_get branches i ≡ Some b → whole ≡ Some (b, xs)
    → flat_map (child_of (branch_done n p (slice_get branches i))) xs ≡ branch_children n p whole
branch_chosen n p branches i b xs whole e h =
    ap (λ o. flat_map (child_of (branch_done n p o)) xs) e ∙ sym (ap (branch_children n p) h)

module _ (n m : Node) (p : Place) (same : n ≡ m) where
  -- changes and a cost that an operator's effects go into give the children that the effects give
  pub after_went : (t u : Term) (c : changes.Changes) (cost : ℤ) (g : changes.Going (changes.Changes × ℤ)) → t ≡ u
      → g ≡ changes.Went (c, cost)
      → operated n p t cost (changes.apply n.state n.guards c) ≡ after_effects m p u g
  after_went t u c cost g e h =
      ap₂ (λ k v. after_effects k p v (changes.Went (c, cost))) same e ∙ ap (after_effects m p u) (sym h)

  -- subtasks that are the value of tasks give the children that the tasks give
  pub decomposed_value : (sub : Network) (r : Result Network RunFault) → r ≡ Ok sub
      → decomposed n p (Ok sub) ≡ decomposed m p r
  decomposed_value sub r h = ap (λ k. decomposed k p (Ok sub)) same ∙ ap (decomposed m p) (sym h)
