-- Where the Dids among the children of a node come from: each is led to by one choice, and each choice is there.
use Rattle.std.proofs.Common.{◌≡◌, ℕ, ◌-◌, ◌<◌, ℤ, Bool, List, [], ◌∷◌, ◌++◌, length, Option, Some, None, Result, Ok, Err, refl, sym, ◌∙◌, ap, ap₂, subst, ◌⊎◌, inl, inr}
use Rattle.std.specs.Prelude.{◌+ℤ◌, Contains, slice_get, flat_map}
use Rattle.hp_syntax.specs.declared.fault.RunFault.{RunFault}
use Rattle.hp_syntax.specs.Syntax.{Operator, Branch, Rule, Does, Refines, Concludes}
use Rattle.hp_syntax.specs.Terms.{Term}
use Rattle.hp_syntax.specs.Values.{Bindings, unbound}
use Rattle.hp_syntax.specs.Matching.{match_atom}
use Rattle.hp_syntax.specs.Events.{Event, Sat, Cut, Fault, State, axioms_of}
use Rattle.hp_syntax.specs.Preconditions.{precondition_events}
use Rattle.hp_syntax.specs.Networks.{Network, Empty, Task, Ordered, Unordered, Place, tasks_value, normal, part_at, candidates, finish, expand}
use Rattle.hp_syntax.specs.Changes.{Changes, Applied, Going, Went, CutShort, Failed, apply, effects}
use Rattle.hp_syntax.specs.Applying.{Now, Guarded}
use Rattle.hp_syntax.specs.Walk as walk
use Rattle.hp_laws.specs.Derivations.{situation, situation_at, Choosing, IsNext, node_in, Leads, ByStep, BySubtasks, IsEarlier}
use Rattle.hp_laws.proofs.Listings.{Listing, Joined, IsOther, restated, no_listing, one_listing, option_listing, join_listing, map_has, has_mapped}

-- ---- events

-- an event is a Sat, of which something holds
abbrev OfEvent : (Bindings → walk.Node → Type 0) → Event → Unit {0} → walk.Node → Type 0
OfEvent S x l m = (b : Bindings) × (x ≡ Sat b) × S b m

-- a Did of an event is one of its Sat's
of_event : (S : Bindings → walk.Node → Type 0) (f : Bindings → List walk.Child)
    → ((b : Bindings) → Listing IsOther (λ l m. S b m) (f b)) → (x : Event)
    → Listing IsOther (OfEvent S x) (walk.child_of f x)
of_event S f g (Sat e) =
    restated IsOther (λ l m. S e m) (OfEvent S (Sat e)) (f e) (λ l m h. (e, refl, h))
    (λ l m (b, q, h). let w : e ≡ b = cc in subst (λ z. S z m) (sym w) h) (g e)
of_event S f g Cut = one_listing (OfEvent S Cut tt) walk.CutChild (λ m e. absurd cc) (λ m (b, q, h). absurd cc)
of_event S f g (Fault x) =
    one_listing (OfEvent S (Fault x) tt) (walk.FaultChild x) (λ m e. absurd cc) (λ m (b, q, h). absurd cc)

-- one of a list of events is a Sat, of which something holds
abbrev OfEvents : (Bindings → walk.Node → Type 0) → List Event → ℕ → walk.Node → Type 0
OfEvents S xs k m = (b : Bindings) × (slice_get xs k ≡ Some (Sat b)) × S b m

-- an event is told by its number
abbrev by_number : ℕ → Unit {0} → ℕ
by_number k l = k

-- so a Did of a list of events has the number of a Sat
of_events : (S : Bindings → walk.Node → Type 0) (f : Bindings → List walk.Child)
    → ((b : Bindings) → Listing IsOther (λ l m. S b m) (f b)) → (xs : List Event)
    → Listing (λ i j. i < j) (OfEvents S xs) (flat_map (walk.child_of f) xs)
of_events S f g xs =
    restated (λ i j. i < j) (Joined by_number (OfEvent S) xs) (OfEvents S xs) (flat_map (walk.child_of f) xs)
    (λ k m j. from k m j j.did)
    (λ k m (b, e, h). record { number = k; label = tt; element = Sat b; is = refl; there = e; did = (b, refl, h) })
    (join_listing IsOther (λ i j. i < j) by_number (λ i l m h. absurd h) (λ i j l m h. h) (walk.child_of f) (OfEvent S)
    (of_event S f g) xs)
  where
    from : (k : ℕ) (m : walk.Node) (j : Joined by_number (OfEvent S) xs k m) → OfEvent S j.element j.label m
        → OfEvents S xs k m
    from k m j (b, e, h) = (b, ap (slice_get xs) j.is ∙ (j.there ∙ ap Some e), h)

-- ---- operators and methods

-- the node after an operator
abbrev after_operator : walk.Node → Place → Term → ℤ → State → List Term → walk.Node
after_operator n p t c s g =
    node_in (situation s g (finish n.network p)) (n.steps ++ t ∷ []) (n.cost +ℤ c) (n.depth - 1)

-- the node after a method
abbrev after_method : walk.Node → Place → Network → walk.Node
after_method n p sub =
    node_in (situation n.state n.guards (expand n.network p (normal sub))) n.steps n.cost (n.depth - 1)

-- by the number of the rule, then by that of the event
abbrev IsEarlierRule : ℕ × ℕ → ℕ × ℕ → Type 0
IsEarlierRule x y = (x.0 < y.0) ⊎ ((x.0 ≡ y.0) × (x.1 < y.1))

-- a rule and an event are told by their numbers
abbrev by_rule : ℕ → ℕ → ℕ × ℕ
by_rule i k = (i, k)

module _ (n : walk.Node) (p : Place) where
  -- the node after changes that nothing forbids
  abbrev OfApplied : Term → ℤ → Applied → walk.Node → Type 0
  OfApplied t c a m = (s : State) × (g : List Term) × (a ≡ Now s g) × (m ≡ after_operator n p t c s g)

  -- an operator gives such a node, and no other
  of_applied : (t : Term) (c : ℤ) (a : Applied) → Listing IsOther (λ l m. OfApplied t c a m) (walk.operated n p t c a)
  of_applied t c (Guarded d) =
      no_listing IsOther (λ l m. OfApplied t c (Guarded d) m) (λ l m (s, g, e, q). let never : ⊥ = cc in never)
  of_applied t c (Now s1 g1) =
      one_listing (λ m. OfApplied t c (Now s1 g1) m) (walk.DidChild (after_operator n p t c s1 g1))
      (λ m e. let q : m ≡ after_operator n p t c s1 g1 = cc in (s1, g1, refl, q))
      (λ m (s, g, e, q).
      let a : s1 ≡ s = cc in let b : g1 ≡ g = cc in
      ap₂ (λ x y. walk.DidChild (after_operator n p t c x y)) a b ∙ ap walk.DidChild (sym q))

  -- the node after an operator that went
  abbrev OfGoing : Term → Going (Changes × ℤ) → walk.Node → Type 0
  OfGoing t r m = (x : Changes × ℤ) × (r ≡ Went x) × OfApplied t x.1 (apply n.state n.guards x.0) m

  -- so does what stops it or lets it go
  of_going : (t : Term) (r : Going (Changes × ℤ)) → Listing IsOther (λ l m. OfGoing t r m) (walk.after_effects n p t r)
  of_going t CutShort = one_listing (λ m. OfGoing t CutShort m) walk.CutChild (λ m e. absurd cc)
      (λ m (x, q, h). absurd cc)
  of_going t (Failed f) =
      one_listing (λ m. OfGoing t (Failed f) m) (walk.FaultChild f) (λ m e. absurd cc) (λ m (x, q, h). absurd cc)
  of_going t (Went x) =
      restated IsOther (λ l m. OfApplied t x.1 (apply n.state n.guards x.0) m) (λ l m. OfGoing t (Went x) m)
      (walk.operated n p t x.1 (apply n.state n.guards x.0)) (λ l m h. (x, refl, h))
      (λ l m (y, q, h). let w : y ≡ x = cc in subst (λ z. OfApplied t z.1 (apply n.state n.guards z.0) m) w h)
      (of_applied t x.1 (apply n.state n.guards x.0))

  -- the node after a method whose subtasks have a value
  abbrev OfValue : Result Network RunFault → walk.Node → Type 0
  OfValue r m = (sub : Network) × (r ≡ Ok sub) × (m ≡ after_method n p sub)

  -- a method's subtasks give such a node, and no other
  of_value : (r : Result Network RunFault) → Listing IsOther (λ l m. OfValue r m) (walk.decomposed n p r)
  of_value (Err f) = one_listing (λ m. OfValue (Err f) m) (walk.FaultChild f) (λ m e. absurd cc)
      (λ m (sub, q, h). absurd cc)
  of_value (Ok x) =
      one_listing (λ m. OfValue (Ok x) m) (walk.DidChild (after_method n p x))
      (λ m e. let q : m ≡ after_method n p x = cc in (x, refl, q))
      (λ m (sub, q, h). let w : x ≡ sub = cc in ap (λ y. walk.DidChild (after_method n p y)) w
      ∙ ap walk.DidChild (sym h))

  -- the node after the tasks of a branch, by an event of it
  abbrev OfBranch : Branch × List Event → ℕ → walk.Node → Type 0
  OfBranch c = OfEvents (λ b m. OfValue (tasks_value c.0.tasks b) m) c.1

  -- the node after the tasks of a branch that was chosen
  abbrev OfChosen : Option (Branch × List Event) → ℕ → walk.Node → Type 0
  OfChosen o k m = (c : Branch × List Event) × (o ≡ Some c) × OfBranch c k m

  -- the branch that was chosen gives such nodes, by the number of the event
  of_chosen : (o : Option (Branch × List Event)) → Listing (λ i j. i < j) (OfChosen o) (walk.branch_children n p o)
  of_chosen =
      option_listing (λ i j. i < j) OfBranch (walk.branch_children n p) refl
      (λ c. of_events (λ b m. OfValue (tasks_value c.0.tasks b) m) (λ b. walk.decomposed n p (tasks_value c.0.tasks b))
      (λ b. of_value (tasks_value c.0.tasks b)) c.1)

  module _ (rules : List Rule) (nest : ℕ) where
    -- the node after an operator whose head matched, by an event of its precondition
    abbrev OfMatched : Term → Operator → Bindings → ℕ → walk.Node → Type 0
    OfMatched t o e =
        OfEvents (λ b m. OfGoing t (effects (axioms_of rules) nest n.state o b) m)
        (precondition_events (axioms_of rules) nest n.state o.pre e)

    -- the node after a rule, by an event
    abbrev OfRule : Term → Rule → ℕ → walk.Node → Type 0
    OfRule t (Does o) k m =
        (e : Bindings) × (match_atom o.head t (unbound (length o.vars)) ≡ Some e) × OfMatched t o e k m
    OfRule t (Refines w) k m =
        (e : Bindings) × (match_atom w.head t (unbound (length w.vars)) ≡ Some e)
        × OfChosen (walk.chosen_branch rules nest n.state w.branches e) k m
    OfRule t (Concludes x) k m = ⊥

    -- a rule gives such nodes, by the number of the event
    of_rule : (t : Term) (r : Rule) → Listing (λ i j. i < j) (OfRule t r) (walk.rule_children rules nest n p t r)
    of_rule t (Does o) =
        option_listing (λ i j. i < j) (OfMatched t o) (walk.operator_children rules nest n p t o) refl
        (λ e. of_events (λ b m. OfGoing t (effects (axioms_of rules) nest n.state o b) m)
        (λ b. walk.after_effects n p t (effects (axioms_of rules) nest n.state o b))
        (λ b. of_going t (effects (axioms_of rules) nest n.state o b))
        (precondition_events (axioms_of rules) nest n.state o.pre e))
        (match_atom o.head t (unbound (length o.vars)))
    of_rule t (Refines w) =
        option_listing (λ i j. i < j) (λ e. OfChosen (walk.chosen_branch rules nest n.state w.branches e))
        (walk.method_children rules nest n p w) refl (λ e. of_chosen
        (walk.chosen_branch rules nest n.state w.branches e))
        (match_atom w.head t (unbound (length w.vars)))
    of_rule t (Concludes x) = no_listing (λ i j. i < j) (OfRule t (Concludes x)) (λ k m h. h)

    -- the node after some rule does the task of a part
    abbrev OfTask : Option Network → ℕ × ℕ → walk.Node → Type 0
    OfTask part l m = (t : Term) × (i : Bool) × (part ≡ Some (Task t i)) × Joined by_rule (OfRule t) rules l m

    -- the rules give such nodes, by their numbers and those of the events
    of_task : (part : Option Network) → Listing IsEarlierRule (OfTask part) (walk.task_children rules nest n p part)
    of_task None = no_listing IsEarlierRule (OfTask None) (λ l m (t, i, e, h). let never : ⊥ = cc in never)
    of_task (Some Empty) =
        no_listing IsEarlierRule (OfTask (Some Empty)) (λ l m (t, i, e, h). let never : ⊥ = cc in never)
    of_task (Some (Ordered ns)) =
        no_listing IsEarlierRule (OfTask (Some (Ordered ns))) (λ l m (t, i, e, h). let never : ⊥ = cc in never)
    of_task (Some (Unordered ns)) =
        no_listing IsEarlierRule (OfTask (Some (Unordered ns))) (λ l m (t, i, e, h). let never : ⊥ = cc in never)
    of_task (Some (Task t i)) =
        restated IsEarlierRule (Joined by_rule (OfRule t) rules) (OfTask (Some (Task t i)))
        (flat_map (walk.rule_children rules nest n p t) rules) (λ l m h. (t, i, refl, h))
        (λ l m (u, j, e, h). let w : u ≡ t = cc in subst (λ z. Joined by_rule (OfRule z) rules l m) w h)
        (join_listing (λ i j. i < j) IsEarlierRule by_rule (λ i j k h. inr (refl, h)) (λ i j k l h. inl h)
        (walk.rule_children rules nest n p t) (OfRule t) (of_rule t) rules)

module _ (rules : List Rule) (nest : ℕ) (n : walk.Node) where
  -- a candidate, a rule and an event are told by their numbers
  abbrev by_candidate : ℕ → ℕ × ℕ → Choosing
  by_candidate i l = record { candidate = i; rule = l.0; event = l.1 }

  -- the node after the task at a place is done
  abbrev OfPlace : Place → ℕ × ℕ → walk.Node → Type 0
  OfPlace p = OfTask n p rules nest (part_at n.network p)

  -- the node after a candidate's task is done
  abbrev OfCandidates : Choosing → walk.Node → Type 0
  OfCandidates = Joined by_candidate OfPlace (candidates n.network n.focus)

  -- the candidates give such nodes, by the numbers of a choice
  of_candidates : Listing IsEarlier OfCandidates (walk.children rules nest n)
  unfolding walk.children
  of_candidates =
      join_listing IsEarlierRule IsEarlier by_candidate (λ i j k h. inr (refl, h)) (λ i j k l h. inl h)
      (λ p. walk.task_children rules nest n p (part_at n.network p)) OfPlace
      (λ p. of_task n p rules nest (part_at n.network p)) (candidates n.network n.focus)

  -- a rule that does a task, and the number of an event, are a choice that leads to the node after it
  rule_leads : (c : Choosing) (m : walk.Node) (p : Place) (t : Term) (r : Rule)
      → IsNext (situation_at n) c.candidate p t
      → slice_get rules c.rule ≡ Some r → OfRule n p rules nest t r c.event m → Leads rules nest c n m
  rule_leads c m p t (Does o) here known (e, head, (b, met, (x, goes, (s, g, changed, q)))) =
      ByStep (situation s g (finish n.network p)) t x.1 (record {
        operator = o;
        place = p;
        matched = e;
        satisfier = b;
        changes = x.0;
        state = s;
        guards = g;
        next = here;
        known = known;
        head = head;
        met = met;
        does = goes;
        changed = changed;
        then' = refl;
      }) q
  rule_leads c m p t (Refines w) here known (e, head, (k, chosen, (b, met, (sub, gives, q)))) =
      BySubtasks (situation n.state n.guards (expand n.network p (normal sub))) (record {
        method = w;
        place = p;
        task = t;
        matched = e;
        branch = k;
        satisfier = b;
        subtasks = sub;
        next = here;
        known = known;
        head = head;
        chosen = chosen;
        met = met;
        gives = gives;
        then' = refl;
      }) q
  rule_leads c m p t (Concludes x) here known h = absurd h

  -- so a choice leads to the node after a candidate's task is done
  candidates_lead : (c : Choosing) (m : walk.Node) → OfCandidates c m → Leads rules nest c n m
  candidates_lead c m j = of_part j.did
    where
      of_part : OfPlace j.element j.label m → Leads rules nest c n m
      of_part (t, i, there, r) =
          let all : c ≡ record { candidate = j.number; rule = r.number; event = r.label } =
          j.is ∙ ap (by_candidate j.number) r.is in
          let first = ap (λ (x : Choosing). slice_get (candidates n.network n.focus) x.candidate) all ∙ j.there in
          rule_leads c m j.element t r.element (record { immediate = i; first = first; there = there })
          (ap (λ (x : Choosing). slice_get rules x.rule) all ∙ r.there)
          (subst (λ k. OfRule n j.element rules nest t r.element k m) (sym (ap (λ (x : Choosing). x.event) all)) r.did)

  -- a rule that does the task of a candidate gives a node after a candidate's task is done
  rule_done : (c : Choosing) (m : walk.Node) (p : Place) (t : Term) (r : Rule) → IsNext (situation_at n) c.candidate p t
      → slice_get rules c.rule ≡ Some r → OfRule n p rules nest t r c.event m → OfCandidates c m
  rule_done c m p t r here known h =
      let done : Joined by_rule (OfRule n p rules nest t) rules (c.rule, c.event) m =
      record { number = c.rule; label = c.event; element = r; is = refl; there = known; did = h } in
      record {
        number = c.candidate;
        label = (c.rule, c.event);
        element = p;
        is = refl;
        there = here.first;
        did = (t, here.immediate, here.there, done);
      }

  -- so what a choice leads to is such a node
  leads_candidates : (c : Choosing) (m : walk.Node) → Leads rules nest c n m → OfCandidates c m
  leads_candidates c m (ByStep s t k f q) =
      let e = q ∙ ap (λ z. node_in z (n.steps ++ t ∷ []) (n.cost +ℤ k) (n.depth - 1)) f.then' in
      rule_done c m f.place t (Does f.operator) f.next f.known
      (f.matched, f.head, (f.satisfier, f.met, ((f.changes, k), f.does, (f.state, f.guards, f.changed, e))))
  leads_candidates c m (BySubtasks s f q) =
      let e = q ∙ ap (λ z. node_in z n.steps n.cost (n.depth - 1)) f.then' in
      rule_done c m f.place f.task (Refines f.method) f.next f.known
      (f.matched, f.head, (f.branch, f.chosen, (f.satisfier, f.met, (f.subtasks, f.gives, e))))

  -- the children of a node are its choices in their order
  pub children_listing : Listing IsEarlier (λ c m. Leads rules nest c n m) (walk.children rules nest n)
  children_listing =
      restated IsEarlier OfCandidates (λ c m. Leads rules nest c n m) (walk.children rules nest n) candidates_lead
      leads_candidates of_candidates

  -- a choice leads to each Did among the children of a node
  pub did_leads : (m : walk.Node) → Contains (walk.children rules nest n) (walk.DidChild m) → (c : Choosing)
      × Leads rules nest c n m
  did_leads m h =
      let all = children_listing in
      let x = has_mapped (λ (y : Choosing × walk.Child). y.1) all.list (walk.DidChild m)
      (subst (λ cs. Contains cs (walk.DidChild m)) (sym all.same) h) in
      (x.0.0, (all.dids x.0.0 m).0 (subst (λ y. Contains all.list (x.0.0, y)) x.2 x.1))

  -- and what a choice leads to is a Did among them
  pub leads_did : (c : Choosing) (m : walk.Node) → Leads rules nest c n m
      → Contains (walk.children rules nest n) (walk.DidChild m)
  leads_did c m h =
      let all = children_listing in
      subst (λ cs. Contains cs (walk.DidChild m)) all.same
      (map_has (λ (y : Choosing × walk.Child). y.1) all.list (c, walk.DidChild m) ((all.dids c m).1 h))
