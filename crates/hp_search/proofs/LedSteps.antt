-- The choice that leads to the node reached, by what the choice that is open at its parent has given.
use Rattle.std.proofs.Common.{◌≡◌, ℕ, suc, ◌-◌, ℤ, List, [], ◌∷◌, ◌++◌, length, Option, Some, None, Result, Ok, Err, refl, ⊎_elim}
use Rattle.std.specs.Prelude.{◌+ℤ◌, Contains, slice_get, flat_map}
use Rattle.std.proofs.lemmas.List.Elements.{Contains-append_cases}
use Rattle.hp_syntax.specs.declared.fault.RunFault.{RunFault}
use Rattle.hp_syntax.specs.Syntax.{Branch, Method, Operator, Rule, Does, Refines, Concludes}
use Rattle.hp_syntax.specs.Terms.{Term}
use Rattle.hp_syntax.specs.Values.{Bindings, unbound}
use Rattle.hp_syntax.specs.Matching.{match_atom}
use Rattle.hp_syntax.specs.Events.{Event, Sat, Cut, Fault, axioms_of}
use Rattle.hp_syntax.specs.Preconditions.{precondition_events}
use Rattle.hp_syntax.specs.Networks.{Network, Place, tasks_value, normal, finish, expand}
use Rattle.hp_syntax.specs.Changes.{Changes, Applied, Going, Went, CutShort, Failed, apply, effects}
use Rattle.hp_syntax.specs.Applying.{Now, Guarded}
use Rattle.hp_syntax.specs.Walk as walk
use Rattle.hp_syntax.specs.Walk.{Child, DidChild, CutChild, FaultChild, Node, child_of, rule_children}
use Rattle.hp_laws.specs.Derivations.{IsNext, Leads, ByStep, BySubtasks, node_in, situation, situation_at}
use Rattle.hp_laws.proofs.JoinLemmas.{contains_cases, contains_none}

-- ---- a child that is a decomposition

-- a list of one child contains a decomposition that it is
only_child : (c : Child) (m : Node) → Contains (c ∷ []) (DidChild m) → c ≡ DidChild m
only_child c m h = ⊎_elim (λ e. e) (λ n. absurd (contains_none (DidChild m) n)) (contains_cases c (DidChild m) [] h)

-- the satisfier of a number gives a decomposition
record SatGives (f : Bindings → List Child) (xs : List Event) (m : Node) : Type 0 where
  event : ℕ
  satisfier : Bindings
  met : slice_get xs event ≡ Some (Sat satisfier)
  gives : Contains (f satisfier) (DidChild m)

-- where events give it with one before them, they do
later_gives : (f : Bindings → List Child) (x : Event) (xs : List Event) (m : Node) → SatGives f xs m
    → SatGives f (x ∷ xs) m
later_gives f x xs m g =
    record { event = suc g.event; satisfier = g.satisfier; met = g.met; gives = g.gives }

-- a decomposition that events give is given by a satisfier among them
sat_gives : (f : Bindings → List Child) (xs : List Event) (m : Node)
    → Contains (flat_map (child_of f) xs) (DidChild m) → SatGives f xs m
sat_gives f [] m h = absurd (contains_none (DidChild m) h)
sat_gives f (Sat b ∷ xs) m h =
    ⊎_elim (λ own. record { event = 0; satisfier = b; met = refl; gives = own })
    (λ d. later_gives f (Sat b) xs m (sat_gives f xs m d))
    (Contains-append_cases (f b) (flat_map (child_of f) xs) (DidChild m) h)
sat_gives f (Cut ∷ xs) m h =
    ⊎_elim (λ e. absurd cc) (λ d. later_gives f Cut xs m (sat_gives f xs m d))
    (contains_cases CutChild (DidChild m) (flat_map (child_of f) xs) h)
sat_gives f (Fault x ∷ xs) m h =
    ⊎_elim (λ e. absurd cc) (λ d. later_gives f (Fault x) xs m (sat_gives f xs m d))
    (contains_cases (FaultChild x) (DidChild m) (flat_map (child_of f) xs) h)

-- ---- the choice

-- a choice of some event leads to a node
pub record LeadsBy (rules : List Rule) (nest number rule : ℕ) (n m : Node) : Type 0 where
  pub event : ℕ
  pub leads : Leads rules nest (record { candidate = number; rule = rule; event = event }) n m

module _ (rules : List Rule) (nest number rule : ℕ) (n m : Node) (p : Place) (t : Term)
    (next : IsNext (situation_at n) number p t) where
  module _ (o : Operator) (known : slice_get rules rule ≡ Some (Does o)) (e : Bindings)
      (head : match_atom o.head t (unbound (length o.vars)) ≡ Some e) (event : ℕ) (b : Bindings)
      (met : slice_get (precondition_events (axioms_of rules) nest n.state o.pre e) event ≡ Some (Sat b)) where
    applied_leads : (x : Changes × ℤ) → effects (axioms_of rules) nest n.state o b ≡ Went x → (a : Applied)
        → apply n.state n.guards x.0 ≡ a → Contains (walk.operated n p t x.1 a) (DidChild m)
        → Leads rules nest (record { candidate = number; rule = rule; event = event }) n m
    applied_leads x goes (Guarded d) changed h = absurd (contains_none (DidChild m) h)
    applied_leads x goes (Now s g) changed h =
        let one = only_child _ m h in
        let q : m ≡ node_in (situation s g (finish n.network p)) (n.steps ++ t ∷ []) (n.cost +ℤ x.1) (n.depth - 1) =
        cc in
        ByStep (situation s g (finish n.network p)) t x.1 (record {
          operator = o;
          place = p;
          matched = e;
          satisfier = b;
          changes = x.0;
          state = s;
          guards = g;
          next = next;
          known = known;
          head = head;
          met = met;
          does = goes;
          changed = changed;
          then' = refl;
        }) q

    going_leads : (r : Going (Changes × ℤ)) → effects (axioms_of rules) nest n.state o b ≡ r
        → Contains (walk.after_effects n p t r) (DidChild m)
        → Leads rules nest (record { candidate = number; rule = rule; event = event }) n m
    going_leads CutShort goes h = absurd (let e = only_child CutChild m h in cc)
    going_leads (Failed f) goes h = absurd (let e = only_child (FaultChild f) m h in cc)
    going_leads (Went x) goes h = applied_leads x goes (apply n.state n.guards x.0) refl h

  -- an operator leads to a decomposition that it gives
  operator_leads : (o : Operator) → slice_get rules rule ≡ Some (Does o) → (e : Option Bindings)
      → match_atom o.head t (unbound (length o.vars)) ≡ e
      → Contains (walk.operator_children rules nest n p t o e) (DidChild m) → LeadsBy rules nest number rule n m
  operator_leads o known None head h = absurd (contains_none (DidChild m) h)
  operator_leads o known (Some e) head h =
      let g = sat_gives (λ b. walk.after_effects n p t (effects (axioms_of rules) nest n.state o b))
      (precondition_events (axioms_of rules) nest n.state o.pre e) m h in
      record {
        event = g.event;
        leads =
            going_leads o known e head g.event g.satisfier g.met (effects (axioms_of rules) nest n.state o g.satisfier)
            refl g.gives;
      }

  module _ (w : Method) (known : slice_get rules rule ≡ Some (Refines w)) (e : Bindings)
      (head : match_atom w.head t (unbound (length w.vars)) ≡ Some e) where
    value_leads : (c : Branch × List Event) → walk.chosen_branch rules nest n.state w.branches e ≡ Some c
        → (event : ℕ) (b : Bindings) → slice_get c.1 event ≡ Some (Sat b) → (r : Result Network RunFault)
        → tasks_value c.0.tasks b ≡ r → Contains (walk.decomposed n p r) (DidChild m)
        → Leads rules nest (record { candidate = number; rule = rule; event = event }) n m
    value_leads c chosen event b met (Err f) gives h = absurd (let e = only_child (FaultChild f) m h in cc)
    value_leads c chosen event b met (Ok sub) gives h =
        let one = only_child _ m h in
        let q : m ≡ node_in (situation n.state n.guards (expand n.network p (normal sub))) n.steps n.cost
        (n.depth - 1) = cc in
        BySubtasks (situation n.state n.guards (expand n.network p (normal sub))) (record {
          method = w;
          place = p;
          task = t;
          matched = e;
          branch = c;
          satisfier = b;
          subtasks = sub;
          next = next;
          known = known;
          head = head;
          chosen = chosen;
          met = met;
          gives = gives;
          then' = refl;
        }) q

    branch_leads : (c : Option (Branch × List Event)) → walk.chosen_branch rules nest n.state w.branches e ≡ c
        → Contains (walk.branch_children n p c) (DidChild m) → LeadsBy rules nest number rule n m
    branch_leads None chosen h = absurd (contains_none (DidChild m) h)
    branch_leads (Some c) chosen h =
        let g = sat_gives (λ b. walk.decomposed n p (tasks_value c.0.tasks b)) c.1 m h in
        record {
          event = g.event;
          leads = value_leads c chosen g.event g.satisfier g.met (tasks_value c.0.tasks g.satisfier) refl g.gives;
        }

  -- a method leads to a decomposition that it gives
  method_leads : (w : Method) → slice_get rules rule ≡ Some (Refines w) → (e : Option Bindings)
      → match_atom w.head t (unbound (length w.vars)) ≡ e
      → Contains (walk.method_children rules nest n p w e) (DidChild m) → LeadsBy rules nest number rule n m
  method_leads w known None head h = absurd (contains_none (DidChild m) h)
  method_leads w known (Some e) head h =
      branch_leads w known e head (walk.chosen_branch rules nest n.state w.branches e) refl h

  -- a rule leads to a decomposition that it gives
  pub rule_leads : (r : Rule) → slice_get rules rule ≡ Some r
      → Contains (rule_children rules nest n p t r) (DidChild m) → LeadsBy rules nest number rule n m
  rule_leads (Does o) known h = operator_leads o known (match_atom o.head t (unbound (length o.vars))) refl h
  rule_leads (Refines w) known h = method_leads w known (match_atom w.head t (unbound (length w.vars))) refl h
  rule_leads (Concludes x) known h = absurd (contains_none (DidChild m) h)
