-- The tree of lowered rules is the tree of the rules.
use Rattle.std.proofs.Common.{◌≡◌, ℕ, zero, suc, cond, List, [], ◌∷◌, ◌++◌, map, length, Option, Some, None, refl, ap, ◌∙◌}
use Rattle.std.specs.Prelude.{flat_map, ◌==◌}
use Rattle.std.specs.Option.{option_and_then}
use Rattle.hp_syntax.specs.Syntax.{Axiom, Operator, Branch, Method, Rule, Does, Refines, Concludes, Pair}
use Rattle.hp_syntax.specs.Terms.{Term}
use Rattle.hp_syntax.specs.Values.{Bindings, unbound}
use Rattle.hp_syntax.specs.Matching.{match_atom}
use Rattle.hp_syntax.specs.Networks.{Network, Empty, Task, Ordered, Unordered, Place, is_empty, part_at, candidates}
use Rattle.hp_syntax.specs.Events.{Event, Sat, Cut, Fault, chosen, chosen_or, axioms_of}
use Rattle.hp_syntax.specs.Preconditions.{precondition_events}
use Rattle.hp_syntax.specs.Changes.{effects}
use Rattle.hp_syntax.specs.Walk as walk
use Rattle.hp_code.specs.Lowered.{lowered_precondition, lowered_operator, lowered_axiom, lowered_branch, lowered_method, lowered_rule, lowered_rules}
use Rattle.hp_code.proofs.LoweredLemmas.{joined_same, axioms_lowered, precondition_same}
use Rattle.hp_code.proofs.EffectLemmas.{operator_same}

-- children by events, where each satisfier has the same
child_same : (f g : Bindings → List walk.Child) → ((b : Bindings) → f b ≡ g b) → (x : Event) → walk.child_of f x
    ≡ walk.child_of g x
child_same f g h (Sat b) = h b
child_same f g h Cut = refl
child_same f g h (Fault x) = refl

-- equal lists of events have equal children, where each satisfier has the same
children_same : (f g : Bindings → List walk.Child) → ((b : Bindings) → f b ≡ g b) → (xs ys : List Event) → xs ≡ ys
    → flat_map (walk.child_of f) xs ≡ flat_map (walk.child_of g) ys
children_same f g h xs ys e =
    joined_same (walk.child_of f) (walk.child_of g) (child_same f g h) xs ∙ ap (λ zs. flat_map (walk.child_of g) zs) e

-- a choice of lowered branches has the children of the choice of branches
choice_same : (n : walk.Node) (p : Place) (b : Branch) (xs : List Event) (o r : Option (Branch × List Event))
    → walk.branch_children n p o ≡ walk.branch_children n p r
    → walk.branch_children n p (chosen_or (lowered_branch b) xs o) ≡ walk.branch_children n p (chosen_or b xs r)
choice_same n p b [] o r h = h
choice_same n p b (x ∷ xs) o r h = refl

module _ (axioms : List Axiom) (nest : ℕ) (n : walk.Node) (p : Place) where
  -- the branch that is chosen of lowered branches has the children of the one that is chosen
  branches_same : (bs : List Branch) (e : Bindings)
      → walk.branch_children n p (chosen (λ b. precondition_events (map lowered_axiom axioms) nest n.state b.pre e)
      (map lowered_branch bs))
      ≡ walk.branch_children n p (chosen (λ b. precondition_events axioms nest n.state b.pre e) bs)
  branches_same [] e = refl
  branches_same (b ∷ bs) e =
      let rest = chosen (λ b. precondition_events (map lowered_axiom axioms) nest n.state b.pre e)
      (map lowered_branch bs) in
      ap (λ xs. walk.branch_children n p (chosen_or (lowered_branch b) xs rest))
      (precondition_same axioms nest n.state b.pre e)
      ∙ choice_same n p b (precondition_events axioms nest n.state b.pre e) rest
      (chosen (λ b. precondition_events axioms nest n.state b.pre e) bs) (branches_same bs e)

module _ (rules : List Rule) (nest : ℕ) where
  -- the children by a lowered operator
  operator_children_same : (n : walk.Node) (p : Place) (t : Term) (o : Operator) (m : Option Bindings)
      → walk.operator_children (lowered_rules rules) nest n p t (lowered_operator o) m
      ≡ walk.operator_children rules nest n p t o m
  operator_children_same n p t o None = refl
  operator_children_same n p t o (Some e) =
      ap (λ axs. flat_map (walk.child_of (λ b. walk.after_effects n p t
      (effects axs nest n.state (lowered_operator o) b)))
      (precondition_events axs nest n.state (lowered_precondition o.pre) e)) (axioms_lowered rules)
      ∙ children_same
      (λ b. walk.after_effects n p t (effects (map lowered_axiom (axioms_of rules)) nest n.state
      (lowered_operator o) b))
      (λ b. walk.after_effects n p t (effects (axioms_of rules) nest n.state o b))
      (λ b. ap (walk.after_effects n p t) (operator_same (axioms_of rules) nest n.state o b))
      (precondition_events (map lowered_axiom (axioms_of rules)) nest n.state (lowered_precondition o.pre) e)
      (precondition_events (axioms_of rules) nest n.state o.pre e)
      (precondition_same (axioms_of rules) nest n.state o.pre e)

  -- the children by a lowered method
  method_children_same : (n : walk.Node) (p : Place) (m : Method) (o : Option Bindings)
      → walk.method_children (lowered_rules rules) nest n p (lowered_method m) o
      ≡ walk.method_children rules nest n p m o
  method_children_same n p m None = refl
  method_children_same n p m (Some e) =
      ap (λ axs. walk.branch_children n p (chosen (λ b. precondition_events axs nest n.state b.pre e)
      (map lowered_branch m.branches))) (axioms_lowered rules)
      ∙ branches_same (axioms_of rules) nest n p m.branches e

  -- the children by a lowered rule
  rule_children_same : (n : walk.Node) (p : Place) (t : Term) (r : Rule)
      → walk.rule_children (lowered_rules rules) nest n p t (lowered_rule r) ≡ walk.rule_children rules nest n p t r
  rule_children_same n p t (Does o) =
      operator_children_same n p t o (match_atom o.head t (unbound (length o.vars)))
  rule_children_same n p t (Refines m) = method_children_same n p m (match_atom m.head t (unbound (length m.vars)))
  rule_children_same n p t (Concludes x) = refl

  -- the children by lowered rules
  rules_children_same : (n : walk.Node) (p : Place) (t : Term) (rs : List Rule)
      → flat_map (walk.rule_children (lowered_rules rules) nest n p t) (lowered_rules rs)
      ≡ flat_map (walk.rule_children rules nest n p t) rs
  rules_children_same n p t [] = refl
  rules_children_same n p t (r ∷ rs) =
      ap (λ xs. xs ++ flat_map (walk.rule_children (lowered_rules rules) nest n p t) (lowered_rules rs))
      (rule_children_same n p t r)
      ∙ ap (λ xs. walk.rule_children rules nest n p t r ++ xs) (rules_children_same n p t rs)

  -- the children by a task
  task_children_same : (n : walk.Node) (p : Place) (part : Option Network)
      → walk.task_children (lowered_rules rules) nest n p part ≡ walk.task_children rules nest n p part
  task_children_same n p None = refl
  task_children_same n p (Some Empty) = refl
  task_children_same n p (Some (Task t i)) = rules_children_same n p t rules
  task_children_same n p (Some (Ordered ns)) = refl
  task_children_same n p (Some (Unordered ns)) = refl

  -- a node has the same children by lowered rules
  pub node_children_same : (n : walk.Node) → walk.children (lowered_rules rules) nest n ≡ walk.children rules nest n
  unfolding walk.children
  node_children_same n =
      joined_same (λ p. walk.task_children (lowered_rules rules) nest n p (part_at n.network p))
      (λ p. walk.task_children rules nest n p (part_at n.network p))
      (λ p. task_children_same n p (part_at n.network p)) (candidates n.network n.focus)

  -- what is seen by a child, where the same is seen below it
  child_visits_same : (f g : walk.Node → List ℕ → List walk.Visit) → ((m : walk.Node) (q : List ℕ) → f m q ≡ g m q)
      → (n : walk.Node) (p : List ℕ) (c : ℕ × walk.Child) → walk.child_visits f n p c ≡ walk.child_visits g n p c
  child_visits_same f g h n p (i, walk.DidChild m) = ap (λ vs. walk.visit (p ++ i ∷ []) m walk.Did ∷ vs)
      (h m (p ++ i ∷ []))
  child_visits_same f g h n p (i, walk.CutChild) = refl
  child_visits_same f g h n p (i, walk.FaultChild x) = refl

  -- the visits within a depth
  visits_within_same : (d : ℕ) (n : walk.Node) (p : List ℕ)
      → walk.visits_within (lowered_rules rules) nest d n p ≡ walk.visits_within rules nest d n p
  unfolding walk.visits_within
  visits_within_same zero n p = refl
  visits_within_same (suc d) n p =
      ap (λ vs. cond (is_empty n.network) (walk.visit p n walk.Plan ∷ []) vs)
      (ap (λ cs. flat_map (walk.child_visits (walk.visits_within (lowered_rules rules) nest d) n p)
      (walk.numbered_children 0 cs))
      (node_children_same n)
      ∙ joined_same (walk.child_visits (walk.visits_within (lowered_rules rules) nest d) n p)
      (walk.child_visits (walk.visits_within rules nest d) n p)
      (child_visits_same (walk.visits_within (lowered_rules rules) nest d) (walk.visits_within rules nest d)
      (visits_within_same d) n p) (walk.numbered_children 0 (walk.children rules nest n)))

  -- a node has the same visits by lowered rules
  pub visits_same : (n : walk.Node) (p : List ℕ) → walk.visits (lowered_rules rules) nest n p
      ≡ walk.visits rules nest n p
  unfolding walk.visits
  visits_same n p = visits_within_same n.depth n p

  -- the node that is reached from a child, where it is the same from each
  reached_same : (f g : walk.Node → Option walk.Node) → ((m : walk.Node) → f m ≡ g m) → (o : Option walk.Node)
      → option_and_then f o ≡ option_and_then g o
  reached_same f g h None = refl
  reached_same f g h (Some m) = h m

  -- a path reaches the same node by lowered rules
  pub node_at_same : (n : walk.Node) (p : List ℕ) → walk.node_at (lowered_rules rules) nest n p
      ≡ walk.node_at rules nest n p
  unfolding walk.node_at
  node_at_same n [] = refl
  node_at_same n (i ∷ p) =
      ap (λ o. cond (is_empty n.network) None (cond (n.depth == 0) None o))
      (ap (λ cs. option_and_then (λ m. walk.node_at (lowered_rules rules) nest m p) (walk.did_at cs i))
      (node_children_same n)
      ∙ reached_same (λ m. walk.node_at (lowered_rules rules) nest m p) (λ m. walk.node_at rules nest m p)
      (λ m. node_at_same m p) (walk.did_at (walk.children rules nest n) i))

  -- a pair has the same walk by lowered rules
  pub walk_same : (pair : Pair) (d : ℕ) → walk.walk (lowered_rules rules) nest pair d ≡ walk.walk rules nest pair d
  unfolding walk.walk
  walk_same pair d = ap walk.heard_visits (visits_same (walk.root pair d) [])
