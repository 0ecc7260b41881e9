-- The children of a node see nothing of its depth, and have one decomposition less.
use Rattle.std.proofs.Common.{◌≡◌, ℕ, suc, ◌-◌, List, [], ◌∷◌, length, Option, Some, None, Result, Ok, Err, refl, sym, ◌∙◌, ap, subst, arith, ⊎_elim, map}
use Rattle.std.specs.Prelude.{Contains, ℤ, flat_map}
use Rattle.std.specs.List.{All}
use Rattle.std.proofs.lemmas.List.Elements.{All-map, All-contains}
use Rattle.hp_syntax.specs.declared.fault.RunFault.{RunFault}
use Rattle.hp_syntax.specs.Syntax.{Operator, Branch, Method, Rule, Does, Refines, Concludes}
use Rattle.hp_syntax.specs.Terms.{Term}
use Rattle.hp_syntax.specs.Values.{Bindings, unbound}
use Rattle.hp_syntax.specs.Matching.{match_atom}
use Rattle.hp_syntax.specs.Events.{Event, Sat, Cut, Fault, axioms_of}
use Rattle.hp_syntax.specs.Preconditions.{precondition_events}
use Rattle.hp_syntax.specs.Networks.{Network, Empty, Task, Ordered, Unordered, Place, part_at, candidates, tasks_value}
use Rattle.hp_syntax.specs.Changes.{Changes, Applied, Going, Went, CutShort, Failed, apply, effects}
use Rattle.hp_syntax.specs.Applying.{Now, Guarded}
use Rattle.hp_syntax.specs.Walk as walk
use Rattle.hp_laws.proofs.JoinLemmas.{all_from, map_join, join_same, contains_first, contains_later, contains_cases, contains_none}

-- a node, or a child, that has another depth
abbrev pub at_depth : ℕ → walk.Node → walk.Node
at_depth k n = record n { depth = k }

abbrev pub child_at_depth : ℕ → walk.Child → walk.Child
child_at_depth k (walk.DidChild m) = walk.DidChild (at_depth k m)
child_at_depth k walk.CutChild = walk.CutChild
child_at_depth k (walk.FaultChild f) = walk.FaultChild f

-- where each event gives children of another depth, so do all events
events_at_depth : (k : ℕ) (a b : Bindings → List walk.Child) → ((e : Bindings) → a e ≡ map (child_at_depth k) (b e))
    → (xs : List Event) → flat_map (walk.child_of a) xs ≡ map (child_at_depth k) (flat_map (walk.child_of b) xs)
events_at_depth k a b h xs =
    join_same (walk.child_of a) (λ x. map (child_at_depth k) (walk.child_of b x)) xs
    (all_from (λ x. walk.child_of a x ≡ map (child_at_depth k) (walk.child_of b x)) each xs)
    ∙ sym (map_join (walk.child_of b) (child_at_depth k) xs)
  where
    each : (x : Event) → walk.child_of a x ≡ map (child_at_depth k) (walk.child_of b x)
    each (Sat e) = h e
    each Cut = refl
    each (Fault x) = refl

module _ (k : ℕ) (n : walk.Node) where
  -- the child after an operator of a node of another depth is its child, of one decomposition less
  applied_at_depth : (p : Place) (t : Term) (c : ℤ) (a : Applied)
      → walk.operated (at_depth k n) p t c a ≡ map (child_at_depth (k - 1)) (walk.operated n p t c a)
  applied_at_depth p t c (Guarded d) = refl
  applied_at_depth p t c (Now s g) = refl

  effects_at_depth : (p : Place) (t : Term) (g : Going (Changes × ℤ))
      → walk.after_effects (at_depth k n) p t g ≡ map (child_at_depth (k - 1)) (walk.after_effects n p t g)
  effects_at_depth p t CutShort = refl
  effects_at_depth p t (Failed f) = refl
  effects_at_depth p t (Went r) = applied_at_depth p t r.1 (apply n.state n.guards r.0)

  -- so is the child after a method
  subtasks_at_depth : (p : Place) (r : Result Network RunFault)
      → walk.decomposed (at_depth k n) p r ≡ map (child_at_depth (k - 1)) (walk.decomposed n p r)
  subtasks_at_depth p (Ok sub) = refl
  subtasks_at_depth p (Err f) = refl

  branch_at_depth : (p : Place) (o : Option (Branch × List Event))
      → walk.branch_children (at_depth k n) p o ≡ map (child_at_depth (k - 1)) (walk.branch_children n p o)
  branch_at_depth p None = refl
  branch_at_depth p (Some c) =
      events_at_depth (k - 1) (λ b. walk.decomposed (at_depth k n) p (tasks_value c.0.tasks b))
      (λ b. walk.decomposed n p (tasks_value c.0.tasks b)) (λ b. subtasks_at_depth p (tasks_value c.0.tasks b)) c.1

  module _ (rules : List Rule) (nest : ℕ) where
    -- the children by a rule of a node of another depth are its children, of one decomposition less
    operator_at_depth : (p : Place) (t : Term) (o : Operator) (e : Option Bindings)
        → walk.operator_children rules nest (at_depth k n) p t o e
        ≡ map (child_at_depth (k - 1)) (walk.operator_children rules nest n p t o e)
    operator_at_depth p t o None = refl
    operator_at_depth p t o (Some e) =
        events_at_depth (k - 1) (λ b. walk.after_effects (at_depth k n) p t
        (effects (axioms_of rules) nest n.state o b))
        (λ b. walk.after_effects n p t (effects (axioms_of rules) nest n.state o b))
        (λ b. effects_at_depth p t (effects (axioms_of rules) nest n.state o b))
        (precondition_events (axioms_of rules) nest n.state o.pre e)

    method_at_depth : (p : Place) (m : Method) (e : Option Bindings)
        → walk.method_children rules nest (at_depth k n) p m e
        ≡ map (child_at_depth (k - 1)) (walk.method_children rules nest n p m e)
    method_at_depth p m None = refl
    method_at_depth p m (Some e) = branch_at_depth p (walk.chosen_branch rules nest n.state m.branches e)

    rule_at_depth : (p : Place) (t : Term) (r : Rule)
        → walk.rule_children rules nest (at_depth k n) p t r
        ≡ map (child_at_depth (k - 1)) (walk.rule_children rules nest n p t r)
    rule_at_depth p t (Does o) = operator_at_depth p t o (match_atom o.head t (unbound (length o.vars)))
    rule_at_depth p t (Refines m) = method_at_depth p m (match_atom m.head t (unbound (length m.vars)))
    rule_at_depth p t (Concludes x) = refl

    -- so are those of a task
    task_at_depth : (p : Place) (o : Option Network)
        → walk.task_children rules nest (at_depth k n) p o
        ≡ map (child_at_depth (k - 1)) (walk.task_children rules nest n p o)
    task_at_depth p None = refl
    task_at_depth p (Some Empty) = refl
    task_at_depth p (Some (Task t i)) =
        join_same (walk.rule_children rules nest (at_depth k n) p t)
        (λ r. map (child_at_depth (k - 1)) (walk.rule_children rules nest n p t r)) rules
        (all_from (λ r. walk.rule_children rules nest (at_depth k n) p t r
        ≡ map (child_at_depth (k - 1)) (walk.rule_children rules nest n p t r)) (rule_at_depth p t) rules)
        ∙ sym (map_join (walk.rule_children rules nest n p t) (child_at_depth (k - 1)) rules)
    task_at_depth p (Some (Ordered ns)) = refl
    task_at_depth p (Some (Unordered ns)) = refl

    -- so are all children of a node of another depth
    pub children_at_depth : walk.children rules nest (at_depth k n)
        ≡ map (child_at_depth (k - 1)) (walk.children rules nest n)
    unfolding walk.children
    children_at_depth =
        join_same (λ p. walk.task_children rules nest (at_depth k n) p (part_at n.network p))
        (λ p. map (child_at_depth (k - 1)) (walk.task_children rules nest n p (part_at n.network p)))
        (candidates n.network n.focus)
        (all_from (λ p. walk.task_children rules nest (at_depth k n) p (part_at n.network p)
        ≡ map (child_at_depth (k - 1)) (walk.task_children rules nest n p (part_at n.network p)))
        (λ p. task_at_depth p (part_at n.network p)) (candidates n.network n.focus))
        ∙ sym (map_join (λ p. walk.task_children rules nest n p (part_at n.network p)) (child_at_depth (k - 1))
        (candidates n.network n.focus))

-- an element of a list of numbered children is one of the children
pub contained_child : (i j : ℕ) (c : walk.Child) (cs : List walk.Child) → Contains (walk.numbered_children i cs) (j, c)
    → Contains cs c
contained_child i j c [] h = absurd (contains_none (j, c) h)
contained_child i j c (x ∷ cs) h =
    ⊎_elim (λ e. subst (λ y. Contains (y ∷ cs) c) (sym (ap (λ y. y.1) e)) (contains_first c cs))
    (λ k. contains_later x c cs (contained_child (walk.number_after i x) j c cs k))
    (contains_cases (i, x) (j, c) (walk.numbered_children (walk.number_after i x) cs) h)

-- a child has this depth, where it is a node
abbrev pub HasDepth : ℕ → walk.Child → Type 0
HasDepth k (walk.DidChild m) = m.depth ≡ k
HasDepth k walk.CutChild = Unit {0}
HasDepth k (walk.FaultChild f) = Unit {0}

has_depth : (k : ℕ) (c : walk.Child) → HasDepth k (child_at_depth k c)
has_depth k (walk.DidChild m) = refl
has_depth k walk.CutChild = tt
has_depth k (walk.FaultChild f) = tt

-- each child of a node has one decomposition less
pub children_have_depth : (rules : List Rule) (nest : ℕ) (n : walk.Node)
    → All (HasDepth (n.depth - 1)) (walk.children rules nest n)
children_have_depth rules nest n =
    subst (All (HasDepth (n.depth - 1))) (sym (children_at_depth n.depth n rules nest))
    (All-map (HasDepth (n.depth - 1)) (child_at_depth (n.depth - 1)) (walk.children rules nest n)
    (all_from (λ x. HasDepth (n.depth - 1) (child_at_depth (n.depth - 1) x)) (has_depth (n.depth - 1))
    (walk.children rules nest n)))

-- a child of a node that has a decomposition left has one less
pub child_depth : (rules : List Rule) (nest : ℕ) (n m : walk.Node) (d i : ℕ) → n.depth ≡ suc d
    → Contains (walk.numbered_children 0 (walk.children rules nest n)) (i, walk.DidChild m) → m.depth ≡ d
child_depth rules nest n m d i e c =
    let k = contained_child 0 i (walk.DidChild m) (walk.children rules nest n) c in
    let b = All-contains (HasDepth (n.depth - 1)) (walk.children rules nest n) (walk.DidChild m)
    (children_have_depth rules nest n) k in
    omega arith
