-- In a tree whose rules, problem and root are spelled, each node is spelled: what holds, what is to do and the steps.
use Rattle.std.proofs.Common.{ℕ, zero, suc, cond, not, ℤ, List, [], ◌∷◌, ◌++◌, length, Option, Some, None, Result, Ok, Err, Bool}
use Rattle.std.specs.Prelude.{IfSome, IfOk, Contains, flat_map, filter}
use Rattle.std.specs.List.{All}
use Rattle.std.proofs.lemmas.Bool.{cond_both}
use Rattle.std.proofs.lemmas.List.Elements.{All-nil, All-cons, All-head, All-tail, All-append, All-weaker, All-filter, All-contains}
use Rattle.hp_syntax.specs.declared.fault.RunFault.{RunFault}
use Rattle.hp_syntax.specs.Applying.{Now, Guarded, unless_guarded, is_among, cancelled, first_guarded, with_added, changed}
use Rattle.hp_syntax.specs.Changes.{Changes, Applied, Going, Went, CutShort, Failed, and_go, go_on, atom_values, values_for_each, Gathered, of_atoms, both_gathered, effect_values, effects_values, cost_value, changes_of, effects, apply}
use Rattle.hp_syntax.specs.Events as events
use Rattle.hp_syntax.specs.Matching.{match_atom}
use Rattle.hp_syntax.specs.Networks as networks
use Rattle.hp_syntax.specs.Preconditions.{heard, precondition_events}
use Rattle.hp_syntax.specs.Syntax as syntax
use Rattle.hp_syntax.specs.Terms.{Term, same_term}
use Rattle.hp_syntax.specs.Values.{Bindings, unbound, on_ok, atom_value}
use Rattle.hp_syntax.specs.Walk as walk
use Rattle.hp_laws.proofs.DepthLemmas.{contained_child}
use Rattle.hp_laws.proofs.JoinLemmas.{all_one, all_join, all_from}
use Rattle.hp_laws.proofs.VisitLemmas.{all_visits}
use Rattle.hp_replay.proofs.SpelledSyntax.{AreSpelledTasks, IsSpelledAtom, IsSpelledAxiom, IsSpelledBranch, IsSpelledEffect, IsSpelledOperator, IsSpelledRule, IsSpelledStep, IsSpelledTaskList, IsSpelledTerm}
use Rattle.hp_replay.proofs.SpelledTerms.{on_ok_if, AreSpelledBindings, FindsSpelled, unbound_spelled, atom_spelled, match_atom_spelled}
use Rattle.hp_replay.proofs.SpelledEvents.{IsSpelledEvent, AreSpelledEvents, IsChosenWell, chosen_well, heard_spelled, precondition_spelled}

module _ (free : Bool) where
  -- ---- effects

  -- this holds of what an operator's effects went to, if they went
  abbrev IfWent : {A : Type 0} → Going A → (A → Type 0) → Type 0
  IfWent (Went x) P = P x
  IfWent CutShort P = Unit {0}
  IfWent (Failed f) P = Unit {0}

  -- what goes on from what one thing holds of to what another does, goes only to that
  and_go_if : {A B : Type 0} (P : A → Type 0) (Q : B → Type 0) (r : Going A) (f : A → Going B) → IfWent r P
      → ((x : A) → P x → IfWent (f x) Q) → IfWent (and_go r f) Q
  and_go_if P Q (Went x) f h k = k x h
  and_go_if P Q CutShort f h k = tt
  and_go_if P Q (Failed e) f h k = tt

  -- a value that is gone on with has what holds of it
  go_on_if : {A : Type 0} (P : A → Type 0) (r : Result A RunFault) → IfOk r P → IfWent (go_on r) P
  go_on_if P (Ok x) h = h
  go_on_if P (Err f) h = tt

  -- nothing is asked of what effects went to
  went_any : {A : Type 0} (r : Going A) → IfWent r (λ x. Unit {0})
  went_any (Went x) = tt
  went_any CutShort = tt
  went_any (Failed f) = tt

  -- each of these terms is spelled
  abbrev AreSpelledTerms : List Term → Type 0
  AreSpelledTerms ts = All (IsSpelledTerm free) ts

  -- the atoms that effects add are spelled
  abbrev IsSpelledGathered : Gathered → Type 0
  IsSpelledGathered g = AreSpelledTerms g.atoms

  -- a step that is given is spelled
  step_spelled : (r : Result Term RunFault) → IfOk r (IsSpelledStep free) → IfOk r (IsSpelledTerm free)
  step_spelled (Ok t) h = h.spelled
  step_spelled (Err f) h = tt

  -- the values of atoms are spelled
  atom_values_spelled : (as' : List syntax.Atom) (e : Bindings) → All (IsSpelledAtom free) as'
      → AreSpelledBindings free e
      → IfWent (atom_values as' e) AreSpelledTerms
  atom_values_spelled [] e h b = All-nil (IsSpelledTerm free)
  atom_values_spelled (a ∷ rest) e h b =
      and_go_if (IsSpelledTerm free) AreSpelledTerms (go_on (atom_value a e))
      (λ t. and_go (atom_values rest e) (λ ts. Went (t ∷ ts)))
      (go_on_if (IsSpelledTerm free) (atom_value a e)
      (step_spelled (atom_value a e) (atom_spelled free e b a (All-head (IsSpelledAtom free) a rest h))))
      (λ t k. and_go_if AreSpelledTerms AreSpelledTerms (atom_values rest e) (λ ts. Went (t ∷ ts))
      (atom_values_spelled rest e (All-tail (IsSpelledAtom free) a rest h) b)
      (λ ts l. All-cons (IsSpelledTerm free) t ts k l))

  -- the values of atoms under each satisfier are spelled
  for_each_spelled : (as' : List syntax.Atom) (xs : List events.Event) → All (IsSpelledAtom free) as'
      → AreSpelledEvents free xs
      → IfWent (values_for_each as' xs) AreSpelledTerms
  for_each_spelled as' [] h a = All-nil (IsSpelledTerm free)
  for_each_spelled as' (events.Cut ∷ xs) h a = tt
  for_each_spelled as' (events.Fault f ∷ xs) h a = tt
  for_each_spelled as' (events.Sat e ∷ xs) h a =
      and_go_if AreSpelledTerms AreSpelledTerms (atom_values as' e)
      (λ ts. and_go (values_for_each as' xs) (λ us. Went (ts ++ us)))
      (atom_values_spelled as' e h (All-head (IsSpelledEvent free) (events.Sat e) xs a))
      (λ ts k. and_go_if AreSpelledTerms AreSpelledTerms (values_for_each as' xs) (λ us. Went (ts ++ us))
      (for_each_spelled as' xs h (All-tail (IsSpelledEvent free) (events.Sat e) xs a))
      (λ us l. All-append (IsSpelledTerm free) ts us k l))

  module _ (axioms : List syntax.Axiom) (known : All (IsSpelledAxiom free) axioms) (nest : ℕ) (s : events.State)
      (holds : AreSpelledTerms s) where
    -- the atoms of an effect are spelled
    effect_spelled : (x : syntax.Effect) (e : Bindings) → IsSpelledEffect free x → AreSpelledBindings free e
        → IfWent (effect_values axioms nest s x e) IsSpelledGathered
    effect_spelled (syntax.Change a) e h b =
        and_go_if (IsSpelledTerm free) IsSpelledGathered (go_on (atom_value a e)) (λ t. Went (of_atoms (t ∷ [])))
        (go_on_if (IsSpelledTerm free) (atom_value a e) (step_spelled (atom_value a e) (atom_spelled free e b a h)))
        (λ t k. all_one (IsSpelledTerm free) t k)
    effect_spelled (syntax.Protection a) e h b =
        and_go_if (λ t. Unit {0}) IsSpelledGathered (go_on (atom_value a e))
        (λ t. Went (record { atoms = []; protections = t ∷ [] })) (went_any (go_on (atom_value a e)))
        (λ t k. All-nil (IsSpelledTerm free))
    effect_spelled (syntax.Each vs E as') e h b =
        and_go_if AreSpelledTerms IsSpelledGathered (values_for_each as' (heard (events.sat axioms nest s E e)))
        (λ ts. Went (of_atoms ts))
        (for_each_spelled as' (heard (events.sat axioms nest s E e)) h.1
        (heard_spelled free axioms known nest s holds E e h.0 b)) (λ ts k. k)

    -- the atoms of effects are spelled
    effects_spelled : (xs : List syntax.Effect) (e : Bindings) → All (IsSpelledEffect free) xs
        → AreSpelledBindings free e
        → IfWent (effects_values axioms nest s xs e) IsSpelledGathered
    effects_spelled [] e h b = All-nil (IsSpelledTerm free)
    effects_spelled (x ∷ xs) e h b =
        and_go_if IsSpelledGathered IsSpelledGathered (effect_values axioms nest s x e)
        (λ g. and_go (effects_values axioms nest s xs e) (λ k. Went (both_gathered g k)))
        (effect_spelled x e (All-head (IsSpelledEffect free) x xs h) b)
        (λ g k. and_go_if IsSpelledGathered IsSpelledGathered (effects_values axioms nest s xs e)
        (λ k. Went (both_gathered g k)) (effects_spelled xs e (All-tail (IsSpelledEffect free) x xs h) b)
        (λ j l. All-append (IsSpelledTerm free) g.atoms j.atoms k l))

    -- an operator adds what is spelled
    operator_spelled : (o : syntax.Operator) (e : Bindings) → IsSpelledOperator free o → AreSpelledBindings free e
        → IfWent (effects axioms nest s o e) (λ r. AreSpelledTerms r.0.add)
    unfolding effects
    operator_spelled o e h b =
        and_go_if (λ d. Unit {0}) (λ r. AreSpelledTerms r.0.add) (effects_values axioms nest s o.dels e)
        (λ d. and_go (effects_values axioms nest s o.adds e)
        (λ a. and_go (cost_value o.cost e) (λ c. Went (changes_of d a, c))))
        (went_any (effects_values axioms nest s o.dels e))
        (λ d k. and_go_if IsSpelledGathered (λ r. AreSpelledTerms r.0.add) (effects_values axioms nest s o.adds e)
        (λ a. and_go (cost_value o.cost e) (λ c. Went (changes_of d a, c))) (effects_spelled o.adds e h.adds b)
        (λ a l. and_go_if (λ c. Unit {0}) (λ r. AreSpelledTerms r.0.add) (cost_value o.cost e)
        (λ c. Went (changes_of d a, c)) (went_any (cost_value o.cost e)) (λ c m. l)))

  -- ---- changes

  -- a state with atoms appended that are spelled is spelled
  pub added_spelled : (s ts : List Term) → AreSpelledTerms s → AreSpelledTerms ts
      → AreSpelledTerms (with_added same_term s ts)
  added_spelled s [] h k = h
  added_spelled s (t ∷ ts) h k =
      let u = All-head (IsSpelledTerm free) t ts k in
      added_spelled (cond (is_among same_term t s) s (s ++ t ∷ [])) ts
      (cond_both (is_among same_term t s) s (s ++ t ∷ []) AreSpelledTerms (λ e. h)
      (λ e. All-append (IsSpelledTerm free) s (t ∷ []) h (all_one (IsSpelledTerm free) t u)))
      (All-tail (IsSpelledTerm free) t ts k)

  -- the state is spelled to which changes lead, if they are not forbidden
  abbrev IfNow : Applied → Type 0
  IfNow (Now s g) = AreSpelledTerms s
  IfNow (Guarded d) = Unit {0}

  -- a state that is spelled stays so, if it is not forbidden
  unless_guarded_spelled : (o : Option Term) (s g : List Term) → AreSpelledTerms s → IfNow (unless_guarded o s g)
  unless_guarded_spelled None s g h = h
  unless_guarded_spelled (Some d) s g h = tt

  -- changes that add what is spelled lead to a state that is spelled
  apply_spelled : (s g : List Term) (c : Changes) → AreSpelledTerms s → AreSpelledTerms c.add → IfNow (apply s g c)
  unfolding apply
  apply_spelled s g c h k =
      unless_guarded_spelled (first_guarded same_term (cancelled same_term g c.unguard) c.delete)
      (changed same_term s c) (cancelled same_term g c.unguard ++ c.guard)
      (added_spelled (filter (λ a. not (is_among same_term a c.delete)) s) c.add
      (All-filter (λ a. not (is_among same_term a c.delete)) (IsSpelledTerm free) s h) k)

  -- ---- networks

  -- each task of a network is a step, whether an operator does it or not
  abbrev mutual
    pub IsSpelledNetwork : networks.Network → Type 0
    IsSpelledNetwork networks.Empty = Unit {0}
    IsSpelledNetwork (networks.Task t i) = IsSpelledStep free t
    IsSpelledNetwork (networks.Ordered ns) = AreSpelledNetworks ns
    IsSpelledNetwork (networks.Unordered ns) = AreSpelledNetworks ns

    -- the same of each of these networks
    pub AreSpelledNetworks : networks.Networks → Type 0
    AreSpelledNetworks networks.NoNetwork = Unit {0}
    AreSpelledNetworks (networks.And n ns) = IsSpelledNetwork n × AreSpelledNetworks ns

  module _ (e : Bindings) (b : AreSpelledBindings free e) where
    mutual
      unfolding networks.tasks_value networks.task_list_value

      -- the tasks of a network that a task list stands for are steps
      tasks_spelled : (t : syntax.Tasks) → AreSpelledTasks free t → IfOk (networks.tasks_value t e) IsSpelledNetwork
      tasks_spelled (syntax.Task a i) h =
          on_ok_if (IsSpelledStep free) IsSpelledNetwork (atom_value a e) (λ t. Ok (networks.Task t i))
          (atom_spelled free e b a h)
          (λ t k. k)
      tasks_spelled (syntax.Ordered ts) h =
          on_ok_if AreSpelledNetworks IsSpelledNetwork (networks.task_list_value ts e) (λ ns. Ok (networks.Ordered ns))
          (task_list_spelled ts h) (λ ns k. k)
      tasks_spelled (syntax.Unordered ts) h =
          on_ok_if AreSpelledNetworks IsSpelledNetwork (networks.task_list_value ts e)
          (λ ns. Ok (networks.Unordered ns))
          (task_list_spelled ts h) (λ ns k. k)

      -- those of the networks that its parts stand for are
      task_list_spelled : (ts : syntax.TaskList) → IsSpelledTaskList free ts
          → IfOk (networks.task_list_value ts e) AreSpelledNetworks
      task_list_spelled syntax.NoTasks h = tt
      task_list_spelled (syntax.Then t ts) h =
          on_ok_if IsSpelledNetwork AreSpelledNetworks (networks.tasks_value t e)
          (λ n. on_ok (networks.task_list_value ts e) (λ ns. Ok (networks.And n ns))) (tasks_spelled t h.0)
          (λ n k. on_ok_if AreSpelledNetworks AreSpelledNetworks (networks.task_list_value ts e)
          (λ ns. Ok (networks.And n ns)) (task_list_spelled ts h.1) (λ ns l. (k, l)))

  -- parts whose tasks are steps make such a network
  as_list_spelled : (f : networks.Networks → networks.Network)
      → ((ns : networks.Networks) → AreSpelledNetworks ns → IsSpelledNetwork (f ns)) → (ns : networks.Networks)
      → AreSpelledNetworks ns → IsSpelledNetwork (networks.as_list f ns)
  as_list_spelled f g networks.NoNetwork h = tt
  as_list_spelled f g (networks.And n networks.NoNetwork) h = h.0
  as_list_spelled f g (networks.And n (networks.And m ms)) h = g (networks.And n (networks.And m ms)) h

  -- networks whose tasks are steps stay so with one more
  unless_empty_spelled : (n : networks.Network) (ns : networks.Networks) → IsSpelledNetwork n → AreSpelledNetworks ns
      → AreSpelledNetworks (networks.unless_empty n ns)
  unless_empty_spelled n ns h k =
      cond_both (networks.is_empty n) ns (networks.And n ns) AreSpelledNetworks (λ e. k) (λ e. (h, k))

  mutual
    unfolding networks.normal networks.normal_parts

    -- the tasks of a network in normal form are steps, where they were before
    pub normal_spelled : (n : networks.Network) → IsSpelledNetwork n → IsSpelledNetwork (networks.normal n)
    normal_spelled networks.Empty h = tt
    normal_spelled (networks.Task t i) h = h
    normal_spelled (networks.Ordered ns) h =
        as_list_spelled networks.Ordered (λ ms k. k) (networks.normal_parts ns) (normal_parts_spelled ns h)
    normal_spelled (networks.Unordered ns) h =
        as_list_spelled networks.Unordered (λ ms k. k) (networks.normal_parts ns) (normal_parts_spelled ns h)

    -- those of its parts are
    normal_parts_spelled : (ns : networks.Networks) → AreSpelledNetworks ns
        → AreSpelledNetworks (networks.normal_parts ns)
    normal_parts_spelled networks.NoNetwork h = tt
    normal_parts_spelled (networks.And n ns) h =
        unless_empty_spelled (networks.normal n) (networks.normal_parts ns) (normal_spelled n h.0)
        (normal_parts_spelled ns h.1)

  mutual
    unfolding networks.part_at networks.nth_part_at

    -- the tasks of a part of a network are steps
    part_spelled : (n : networks.Network) (p : networks.Place) → IsSpelledNetwork n
        → IfSome (networks.part_at n p) IsSpelledNetwork
    part_spelled n [] h = h
    part_spelled networks.Empty (i ∷ p) h = tt
    part_spelled (networks.Task t j) (i ∷ p) h = tt
    part_spelled (networks.Ordered ns) (i ∷ p) h = nth_part_spelled ns i p h
    part_spelled (networks.Unordered ns) (i ∷ p) h = nth_part_spelled ns i p h

    -- those of a part by its number are
    nth_part_spelled : (ns : networks.Networks) (i : ℕ) (p : networks.Place) → AreSpelledNetworks ns
        → IfSome (networks.nth_part_at ns i p) IsSpelledNetwork
    nth_part_spelled networks.NoNetwork i p h = tt
    nth_part_spelled (networks.And n ns) zero p h = part_spelled n p h.0
    nth_part_spelled (networks.And n ns) (suc i) p h = nth_part_spelled ns i p h.1

  mutual
    unfolding networks.with_part networks.with_nth_part

    -- the tasks of a network with another part are steps
    with_part_spelled : (n : networks.Network) (p : networks.Place) (x : networks.Network) → IsSpelledNetwork n
        → IsSpelledNetwork x → IsSpelledNetwork (networks.with_part n p x)
    with_part_spelled n [] x h k = k
    with_part_spelled networks.Empty (i ∷ p) x h k = tt
    with_part_spelled (networks.Task t j) (i ∷ p) x h k = h
    with_part_spelled (networks.Ordered ns) (i ∷ p) x h k = with_nth_part_spelled ns i p x h k
    with_part_spelled (networks.Unordered ns) (i ∷ p) x h k = with_nth_part_spelled ns i p x h k

    -- those of networks with another part are
    with_nth_part_spelled : (ns : networks.Networks) (i : ℕ) (p : networks.Place) (x : networks.Network)
        → AreSpelledNetworks ns → IsSpelledNetwork x → AreSpelledNetworks (networks.with_nth_part ns i p x)
    with_nth_part_spelled networks.NoNetwork i p x h k = tt
    with_nth_part_spelled (networks.And n ns) zero p x h k = (with_part_spelled n p x h.0 k, h.1)
    with_nth_part_spelled (networks.And n ns) (suc i) p x h k = (h.0, with_nth_part_spelled ns i p x h.1 k)

  -- the tasks that are left once one is done are steps
  finish_spelled : (net : networks.Network) (p : networks.Place) → IsSpelledNetwork net
      → IsSpelledNetwork (networks.finish net p).0
  unfolding networks.finish
  finish_spelled net p h = normal_spelled (networks.with_part net p networks.Empty)
      (with_part_spelled net p networks.Empty h tt)

  -- the tasks that are left once one is decomposed are steps
  expand_spelled : (net : networks.Network) (p : networks.Place) (sub : networks.Network) → IsSpelledNetwork net
      → IsSpelledNetwork sub → IsSpelledNetwork (networks.expand net p sub).0
  unfolding networks.expand
  expand_spelled net p sub h k =
      cond_both (networks.is_empty sub) (networks.finish net p) (networks.with_part net p sub, Some p)
      (λ x. IsSpelledNetwork x.0) (λ e. finish_spelled net p h) (λ e. with_part_spelled net p sub h k)

  -- ---- nodes

  -- what holds in a node, what is to do and the steps so far
  pub record IsSpelledNode (n : walk.Node) : Type 0 where
    pub state : AreSpelledTerms n.state
    pub network : IsSpelledNetwork n.network
    pub steps : All (IsSpelledStep free) n.steps

  -- a child is spelled, where it is a node
  abbrev IsSpelledChild : walk.Child → Type 0
  IsSpelledChild (walk.DidChild m) = IsSpelledNode m
  IsSpelledChild walk.CutChild = Unit {0}
  IsSpelledChild (walk.FaultChild f) = Unit {0}

  -- each child is spelled, where it is a node
  abbrev AreSpelledChildren : List walk.Child → Type 0
  AreSpelledChildren cs = All IsSpelledChild cs

  -- children of spelled events are spelled, where those of bindings to what is spelled are
  children_of_events : (f : Bindings → List walk.Child)
      → ((b : Bindings) → AreSpelledBindings free b → AreSpelledChildren (f b)) → (xs : List events.Event)
      → AreSpelledEvents free xs → AreSpelledChildren (flat_map (walk.child_of f) xs)
  children_of_events f h xs a =
      all_join (walk.child_of f) IsSpelledChild xs
      (All-weaker (IsSpelledEvent free) (λ x. AreSpelledChildren (walk.child_of f x)) each xs a)
    where
      each : (x : events.Event) → IsSpelledEvent free x → AreSpelledChildren (walk.child_of f x)
      each (events.Sat b) p = h b p
      each events.Cut p = all_one IsSpelledChild walk.CutChild tt
      each (events.Fault x) p = all_one IsSpelledChild (walk.FaultChild x) tt

  module _ (n : walk.Node) (h : IsSpelledNode n) (p : networks.Place) where
    -- the child of an operator is spelled
    operated_spelled : (t : Term) (c : ℤ) (a : Applied) → IsSpelledStep free t → IfNow a
        → AreSpelledChildren (walk.operated n p t c a)
    operated_spelled t c (Guarded d) k l = All-nil IsSpelledChild
    operated_spelled t c (Now s g) k l =
        all_one IsSpelledChild _ (record {
          state = l;
          network = finish_spelled n.network p h.network;
          steps = All-append (IsSpelledStep free) n.steps (t ∷ []) h.steps (all_one (IsSpelledStep free) t k);
        })

    -- the child after effects is spelled
    after_effects_spelled : (t : Term) (r : Going (Changes × ℤ)) → IsSpelledStep free t
        → IfWent r (λ x. AreSpelledTerms x.0.add)
        → AreSpelledChildren (walk.after_effects n p t r)
    after_effects_spelled t CutShort k l = all_one IsSpelledChild walk.CutChild tt
    after_effects_spelled t (Failed f) k l = all_one IsSpelledChild (walk.FaultChild f) tt
    after_effects_spelled t (Went r) k l =
        operated_spelled t r.1 (apply n.state n.guards r.0) k (apply_spelled n.state n.guards r.0 h.state l)

    -- the child of subtasks is spelled
    decomposed_spelled : (r : Result networks.Network RunFault) → IfOk r IsSpelledNetwork
        → AreSpelledChildren (walk.decomposed n p r)
    decomposed_spelled (Err f) k = all_one IsSpelledChild (walk.FaultChild f) tt
    decomposed_spelled (Ok sub) k =
        all_one IsSpelledChild _ (record {
          state = h.state;
          network = expand_spelled n.network p (networks.normal sub) h.network (normal_spelled sub k);
          steps = h.steps;
        })

    -- the children of a branch that is chosen well are spelled
    branch_spelled : (o : Option (syntax.Branch × List events.Event))
        → IfSome o (IsChosenWell free (IsSpelledBranch free))
        → AreSpelledChildren (walk.branch_children n p o)
    branch_spelled None k = All-nil IsSpelledChild
    branch_spelled (Some c) k =
        children_of_events (λ b. walk.decomposed n p (networks.tasks_value c.0.tasks b))
        (λ b l. decomposed_spelled (networks.tasks_value c.0.tasks b) (tasks_spelled b l c.0.tasks k.0.tasks)) c.1 k.1

  module _ (rules : List syntax.Rule) (known : All (IsSpelledRule free) rules) (nest : ℕ) where
    -- the axioms among rules are spelled
    axioms_spelled : (rs : List syntax.Rule) → All (IsSpelledRule free) rs
        → All (IsSpelledAxiom free) (events.axioms_of rs)
    axioms_spelled [] h = All-nil (IsSpelledAxiom free)
    axioms_spelled (syntax.Does o ∷ rs) h = axioms_spelled rs (All-tail (IsSpelledRule free) (syntax.Does o) rs h)
    axioms_spelled (syntax.Refines m ∷ rs) h = axioms_spelled rs (All-tail (IsSpelledRule free) (syntax.Refines m) rs h)
    axioms_spelled (syntax.Concludes x ∷ rs) h =
        All-cons (IsSpelledAxiom free) x (events.axioms_of rs) (All-head (IsSpelledRule free) (syntax.Concludes x) rs h)
        (axioms_spelled rs (All-tail (IsSpelledRule free) (syntax.Concludes x) rs h))

    -- the axioms of the domain are spelled
    axioms_known : All (IsSpelledAxiom free) (events.axioms_of rules)
    axioms_known = axioms_spelled rules known

    module _ (n : walk.Node) (h : IsSpelledNode n) (p : networks.Place) where
      -- the children of an operator are spelled
      operator_children_spelled : (t : Term) (o : syntax.Operator) (b : Option Bindings) → IsSpelledStep free t
          → IsSpelledOperator free o → FindsSpelled free b
          → AreSpelledChildren (walk.operator_children rules nest n p t o b)
      operator_children_spelled t o None k l m = All-nil IsSpelledChild
      operator_children_spelled t o (Some e) k l m =
          children_of_events (λ b. walk.after_effects n p t (effects (events.axioms_of rules) nest n.state o b))
          (λ b q. after_effects_spelled n h p t (effects (events.axioms_of rules) nest n.state o b) k
          (operator_spelled (events.axioms_of rules) axioms_known nest n.state h.state o b l q))
          (precondition_events (events.axioms_of rules) nest n.state o.pre e)
          (precondition_spelled free (events.axioms_of rules) axioms_known nest n.state h.state o.pre e l.pre m)

      -- the children of a method are spelled
      method_children_spelled : (w : syntax.Method) (b : Option Bindings) → All (IsSpelledBranch free) w.branches
          → FindsSpelled free b → AreSpelledChildren (walk.method_children rules nest n p w b)
      method_children_spelled w None l m = All-nil IsSpelledChild
      method_children_spelled w (Some e) l m =
          branch_spelled n h p (walk.chosen_branch rules nest n.state w.branches e)
          (chosen_well free (IsSpelledBranch free)
          (λ b. precondition_events (events.axioms_of rules) nest n.state b.pre e)
          (λ b q. precondition_spelled free (events.axioms_of rules) axioms_known nest n.state h.state b.pre e q.pre m)
          w.branches l)

      -- the children of a rule are spelled
      rule_children_spelled : (t : Term) → IsSpelledStep free t → (r : syntax.Rule) → IsSpelledRule free r
          → AreSpelledChildren (walk.rule_children rules nest n p t r)
      rule_children_spelled t k (syntax.Does o) l =
          operator_children_spelled t o (match_atom o.head t (unbound (length o.vars))) k l
          (match_atom_spelled free o.head t (unbound (length o.vars)) k.spelled (unbound_spelled free (length o.vars)))
      rule_children_spelled t k (syntax.Refines w) l =
          method_children_spelled w (match_atom w.head t (unbound (length w.vars))) l
          (match_atom_spelled free w.head t (unbound (length w.vars)) k.spelled (unbound_spelled free (length w.vars)))
      rule_children_spelled t k (syntax.Concludes x) l = All-nil IsSpelledChild

      -- the children of a task are spelled
      task_children_spelled : (o : Option networks.Network) → IfSome o IsSpelledNetwork
          → AreSpelledChildren (walk.task_children rules nest n p o)
      task_children_spelled None k = All-nil IsSpelledChild
      task_children_spelled (Some networks.Empty) k = All-nil IsSpelledChild
      task_children_spelled (Some (networks.Task t i)) k =
          all_join (walk.rule_children rules nest n p t) IsSpelledChild rules
          (All-weaker (IsSpelledRule free) (λ r. AreSpelledChildren (walk.rule_children rules nest n p t r))
          (rule_children_spelled t k) rules known)
      task_children_spelled (Some (networks.Ordered ns)) k = All-nil IsSpelledChild
      task_children_spelled (Some (networks.Unordered ns)) k = All-nil IsSpelledChild

    -- the children of a spelled node are spelled
    children_spelled : (n : walk.Node) → IsSpelledNode n → AreSpelledChildren (walk.children rules nest n)
    unfolding walk.children
    children_spelled n h =
        all_join (λ p. walk.task_children rules nest n p (networks.part_at n.network p)) IsSpelledChild
        (networks.candidates n.network n.focus)
        (all_from (λ p. AreSpelledChildren (walk.task_children rules nest n p (networks.part_at n.network p)))
        (λ p. task_children_spelled n h p (networks.part_at n.network p) (part_spelled n.network p h.network))
        (networks.candidates n.network n.focus))

    -- a child of a spelled node is spelled
    child_spelled : (n m : walk.Node) (i : ℕ)
        → Contains (walk.numbered_children 0 (walk.children rules nest n)) (i, walk.DidChild m) → IsSpelledNode n
        → IsSpelledNode m
    child_spelled n m i c h =
        All-contains IsSpelledChild (walk.children rules nest n) (walk.DidChild m) (children_spelled n h)
        (contained_child 0 i (walk.DidChild m) (walk.children rules nest n) c)

    -- below a spelled node all visits are at spelled nodes
    pub visits_spelled : (n : walk.Node) (p : List ℕ) → IsSpelledNode n
        → All (λ v. IsSpelledNode v.node) (walk.visits rules nest n p)
    visits_spelled n p h =
        All-weaker (λ v. IsSpelledNode n → IsSpelledNode v.node) (λ v. IsSpelledNode v.node) (λ v f. f h)
        (walk.visits rules nest n p)
        (all_visits rules nest (λ n p v. IsSpelledNode n → IsSpelledNode v.node) (λ n p x h. h)
        (λ n m p i v c e f h. f (child_spelled n m i c h)) n p)
