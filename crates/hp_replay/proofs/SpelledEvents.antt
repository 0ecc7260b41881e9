-- Events bind variables to what is spelled, where the state, the rules and the bindings before are spelled.
use Rattle.std.proofs.Common.{ℕ, zero, suc, Bool, ◌&&◌, cond, ℤ, List, [], ◌∷◌, ◌++◌, map, length, Option, Some, None, Result, Ok, Err}
use Rattle.std.specs.Prelude.{IfSome, IfOk, flat_map}
use Rattle.std.specs.List.{All}
use Rattle.std.proofs.lemmas.Bool.{cond_both}
use Rattle.std.proofs.lemmas.List.Elements.{All-nil, All-cons, All-head, All-tail, All-append, All-map, All-weaker}
use Rattle.hp_syntax.specs.declared.pattern.Span.{Span}
use Rattle.hp_syntax.specs.declared.fault.RunFault.{RunFault}
use Rattle.hp_syntax.specs.declared.fault.FaultKind.TheVariants.{NotGround}
use Rattle.hp_syntax.specs.Calls.{fault_at}
use Rattle.hp_syntax.specs.Events as events
use Rattle.hp_syntax.specs.Goals.{Goal, fill_goal, match_goal, start_goal}
use Rattle.hp_syntax.specs.Matching.{meet}
use Rattle.hp_syntax.specs.Preconditions.{heard, Keyed, Keys, NoKey, keyed_with, cut_with, keyed_by, keyed, sorts_before, put_in, sorted, sorted_events, precondition_events}
use Rattle.hp_syntax.specs.Syntax as syntax
use Rattle.hp_syntax.specs.Terms.{Term, Symbol, Number, Listed, NoTerm, More}
use Rattle.hp_syntax.specs.Values.{Bindings, bound, unbound, value, atom_value}
use Rattle.hp_laws.proofs.HearingLemmas.{all_up_to}
use Rattle.hp_laws.proofs.JoinLemmas.{all_one, all_join}
use Rattle.hp_replay.proofs.SpelledSyntax.{AreSpelledExpressions, IsSpelledAtom, IsSpelledAxiom, IsSpelledClause, IsSpelledExpression, IsSpelledPrecondition, IsSpelledStep, IsSpelledTerm}
use Rattle.hp_replay.proofs.SpelledTerms.{AreSpelledBindings, FindsSpelled, unbound_spelled, value_spelled, atom_spelled, meet_spelled}
use Rattle.hp_replay.proofs.SpelledGoals.{IsSpelledGoal, goal_spelled, match_goal_spelled, start_goal_spelled}

module _ (free : Bool) where
  -- a satisfier binds variables to what is spelled
  abbrev pub IsSpelledEvent : events.Event → Type 0
  IsSpelledEvent (events.Sat e) = AreSpelledBindings free e
  IsSpelledEvent events.Cut = Unit {0}
  IsSpelledEvent (events.Fault f) = Unit {0}

  -- each satisfier among events does
  abbrev pub AreSpelledEvents : List events.Event → Type 0
  AreSpelledEvents xs = All IsSpelledEvent xs

  -- no events bind anything
  none_spelled : AreSpelledEvents []
  none_spelled = All-nil IsSpelledEvent

  -- a cut binds nothing
  cut_spelled : AreSpelledEvents (events.Cut ∷ [])
  cut_spelled = all_one IsSpelledEvent events.Cut tt

  -- a fault binds nothing
  fault_spelled : (f : RunFault) → AreSpelledEvents (events.Fault f ∷ [])
  fault_spelled f = all_one IsSpelledEvent (events.Fault f) tt

  -- a satisfier is spelled where its bindings are
  sat_spelled : (e : Bindings) → AreSpelledBindings free e → AreSpelledEvents (events.Sat e ∷ [])
  sat_spelled e b = all_one IsSpelledEvent (events.Sat e) b

  -- a satisfier that is found is spelled where its bindings are
  sat_if_spelled : (o : Option Bindings) → FindsSpelled free o → AreSpelledEvents (events.sat_if o)
  sat_if_spelled None h = none_spelled
  sat_if_spelled (Some b) h = sat_spelled b h

  -- events in the place of satisfiers are spelled, where those of bindings to what is spelled are
  through_spelled : (f : Bindings → List events.Event)
      → ((b : Bindings) → AreSpelledBindings free b → AreSpelledEvents (f b))
      → (xs : List events.Event) → AreSpelledEvents xs → AreSpelledEvents (events.through xs f)
  through_spelled f h xs a =
      all_join (events.in_place f) IsSpelledEvent xs
      (All-weaker IsSpelledEvent (λ x. AreSpelledEvents (events.in_place f x)) each xs a)
    where
      each : (x : events.Event) → IsSpelledEvent x → AreSpelledEvents (events.in_place f x)
      each (events.Sat b) p = h b p
      each events.Cut p = cut_spelled
      each (events.Fault x) p = fault_spelled x

  -- a negation binds nothing
  negated_spelled : (d : events.Finding) (e : Bindings) → AreSpelledBindings free e
      → AreSpelledEvents (events.negated d e)
  negated_spelled events.Satisfied e b = none_spelled
  negated_spelled (events.Faulty f) e b = fault_spelled f
  negated_spelled events.Undecided e b = cut_spelled
  negated_spelled events.Nothing e b = sat_spelled e b

  -- an assignment binds its variable to what is spelled
  assigned_spelled : (r : Result Term RunFault) (v : ℕ) (e : Bindings) → IfOk r (IsSpelledTerm free)
      → AreSpelledBindings free e
      → AreSpelledEvents (events.assigned r v e)
  assigned_spelled (Err f) v e h b = fault_spelled f
  assigned_spelled (Ok t) v e h b = sat_if_spelled (meet v t e) (meet_spelled free v t e h b)

  -- a test binds nothing
  tested_spelled : (r : Result Term RunFault) (e : Bindings) → AreSpelledBindings free e
      → AreSpelledEvents (events.tested r e)
  tested_spelled (Err f) e b = fault_spelled f
  tested_spelled (Ok (Listed NoTerm)) e b = none_spelled
  tested_spelled (Ok (Listed (More t ts))) e b = sat_spelled e b
  tested_spelled (Ok (Symbol name)) e b = sat_spelled e b
  tested_spelled (Ok (Number n)) e b = sat_spelled e b

  -- where the events of atoms are spelled, so are those of expressions
  module _ (atoms : syntax.Atom → Bindings → List events.Event)
      (h : (a : syntax.Atom) (e : Bindings) → IsSpelledAtom free a → AreSpelledBindings free e
      → AreSpelledEvents (atoms a e)) where
    mutual
      unfolding events.events events.events_of_all events.events_of_any

      -- the events of an expression are spelled
      expression_spelled : (E : syntax.Expression) (e : Bindings) → IsSpelledExpression free E
          → AreSpelledBindings free e
          → AreSpelledEvents (events.events atoms E e)
      expression_spelled (syntax.Holds s a) e k b = h a e k b
      expression_spelled (syntax.And s ps) e k b = all_of_spelled ps e k b
      expression_spelled (syntax.Or s ps) e k b = any_of_spelled ps e k b
      expression_spelled (syntax.Not s p) e k b = negated_spelled (events.finding (events.events atoms p e)) e b
      expression_spelled (syntax.Forall s vs y z) e k b =
          negated_spelled (events.finding (events.through (events.events atoms y e)
          (λ d. events.negated (events.finding (events.events atoms z d)) d))) e b
      expression_spelled (syntax.Assign s v p) e k b = assigned_spelled (value p e) v e (value_spelled free e b p k) b
      expression_spelled (syntax.Test s p) e k b = tested_spelled (value p e) e b

      -- those of a conjunction are
      all_of_spelled : (ps : syntax.Expressions) (e : Bindings) → AreSpelledExpressions free ps
          → AreSpelledBindings free e
          → AreSpelledEvents (events.events_of_all atoms ps e)
      all_of_spelled syntax.NoExpression e k b = sat_spelled e b
      all_of_spelled (syntax.Also p ps) e k b =
          through_spelled (events.events_of_all atoms ps) (λ d g. all_of_spelled ps d k.1 g) (events.events atoms p e)
          (expression_spelled p e k.0 b)

      -- those of a disjunction are
      any_of_spelled : (ps : syntax.Expressions) (e : Bindings) → AreSpelledExpressions free ps
          → AreSpelledBindings free e
          → AreSpelledEvents (events.events_of_any atoms ps e)
      any_of_spelled syntax.NoExpression e k b = none_spelled
      any_of_spelled (syntax.Also p ps) e k b =
          All-append IsSpelledEvent (events.events atoms p e) (events.events_of_any atoms ps e)
          (expression_spelled p e k.0 b) (any_of_spelled ps e k.1 b)

  -- ---- branches

  -- where each branch has one property and its events are spelled, so is that of the branch that is chosen
  abbrev pub IsChosenWell : {A : Type 0} → (A → Type 0) → A × List events.Event → Type 0
  IsChosenWell Q c = Q c.0 × AreSpelledEvents c.1

  module _ {A : Type 0} (Q : A → Type 0) (found : A → List events.Event)
      (h : (x : A) → Q x → AreSpelledEvents (found x)) where
    -- a branch with events that are spelled is chosen well before another that is
    chosen_or_well : (x : A) (xs : List events.Event) (other : Option (A × List events.Event)) → Q x
        → AreSpelledEvents xs → IfSome other (IsChosenWell Q) → IfSome (events.chosen_or x xs other) (IsChosenWell Q)
    chosen_or_well x [] other q a k = k
    chosen_or_well x (y ∷ ys) other q a k = (q, a)

    -- the branch that is chosen is chosen well
    pub chosen_well : (xs : List A) → All Q xs → IfSome (events.chosen found xs) (IsChosenWell Q)
    chosen_well [] a = tt
    chosen_well (x ∷ xs) a =
        let q = All-head Q x xs a in
        chosen_or_well x (found x) (events.chosen found xs) q (h x q) (chosen_well xs (All-tail Q x xs a))

  -- the events of a branch that is chosen well are spelled
  chosen_events_spelled : {A : Type 0} (Q : A → Type 0) (o : Option (A × List events.Event)) → IfSome o (IsChosenWell Q)
      → AreSpelledEvents (events.chosen_events o)
  chosen_events_spelled Q None h = none_spelled
  chosen_events_spelled Q (Some c) h = h.1

  -- ---- atoms

  -- what is met one level down is spelled
  abbrev IsSpelledBelow : events.Below → Type 0
  IsSpelledBelow None = Unit {0}
  IsSpelledBelow (Some f) =
      (E : syntax.Expression) (e : Bindings) → IsSpelledExpression free E → AreSpelledBindings free e
      → AreSpelledEvents (f E e)

  -- the events of the branch of an axiom that is chosen are spelled
  branch_events_spelled : (below : events.Below) (x : syntax.Axiom) (b : Bindings) → IsSpelledBelow below
      → IsSpelledAxiom free x → AreSpelledBindings free b → AreSpelledEvents (events.branch_events below x b)
  branch_events_spelled None x b g k h = cut_spelled
  branch_events_spelled (Some below) x b g k h =
      chosen_events_spelled (IsSpelledClause free) (events.chosen (λ c. below c.body b) x.clauses)
      (chosen_well (IsSpelledClause free) (λ c. below c.body b) (λ c l. g c.body b l h) x.clauses k.clauses)

  module _ (q : Goal) (e : Bindings) (b : AreSpelledBindings free e) where
    -- the conclusion by the value of a head binds variables of the goal to what is spelled
    value_concluded : (r : Result Term RunFault) → IfOk r (IsSpelledStep free)
        → AreSpelledEvents (events.concluded_value r q e)
    value_concluded (Err f) h = fault_spelled f
    value_concluded (Ok t) h = sat_if_spelled (match_goal q t e) (match_goal_spelled free q t e h.spelled b)

    -- the conclusion of an axiom binds variables of the goal to what is spelled
    concluded_spelled : (a : syntax.Atom) (d : Bindings) → IsSpelledAtom free a → AreSpelledBindings free d
        → AreSpelledEvents (events.concluded a d q e)
    concluded_spelled a d h k =
        cond_both (events.parts_bound a.args d && events.tail_is_bound a.tail d)
        (events.concluded_value (atom_value a d) q e) (events.Fault (fault_at NotGround a.span) ∷ []) AreSpelledEvents
        (λ l. value_concluded (atom_value a d) (atom_spelled free d k a h))
        (λ l. fault_spelled (fault_at NotGround a.span))

    -- the conclusions of an axiom that started are spelled
    started_spelled : (below : events.Below) (x : syntax.Axiom) (o : Option Bindings) → IsSpelledBelow below
        → IsSpelledAxiom free x → FindsSpelled free o → AreSpelledEvents (events.started_events below x o q e)
    started_spelled below x None g k h = none_spelled
    started_spelled below x (Some d) g k h =
        through_spelled (λ c. events.concluded x.head c q e) (λ c l. concluded_spelled x.head c k.head l)
        (events.branch_events below x d) (branch_events_spelled below x d g k h)

    -- the events of an axiom at a goal are spelled
    axiom_spelled : (below : events.Below) → IsSpelledBelow below → IsSpelledGoal free q → (x : syntax.Axiom)
        → IsSpelledAxiom free x → AreSpelledEvents (events.axiom_events below x q e)
    axiom_spelled below g h x k =
        started_spelled below x (start_goal x.head q (unbound (length x.vars))) g k
        (start_goal_spelled free x.head q (unbound (length x.vars)) h (unbound_spelled free (length x.vars)))

  module _ (axioms : List syntax.Axiom) (known : All (IsSpelledAxiom free) axioms) (s : events.State)
      (holds : All (IsSpelledTerm free) s) where
    module _ (below : events.Below) (g : IsSpelledBelow below) where
      -- the events of a goal are spelled
      goal_events_spelled : (q : Goal) (e : Bindings) → IsSpelledGoal free q → AreSpelledBindings free e
          → AreSpelledEvents (events.goal_events axioms below s q e)
      goal_events_spelled q e h b =
          All-append IsSpelledEvent (events.state_events s q e) (flat_map (λ x. events.axiom_events below x q e) axioms)
          (all_join (λ t. events.sat_if (match_goal q t e)) IsSpelledEvent s
          (All-weaker (IsSpelledTerm free) (λ t. AreSpelledEvents (events.sat_if (match_goal q t e)))
          (λ t k. sat_if_spelled (match_goal q t e) (match_goal_spelled free q t e k b)) s holds))
          (all_join (λ x. events.axiom_events below x q e) IsSpelledEvent axioms
          (All-weaker (IsSpelledAxiom free) (λ x. AreSpelledEvents (events.axiom_events below x q e))
          (axiom_spelled q e b below g h) axioms known))

      -- the events of an atom that is filled are spelled
      filled_events_spelled : (r : Result Goal RunFault) (e : Bindings) → IfOk r (IsSpelledGoal free)
          → AreSpelledBindings free e
          → AreSpelledEvents (events.filled_events axioms below s r e)
      filled_events_spelled (Err f) e h b = fault_spelled f
      filled_events_spelled (Ok q) e h b = goal_events_spelled q e h b

      -- the events of an atom are spelled
      atom_events_spelled : (a : syntax.Atom) (e : Bindings) → IsSpelledAtom free a → AreSpelledBindings free e
          → AreSpelledEvents (events.atom_events axioms below s a e)
      atom_events_spelled a e h b = filled_events_spelled (fill_goal a e) e (goal_spelled free e b a h) b

    -- the events of an expression are spelled
    pub sat_events_spelled : (nest : ℕ) (E : syntax.Expression) (e : Bindings) → IsSpelledExpression free E
        → AreSpelledBindings free e → AreSpelledEvents (events.sat axioms nest s E e)
    unfolding events.sat
    sat_events_spelled zero E e h b =
        expression_spelled (events.atom_events axioms None s) (atom_events_spelled None tt) E e h b
    sat_events_spelled (suc n) E e h b =
        expression_spelled (events.atom_events axioms (Some (events.sat axioms n s)) s)
        (atom_events_spelled (Some (events.sat axioms n s)) (sat_events_spelled n)) E e h b

  -- ---- preconditions

  -- a satisfier with its key binds variables to what is spelled
  abbrev IsSpelledKey : ℤ × Bindings → Type 0
  IsSpelledKey x = AreSpelledBindings free x.1

  -- each satisfier with its key does
  abbrev AreSpelledKeys : Keyed → Type 0
  AreSpelledKeys (NoKey f) = Unit {0}
  AreSpelledKeys (Keys xs cut) = All IsSpelledKey xs

  -- one more satisfier with its key is spelled where its bindings are
  keyed_with_spelled : (n : ℤ) (b : Bindings) (k : Keyed) → AreSpelledBindings free b → AreSpelledKeys k
      → AreSpelledKeys (keyed_with n b k)
  keyed_with_spelled n b (NoKey f) g a = tt
  keyed_with_spelled n b (Keys xs cut) g a = All-cons IsSpelledKey (n, b) xs g a

  -- one more satisfier with a key that is asked for is spelled, or a fault
  keyed_by_spelled : (s : Span) (t : Option Term) (b : Bindings) (k : Keyed) → AreSpelledBindings free b
      → AreSpelledKeys k
      → AreSpelledKeys (keyed_by s t b k)
  keyed_by_spelled s None b k g a = tt
  keyed_by_spelled s (Some (Number n)) b k g a = keyed_with_spelled n b k g a
  keyed_by_spelled s (Some (Symbol name)) b k g a = tt
  keyed_by_spelled s (Some (Listed ts)) b k g a = tt

  -- a cut changes no satisfier with its key
  cut_with_spelled : (k : Keyed) → AreSpelledKeys k → AreSpelledKeys (cut_with k)
  cut_with_spelled (NoKey f) a = tt
  cut_with_spelled (Keys xs cut) a = a

  -- satisfiers with their keys are spelled where the events are
  keyed_spelled : (key : syntax.Key) (xs : List events.Event) → AreSpelledEvents xs → AreSpelledKeys (keyed key xs)
  keyed_spelled key [] a = All-nil IsSpelledKey
  keyed_spelled key (events.Sat b ∷ xs) a =
      keyed_by_spelled key.span (bound b key.var) b (keyed key xs) (All-head IsSpelledEvent (events.Sat b) xs a)
      (keyed_spelled key xs (All-tail IsSpelledEvent (events.Sat b) xs a))
  keyed_spelled key (events.Cut ∷ xs) a =
      cut_with_spelled (keyed key xs) (keyed_spelled key xs (All-tail IsSpelledEvent events.Cut xs a))
  keyed_spelled key (events.Fault f ∷ xs) a = tt

  module _ (before : ℤ → ℤ → Bool) where
    -- satisfiers are spelled with one more put in
    put_in_spelled : (x : ℤ × Bindings) (ys : List (ℤ × Bindings)) → IsSpelledKey x → All IsSpelledKey ys
        → All IsSpelledKey (put_in before x ys)
    put_in_spelled x [] h a = all_one IsSpelledKey x h
    put_in_spelled x (y ∷ ys) h a =
        cond_both (before y.0 x.0) (y ∷ put_in before x ys) (x ∷ y ∷ ys) (All IsSpelledKey)
        (λ k. All-cons IsSpelledKey y (put_in before x ys) (All-head IsSpelledKey y ys a)
        (put_in_spelled x ys h (All-tail IsSpelledKey y ys a)))
        (λ k. All-cons IsSpelledKey x (y ∷ ys) h a)

    -- satisfiers are spelled once they are sorted
    sorted_spelled : (xs : List (ℤ × Bindings)) → All IsSpelledKey xs → All IsSpelledKey (sorted before xs)
    sorted_spelled [] a = a
    sorted_spelled (x ∷ xs) a =
        put_in_spelled x (sorted before xs) (All-head IsSpelledKey x xs a)
        (sorted_spelled xs (All-tail IsSpelledKey x xs a))

  -- satisfiers and a cut behind them are spelled
  sats_spelled : (xs : List (ℤ × Bindings)) (cut : Bool) → All IsSpelledKey xs
      → AreSpelledEvents (map (λ x. events.Sat x.1) xs ++ cond cut (events.Cut ∷ []) [])
  sats_spelled xs cut a =
      All-append IsSpelledEvent (map (λ x. events.Sat x.1) xs) (cond cut (events.Cut ∷ []) [])
      (All-map IsSpelledEvent (λ x. events.Sat x.1) xs a)
      (cond_both cut (events.Cut ∷ []) [] AreSpelledEvents (λ k. cut_spelled) (λ k. none_spelled))

  -- the events of satisfiers that are sorted are spelled
  sorted_events_spelled : (order : syntax.Order) (k : Keyed) → AreSpelledKeys k
      → AreSpelledEvents (sorted_events order k)
  sorted_events_spelled order (NoKey f) a = fault_spelled f
  sorted_events_spelled order (Keys xs cut) a =
      sats_spelled (sorted (sorts_before order) xs) cut (sorted_spelled (sorts_before order) xs a)

  module _ (axioms : List syntax.Axiom) (known : All (IsSpelledAxiom free) axioms) (nest : ℕ) (s : events.State)
      (holds : All (IsSpelledTerm free) s) where
    -- the events of an expression are spelled, as far as they are heard
    pub heard_spelled : (E : syntax.Expression) (e : Bindings) → IsSpelledExpression free E → AreSpelledBindings free e
        → AreSpelledEvents (heard (events.sat axioms nest s E e))
    heard_spelled E e h b =
        all_up_to events.is_fault IsSpelledEvent (events.sat axioms nest s E e)
        (sat_events_spelled axioms known s holds nest E e h b)

    -- the events of a precondition are spelled
    pub precondition_spelled : (p : syntax.Precondition) (e : Bindings) → IsSpelledPrecondition free p
        → AreSpelledBindings free e
        → AreSpelledEvents (precondition_events axioms nest s p e)
    unfolding precondition_events
    precondition_spelled (syntax.Plain E) e h b = heard_spelled E e h b
    precondition_spelled (syntax.First E) e h b =
        all_up_to events.is_sat IsSpelledEvent (heard (events.sat axioms nest s E e)) (heard_spelled E e h b)
    precondition_spelled (syntax.Sorted key E) e h b =
        sorted_events_spelled key.order (keyed key (heard (events.sat axioms nest s E e)))
        (keyed_spelled key (heard (events.sat axioms nest s E e)) (heard_spelled E e h b))
