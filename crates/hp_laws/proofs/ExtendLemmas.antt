-- Events extend the bindings that they begin with.
use Rattle.std.proofs.Common.{◌≡◌, ℕ, zero, suc, Bool, cond, List, [], ◌∷◌, ◌++◌, map, Option, Some, None, Result, Ok, Err, refl, ◌&&◌, length}
use Rattle.std.specs.Prelude.{ℤ, bytes_eq, flat_map}
use Rattle.std.specs.List.{All}
use Rattle.std.proofs.lemmas.Bool.{cond_both}
use Rattle.std.proofs.lemmas.Option.{none-some, same_Some, cond_some}
use Rattle.std.proofs.lemmas.List.Elements.{All-nil, All-cons, All-head, All-tail, All-append, All-map, All-weaker}
use Rattle.hp_syntax.specs.declared.pattern.Span.{Span}
use Rattle.hp_syntax.specs.declared.fault.RunFault.{RunFault}
use Rattle.hp_syntax.specs.declared.fault.FaultKind.TheVariants.{NotGround}
use Rattle.hp_syntax.specs.Syntax as syntax
use Rattle.hp_syntax.specs.Terms.{Term, Terms, Symbol, Number, Listed, NoTerm, More, same_term}
use Rattle.hp_syntax.specs.Calls.{fault_at}
use Rattle.hp_syntax.specs.Values.{Bindings, Extends, bound, unbound, value, atom_value}
use Rattle.hp_syntax.specs.Matching.{meet}
use Rattle.hp_syntax.specs.Goals.{Goal, Filled, Fillings, Known, Free, Partly, NoFilling, Then, fill_goal, match_free_tail, match_filled, match_fillings, match_goal, start_goal}
use Rattle.hp_syntax.specs.Events as events
use Rattle.hp_syntax.specs.Preconditions.{heard, Keyed, Keys, NoKey, keyed_with, cut_with, keyed_by, keyed, sorts_before, put_in, sorted, sorted_events, precondition_events}
use Rattle.hp_laws.proofs.ResultLemmas.{and_then_some}
use Rattle.hp_laws.proofs.JoinLemmas.{all_from, all_one, all_join}
use Rattle.hp_laws.proofs.HearingLemmas.{all_up_to}
use Rattle.hp_laws.proofs.BindingLemmas.{extends_self, extends_through, extends_equal}
use Rattle.hp_laws.proofs.MatchLemmas.{meet_least}

-- ---- matching

-- meeting a variable extends the bindings
meet_extends : (v : ℕ) (t : Term) (e b : Bindings) → meet v t e ≡ Some b → Extends e b
meet_extends v t e b h = ((meet_least v t e).sound b h).0

-- matching a free tail extends the bindings
free_tail_extends : (tail : Option ℕ) (ts : Terms) (e b : Bindings) → match_free_tail tail ts e ≡ Some b → Extends e b
free_tail_extends (Some v) ts e b h = meet_extends v (Listed ts) e b h
free_tail_extends None NoTerm e b h = extends_equal e b (same_Some e b h)
free_tail_extends None (More t ts) e b h = absurd (none-some b h)

-- matching a part of a goal, or its parts, extends the bindings
mutual
  unfolding match_filled match_fillings

  filled_extends : (f : Filled) (t : Term) (e b : Bindings) → match_filled f t e ≡ Some b → Extends e b
  filled_extends (Known x) t e b h = extends_equal e b (cond_some (same_term x t) e b h).1
  filled_extends (Free v) t e b h = meet_extends v t e b h
  filled_extends (Partly fs tail) (Listed ts) e b h = fillings_extend fs tail ts e b h
  filled_extends (Partly fs tail) (Symbol name) e b h = absurd (none-some b h)
  filled_extends (Partly fs tail) (Number n) e b h = absurd (none-some b h)

  fillings_extend : (fs : Fillings) (tail : Option ℕ) (ts : Terms) (e b : Bindings)
      → match_fillings fs tail ts e ≡ Some b → Extends e b
  fillings_extend NoFilling tail ts e b h = free_tail_extends tail ts e b h
  fillings_extend (Then f fs) tail NoTerm e b h = absurd (none-some b h)
  fillings_extend (Then f fs) tail (More t ts) e b h =
      let a = and_then_some (match_fillings fs tail ts) (match_filled f t e) b h in
      extends_through e a.0 b (filled_extends f t e a.0 a.1) (fillings_extend fs tail ts a.0 b a.2)

-- matching a goal extends the bindings
pub goal_extends : (q : Goal) (t : Term) (e b : Bindings) → match_goal q t e ≡ Some b → Extends e b
goal_extends q (Listed (More (Symbol name) ts)) e b h =
    cond_both (bytes_eq q.name name) (match_fillings q.parts q.tail ts e) None (λ o. o ≡ Some b → Extends e b)
    (λ k. fillings_extend q.parts q.tail ts e b) (λ k n. absurd (none-some b n)) h
goal_extends q t e b h = absurd (none-some b h)

-- ---- expressions

-- an event that extends bindings extends those that they extend
event_extends_through : (e b : Bindings) → Extends e b → (x : events.Event) → events.EventExtends b x
    → events.EventExtends e x
event_extends_through e b g (events.Sat d) h = extends_through e b d g h
event_extends_through e b g events.Cut h = tt
event_extends_through e b g (events.Fault f) h = tt

module _ (e : Bindings) where
  -- all events of a list extend the bindings
  abbrev AllExtend : List events.Event → Type 0
  AllExtend xs = All (events.EventExtends e) xs

  -- a cut extends any bindings
  cut_extends : AllExtend (events.Cut ∷ [])
  cut_extends = all_one (events.EventExtends e) events.Cut tt

  -- a fault extends any bindings
  fault_extends : (f : RunFault) → AllExtend (events.Fault f ∷ [])
  fault_extends f = all_one (events.EventExtends e) (events.Fault f) tt

  -- bindings extend themselves
  self_extends : AllExtend (events.Sat e ∷ [])
  self_extends = all_one (events.EventExtends e) (events.Sat e) (extends_self e)

  -- a satisfier extends the bindings where what is found does
  sat_if_extends : (o : Option Bindings) → ((b : Bindings) → o ≡ Some b → Extends e b) → AllExtend (events.sat_if o)
  sat_if_extends None h = All-nil (events.EventExtends e)
  sat_if_extends (Some b) h = all_one (events.EventExtends e) (events.Sat b) (h b refl)

  -- events of which each Sat is replaced by events that extend the bindings extend them
  through_extends : (P : events.Event → Type 0) (f : Bindings → List events.Event)
      → ((b : Bindings) → P (events.Sat b) → AllExtend (f b))
      → (xs : List events.Event) → All P xs → AllExtend (events.through xs f)
  through_extends P f h xs a =
      all_join (events.in_place f) (events.EventExtends e) xs (All-weaker P
      (λ x. AllExtend (events.in_place f x)) each xs a)
    where
      each : (x : events.Event) → P x → AllExtend (events.in_place f x)
      each (events.Sat b) p = h b p
      each events.Cut p = cut_extends
      each (events.Fault x) p = fault_extends x

  -- a negation extends the bindings
  negated_extends : (d : events.Finding) → AllExtend (events.negated d e)
  negated_extends events.Satisfied = All-nil (events.EventExtends e)
  negated_extends (events.Faulty f) = fault_extends f
  negated_extends events.Undecided = cut_extends
  negated_extends events.Nothing = self_extends

  -- an assignment extends the bindings
  assigned_extends : (r : Result Term RunFault) (v : ℕ) → AllExtend (events.assigned r v e)
  assigned_extends (Err f) v = fault_extends f
  assigned_extends (Ok t) v = sat_if_extends (meet v t e) (meet_extends v t e)

  -- a test extends the bindings
  tested_extends : (r : Result Term RunFault) → AllExtend (events.tested r e)
  tested_extends (Err f) = fault_extends f
  tested_extends (Ok (Listed NoTerm)) = All-nil (events.EventExtends e)
  tested_extends (Ok (Listed (More t ts))) = self_extends
  tested_extends (Ok (Symbol name)) = self_extends
  tested_extends (Ok (Number n)) = self_extends

-- where the events of atoms extend their bindings, so do those of expressions
module _ (atoms : syntax.Atom → Bindings → List events.Event)
    (h : (a : syntax.Atom) (e : Bindings) → AllExtend e (atoms a e)) where
  mutual
    unfolding events.events events.events_of_all events.events_of_any

    expression_extends : (E : syntax.Expression) (e : Bindings) → AllExtend e (events.events atoms E e)
    expression_extends (syntax.Holds s a) e = h a e
    expression_extends (syntax.And s ps) e = all_of_extend ps e
    expression_extends (syntax.Or s ps) e = any_of_extend ps e
    expression_extends (syntax.Not s p) e = negated_extends e (events.finding (events.events atoms p e))
    expression_extends (syntax.Forall s vs y z) e =
        negated_extends e (events.finding (events.through (events.events atoms y e)
        (λ b. events.negated (events.finding (events.events atoms z b)) b)))
    expression_extends (syntax.Assign s v p) e = assigned_extends e (value p e) v
    expression_extends (syntax.Test s p) e = tested_extends e (value p e)

    all_of_extend : (ps : syntax.Expressions) (e : Bindings) → AllExtend e (events.events_of_all atoms ps e)
    all_of_extend syntax.NoExpression e = self_extends e
    all_of_extend (syntax.Also p ps) e =
        through_extends e (events.EventExtends e) (events.events_of_all atoms ps)
        (λ b g. All-weaker (events.EventExtends b) (events.EventExtends e) (event_extends_through e b g)
        (events.events_of_all atoms ps b)
        (all_of_extend ps b)) (events.events atoms p e) (expression_extends p e)

    any_of_extend : (ps : syntax.Expressions) (e : Bindings) → AllExtend e (events.events_of_any atoms ps e)
    any_of_extend syntax.NoExpression e = All-nil (events.EventExtends e)
    any_of_extend (syntax.Also p ps) e =
        All-append (events.EventExtends e) (events.events atoms p e) (events.events_of_any atoms ps e)
        (expression_extends p e)
        (any_of_extend ps e)

-- ---- atoms

module _ (q : Goal) (e : Bindings) where
  -- the satisfier of a goal by a term extends the bindings
  matched_extends : (t : Term) → AllExtend e (events.sat_if (match_goal q t e))
  matched_extends t = sat_if_extends e (match_goal q t e) (goal_extends q t e)

  -- the conclusion of an axiom extends the goal's bindings, whatever its own are
  concluded_extends : (h : syntax.Atom) (b : Bindings) → AllExtend e (events.concluded h b q e)
  concluded_extends h b =
      cond_both (events.parts_bound h.args b && events.tail_is_bound h.tail b)
      (events.concluded_value (atom_value h b) q e)
      (events.Fault (fault_at NotGround h.span) ∷ []) (AllExtend e) (λ k. of_value (atom_value h b))
      (λ k. fault_extends e (fault_at NotGround h.span))
    where
      of_value : (r : Result Term RunFault) → AllExtend e (events.concluded_value r q e)
      of_value (Err f) = fault_extends e f
      of_value (Ok t) = matched_extends t

  -- the events of an axiom extend the goal's bindings
  started_extends : (below : events.Below) (x : syntax.Axiom) (o : Option Bindings)
      → AllExtend e (events.started_events below x o q e)
  started_extends below x None = All-nil (events.EventExtends e)
  started_extends below x (Some b) =
      through_extends e (λ y. Unit {0}) (λ d. events.concluded x.head d q e) (λ d k. concluded_extends x.head d)
      (events.branch_events below x b) (all_from (λ y. Unit {0}) (λ y. tt) (events.branch_events below x b))

  -- the events of a goal extend the bindings
  pub goal_events_extend : (axioms : List syntax.Axiom) (below : events.Below) (s : events.State)
      → AllExtend e (events.goal_events axioms below s q e)
  goal_events_extend axioms below s =
      All-append (events.EventExtends e) (events.state_events s q e)
      (flat_map (λ x. events.axiom_events below x q e) axioms)
      (all_join (λ g. events.sat_if (match_goal q g e)) (events.EventExtends e) s
      (all_from (λ g. AllExtend e (events.sat_if (match_goal q g e))) matched_extends s))
      (all_join (λ x. events.axiom_events below x q e) (events.EventExtends e) axioms
      (all_from (λ x. AllExtend e (events.axiom_events below x q e))
      (λ x. started_extends below x (start_goal x.head q (unbound (length x.vars)))) axioms))

module _ (axioms : List syntax.Axiom) (below : events.Below) (s : events.State) where
  -- the events of an atom that is filled, or is a fault, extend the bindings
  filled_events_extend : (r : Result Goal RunFault) (e : Bindings)
      → AllExtend e (events.filled_events axioms below s r e)
  filled_events_extend (Err f) e = fault_extends e f
  filled_events_extend (Ok q) e = goal_events_extend q e axioms below s

  -- the events of an atom extend the bindings
  pub atom_events_extend : (a : syntax.Atom) (e : Bindings) → AllExtend e (events.atom_events axioms below s a e)
  atom_events_extend a e = filled_events_extend (fill_goal a e) e

-- the events of an expression extend the bindings
pub sat_extends : (axioms : List syntax.Axiom) (nest : ℕ) (s : events.State) (E : syntax.Expression) (e : Bindings)
    → AllExtend e (events.sat axioms nest s E e)
unfolding events.sat
sat_extends axioms zero s E e =
    expression_extends (events.atom_events axioms None s) (atom_events_extend axioms None s) E e
sat_extends axioms (suc n) s E e =
    expression_extends (events.atom_events axioms (Some (events.sat axioms n s)) s)
    (atom_events_extend axioms (Some (events.sat axioms n s)) s) E e

-- ---- preconditions

module _ (P : ℤ × Bindings → Type 0) (before : ℤ → ℤ → Bool) where
  -- a fact of all satisfiers and of one more is one of all with this one put in
  all_put_in : (x : ℤ × Bindings) (ys : List (ℤ × Bindings)) → P x → All P ys → All P (put_in before x ys)
  all_put_in x [] h a = all_one P x h
  all_put_in x (y ∷ ys) h a =
      cond_both (before y.0 x.0) (y ∷ put_in before x ys) (x ∷ y ∷ ys) (All P)
      (λ k. All-cons P y (put_in before x ys) (All-head P y ys a) (all_put_in x ys h (All-tail P y ys a)))
      (λ k. All-cons P x (y ∷ ys) h a)

  -- a fact of all satisfiers is one of all once they are sorted
  all_sorted : (xs : List (ℤ × Bindings)) → All P xs → All P (sorted before xs)
  all_sorted [] a = a
  all_sorted (x ∷ xs) a = all_put_in x (sorted before xs) (All-head P x xs a) (all_sorted xs (All-tail P x xs a))

module _ (e : Bindings) where
  -- a satisfier with its number extends the bindings
  abbrev pub KeyExtends : ℤ × Bindings → Type 0
  KeyExtends x = Extends e x.1

  -- each satisfier that is to be sorted extends the bindings
  abbrev pub KeysExtend : Keyed → Type 0
  KeysExtend (NoKey f) = Unit {0}
  KeysExtend (Keys xs cut) = All KeyExtends xs

  -- one more satisfier that extends the bindings is among those that do
  keyed_with_extends : (n : ℤ) (b : Bindings) (k : Keyed) → Extends e b → KeysExtend k → KeysExtend (keyed_with n b k)
  keyed_with_extends n b (NoKey f) g a = tt
  keyed_with_extends n b (Keys xs cut) g a = All-cons KeyExtends (n, b) xs g a

  -- one more satisfier with a key that is asked for is among those that extend the bindings, or is a fault
  keyed_by_extends : (s : Span) (t : Option Term) (b : Bindings) (k : Keyed) → Extends e b → KeysExtend k
      → KeysExtend (keyed_by s t b k)
  keyed_by_extends s None b k g a = tt
  keyed_by_extends s (Some (Number n)) b k g a = keyed_with_extends n b k g a
  keyed_by_extends s (Some (Symbol name)) b k g a = tt
  keyed_by_extends s (Some (Listed ts)) b k g a = tt

  -- a cut changes no satisfier
  cut_with_extends : (k : Keyed) → KeysExtend k → KeysExtend (cut_with k)
  cut_with_extends (NoKey f) a = tt
  cut_with_extends (Keys xs cut) a = a

  -- the satisfiers with their keys extend the bindings where the events do
  pub keyed_extends : (key : syntax.Key) (xs : List events.Event) → AllExtend e xs → KeysExtend (keyed key xs)
  keyed_extends key [] a = All-nil KeyExtends
  keyed_extends key (events.Sat b ∷ xs) a =
      keyed_by_extends key.span (bound b key.var) b (keyed key xs)
      (All-head (events.EventExtends e) (events.Sat b) xs a)
      (keyed_extends key xs (All-tail (events.EventExtends e) (events.Sat b) xs a))
  keyed_extends key (events.Cut ∷ xs) a =
      cut_with_extends (keyed key xs) (keyed_extends key xs (All-tail (events.EventExtends e) events.Cut xs a))
  keyed_extends key (events.Fault f ∷ xs) a = tt

  -- satisfiers that extend the bindings are events that do, also with a cut behind them
  pub sats_extend : (xs : List (ℤ × Bindings)) (cut : Bool) → All KeyExtends xs
      → AllExtend e (map (λ x. events.Sat x.1) xs ++ cond cut (events.Cut ∷ []) [])
  sats_extend xs cut a =
      All-append (events.EventExtends e) (map (λ x. events.Sat x.1) xs) (cond cut (events.Cut ∷ []) [])
      (All-map (events.EventExtends e) (λ x. events.Sat x.1) xs a)
      (cond_both cut (events.Cut ∷ []) [] (AllExtend e) (λ k. cut_extends e) (λ k. All-nil (events.EventExtends e)))

  -- the events of satisfiers that are sorted extend the bindings
  pub sorted_events_extend : (order : syntax.Order) (k : Keyed) → KeysExtend k → AllExtend e (sorted_events order k)
  sorted_events_extend order (NoKey f) a = fault_extends e f
  sorted_events_extend order (Keys xs cut) a =
      sats_extend (sorted (sorts_before order) xs) cut (all_sorted KeyExtends (sorts_before order) xs a)

-- the events of a precondition extend the bindings
pub precondition_extends : (axioms : List syntax.Axiom) (nest : ℕ) (s : events.State) (p : syntax.Precondition)
    (e : Bindings)
    → AllExtend e (precondition_events axioms nest s p e)
unfolding precondition_events
precondition_extends axioms nest s (syntax.Plain E) e =
    all_up_to events.is_fault (events.EventExtends e) (events.sat axioms nest s E e) (sat_extends axioms nest s E e)
precondition_extends axioms nest s (syntax.First E) e =
    all_up_to events.is_sat (events.EventExtends e) (heard (events.sat axioms nest s E e))
    (all_up_to events.is_fault (events.EventExtends e) (events.sat axioms nest s E e) (sat_extends axioms nest s E e))
precondition_extends axioms nest s (syntax.Sorted key E) e =
    sorted_events_extend e key.order (keyed key (heard (events.sat axioms nest s E e)))
    (keyed_extends e key (heard (events.sat axioms nest s E e))
    (all_up_to events.is_fault (events.EventExtends e) (events.sat axioms nest s E e) (sat_extends axioms nest s E e)))
