-- Each Sat that is left extends the bindings of the start.
use Rattle.std.proofs.Common.{ℕ, zero, suc, ◌-◌, ◌≤◌, ◌++◌, List, [], Option, Some, None, length, drop, arith, subst}
use Rattle.std.specs.List.{All}
use Rattle.std.specs.Prelude.{Bool, true, false, Result, Ok, Err, ◌∷◌, ◌≡◌, cond, refl}
use Rattle.std.proofs.lemmas.List.Elements.{All-nil, All-append}
use Rattle.hp_syntax.specs.declared.pattern.Span.{Span}
use Rattle.hp_syntax.specs.Syntax.{Atom, Axiom, Expression, Expressions}
use Rattle.hp_syntax.specs.Syntax as syntax
use Rattle.hp_syntax.specs.Values.{Bindings, Extends}
use Rattle.hp_syntax.specs.Goals.{Goal, fill_goal}
use Rattle.hp_syntax.specs.Matching.{match_atom}
use Rattle.hp_syntax.specs.Terms.{Term}
use Rattle.hp_syntax.specs.declared.fault.RunFault.{RunFault}
use Rattle.hp_syntax.specs.Events.{Event, EventExtends, Sat, State, sat_if, events, events_of_all, events_of_any, is_fault, sat, through}
use Rattle.hp_syntax.specs.Preconditions.{heard}
use Rattle.hp_code.specs.CodeViews.{CodeView, rules_in}
use Rattle.hp_laws.specs.RulesByName.{concluding}
use Rattle.hp_laws.proofs.ExtendLemmas.{sat_extends, goal_events_extend}
use Rattle.hp_laws.proofs.HearingLemmas.{all_up_to}
use Rattle.hp_laws.proofs.JoinLemmas.{all_from, all_one, all_join}
use Rattle.hp_laws.proofs.MatchLemmas.{atom_least}
use Rattle.hp_world.specs.Stages.{live_atoms, terms_at}
use Rattle.hp_eval.specs.declared.event.Event as public_event
use Rattle.hp_eval.specs.declared.event.Event.TheVariants as public_events
use Rattle.hp_eval.specs.GoalViews.{goal_of}
use Rattle.hp_eval.specs.Slotted.{Slotted}
use Rattle.hp_suspended.specs.declared.places.AtomFilter.{AtomFilter}
use Rattle.hp_suspended.specs.Filtered.{atom_left, by_axioms, fault_by, match_passing, passes, sats_from}
use Rattle.hp_suspended.specs.Nodes.{atom_at, head_at, expression_at, expressions_in}
use Rattle.hp_suspended.specs.Fitting.{Fits, TowerFits, base_of}
use Rattle.hp_suspended.specs.Left.{stood, one_event, left, running_left, tower, tower_left}
use Rattle.hp_suspended.specs.Settings.{Setting, state_in, axioms_in, below_at, atoms_at, expression_events, all_events, any_events, node_events, all_between, any_between, first_between, places_from, axioms_from, head_concludes, first_of}
use Rattle.hp_suspended.specs.Views.{View, One, Fresh, Simple, Search, Conj, Disj, RunningView, Idle, Under, Views, Bare, Above}
use Rattle.hp_suspended.proofs.EventLists.{AllExtend, all_extend_earlier, sat_extends_itself, cut_extends, fault_extends, through_further, through_any, state_extends, concluded_extends}
use Rattle.hp_suspended.proofs.Fitted.{rises, tower_rises}
use Rattle.hp_suspended.proofs.MarkLemmas.{later_extends}

-- a fact of all events is one of all that are heard
pub all_heard : (P : Event → Type 0) (xs : List Event) → All P xs → All P (heard xs)
all_heard P xs a = all_up_to is_fault P xs a

-- ---- the events at nodes

-- a place of no text
nowhere : Span
nowhere = record { from = 0; to = 0 }

-- the events of a conjunction's parts extend the bindings
all_of_extend : (axioms : List Axiom) (n : ℕ) (s : State) (ps : Expressions) (e : Bindings)
    → AllExtend e (events_of_all (atoms_at axioms n s) ps e)
unfolding nowhere sat events
all_of_extend axioms zero s ps e = sat_extends axioms zero s (syntax.And nowhere ps) e
all_of_extend axioms (suc n) s ps e = sat_extends axioms (suc n) s (syntax.And nowhere ps) e

-- the events of a disjunction's parts extend the bindings
any_of_extend : (axioms : List Axiom) (n : ℕ) (s : State) (ps : Expressions) (e : Bindings)
    → AllExtend e (events_of_any (atoms_at axioms n s) ps e)
unfolding nowhere sat events
any_of_extend axioms zero s ps e = sat_extends axioms zero s (syntax.Or nowhere ps) e
any_of_extend axioms (suc n) s ps e = sat_extends axioms (suc n) s (syntax.Or nowhere ps) e

module _ (w : Setting) where
  module _ (n : ℕ) (e : Bindings) where
    -- the events of an expression that may be there extend the bindings
    expression_extends : (o : Option Expression) → AllExtend e (expression_events w n o e)
    expression_extends None = All-nil (EventExtends e)
    expression_extends (Some E) = sat_extends (axioms_in w) n (state_in w) E e

    -- the events of a conjunction that may be there extend the bindings
    all_extend : (o : Option Expressions) → AllExtend e (all_events w n o e)
    all_extend None = All-nil (EventExtends e)
    all_extend (Some ps) = all_of_extend (axioms_in w) n (state_in w) ps e

    -- the events of a disjunction that may be there extend the bindings
    any_extend : (o : Option Expressions) → AllExtend e (any_events w n o e)
    any_extend None = All-nil (EventExtends e)
    any_extend (Some ps) = any_of_extend (axioms_in w) n (state_in w) ps e

    -- the events of a node extend the bindings
    pub node_extends : (i : ℕ) → AllExtend e (node_events w n i e)
    unfolding node_events
    node_extends i = expression_extends (expression_at w.code i)

    -- the events of nodes as parts of a conjunction extend the bindings
    pub all_between_extend : (i to : ℕ) → AllExtend e (all_between w n i to e)
    unfolding all_between
    all_between_extend i to = all_extend (expressions_in w.code i to)

    -- the events of nodes as parts of a disjunction extend the bindings
    pub any_between_extend : (i to : ℕ) → AllExtend e (any_between w n i to e)
    unfolding any_between
    any_between_extend i to = any_extend (expressions_in w.code i to)

    -- the events of a goal by axioms extend the bindings
    pub axioms_extend : (k : ℕ) (q : Goal) → AllExtend e (axioms_from w n k q e)
    unfolding axioms_from
    axioms_extend k q =
        goal_events_extend q e (drop k (concluding q.name (rules_in w.code)))
        (below_at (axioms_in w) n (state_in w)) []

  -- the events of a goal by the atoms of the places from one on extend the bindings
  pub places_extend : (i : ℕ) (q : Goal) (e : Bindings) → AllExtend e (places_from w i q e)
  unfolding places_from
  places_extend i q e = state_extends q e (terms_at w.terms (live_atoms (drop i w.places)))

  -- the satisfiers that atoms of places give extend the bindings that what finds them extends
  pub sats_extend : (i : ℕ) (found : Term → Option Bindings) (e : Bindings)
      → ((t : Term) → AllExtend e (sat_if (found t))) → AllExtend e (sats_from w i found)
  unfolding sats_from
  sats_extend i found e h =
      let ts = terms_at w.terms (live_atoms (drop i w.places)) in
      all_join (λ t. sat_if (found t)) (EventExtends e) ts (all_from (λ t. AllExtend e (sat_if (found t))) h ts)

  -- an atom that is matched extends the bindings
  passing_extends : (f : AtomFilter) (a : Atom) (e : Bindings) (t : Term)
      → AllExtend e (sat_if (match_passing w.terms f a t e))
  passing_extends f a e t = by (passes w.terms f t) (match_atom a t e) (λ b h. ((atom_least a t e).sound b h).0)
    where
      by : (p : Bool) (o : Option Bindings) → ((b : Bindings) → o ≡ Some b → Extends e b)
          → AllExtend e (sat_if (cond p o None))
      by false o h = All-nil (EventExtends e)
      by true None h = All-nil (EventExtends e)
      by true (Some b) h = all_one (EventExtends e) (Sat b) (h b refl)

  -- what is left of an atom that isn't filled extends the bindings
  pub atom_extends : (n from : ℕ) (f : AtomFilter) (o : Option Atom) (e : Bindings)
      → AllExtend e (atom_left w n from f o e)
  atom_extends n from f None e = All-nil (EventExtends e)
  atom_extends n from f (Some a) e =
      All-append (EventExtends e) (sats_from w from (λ t. match_passing w.terms f a t e))
      (by_axioms w n a (fill_goal a e) e) (sats_extend from (λ t. match_passing w.terms f a t e) e
      (passing_extends f a e)) (by (fill_goal a e))
    where
      faulty : (is : List ℕ) (x : RunFault) → AllExtend e (fault_by is x)
      faulty [] x = All-nil (EventExtends e)
      faulty (i ∷ is) x = fault_extends e x

      by : (r : Result Goal RunFault) → AllExtend e (by_axioms w n a r e)
      by (Ok q) = axioms_extend n e 0 q
      by (Err x) = faulty (w.code.axiom_rules a.name) x

  -- the conclusions of a head extend the goal's bindings
  pub head_extends : (o : Option Atom) (q : Goal) (e b : Bindings) → AllExtend e (head_concludes o q e b)
  head_extends None q e b = All-nil (EventExtends e)
  head_extends (Some h) q e b = concluded_extends q e h b

  -- what is left of an axiom that is looked at extends the goal's bindings
  pub running_extends : (n : ℕ) (q : Goal) (e : Bindings) (r : RunningView) → AllExtend e (running_left w n q e r)
  running_extends n q e Idle = All-nil (EventExtends e)
  running_extends n q e (Under head own start k end here) =
      through_any e (head_concludes (head_at w.code head) q e) (head_extends (head_at w.code head) q e)
      (first_of (left w own here) (first_between w (n - 1) k end (stood w own start)))

  -- an event under bindings extends them
  one_extends : (event : public_event.Event) (e : Bindings) → AllExtend e (one_event event e)
  one_extends public_events.Sat e = sat_extends_itself e
  one_extends public_events.Cut e = cut_extends e
  one_extends (public_events.Fault f) e = fault_extends e f
  one_extends public_events.End e = All-nil (EventExtends e)

  -- ---- what is suspended

  module _ (e : Slotted) where
    -- the events of a part, with the parts behind it in the place of each Sat, extend the bindings at an earlier mark
    pub part_extends : (n k end j m : ℕ) (xs : List Event) → j ≤ m → m ≤ length e.trail → AllExtend (stood w e m) xs
        → AllExtend (stood w e j) (through xs (all_between w n k end))
    part_extends n k end j m xs l in_e a =
        through_further (stood w e j) (all_between w n k end) (λ b. all_between_extend n b k end) xs
        (all_extend_earlier (stood w e j) (stood w e m) (later_extends w.terms j m e l in_e) xs a)

    -- what is left of a goal extends the bindings that it began with
    pub search_extends : (m n at' k : ℕ) (q : Goal) (running : RunningView)
        → AllExtend (stood w e m)
        (places_from w at' q (stood w e m)
        ++ (running_left w n q (stood w e m) running ++ axioms_from w n k q (stood w e m)))
    search_extends m n at' k q running =
        let b = stood w e m in
        All-append (EventExtends b) (places_from w at' q b)
        (running_left w n q b running ++ axioms_from w n k q b) (places_extend at' q b)
        (All-append (EventExtends b) (running_left w n q b running) (axioms_from w n k q b)
        (running_extends n q b running)
        (axioms_extend n b k q))

    module _ (c : CodeView) (cells : ℕ) where
      mutual
        -- each Sat that is left extends the bindings of the start
        pub left_extends : (bound : ℕ) (v : View) → Fits c cells bound v → bound ≤ length e.trail
            → AllExtend (stood w e (base_of v)) (left w e v)
        left_extends bound (One m event) fits l = one_extends event (stood w e m)
        left_extends bound (Fresh m n i) fits l = node_extends n (stood w e m) i
        left_extends bound (Simple a) fits l =
            atom_extends a.nest a.from a.filter (atom_at w.code a.node) (stood w e a.mark)
        left_extends bound (Search m n q at' k running) fits l =
            search_extends m n at' k (goal_of w.terms q) running
        left_extends bound (Conj m n k end outer here) fits l =
            let rise : base_of here ≤ bound = rises c cells bound here fits.2 in
            let low : m ≤ base_of here = tower_rises c cells end m (base_of here) outer fits.1 in
            All-append (EventExtends (stood w e m)) (through (left w e here) (all_between w n k end))
            (tower_left w n end (tower w e outer))
            (part_extends n k end m (base_of here) (left w e here) low (omega arith) (left_extends bound here fits.2 l))
            (tower_extends n end m (base_of here) outer fits.1 (omega arith))
        left_extends bound (Disj m n k end here) fits l =
            All-append (EventExtends (stood w e m)) (left w e here) (any_between w n k end (stood w e m))
            (subst (λ j. AllExtend (stood w e j) (left w e here)) fits.1 (left_extends bound here fits.2 l))
            (any_between_extend n (stood w e m) k end)

        -- each Sat that is left of parts of a conjunction extends the bindings of the lowest start
        pub tower_extends : (n end lo hi : ℕ) (vs : Views) → TowerFits c cells end lo hi vs → hi ≤ length e.trail
            → AllExtend (stood w e lo) (tower_left w n end (tower w e vs))
        tower_extends n end lo hi Bare fits l = All-nil (EventExtends (stood w e lo))
        tower_extends n end lo hi (Above lower k top) fits l =
            let rise : base_of top ≤ hi = rises c cells hi top fits.3 in
            let low : lo ≤ base_of top = tower_rises c cells end lo (base_of top) lower fits.2 in
            All-append (EventExtends (stood w e lo)) (through (left w e top) (all_between w n k end))
            (tower_left w n end (tower w e lower))
            (part_extends n k end lo (base_of top) (left w e top) low (omega arith) (left_extends hi top fits.3 l))
            (tower_extends n end lo (base_of top) lower fits.2 (omega arith))

      -- each Sat that is heard of what is left extends the bindings of the start
      pub heard_extends : (bound : ℕ) (v : View) → Fits c cells bound v → bound ≤ length e.trail
          → AllExtend (stood w e (base_of v)) (heard (left w e v))
      heard_extends bound v fits l =
          all_heard (EventExtends (stood w e (base_of v))) (left w e v) (left_extends bound v fits l)
