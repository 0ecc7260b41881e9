-- The satisfiers of a conjunction of atoms by the places of a state.
use Rattle.std.proofs.Common.{◌≡◌, ◌≢◌, ℕ, zero, suc, ◌+◌, ◌≤◌, false, List, [], ◌∷◌, ◌++◌, map, Option, Some, None, Result, Ok, Err, refl, sym, ◌∙◌, ap, ap₂, subst, arith, inl, inr}
use Rattle.std.specs.Prelude.{◌↔◌, flat_map, Contains, slice_get, bytes_eq}
use Rattle.std.specs.List.{All, AllPairs}
use Rattle.std.specs.Option.{option_map_or}
use Rattle.std.proofs.lemmas.Bool.{false_from_ne_true}
use Rattle.std.proofs.lemmas.List.{append-nil, map-append}
use Rattle.std.proofs.lemmas.List.Elements.{All-nil, All-head, All-append, All-map, All-weaker, All-contains, Contains-append_left, Contains-append_right}
use Rattle.std.proofs.lemmas.Slice.Eq.{bytes_eq-Decides}
use Rattle.hp_syntax.specs.declared.pattern.Span.{Span}
use Rattle.hp_syntax.specs.declared.fault.RunFault.{RunFault}
use Rattle.hp_syntax.specs.Syntax.{Atom, Expression, Expressions, Holds, And, NoExpression, Also, Axiom}
use Rattle.hp_syntax.specs.Terms.{Term, Terms, More, Symbol}
use Rattle.hp_syntax.specs.Values.{Bindings, list_of}
use Rattle.hp_syntax.specs.Goals.{Goal, Filling, ground_parts, goal_of, fill_parts, fill_goal, match_goal}
use Rattle.hp_syntax.specs.Events as events
use Rattle.hp_laws.specs.SatisfierLaws.{Matches, NoAtom, AtPlace, NamesNoneOf, AreAtoms, IsSat}
use Rattle.hp_laws.specs.TreeLaws.{IsBefore}
use Rattle.hp_laws.proofs.ResultLemmas.{on_ok_ok}
use Rattle.hp_laws.proofs.Listings.{map_has, pairs_mapped}
use Rattle.hp_laws.proofs.JoinLemmas.{pairs_weaker, all_one, all_left, all_right, contains_first, join_none, join_same, join_join, all_from, one_pair, pairs_append}

-- ---- the selections of places

-- places of a state, and the bindings under which the atoms there match
abbrev pub Selection : Type 0
Selection = List ℕ × Bindings

-- a place before all others
abbrev pub with_place : ℕ → Selection → Selection
with_place i x = (i ∷ x.0, x.1)

-- where an atom has matched at a place, this place before those that the atoms after it select
abbrev pub then_below : (Bindings → List Selection) → ℕ → Option Bindings → List Selection
then_below f i None = []
then_below f i (Some b) = map (with_place i) (f b)

-- an atom is matched at each place in turn, of which the first has this number
abbrev pub from_place : (Bindings → List Selection) → Goal → Bindings → ℕ → List Term → List Selection
from_place f q e i [] = []
from_place f q e i (g ∷ gs) = then_below f i (match_goal q g e) ++ from_place f q e (suc i) gs

-- an atom that can't be filled is matched nowhere
abbrev pub for_goal : (Bindings → List Selection) → events.State → Bindings → Result Goal RunFault → List Selection
for_goal f s e (Err x) = []
for_goal f s e (Ok q) = from_place f q e 0 s

-- a term that is no atom is matched nowhere
abbrev pub for_first : (Bindings → List Selection) → events.State → Bindings → Expression → List Selection
for_first f s e (Holds span a) = for_goal f s e (fill_goal a e)
for_first f s e _ = []

-- all places at which the atoms of a conjunction match, one after another
abbrev pub selections : events.State → Expressions → Bindings → List Selection
selections s NoExpression e = ([], e) ∷ []
selections s (Also p ps) e = for_first (selections s ps) s e p

-- ---- selections come in order

-- places of which the first is at least this
abbrev StartsFrom : ℕ → List ℕ → Type 0
StartsFrom i [] = ⊥
StartsFrom i (j ∷ p) = i ≤ j

-- behind a place come selections that begin with it
below_starts : (f : Bindings → List Selection) (i j : ℕ) → j ≤ i → (o : Option Bindings)
    → All (λ x. StartsFrom j x.0) (then_below f i o)
below_starts f i j l None = All-nil (λ x. StartsFrom j x.0)
below_starts f i j l (Some b) =
    All-map (λ x. StartsFrom j x.0) (with_place i) (f b) (all_from (λ x. j ≤ i) (λ x. l) (f b))

-- from a place on come selections that begin with it or a later one
from_starts : (f : Bindings → List Selection) (q : Goal) (e : Bindings) (i j : ℕ) → j ≤ i → (gs : List Term)
    → All (λ x. StartsFrom j x.0) (from_place f q e i gs)
from_starts f q e i j l [] = All-nil (λ x. StartsFrom j x.0)
from_starts f q e i j l (g ∷ gs) =
    All-append (λ x. StartsFrom j x.0) (then_below f i (match_goal q g e)) (from_place f q e (suc i) gs)
    (below_starts f i j l (match_goal q g e)) (from_starts f q e (suc i) j (omega arith) gs)

-- the places of one come before those of the other
abbrev IsInOrder : Selection → Selection → Type 0
IsInOrder x y = IsBefore x.0 y.0

-- selections that are in order are so with a place before them
below_in_order : (f : Bindings → List Selection) → ((b : Bindings) → AllPairs IsInOrder (f b)) → (i : ℕ)
    (o : Option Bindings) → AllPairs IsInOrder (then_below f i o)
below_in_order f h i None = λ k j d l m. absurd (omega arith)
below_in_order f h i (Some b) =
    pairs_mapped (with_place i) IsInOrder (f b)
    (pairs_weaker IsInOrder (λ x y. IsInOrder (with_place i x) (with_place i y)) (λ x y k. inr (refl, k)) (f b) (h b))

-- a smaller place in front comes before
before_later : (i : ℕ) (p q : List ℕ) → StartsFrom (suc i) q → IsBefore (i ∷ p) q
before_later i p [] h = h
before_later i p (j ∷ q) h = inl h

-- selections that begin with a place come before those that begin with a later one
below_before : (f : Bindings → List Selection) (i : ℕ) (o : Option Bindings) (ys : List Selection)
    → All (λ y. StartsFrom (suc i) y.0) ys → All (λ x. All (IsInOrder x) ys) (then_below f i o)
below_before f i None ys h = All-nil (λ x. All (IsInOrder x) ys)
below_before f i (Some b) ys h =
    All-map (λ x. All (IsInOrder x) ys) (with_place i) (f b)
    (all_from (λ x. All (IsInOrder (with_place i x)) ys)
    (λ x. All-weaker (λ y. StartsFrom (suc i) y.0) (IsInOrder (with_place i x))
    (λ y. before_later i x.0 y.0) ys h) (f b))

-- from each place on selections are in order
from_in_order : (f : Bindings → List Selection) → ((b : Bindings) → AllPairs IsInOrder (f b)) → (q : Goal)
    (e : Bindings) (i : ℕ) (gs : List Term) → AllPairs IsInOrder (from_place f q e i gs)
from_in_order f h q e i [] = λ k j d l m. absurd (omega arith)
from_in_order f h q e i (g ∷ gs) =
    pairs_append IsInOrder (then_below f i (match_goal q g e)) (from_place f q e (suc i) gs)
    (below_in_order f h i (match_goal q g e)) (from_in_order f h q e (suc i) gs)
    (below_before f i (match_goal q g e) (from_place f q e (suc i) gs)
    (from_starts f q e (suc i) (suc i) (omega arith) gs))

-- the selections for a goal are in order
goal_in_order : (f : Bindings → List Selection) → ((b : Bindings) → AllPairs IsInOrder (f b)) → (s : events.State)
    (e : Bindings) (r : Result Goal RunFault) → AllPairs IsInOrder (for_goal f s e r)
goal_in_order f h s e (Err x) = λ k j d l m. absurd (omega arith)
goal_in_order f h s e (Ok q) = from_in_order f h q e 0 s

-- the selections of a conjunction are in order
pub selections_in_order : (s : events.State) (ps : Expressions) (e : Bindings) → AllPairs IsInOrder (selections s ps e)
selections_in_order s NoExpression e = one_pair IsInOrder ([], e)
selections_in_order s (Also (Holds span a) ps) e =
    goal_in_order (selections s ps) (selections_in_order s ps) s e (fill_goal a e)
selections_in_order s (Also _ ps) e = λ k j d l m. absurd (omega arith)

-- ---- selections are the places at which the atoms match

-- a state from a place on
abbrev IsRestFrom : events.State → ℕ → List Term → Type 0
IsRestFrom s i gs = (j : ℕ) → slice_get s (i + j) ≡ slice_get gs j

-- the atoms match at the places of a selection
abbrev IsMatch : events.State → Expressions → Bindings → Selection → Type 0
IsMatch s ps e x = Matches s ps e x.0 x.1

module _ (s : events.State) (ps : Expressions) (f : Bindings → List Selection)
    (h : (b : Bindings) → All (IsMatch s ps b) (f b))
    (span : Span) (a : Atom) (e : Bindings) where
  -- they match behind a place at which the first one matches
  below_match : (q : Goal) → fill_goal a e ≡ Ok q → (i : ℕ) (g : Term) → slice_get s i ≡ Some g
      → (o : Option Bindings) → match_goal q g e ≡ o → All (IsMatch s (Also (Holds span a) ps) e) (then_below f i o)
  below_match q k i g l None m = All-nil (IsMatch s (Also (Holds span a) ps) e)
  below_match q k i g l (Some b) m =
      All-map (IsMatch s (Also (Holds span a) ps) e) (with_place i) (f b)
      (All-weaker (IsMatch s ps b) (λ x. IsMatch s (Also (Holds span a) ps) e (with_place i x))
      (λ x t. AtPlace span a ps e b x.1 q g i x.0 k l m t) (f b) (h b))

  -- they match from each place on
  from_match : (q : Goal) → fill_goal a e ≡ Ok q → (i : ℕ) (gs : List Term) → IsRestFrom s i gs
      → All (IsMatch s (Also (Holds span a) ps) e) (from_place f q e i gs)
  from_match q k i [] l = All-nil (IsMatch s (Also (Holds span a) ps) e)
  from_match q k i (g ∷ gs) l =
      All-append (IsMatch s (Also (Holds span a) ps) e) (then_below f i (match_goal q g e))
      (from_place f q e (suc i) gs)
      (below_match q k i g (ap (slice_get s) (omega arith) ∙ l 0) (match_goal q g e) refl)
      (from_match q k (suc i) gs (λ j. ap (slice_get s) (omega arith) ∙ l (suc j)))

  -- they match at the places for a goal
  goal_match : (r : Result Goal RunFault) → fill_goal a e ≡ r
      → All (IsMatch s (Also (Holds span a) ps) e) (for_goal f s e r)
  goal_match (Err x) k = All-nil (IsMatch s (Also (Holds span a) ps) e)
  goal_match (Ok q) k = from_match q k 0 s (λ j. ap (slice_get s) (omega arith))

-- they match at the places of each selection
selections_match : (s : events.State) (ps : Expressions) (e : Bindings) → All (IsMatch s ps e) (selections s ps e)
selections_match s NoExpression e = all_one (IsMatch s NoExpression e) ([], e) (NoAtom e)
selections_match s (Also (Holds span a) ps) e =
    goal_match s ps (selections s ps) (selections_match s ps) span a e (fill_goal a e) refl
selections_match s (Also p ps) e = All-nil (IsMatch s (Also p ps) e)

-- where an atom matches at a place, what the atoms after it select is there behind this place
from_contains : (f : Bindings → List Selection) (q : Goal) (e b : Bindings) (g : Term) (x : Selection)
    → match_goal q g e ≡ Some b → Contains (f b) x → (k i : ℕ) (gs : List Term) → slice_get gs i ≡ Some g
    → Contains (from_place f q e k gs) (with_place (k + i) x)
from_contains f q e b g x m c k i [] l = absurd cc
from_contains f q e b g x m c k zero (h ∷ gs) l =
    let same : h ≡ g = cc in
    Contains-append_left (then_below f k (match_goal q h e)) (from_place f q e (suc k) gs) (with_place (k + 0) x)
    (subst (λ o. Contains (then_below f k o) (with_place (k + 0) x)) (sym (ap (λ t. match_goal q t e) same ∙ m))
    (subst (λ n. Contains (map (with_place k) (f b)) (with_place n x)) (omega arith)
    (map_has (with_place k) (f b) x c)))
from_contains f q e b g x m c k (suc i) (h ∷ gs) l =
    Contains-append_right (then_below f k (match_goal q h e)) (from_place f q e (suc k) gs) (with_place (k + suc i) x)
    (subst (λ n. Contains (from_place f q e (suc k) gs) (with_place n x)) (omega arith)
    (from_contains f q e b g x m c (suc k) i gs l))

-- all places at which the atoms match are selected
matches_contained : (s : events.State) (ps : Expressions) (e c : Bindings) (places : List ℕ) → Matches s ps e places c
    → Contains (selections s ps e) (places, c)
matches_contained s ps e c places (NoAtom d) = contains_first ([], d) []
matches_contained s ps e c places (AtPlace span a rest d b z q g i below k l m t) =
    subst (λ r. Contains (for_goal (selections s rest) s e r) (i ∷ below, c)) (sym k)
    (subst (λ n. Contains (from_place (selections s rest) q e 0 s) (with_place n (below, c))) (omega arith)
    (from_contains (selections s rest) q e b g (below, c) m (matches_contained s rest b c below t) 0 i s l))

-- the places at which the atoms match are those that are selected
pub selections_are_matches : (s : events.State) (ps : Expressions) (e : Bindings) (places : List ℕ) (b : Bindings)
    → Contains (selections s ps e) (places, b) ↔ Matches s ps e places b
selections_are_matches s ps e places b = (
  λ c. All-contains (IsMatch s ps e) (selections s ps e) (places, b) (selections_match s ps e) c,
  λ m. matches_contained s ps e b places m,
)

-- ---- selections give the satisfiers

-- a goal that isn't nested too deep has the name of its atom
goal_named : (a : Atom) (f : Filling) (o : Option Terms) (q : Goal) → goal_of a f o ≡ Ok q → q.name ≡ a.name
goal_named a f None q e = cc
goal_named a f (Some ts) q e =
    let w = on_ok_ok (list_of a.span (More (Symbol a.name) ts))
    (λ t. Ok (record { name = a.name; parts = f.0; tail = f.1 })) q e in
    let h = w.2 in cc

-- a goal has the name of its atom
pub filled_name : (a : Atom) (e : Bindings) (q : Goal) → fill_goal a e ≡ Ok q → q.name ≡ a.name
filled_name a e q k =
    let w = on_ok_ok (fill_parts a.args a.tail e) (λ f. goal_of a f (ground_parts f.0 f.1)) q k in
    goal_named a w.0 (ground_parts w.0.0 w.0.1) q w.2

-- the events in the place of an atom's satisfier are those under the bindings by which it has matched, if it has
in_place_if : (k : Bindings → List events.Event) (o : Option Bindings)
    → flat_map (events.in_place k) (events.sat_if o) ≡ option_map_or k o []
in_place_if k None = refl
in_place_if k (Some b) = append-nil (k b)

-- the satisfier of a selection
abbrev pub sat_of : Selection → events.Event
sat_of x = events.Sat x.1

-- a place before others changes no satisfier
sat_of-with_place : (i : ℕ) (xs : List Selection) → map sat_of (map (with_place i) xs) ≡ map sat_of xs
sat_of-with_place i [] = refl
sat_of-with_place i (x ∷ xs) = ap (λ ys. sat_of x ∷ ys) (sat_of-with_place i xs)

module _ (k : Bindings → List events.Event) (f : Bindings → List Selection)
    (h : (b : Bindings) → All IsSat (k b) → map sat_of (f b) ≡ k b) where
  -- the satisfiers behind a place are those of the atoms after it
  below_sats : (i : ℕ) (o : Option Bindings) → All IsSat (option_map_or k o [])
      → map sat_of (then_below f i o) ≡ option_map_or k o []
  below_sats i None a = refl
  below_sats i (Some b) a = sat_of-with_place i (f b) ∙ h b a

  -- the satisfiers from a place on are those of the atoms after each place that matches
  from_sats : (q : Goal) (e : Bindings) (i : ℕ) (gs : List Term)
      → All IsSat (flat_map (λ g. option_map_or k (match_goal q g e) []) gs)
      → map sat_of (from_place f q e i gs) ≡ flat_map (λ g. option_map_or k (match_goal q g e) []) gs
  from_sats q e i [] a = refl
  from_sats q e i (g ∷ gs) a =
      let here = option_map_or k (match_goal q g e) [] in
      let later = flat_map (λ g. option_map_or k (match_goal q g e) []) gs in
      map-append sat_of (then_below f i (match_goal q g e)) (from_place f q e (suc i) gs)
      ∙ ap₂ (λ xs ys. xs ++ ys) (below_sats i (match_goal q g e) (all_left IsSat here later a))
      (from_sats q e (suc i) gs (all_right IsSat here later a))

module _ (s : events.State) (below : events.Below) where
  -- an axiom whose head has another name adds nothing
  other_axiom : (q : Goal) (e : Bindings) (x : Axiom) → x.head.name ≢ q.name → events.axiom_events below x q e ≡ []
  other_axiom q e x h =
      let d : bytes_eq x.head.name q.name ≡ false =
      false_from_ne_true (bytes_eq x.head.name q.name)
      (λ t. h ((bytes_eq-Decides x.head.name q.name).0 t)) in
      rw d refl

  -- where all heads have other names, a goal is gone on with at each place of the state that it matches
  goal_gone_on : (axioms : List Axiom) (q : Goal) (e : Bindings) (k : Bindings → List events.Event)
      → All (λ x. x.head.name ≢ q.name) axioms
      → events.through (events.goal_events axioms below s q e) k
      ≡ flat_map (λ g. option_map_or k (match_goal q g e) []) s
  goal_gone_on axioms q e k h =
      ap (λ xs. flat_map (events.in_place k) (events.state_events s q e ++ xs))
      (join_none (λ x. events.axiom_events below x q e) axioms
      (All-weaker (λ x. x.head.name ≢ q.name) (λ x. events.axiom_events below x q e ≡ []) (other_axiom q e) axioms h))
      ∙ ap (flat_map (events.in_place k)) (append-nil (events.state_events s q e))
      ∙ join_join (λ g. events.sat_if (match_goal q g e)) (events.in_place k) s
      ∙ join_same (λ g. flat_map (events.in_place k) (events.sat_if (match_goal q g e)))
      (λ g. option_map_or k (match_goal q g e) []) s
      (all_from _ (λ g. in_place_if k (match_goal q g e)) s)

  module _ (axioms : List Axiom) (a : Atom) (names : All (λ x. x.head.name ≢ a.name) axioms)
      (k : Bindings → List events.Event) (f : Bindings → List Selection)
      (h : (b : Bindings) → All IsSat (k b) → map sat_of (f b) ≡ k b) where
    -- the satisfiers for a goal are those of its selections
    goal_sats : (e : Bindings) (r : Result Goal RunFault) → fill_goal a e ≡ r
        → All IsSat (events.through (events.filled_events axioms below s r e) k)
        → map sat_of (for_goal f s e r) ≡ events.through (events.filled_events axioms below s r e) k
    goal_sats e (Err x) l t = absurd (All-head IsSat (events.Fault x) [] t)
    goal_sats e (Ok q) l t =
        let g = goal_gone_on axioms q e k
        (subst (λ n. All (λ x. x.head.name ≢ n) axioms) (sym (filled_name a e q l)) names) in
        from_sats k f h q e 0 s (subst (All IsSat) g t) ∙ sym g

  -- the satisfiers of a conjunction are those of its selections, whatever is met one axiom level down
  selections_sats : (axioms : List Axiom) (ps : Expressions) (e : Bindings) → AreAtoms ps
      → All (λ x. NamesNoneOf x ps) axioms → All IsSat (events.events_of_all (events.atom_events axioms below s) ps e)
      → map sat_of (selections s ps e) ≡ events.events_of_all (events.atom_events axioms below s) ps e
  unfolding events.events
  selections_sats axioms NoExpression e h n t = refl
  selections_sats axioms (Also (Holds span a) ps) e h n t =
      goal_sats axioms a (All-weaker (λ x. NamesNoneOf x (Also (Holds span a) ps)) (λ x. x.head.name ≢ a.name)
      (λ x m. m.0) axioms n)
      (events.events_of_all (events.atom_events axioms below s) ps) (selections s ps)
      (λ b u. selections_sats axioms ps b h.1
      (All-weaker (λ x. NamesNoneOf x (Also (Holds span a) ps)) (λ x. NamesNoneOf x ps) (λ x m. m.1) axioms n) u)
      e (fill_goal a e) refl t
  selections_sats axioms (Also _ ps) e h n t = absurd h.0

-- the satisfiers of a conjunction of atoms that no axiom concludes are those of its selections
pub sats_of_selections : (axioms : List Axiom) (nest : ℕ) (s : events.State) (span : Span) (ps : Expressions)
    (e : Bindings)
    → AreAtoms ps → All (λ x. NamesNoneOf x ps) axioms → All IsSat (events.sat axioms nest s (And span ps) e)
    → map sat_of (selections s ps e) ≡ events.sat axioms nest s (And span ps) e
unfolding events.sat events.events
sats_of_selections axioms zero s span ps e h n t = selections_sats s None axioms ps e h n t
sats_of_selections axioms (suc m) s span ps e h n t = selections_sats s (Some (events.sat axioms m s)) axioms ps e h n t
