-- Logical expressions: what looking for their satisfiers in a state meets.
use Rattle.std.specs.Prelude.{ℕ, zero, suc, Bool, true, false, ◌&&◌, cond, List, [], ◌∷◌, ◌++◌, length, Option, Some, None, is_some, Result, Ok, Err, flat_map, filter_map}
use Rattle.hp_syntax.specs.declared.pattern.Tail.{Tail}
use Rattle.hp_syntax.specs.declared.fault.RunFault.{RunFault}
use Rattle.hp_syntax.specs.declared.fault.FaultKind.TheVariants.{NotGround}
use Rattle.hp_syntax.specs.Syntax as syntax
use Rattle.hp_syntax.specs.Terms.{Term, Listed, NoTerm, More, Symbol, Number}
use Rattle.hp_syntax.specs.Calls.{fault_at}
use Rattle.hp_syntax.specs.Values.{Bindings, Extends, unbound, bound, value, atom_value}
use Rattle.hp_syntax.specs.Matching.{meet}
use Rattle.hp_syntax.specs.Goals.{Goal, fill_goal, match_goal, start_goal}

-- bindings that satisfy, a cut by a limit, or a fault
pub data Event : Type 0 where
  Sat : (e : Bindings) → Event
  Cut : Event
  Fault : (f : RunFault) → Event

-- an event, with a Sat replaced by other events
abbrev pub in_place : (Bindings → List Event) → Event → List Event
in_place f (Sat e) = f e
in_place f Cut = Cut ∷ []
in_place f (Fault x) = Fault x ∷ []

-- a list of events, with each Sat replaced by other events
abbrev pub through : List Event → (Bindings → List Event) → List Event
through xs f = flat_map (in_place f) xs

abbrev pub sat_if : Option Bindings → List Event
sat_if None = []
sat_if (Some e) = Sat e ∷ []

abbrev pub is_sat : Event → Bool
is_sat (Sat e) = true
is_sat Cut = false
is_sat (Fault f) = false

abbrev pub is_fault : Event → Bool
is_fault (Sat e) = false
is_fault Cut = false
is_fault (Fault f) = true

-- a Sat extends these bindings
abbrev pub EventExtends : Bindings → Event → Type 0
EventExtends e (Sat b) = Extends e b
EventExtends e Cut = Unit {0}
EventExtends e (Fault f) = Unit {0}

-- ---- branches

-- a branch with its events, or else another where it has none
abbrev pub chosen_or : {A : Type 0} → A → List Event → Option (A × List Event) → Option (A × List Event)
chosen_or x [] other = other
chosen_or x (y ∷ ys) other = Some (x, y ∷ ys)

-- the first branch whose list of events isn't empty, with that list
abbrev pub chosen : {A : Type 0} → (A → List Event) → List A → Option (A × List Event)
chosen events [] = None
chosen events (x ∷ xs) = chosen_or x (events x) (chosen events xs)

-- the events of the branch that is chosen
abbrev pub chosen_events : {A : Type 0} → Option (A × List Event) → List Event
chosen_events None = []
chosen_events (Some c) = c.1

-- ---- negation

-- the event that decides a negation: a satisfier before any fault, a fault, a cut, or none
pub data Finding : Type 0 where
  Satisfied : Finding
  Faulty : (f : RunFault) → Finding
  Undecided : Finding
  Nothing : Finding

abbrev pub finding_with : Event → Finding → Finding
finding_with (Sat e) rest = Satisfied
finding_with (Fault f) rest = Faulty f
finding_with Cut Nothing = Undecided
finding_with Cut Undecided = Undecided
finding_with Cut (Faulty f) = Faulty f
finding_with Cut Satisfied = Satisfied

abbrev pub finding : List Event → Finding
finding [] = Nothing
finding (x ∷ xs) = finding_with x (finding xs)

abbrev pub negated : Finding → Bindings → List Event
negated Satisfied e = []
negated (Faulty f) e = Fault f ∷ []
negated Undecided e = Cut ∷ []
negated Nothing e = Sat e ∷ []

-- ---- the other expressions, given the events of an atom

-- a variable is assigned a value: it is bound to it, or must stand for an equal one
abbrev pub assigned : Result Term RunFault → ℕ → Bindings → List Event
assigned (Err f) v e = Fault f ∷ []
assigned (Ok t) v e = sat_if (meet v t e)

-- a call is true unless its value is the empty list
abbrev pub tested : Result Term RunFault → Bindings → List Event
tested (Err f) e = Fault f ∷ []
tested (Ok (Listed NoTerm)) e = []
tested (Ok (Listed (More t ts))) e = Sat e ∷ []
tested (Ok (Symbol name)) e = Sat e ∷ []
tested (Ok (Number n)) e = Sat e ∷ []

-- the variables that a `forall` lists change nothing
module _ (atom_events : syntax.Atom → Bindings → List Event) where
  unfoldable mutual
    pub events : syntax.Expression → Bindings → List Event
    events (syntax.Holds s a) e = atom_events a e
    events (syntax.And s ps) e = events_of_all ps e
    events (syntax.Or s ps) e = events_of_any ps e
    events (syntax.Not s p) e = negated (finding (events p e)) e
    events (syntax.Forall s vs y z) e =
        negated (finding (through (events y e) (λ b. negated (finding (events z b)) b))) e
    events (syntax.Assign s v p) e = assigned (value p e) v e
    events (syntax.Test s p) e = tested (value p e) e

    -- the rest of a conjunction stands in the place of each Sat of its first part
    pub events_of_all : syntax.Expressions → Bindings → List Event
    events_of_all syntax.NoExpression e = Sat e ∷ []
    events_of_all (syntax.Also p ps) e = through (events p e) (λ b. events_of_all ps b)

    pub events_of_any : syntax.Expressions → Bindings → List Event
    events_of_any syntax.NoExpression e = []
    events_of_any (syntax.Also p ps) e = events p e ++ events_of_any ps e

-- ---- atoms: by the state, and by axioms

-- a state is a list of atoms without variables, in order and without repeats
abbrev pub State : Type 0
State = List Term

-- a goal is satisfied by each atom of the state that it matches, in the order of the state
abbrev pub state_events : State → Goal → Bindings → List Event
state_events s q e = flat_map (λ g. sat_if (match_goal q g e)) s

abbrev pub is_bound : Bindings → ℕ → Bool
is_bound b v = is_some (bound b v)

abbrev pub tail_is_bound : Option Tail → Bindings → Bool
tail_is_bound None b = true
tail_is_bound (Some t) b = is_bound b t.var

-- each variable stands for a term
unfoldable mutual
  pub all_bound : syntax.Pattern → Bindings → Bool
  all_bound (syntax.Variable s v) b = is_bound b v
  all_bound (syntax.Symbol s name) b = true
  all_bound (syntax.Number s n) b = true
  all_bound (syntax.Listing s ps tail) b = parts_bound ps b && tail_is_bound tail b
  all_bound (syntax.Call s name args) b = parts_bound args b

  pub parts_bound : syntax.Patterns → Bindings → Bool
  parts_bound syntax.NoPattern b = true
  parts_bound (syntax.Before p ps) b = all_bound p b && parts_bound ps b

-- the conclusion of an axiom, once its head is valued
abbrev pub concluded_value : Result Term RunFault → Goal → Bindings → List Event
concluded_value (Err f) q e = Fault f ∷ []
concluded_value (Ok t) q e = sat_if (match_goal q t e)

-- an axiom's bindings conclude the value of its head, which the goal must match; a head with a variable that
-- stands for nothing is a fault at the head, whatever else valuing it would meet
abbrev pub concluded : syntax.Atom → Bindings → Goal → Bindings → List Event
concluded h b q e =
    cond (parts_bound h.args b && tail_is_bound h.tail b) (concluded_value (atom_value h b) q e)
    (Fault (fault_at NotGround h.span) ∷ [])

-- the axioms of a domain, in order
abbrev pub axiom_if : syntax.Rule → Option syntax.Axiom
axiom_if (syntax.Concludes x) = Some x
axiom_if (syntax.Does o) = None
axiom_if (syntax.Refines m) = None

abbrev pub axioms_of : List syntax.Rule → List syntax.Axiom
axioms_of rules = filter_map axiom_if rules

-- the events of an expression one axiom level down, where a level is left
abbrev pub Below : Type 0
Below = Option (syntax.Expression → Bindings → List Event)

-- the first branch of an axiom that has any events one level down; where no level is left, a cut
abbrev pub branch_events : Below → syntax.Axiom → Bindings → List Event
branch_events None x b = Cut ∷ []
branch_events (Some below) x b = chosen_events (chosen (λ c. below c.body b) x.clauses)

-- the conclusions of an axiom's branches, one for each Sat, where its head started
abbrev pub started_events : Below → syntax.Axiom → Option Bindings → Goal → Bindings → List Event
started_events below x None q e = []
started_events below x (Some b) q e = through (branch_events below x b) (λ d. concluded x.head d q e)

-- a goal is satisfied by an axiom whose head starts from it
abbrev pub axiom_events : Below → syntax.Axiom → Goal → Bindings → List Event
axiom_events below x q e = started_events below x (start_goal x.head q (unbound (length x.vars))) q e

-- a goal is satisfied by the state's atoms, and then by the axioms in the order of the domain
abbrev pub goal_events : List syntax.Axiom → Below → State → Goal → Bindings → List Event
goal_events axioms below s q e = state_events s q e ++ flat_map (λ x. axiom_events below x q e) axioms

-- a fault of filling an atom is all there is
abbrev pub filled_events : List syntax.Axiom → Below → State → Result Goal RunFault → Bindings → List Event
filled_events axioms below s (Err f) e = Fault f ∷ []
filled_events axioms below s (Ok q) e = goal_events axioms below s q e

abbrev pub atom_events : List syntax.Axiom → Below → State → syntax.Atom → Bindings → List Event
atom_events axioms below s a e = filled_events axioms below s (fill_goal a e) e

-- the satisfiers of an expression in a state, with so many axiom levels left
unfoldable pub sat : List syntax.Axiom → ℕ → State → syntax.Expression → Bindings → List Event
sat axioms zero s E e = events (atom_events axioms None s) E e
sat axioms (suc n) s E e = events (atom_events axioms (Some (sat axioms n s)) s) E e
