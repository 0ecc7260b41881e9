-- Lists of events that extend bindings: those of goals, of conclusions, and with others in the place of each Sat.
use Rattle.std.proofs.Common.{◌≡◌, List, [], ◌∷◌, ◌&&◌, Option, Some, None, Result, Ok, Err, refl}
use Rattle.std.specs.List.{All}
use Rattle.std.proofs.lemmas.Bool.{cond_both}
use Rattle.std.proofs.lemmas.List.Elements.{All-nil, All-weaker}
use Rattle.hp_syntax.specs.declared.fault.RunFault.{RunFault}
use Rattle.hp_syntax.specs.declared.fault.FaultKind.TheVariants.{NotGround}
use Rattle.hp_syntax.specs.Syntax.{Atom}
use Rattle.hp_syntax.specs.Terms.{Term}
use Rattle.hp_syntax.specs.Calls.{fault_at}
use Rattle.hp_syntax.specs.Values.{Bindings, Extends, atom_value}
use Rattle.hp_syntax.specs.Goals.{Goal, match_goal}
use Rattle.hp_syntax.specs.Events.{Event, Sat, Cut, Fault, EventExtends, State, in_place, through, sat_if, parts_bound, tail_is_bound, concluded, concluded_value, state_events}
use Rattle.hp_laws.proofs.BindingLemmas.{extends_self, extends_through}
use Rattle.hp_laws.proofs.ExtendLemmas.{goal_extends}
use Rattle.hp_laws.proofs.JoinLemmas.{all_from, all_one, all_join}

-- each event of a list extends bindings
abbrev pub AllExtend : Bindings → List Event → Type 0
AllExtend e xs = All (EventExtends e) xs

-- an event that extends bindings extends those that they extend
pub event_extends_earlier : (e b : Bindings) → Extends e b → (x : Event) → EventExtends b x → EventExtends e x
event_extends_earlier e b g (Sat d) h = extends_through e b d g h
event_extends_earlier e b g Cut h = tt
event_extends_earlier e b g (Fault f) h = tt

-- events that extend bindings extend those that they extend
pub all_extend_earlier : (e b : Bindings) → Extends e b → (xs : List Event) → AllExtend b xs → AllExtend e xs
all_extend_earlier e b g xs a = All-weaker (EventExtends b) (EventExtends e) (event_extends_earlier e b g) xs a

-- bindings extend themselves
pub sat_extends_itself : (e : Bindings) → AllExtend e (Sat e ∷ [])
sat_extends_itself e = all_one (EventExtends e) (Sat e) (extends_self e)

-- a cut extends any bindings
pub cut_extends : (e : Bindings) → AllExtend e (Cut ∷ [])
cut_extends e = all_one (EventExtends e) Cut tt

-- a fault extends any bindings
pub fault_extends : (e : Bindings) (f : RunFault) → AllExtend e (Fault f ∷ [])
fault_extends e f = all_one (EventExtends e) (Fault f) tt

module _ (e : Bindings) (f : Bindings → List Event) where
  -- where each Sat of a kind is replaced by events that extend bindings, all events extend them
  pub through_extends : (P : Event → Type 0) → ((b : Bindings) → P (Sat b) → AllExtend e (f b)) → (xs : List Event)
      → All P xs → AllExtend e (through xs f)
  through_extends P h xs a =
      all_join (in_place f) (EventExtends e) xs (All-weaker P (λ x. AllExtend e (in_place f x)) each xs a)
    where
      each : (x : Event) → P x → AllExtend e (in_place f x)
      each (Sat b) p = h b p
      each Cut p = cut_extends e
      each (Fault x) p = fault_extends e x

  -- where events extend bindings, so they do with each Sat replaced by events that extend the Sat's
  pub through_further : ((b : Bindings) → AllExtend b (f b)) → (xs : List Event) → AllExtend e xs
      → AllExtend e (through xs f)
  through_further h xs a =
      through_extends (EventExtends e) (λ b g. all_extend_earlier e b g (f b) (h b)) xs a

  -- where any Sat is replaced by events that extend bindings, all events extend them
  pub through_any : ((b : Bindings) → AllExtend e (f b)) → (xs : List Event) → AllExtend e (through xs f)
  through_any h xs =
      through_extends (λ x. Unit {0}) (λ b g. h b) xs (all_from (λ x. Unit {0}) (λ x. tt) xs)

module _ (q : Goal) (e : Bindings) where
  -- the satisfier of a goal by a term extends the bindings
  pub matched_extends : (t : Term) → AllExtend e (sat_if (match_goal q t e))
  matched_extends t = by (match_goal q t e) (goal_extends q t e)
    where
      by : (o : Option Bindings) → ((b : Bindings) → o ≡ Some b → Extends e b) → AllExtend e (sat_if o)
      by None h = All-nil (EventExtends e)
      by (Some b) h = all_one (EventExtends e) (Sat b) (h b refl)

  -- the satisfiers of a goal by a state extend the bindings
  pub state_extends : (s : State) → AllExtend e (state_events s q e)
  state_extends s =
      all_join (λ g. sat_if (match_goal q g e)) (EventExtends e) s
      (all_from (λ g. AllExtend e (sat_if (match_goal q g e))) matched_extends s)

  -- the conclusion of an axiom extends the goal's bindings, whatever its own are
  pub concluded_extends : (h : Atom) (b : Bindings) → AllExtend e (concluded h b q e)
  concluded_extends h b =
      cond_both (parts_bound h.args b && tail_is_bound h.tail b) (concluded_value (atom_value h b) q e)
      (Fault (fault_at NotGround h.span) ∷ []) (AllExtend e) (λ k. of_value (atom_value h b))
      (λ k. fault_extends e (fault_at NotGround h.span))
    where
      of_value : (r : Result Term RunFault) → AllExtend e (concluded_value r q e)
      of_value (Err f) = fault_extends e f
      of_value (Ok t) = matched_extends t
