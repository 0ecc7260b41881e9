-- The changes of an operator to a state and its protections, and its cost.
use Rattle.std.specs.Prelude.{ℕ, ℤ, List, [], ◌∷◌, ◌++◌, Result, Ok, Err}
use Rattle.hp_syntax.specs.declared.pattern.Span.{Span}
use Rattle.hp_syntax.specs.declared.fault.RunFault.{RunFault}
use Rattle.hp_syntax.specs.declared.fault.FaultKind.TheVariants.{NotNumber}
use Rattle.hp_syntax.specs.Syntax.{Pattern, Variable, Listing, Call, Atom, Axiom, Effect, Change, Protection, Each, Operator}
use Rattle.hp_syntax.specs.Syntax as syntax
use Rattle.hp_syntax.specs.Terms.{Term, Symbol, Number, Listed, same_term}
use Rattle.hp_syntax.specs.Calls.{fault_at}
use Rattle.hp_syntax.specs.Values.{Bindings, value, atom_value}
use Rattle.hp_syntax.specs.Events.{Event, Sat, Cut, Fault, State, sat}
use Rattle.hp_syntax.specs.Preconditions.{heard}
use Rattle.hp_syntax.specs.Applying.{ChangesOf, AppliedOf, with_added, applied}

-- the atoms that an operator unguards, deletes, adds and guards
abbrev pub Changes : Type 0
Changes = ChangesOf Term

abbrev pub Applied : Type 0
Applied = AppliedOf Term

-- the state with these atoms appended in turn, where they are absent
abbrev pub added : State → List Term → State
added s atoms = with_added same_term s atoms

-- the result of changes to a state and its protections
unfoldable pub apply : State → List Term → Changes → Applied
apply s g c = applied same_term s g c

-- ---- the changes and the cost of an operator

-- going through an operator's effects: it went, or a cut or a fault stops it
pub data Going (A : Type 0) : Type 0 where
  Went : (x : A) → Going A
  CutShort : Going A
  Failed : (f : RunFault) → Going A

abbrev pub and_go : {A B : Type 0} → Going A → (A → Going B) → Going B
and_go (Went x) f = f x
and_go CutShort f = CutShort
and_go (Failed e) f = Failed e

abbrev pub go_on : {A : Type 0} → Result A RunFault → Going A
go_on (Ok x) = Went x
go_on (Err f) = Failed f

abbrev pub atom_values : List Atom → Bindings → Going (List Term)
atom_values [] e = Went []
atom_values (a ∷ rest) e =
    and_go (go_on (atom_value a e)) (λ t. and_go (atom_values rest e) (λ ts. Went (t ∷ ts)))

-- the values of the atoms under each Sat in turn; a Cut or a Fault stops here
abbrev pub values_for_each : List Atom → List Event → Going (List Term)
values_for_each as' [] = Went []
values_for_each as' (Cut ∷ xs) = CutShort
values_for_each as' (Fault f ∷ xs) = Failed f
values_for_each as' (Sat e ∷ xs) =
    and_go (atom_values as' e) (λ ts. and_go (values_for_each as' xs) (λ us. Went (ts ++ us)))

-- the atoms of a list of effects, and its atoms of protections
pub record Gathered : Type 0 where
  pub atoms : List Term
  pub protections : List Term

abbrev pub both_gathered : Gathered → Gathered → Gathered
both_gathered x y = record { atoms = x.atoms ++ y.atoms; protections = x.protections ++ y.protections }

abbrev pub of_atoms : List Term → Gathered
of_atoms ts = record { atoms = ts; protections = [] }

abbrev pub of_protection : Term → Gathered
of_protection t = record { atoms = []; protections = t ∷ [] }

module _ (axioms : List Axiom) (nest : ℕ) (s : State) where
  -- of an effect in a state; a `forall` goes through its satisfiers
  abbrev pub effect_values : Effect → Bindings → Going Gathered
  effect_values (Change a) e = and_go (go_on (atom_value a e)) (λ t. Went (of_atoms (t ∷ [])))
  effect_values (Protection a) e = and_go (go_on (atom_value a e)) (λ t. Went (of_protection t))
  effect_values (Each vs E as') e =
      and_go (values_for_each as' (heard (sat axioms nest s E e))) (λ ts. Went (of_atoms ts))

  -- of a list of effects, from left to right
  abbrev pub effects_values : List Effect → Bindings → Going Gathered
  effects_values [] e = Went (of_atoms [])
  effects_values (x ∷ xs) e =
      and_go (effect_values x e) (λ g. and_go (effects_values xs e) (λ h. Went (both_gathered g h)))

abbrev pub pattern_span : Pattern → Span
pattern_span (Variable s v) = s
pattern_span (syntax.Symbol s name) = s
pattern_span (syntax.Number s n) = s
pattern_span (Listing s ps tail) = s
pattern_span (Call s name args) = s

-- a cost must be a number
abbrev pub cost_of : Span → Term → Going ℤ
cost_of s (Number n) = Went n
cost_of s (Symbol name) = Failed (fault_at NotNumber s)
cost_of s (Listed ts) = Failed (fault_at NotNumber s)

abbrev pub cost_value : Pattern → Bindings → Going ℤ
cost_value p e = and_go (go_on (value p e)) (cost_of (pattern_span p))

abbrev pub changes_of : Gathered → Gathered → Changes
changes_of d a =
    record { unguard = d.protections; delete = d.atoms; add = a.atoms; guard = a.protections }

-- the changes and the cost of an operator in a state: its delete list first, then its add list, then its cost;
-- or what stops it
unfoldable pub effects : List Axiom → ℕ → State → Operator → Bindings → Going (Changes × ℤ)
effects axioms nest s o e =
    and_go (effects_values axioms nest s o.dels e) (λ d.
    and_go (effects_values axioms nest s o.adds e) (λ a.
    and_go (cost_value o.cost e) (λ c. Went (changes_of d a, c))))
