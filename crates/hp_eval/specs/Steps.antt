-- Answers of the steps of a value.
use Rattle.std.specs.Prelude.{◌≡◌, ℕ, Bool, true, false, List, [], ◌∷◌, Option, Some, None, slice_get, Result, Ok, Err}
use Rattle.hp_syntax.specs.declared.pattern.Span.{Span}
use Rattle.hp_syntax.specs.declared.fault.RunFault.{RunFault}
use Rattle.hp_syntax.specs.declared.fault.FaultKind.TheVariants.{NotGround}
use Rattle.hp_syntax.specs.Terms.{Term, Terms, Symbol, Number, Listed, More}
use Rattle.hp_syntax.specs.Calls.{fault_at}

-- the cell of a bound variable, or the fault of one that isn't bound
abbrev pub cell_or_fault : Span → Option ℕ → Result ℕ RunFault
cell_or_fault s None = Err (fault_at NotGround s)
cell_or_fault s (Some cell) = Ok cell

-- values in front of others
abbrev pub in_front : {V W : Type 0} → (V → W → W) → List V → W → W
in_front cons [] w = w
in_front cons (v ∷ vs) w = cons v (in_front cons vs w)

-- terms in front of the parts of a list
abbrev pub onto : List Term → Terms → Terms
onto = in_front More

-- a step answers the cell of the value, or the fault
abbrev pub GivesCell : Result ℕ RunFault → Result Term RunFault → List Term → Type 0
GivesCell (Ok cell) value terms = (t : Term) × (value ≡ Ok t) × (slice_get terms cell ≡ Some t)
GivesCell (Err f) value terms = value ≡ Err f

-- a step answers the cell of the list of these parts, or the fault
abbrev pub GivesList : Result ℕ RunFault → Result Terms RunFault → List Term → Type 0
GivesList (Ok cell) parts terms = (ts : Terms) × (parts ≡ Ok ts) × (slice_get terms cell ≡ Some (Listed ts))
GivesList (Err f) parts terms = parts ≡ Err f

-- a term is a list
abbrev pub is_list : Term → Bool
is_list (Listed ts) = true
is_list (Symbol name) = false
is_list (Number n) = false
