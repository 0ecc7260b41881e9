-- Words for the law on the order of satisfiers.
use Rattle.std.specs.Prelude.{◌≡◌, ◌≢◌, ℕ, List, [], ◌∷◌, slice_get, Some, Ok}
use Rattle.hp_syntax.specs.declared.pattern.Span.{Span}
use Rattle.hp_syntax.specs.Syntax.{Atom, Expression, Expressions, Holds, NoExpression, Also, Axiom}
use Rattle.hp_syntax.specs.Terms.{Term}
use Rattle.hp_syntax.specs.Values.{Bindings}
use Rattle.hp_syntax.specs.Goals.{Goal, fill_goal, match_goal}
use Rattle.hp_syntax.specs.Events.{Event, Sat, Cut, Fault, State}

-- atoms of a state, by their places, are matched by one atom of a conjunction after another, each filled with what
-- those before it bound
pub data Matches (s : State) : Expressions → Bindings → List ℕ → Bindings → Type 0 where
  NoAtom : (e : Bindings) → Matches s NoExpression e [] e
  AtPlace : (span : Span) (a : Atom) (rest : Expressions) (e b c : Bindings) (q : Goal) (g : Term) (i : ℕ)
      (places : List ℕ) → fill_goal a e ≡ Ok q → slice_get s i ≡ Some g → match_goal q g e ≡ Some b
      → Matches s rest b places c → Matches s (Also (Holds span a) rest) e (i ∷ places) c

-- an expression is an atom that an axiom's head doesn't name
abbrev pub NamesNone : Axiom → Expression → Type 0
NamesNone x (Holds span a) = x.head.name ≢ a.name
NamesNone x _ = ⊥

abbrev pub NamesNoneOf : Axiom → Expressions → Type 0
NamesNoneOf x NoExpression = Unit {0}
NamesNoneOf x (Also p ps) = NamesNone x p × NamesNoneOf x ps

abbrev pub IsAtom : Expression → Type 0
IsAtom (Holds span a) = Unit {0}
IsAtom _ = ⊥

abbrev pub AreAtoms : Expressions → Type 0
AreAtoms NoExpression = Unit {0}
AreAtoms (Also p ps) = IsAtom p × AreAtoms ps

abbrev pub IsSat : Event → Type 0
IsSat (Sat e) = Unit {0}
IsSat Cut = ⊥
IsSat (Fault f) = ⊥
