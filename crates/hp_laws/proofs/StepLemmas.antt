-- Facts of the values that the grammar's steps give.
use Rattle.std.proofs.Common.{◌≡◌, ℕ, ◌<◌, ◌≤◌, Bool, true, false, cond, List, [], subst, arith}
use Rattle.std.specs.Prelude.{Result, Ok, Err}
use Rattle.std.specs.List.{All}
use Rattle.std.proofs.lemmas.List.Elements.{All-nil, All-cons}
use Rattle.hp_syntax.specs.declared.pattern.Span.{Span}
use Rattle.hp_syntax.specs.declared.form.What.{What}
use Rattle.hp_syntax.specs.Forest.{Node, Word, Numeral, Group, Forest, Bare, Grow, nesting, nesting_of_node}
use Rattle.hp_syntax.specs.Steps.{Misform, Parse, Names, and_then, ◌>>=◌, ◌<$>◌, pure, refuse, next, each, value_in, from_no_names, begun, if_begun}

-- this holds of the value, where there is one
abbrev GivesResult : {A : Type 0} → (A → Type 0) → Result (A × Names) Misform → Type 0
GivesResult P (Ok p) = P p.0
GivesResult P (Err e) = Unit {0}

-- a step gives only values of which this holds
pub record Gives {A : Type 0} (P : A → Type 0) (step : Parse A) : Type 0 where
  pub given : (names : Names) → GivesResult P (step names)

-- nothing is asked of a value
abbrev pub Any : {A : Type 0} → A → Type 0
Any x = Unit {0}

-- a step behind another gives a fact that it gives for each value of the other
and_then_gives : {A B : Type 0} (P : A → Type 0) (Q : B → Type 0) (r : Result (A × Names) Misform) (f : A → Parse B)
    → GivesResult P r → ((x : A) → P x → Gives Q (f x)) → GivesResult Q (and_then r f)
and_then_gives P Q (Ok p) f h k = (k p.0 h).given p.1
and_then_gives P Q (Err e) f h k = tt

-- a chain gives what its last step gives for each value that the first gives
pub gives_chain : {A B : Type 0} {P : A → Type 0} {Q : B → Type 0} {p : Parse A} {f : A → Parse B}
    → Gives P p → ((x : A) → P x → Gives Q (f x)) → Gives Q (p >>= f)
gives_chain {A} {B} {P} {Q} {p} {f} h k = record { given = λ names. and_then_gives P Q (p names) f (h.given names) k }

-- any step gives values of which nothing is asked
pub gives_any : {A : Type 0} (p : Parse A) → Gives Any p
gives_any {A} p = record { given = λ names. any (p names) }
  where
    any : (r : Result (A × Names) Misform) → GivesResult Any r
    any (Ok x) = tt
    any (Err e) = tt

-- a chain gives what its last step gives for each value whatever the first gives
pub gives_then : {A B : Type 0} {Q : B → Type 0} (p : Parse A) {f : A → Parse B}
    → ((x : A) → Gives Q (f x)) → Gives Q (p >>= f)
gives_then p k = gives_chain (gives_any p) (λ x h. k x)

-- a step that gives one value gives what holds of it
pub gives_pure : {A : Type 0} {P : A → Type 0} {x : A} → P x → Gives P (pure x)
gives_pure h = record { given = λ names. h }

-- a refusal gives no value, so that anything holds of what it gives
pub gives_refusal : {A : Type 0} {P : A → Type 0} (m : Misform) → Gives P (refuse m)
gives_refusal m = record { given = λ names. tt }

-- a step that makes its value of another gives each fact that follows from one of the other
pub gives_made : {A B : Type 0} {P : A → Type 0} {Q : B → Type 0} (g : A → B) {p : Parse A}
    → Gives P p → ((x : A) → P x → Q (g x)) → Gives Q (g <$> p)
gives_made g h k = gives_chain h (λ x l. gives_pure (k x l))

-- a choice of two steps gives what both of them give
pub gives_choice : {A : Type 0} {P : A → Type 0} (b : Bool) {p q : Parse A} → Gives P p → Gives P q
    → Gives P (cond b p q)
gives_choice true h k = h
gives_choice false h k = k

-- a node and what follows it nest no deeper than a bound
pub record AreWithin (most : ℕ) (x : Node × Forest) : Type 0 where
  pub first : nesting_of_node x.0 ≤ most
  pub rest : nesting x.1 ≤ most

-- the next item and what follows it nest no deeper than the forest
pub gives_next : {most : ℕ} (what : What) (end : Span) (f : Forest) → nesting f ≤ most
    → Gives (AreWithin most) (next what end f)
gives_next what end Bare l = gives_refusal _
gives_next what end (Grow n f) l = gives_pure (record { first = omega arith; rest = omega arith })

-- each item in turn has a property if what is read of each node that nests no deeper than the forest has it
pub gives_each : {A : Type 0} (P : A → Type 0) {item : Node → Parse A} (most : ℕ) (f : Forest) → nesting f ≤ most
    → ((n : Node) → nesting_of_node n ≤ most → Gives P (item n)) → Gives (All P) (each item f)
gives_each P most Bare l h = gives_pure (All-nil P)
gives_each P most (Grow n f) l h =
    gives_chain (h n (omega arith)) (λ x a. gives_chain (gives_each P most f (omega arith) h)
    (λ xs b. gives_pure (All-cons P x xs a b)))

-- a list is read by its first name, and what follows the name nests less deep than the list
pub gives_begun : {A : Type 0} {P : A → Type 0} (n : Node) {by_name : List ℕ → Forest → Parse A} {other : Parse A}
    → ((text : List ℕ) (rest : Forest) → nesting rest < nesting_of_node n → Gives P (by_name text rest))
    → Gives P other → Gives P (if_begun (begun n) by_name other)
gives_begun (Word s text) h k = k
gives_begun (Numeral s n) h k = k
gives_begun (Group s Bare) h k = k
gives_begun (Group s (Grow (Word t text) rest)) h k = h text rest (omega arith)
gives_begun (Group s (Grow (Numeral t n) rest)) h k = k
gives_begun (Group s (Grow (Group t parts) rest)) h k = k

-- the value that a step gives from no names on has what the step gives
pub given_value : {A : Type 0} (P : A → Type 0) (p : Parse A) (x : A) → Gives P p → from_no_names p ≡ Ok x → P x
given_value {A} P p x h e = value (p []) (h.given []) e
  where
    value : (r : Result (A × Names) Misform) → GivesResult P r → value_in r ≡ Ok x → P x
    value (Ok y) k q = let q' : y.0 ≡ x = cc in subst P q' k
    value (Err m) k q = absurd cc
