-- Facts that steps keep: where the names after a step are at most so many, so were the names before.
use Rattle.std.proofs.Common.{◌≡◌, ℕ, ◌+◌, ◌<◌, ◌≤◌, Bool, true, false, ◌||◌, not, cond, List, [], ◌∷◌, ◌++◌, length, length-append, Option, Some, None, refl, subst, arith, bytes_eq}
use Rattle.std.specs.Prelude.{Result, Ok, Err}
use Rattle.std.specs.List.{All, list_any, position_or_len}
use Rattle.std.proofs.lemmas.List.Elements.{All-nil, All-cons}
use Rattle.std.proofs.lemmas.List.Sums.{prefix_len-le-length}
use Rattle.hp_syntax.specs.declared.pattern.Span.{Span}
use Rattle.hp_syntax.specs.declared.form.What.{What}
use Rattle.hp_syntax.specs.Forest.{Node, Forest, Bare, Grow}
use Rattle.hp_syntax.specs.Steps as steps
use Rattle.hp_syntax.specs.Steps.{◌>>=◌, ◌<$>◌}

-- if there are at most so many names at the end, so there were before, and this holds of the value and those names
abbrev pub LeavesResult : {A : Type 0} → ℕ → (A → steps.Names → Type 0) → steps.Names
    → Result (A × steps.Names) steps.Misform → Type 0
LeavesResult most P names (Ok p) = length p.1 ≤ most → (length names ≤ most) × P p.0 p.1
LeavesResult most P names (Err e) = Unit {0}

pub record Leaves {A : Type 0} (most : ℕ) (P : A → steps.Names → Type 0) (step : steps.Parse A) : Type 0 where
  pub left : (names : steps.Names) → LeavesResult most P names (step names)

-- the same where it holds of the value alone
abbrev pub Keeps : {A : Type 0} → ℕ → (A → Type 0) → steps.Parse A → Type 0
Keeps most P step = Leaves most (λ x names. P x) step

-- the names that a step leaves behind another one are left by both
then_left : {A B : Type 0} (most : ℕ) (P : A → Type 0) (Q : B → steps.Names → Type 0) (names : steps.Names)
    (p : A × steps.Names)
    (r : Result (B × steps.Names) steps.Misform)
    → LeavesResult most (λ x _. P x) names (Ok p) → LeavesResult most (λ y after. P p.0 → Q y after) p.1 r
    → LeavesResult most Q names r
then_left most P Q names p (Ok q) h k = λ l. (let b = k l in let a = h b.0 in (a.0, b.1 a.1))
then_left most P Q names p (Err e) h k = tt

-- a result and a step behind it leave the names that the step leaves
and_then_left : {A B : Type 0} (most : ℕ) (P : A → Type 0) (Q : B → steps.Names → Type 0) (names : steps.Names)
    (r : Result (A × steps.Names) steps.Misform) (f : A → steps.Parse B)
    → LeavesResult most (λ x _. P x) names r → ((x : A) → Leaves most (λ y after. P x → Q y after) (f x))
    → LeavesResult most Q names (steps.and_then r f)
and_then_left most P Q names (Ok p) f h k = then_left most P Q names p (f p.0 p.1) h ((k p.0).left p.1)
and_then_left most P Q names (Err e) f h k = tt

-- a chain of steps leaves what its last step leaves of the values before
pub keeps_chain : {A B : Type 0} {most : ℕ} {P : A → Type 0} {Q : B → steps.Names → Type 0} {p : steps.Parse A}
    {f : A → steps.Parse B}
    → Keeps most P p → ((x : A) → Leaves most (λ y names. P x → Q y names) (f x)) → Leaves most Q (p >>= f)
keeps_chain {A} {B} {most} {P} {Q} {p} {f} h k =
    record { left = λ names. and_then_left most P Q names (p names) f (h.left names) k }

-- a step that gives a value keeps what holds of it
pub keeps_pure : {A : Type 0} {most : ℕ} {P : A → Type 0} {x : A} → P x → Keeps most P (steps.pure x)
keeps_pure h = record { left = λ names l. (l, h) }

-- a refusal keeps anything
pub keeps_refusal : {A : Type 0} {most : ℕ} {P : A → steps.Names → Type 0} (m : steps.Misform)
    → Leaves most P (steps.refuse m)
keeps_refusal m = record { left = λ names. tt }

-- a value made of another keeps each fact that follows from one that the other keeps
pub keeps_made : {A B : Type 0} {most : ℕ} {P : A → Type 0} {Q : B → Type 0} (g : A → B) {p : steps.Parse A}
    → Keeps most P p → ((x : A) → P x → Q (g x)) → Keeps most Q (g <$> p)
keeps_made g h k = keeps_chain h (λ x. keeps_pure (k x))

-- a choice of two steps leaves what both leave
pub keeps_choice : {A : Type 0} {most : ℕ} {P : A → steps.Names → Type 0} (b : Bool) {p q : steps.Parse A}
    → Leaves most P p → Leaves most P q → Leaves most P (cond b p q)
keeps_choice true h k = h
keeps_choice false h k = k

-- a chain leaves what its last step leaves whatever the values before
pub keeps_then : {A B : Type 0} {most : ℕ} {P : A → Type 0} {Q : B → steps.Names → Type 0} {p : steps.Parse A}
    {f : A → steps.Parse B}
    → Keeps most P p → ((x : A) → Leaves most Q (f x)) → Leaves most Q (p >>= f)
keeps_then {A} {B} {most} {P} {Q} {p} {f} h k =
    keeps_chain h (λ x. record { left = λ names. more names (f x names) (P x) ((k x).left names) })
  where
    more : (names : steps.Names) (r : Result (B × steps.Names) steps.Misform) (X : Type 0) → LeavesResult most Q names r
        → LeavesResult most (λ y after. X → Q y after) names r
    more names (Ok y) X u = λ l. (let a = u l in (a.0, λ _. a.1))
    more names (Err e) X u = tt

-- that nothing is left over keeps the names of variables
pub keeps_ended : {most : ℕ} (f : Forest) → Keeps most (λ x. Unit {0}) (steps.ended f)
keeps_ended Bare = keeps_pure tt
keeps_ended (Grow n f) = keeps_refusal _

-- the next item keeps the names of variables
pub keeps_next : {most : ℕ} (what : What) (end : Span) (f : Forest) → Keeps most (λ x. Unit {0}) (steps.next what end f)
keeps_next what end Bare = keeps_refusal _
keeps_next what end (Grow n f) = keeps_pure tt

-- each item in turn keeps of all what it keeps of each
pub keeps_each : {A : Type 0} {most : ℕ} (P : A → Type 0) {item : Node → steps.Parse A} (f : Forest)
    → ((n : Node) → Keeps most P (item n)) → Keeps most (All P) (steps.each item f)
keeps_each P Bare h = keeps_pure (All-nil P)
keeps_each P (Grow n f) h =
    keeps_chain (h n) (λ x. keeps_chain (keeps_each P f h) (λ xs. keeps_pure (λ b a. All-cons P x xs a b)))

-- the place of what is among a list is below its length
position_below : {X : Type 0} (p : X → Bool) (xs : List X) → list_any p xs ≡ true → position_or_len p xs < length xs
position_below p [] h = absurd cc
position_below p (x ∷ xs) h = at (p x) h (position_below p xs)
  where
    at : (b : Bool) → (b || list_any p xs) ≡ true → (list_any p xs ≡ true → position_or_len p xs < length xs)
        → cond (not b) (1 + position_or_len p xs) 0 < length (x ∷ xs)
    at true h k = omega arith
    at false h k = let l = k h in omega arith

-- no values have any property each
pub keeps_none : {A : Type 0} {most : ℕ} (P : A → Type 0) → Keeps most (All P) (steps.pure [])
keeps_none P = keeps_pure (All-nil P)

-- one value has a property if each of its list does
pub keeps_one : {A : Type 0} {most : ℕ} (P : A → Type 0) {p : steps.Parse A} → Keeps most P p
    → Keeps most (All P) ((λ x. x ∷ []) <$> p)
keeps_one P h = keeps_made (λ x. x ∷ []) h (λ x k. All-cons P x [] k (All-nil P))

-- a variable's number is below the count of the names with it
pub keeps_numbered : {most : ℕ} (name : List ℕ) → Keeps most (λ v. v < most) (steps.numbered name)
keeps_numbered {most} name = record { left = λ names. at names (list_any (bytes_eq name) names) refl }
  where
    at : (names : steps.Names) (b : Bool) → list_any (bytes_eq name) names ≡ b
        → length (cond b names (names ++ name ∷ [])) ≤ most
        → (length names ≤ most) × (position_or_len (bytes_eq name) names < most)
    at names true e l = let p = position_below (bytes_eq name) names e in (l, omega arith)
    at names false e l =
        let p = prefix_len-le-length (λ x. not (bytes_eq name x)) names in
        let q = length-append names (name ∷ []) in
        (omega arith, omega arith)

-- a list by its first name keeps what it keeps by any name
pub keeps_begun : {A : Type 0} {most : ℕ} {P : A → Type 0}
    (x : Option (List ℕ × Forest)) {by_name : List ℕ → Forest → steps.Parse A} {other : steps.Parse A}
    → ((text : List ℕ) (rest : Forest) → Keeps most P (by_name text rest)) → Keeps most P other
    → Keeps most P (steps.if_begun x by_name other)
keeps_begun None h k = k
keeps_begun (Some x) h k = h x.0 x.1

-- a value made of the names so far is left with these names
pub leaves_names : {A : Type 0} {most : ℕ} {P : A → steps.Names → Type 0} {f : steps.Names → A}
    → ((names : steps.Names) → P (f names) names)
    → Leaves most P (steps.names_so_far >>= (λ names. steps.pure (f names)))
leaves_names h = record { left = λ names l. (l, h names) }

-- a fact that is left for each count of names holds for the count at the end
pub leaves_all : {A : Type 0} (P : ℕ → A → steps.Names → Type 0) (Q : A → Type 0) {p : steps.Parse A}
    → ((most : ℕ) → Leaves most (P most) p)
    → ((x : A) (names : steps.Names) → P (length names) x names → Q x) → (most : ℕ) → Keeps most Q p
leaves_all {A} P Q {p} h k most = record { left = λ names. all names (p names) (λ n. (h n).left names) }
  where
    all : (names : steps.Names) (r : Result (A × steps.Names) steps.Misform) → ((n : ℕ) → LeavesResult n (P n) names r)
        → LeavesResult most (λ x _. Q x) names r
    all names (Ok x) u = λ l. ((u most l).0, k x.0 x.1 (u (length x.1) (omega arith)).1)
    all names (Err e) u = tt

-- a step with variables of its own keeps what it keeps alone
pub keeps_by_itself : {A : Type 0} {most : ℕ} {P : A → Type 0} {p : steps.Parse A} → ((n : ℕ) → Keeps n P p)
    → Keeps most P (steps.by_itself p)
keeps_by_itself {A} {most} {P} {p} h = record { left = λ names. own names (p []) (λ n. (h n).left []) }
  where
    own : (names : steps.Names) (r : Result (A × steps.Names) steps.Misform)
        → ((n : ℕ) → LeavesResult n (λ x _. P x) [] r)
        → LeavesResult most (λ x _. P x) names (steps.and_then r (λ x _. steps.pure x names))
    own names (Ok x) k = λ l. (l, (k (length x.1) (omega arith)).1)
    own names (Err e) k = tt

-- the value of a step from no names on has each fact that the step keeps
pub kept_value : {A : Type 0} (P : A → Type 0) (p : steps.Parse A) (x : A) → ((n : ℕ) → Keeps n P p)
    → steps.from_no_names p ≡ Ok x
    → P x
kept_value {A} P p x h e = value (p []) (λ n. (h n).left []) e
  where
    value : (r : Result (A × steps.Names) steps.Misform) → ((n : ℕ) → LeavesResult n (λ x _. P x) [] r)
        → steps.value_in r ≡ Ok x → P x
    value (Ok y) k q = let q' : y.0 ≡ x = cc in subst P q' (k (length y.1) (omega arith)).1
    value (Err m) k q = absurd cc
