-- Steps to which places don't matter: on a forest without places they give the value without places, from the same
-- names to the same names.
use Rattle.std.proofs.Common.{◌≡◌, ℕ, Bool, true, false, cond, List, [], ◌∷◌, map, Result, Ok, Err, refl}
use Rattle.hp_syntax.specs.declared.pattern.Span.{Span}
use Rattle.hp_syntax.specs.declared.form.What.{What}
use Rattle.hp_syntax.specs.Forest.{Node, Word, Numeral, Group, Forest, Bare, Grow, span_of}
use Rattle.hp_syntax.specs.Steps as steps
use Rattle.hp_syntax.specs.Steps.{◌>>=◌, ◌<$>◌}
use Rattle.hp_syntax.specs.Written.{nowhere}
use Rattle.hp_syntax.specs.Unplaced as unplaced

-- a refusal without its place
abbrev pub misform : steps.Misform → steps.Misform
misform (steps.Expected what s) = steps.Expected what nowhere

-- the result of a step, with the value made another and a refusal without its place
abbrev pub moved : {A : Type 0} → (A → A) → Result (A × steps.Names) steps.Misform
    → Result (A × steps.Names) steps.Misform
moved u (Ok x) = Ok (u x.0, x.1)
moved u (Err m) = Err (misform m)

-- the second step gives what the first gives without places
pub record Moves {A : Type 0} (u : A → A) (p q : steps.Parse A) : Type 0 where
  pub same : (names : steps.Names) → q names ≡ moved u (p names)

-- a chain moves as its steps do
pub moves_chain : {A B : Type 0} {u : A → A} {w : B → B} {p q : steps.Parse A} {f : A → steps.Parse B}
    (g : A → steps.Parse B)
    → Moves u p q → ((x : A) → Moves w (f x) (g (u x))) → Moves w (p >>= f) (q >>= g)
moves_chain {A} {B} {u} {w} {p} {q} {f} g h k = record { same = λ names. rw h.same (chained (p names)) }
  where
    chained : (r : Result (A × steps.Names) steps.Misform) → steps.and_then (moved u r) g ≡ moved w (steps.and_then r f)
    chained (Ok x) = (k x.0).same x.1
    chained (Err m) = refl

-- a step that gives a value moves to the step that gives it without places
pub moves_pure : {A : Type 0} {u : A → A} (x : A) → Moves u (steps.pure x) (steps.pure (u x))
moves_pure x = record { same = λ names. refl }

-- a refusal moves to the refusal without its place
pub moves_refusal : {A : Type 0} {u : A → A} (m : steps.Misform) → Moves u (steps.refuse m) (steps.refuse (misform m))
moves_refusal m = record { same = λ names. refl }

-- a value made of another moves as the other does
pub moves_made : {A B : Type 0} {u : A → A} {w : B → B} (g h : A → B) {p q : steps.Parse A}
    → Moves u p q → ((x : A) → h (u x) ≡ w (g x)) → Moves w (g <$> p) (h <$> q)
moves_made {A} {B} {u} {w} g h k e = moves_chain _ k (λ x. record { same = λ names. rw e refl })

-- a choice moves as both steps do
pub moves_choice : {A : Type 0} {u : A → A} (b : Bool) {p q p' q' : steps.Parse A}
    → Moves u p p' → Moves u q q' → Moves u (cond b p q) (cond b p' q')
moves_choice true h k = h
moves_choice false h k = k

-- that nothing is left over doesn't turn on places
pub moves_ended : (f : Forest) → Moves (λ x. x) (steps.ended f) (steps.ended (unplaced.forest f))
unfolding unplaced.forest unplaced.node
moves_ended Bare = moves_pure tt
moves_ended (Grow (Word s text) f) = moves_refusal _
moves_ended (Grow (Numeral s n) f) = moves_refusal _
moves_ended (Grow (Group s parts) f) = moves_refusal _

-- a node and what follows it, without places
abbrev pub unplaced_next : Node × Forest → Node × Forest
unplaced_next x = (unplaced.node x.0, unplaced.forest x.1)

-- the next item is the same without places
pub moves_next : (what : What) (end : Span) (f : Forest)
    → Moves unplaced_next (steps.next what end f) (steps.next what nowhere (unplaced.forest f))
unfolding unplaced.forest
moves_next what end Bare = moves_refusal _
moves_next what end (Grow n f) = moves_pure (n, f)

-- each item in turn moves as each does
pub moves_each : {A : Type 0} {u : A → A} {item : Node → steps.Parse A} (f : Forest)
    → ((n : Node) → Moves u (item n) (item (unplaced.node n)))
    → Moves (map u) (steps.each item f) (steps.each item (unplaced.forest f))
unfolding unplaced.forest
moves_each Bare h = moves_pure []
moves_each (Grow n f) h = moves_chain _ (h n) (λ x. moves_chain _ (moves_each f h) (λ xs. moves_pure (x ∷ xs)))

-- a variable has the same number without places
pub moves_numbered : (text : List ℕ) → Moves (λ v. v) (steps.numbered text) (steps.numbered text)
moves_numbered text = record { same = λ names. refl }

-- the names so far are the same without places
pub moves_names : Moves (λ names. names) steps.names_so_far steps.names_so_far
moves_names = record { same = λ names. refl }

-- a step with variables of its own moves as the step alone
pub moves_by_itself : {A : Type 0} {u : A → A} {p q : steps.Parse A} → Moves u p q
    → Moves u (steps.by_itself p) (steps.by_itself q)
moves_by_itself {A} {u} {p} {q} h = record { same = λ names. rw h.same (own names (p [])) }
  where
    own : (names : steps.Names) (r : Result (A × steps.Names) steps.Misform)
        → steps.and_then (moved u r) (λ x _. steps.pure x names) ≡ moved u
        (steps.and_then r (λ x _. steps.pure x names))
    own names (Ok x) = refl
    own names (Err m) = refl

-- without places a node has the span of what stands nowhere
pub span_nowhere : (n : Node) → span_of (unplaced.node n) ≡ nowhere
unfolding unplaced.node
span_nowhere (Word s text) = refl
span_nowhere (Numeral s n) = refl
span_nowhere (Group s parts) = refl

-- whether a node is a name doesn't turn on places
same_word : (key : List ℕ) (n : Node) → steps.is_word key (unplaced.node n) ≡ steps.is_word key n
unfolding unplaced.node
same_word key (Word s text) = refl
same_word key (Numeral s n) = refl
same_word key (Group s parts) = refl

-- a choice by whether a node is a name moves as both steps do
pub moves_word : {A : Type 0} {u : A → A} (key : List ℕ) (n : Node) {p q p' q' : steps.Parse A}
    → Moves u p p' → Moves u q q'
    → Moves u (cond (steps.is_word key n) p q) (cond (steps.is_word key (unplaced.node n)) p' q')
moves_word key n h k = rw same_word (moves_choice (steps.is_word key n) h k)

-- a list by its first name moves as it does by any name
pub moves_begun : {A : Type 0} {u : A → A} (n : Node) {by_name : List ℕ → Forest → steps.Parse A}
    (by_name' : List ℕ → Forest → steps.Parse A) {other other' : steps.Parse A}
    → ((text : List ℕ) (rest : Forest) → Moves u (by_name text rest) (by_name' text (unplaced.forest rest)))
    → Moves u other other'
    → Moves u (steps.if_begun (steps.begun n) by_name other) (steps.if_begun
    (steps.begun (unplaced.node n)) by_name' other')
unfolding unplaced.node unplaced.forest
moves_begun (Word s text) by_name' h k = k
moves_begun (Numeral s n) by_name' h k = k
moves_begun (Group s Bare) by_name' h k = k
moves_begun (Group s (Grow (Word t text) rest)) by_name' h k = h text rest
moves_begun (Group s (Grow (Numeral t n) rest)) by_name' h k = k
moves_begun (Group s (Grow (Group t parts) rest)) by_name' h k = k

-- a result without places
abbrev pub unplaced_result : {A : Type 0} → (A → A) → Result A steps.Misform → Result A steps.Misform
unplaced_result u (Ok x) = Ok (u x)
unplaced_result u (Err m) = Err (misform m)

-- from no names the second step gives what the first gives, without places
pub moved_result : {A : Type 0} {u : A → A} {p q : steps.Parse A} → Moves u p q
    → steps.from_no_names q ≡ unplaced_result u (steps.from_no_names p)
moved_result {A} {u} {p} {q} h = rw h.same (at (p []))
  where
    at : (r : Result (A × steps.Names) steps.Misform) → steps.value_in (moved u r)
        ≡ unplaced_result u (steps.value_in r)
    at (Ok x) = refl
    at (Err m) = refl

-- a value without places is that of a value
pub placed_value : {A : Type 0} (u : A → A) (r : Result A steps.Misform) (v : A) → unplaced_result u r ≡ Ok v
    → (x : A) × (r ≡ Ok x) × (u x ≡ v)
placed_value u (Ok x) v e = (x, refl, cc)
placed_value u (Err m) v e = absurd cc
