-- Rules by their parts: an operator in three pieces, and the branches of a method or an axiom one by one.
use Rattle.std.proofs.Common.{◌≡◌, ◌∙◌, sym, ap, refl, ℕ, Bool, true, false, cond, List, [], ◌∷◌, ◌++◌, Option, Some, None, Result, Ok, Err, length, map, append-nil, arith, ◌≢◌, codes, bytes_eq}
use Rattle.std.proofs.lemmas.List.{map-append}
use Rattle.hp_syntax.specs.declared.pattern.Span.{Span}
use Rattle.hp_syntax.specs.declared.form.What.{What}
use Rattle.hp_syntax.specs.declared.form.What.TheVariants as wants
use Rattle.hp_syntax.specs.Forest.{Node, Forest, Bare, Grow}
use Rattle.hp_syntax.specs.Steps.{Misform, Expected, Names, Parse, and_then, pure, next, ◌>>=◌, value_in, by_itself}
use Rattle.hp_syntax.specs.Syntax.{Precondition, Branch, Clause}
use Rattle.hp_syntax.specs.Grammar.{InRule, precondition, tasks, expression, branches, named_branch, branch_tasks, branch_name, begins_named, make_branch, clauses, named_clause, make_clause}
use Rattle.hp_rules.specs.Branches.{start, branch, clause, behind_name}
use Rattle.hp_syntax.specs.Grammar as grammar
use Rattle.hp_rules.specs.Operators.{operator, opening, changes}
use Rattle.hp_terms.specs.FormReads.{Refuses, Gives, Reads}
use Rattle.hp_terms.specs.declared.refusal.FormRefusal.{FormRefusal}
use Rattle.hp_terms.specs.declared.refusal.FormRefusal.TheVariants as refusals
use Rattle.hp_text.specs.declared.forest.Node as public
use Rattle.hp_text.specs.Nodes.{nodes_of}
use Rattle.hp_terms.proofs.Turns.{prepend, prepend_more, bind-assoc, bind_same}

-- an operator is its head and precondition, its effects and its cost, in turn
pub operator_parts : (s : Span) (rest : Forest) (names : Names) → grammar.operator s rest names ≡ operator s rest names
unfolding grammar.operator operator opening changes
operator_parts s rest names = simp bind-assoc

-- a rule by the word of an operator is an operator
pub keyed-operator : (s : Span) (key : List ℕ) (rest : Forest) (names : Names) → bytes_eq key (codes ":operator") ≡ true
    → grammar.keyed_rule s key rest names ≡ operator s rest names
unfolding grammar.keyed_rule
keyed-operator s key rest names h = rw h (operator_parts s rest names)

-- ---- names of branches

module _ {A B : Type 0} (what : What) (end : Span) (branch_from : Option (List ℕ) × (Node × Forest) → Parse A)
    (later : A → Parse B) where
  -- branches begin with one that has a name or none, and is read from its first node on
  named_or_not : (n : Node) (rest : Forest) (names : Names) (is_named : Bool) (named : List ℕ → Parse B)
      (unnamed : Parse B)
      → ((text : List ℕ) (after : Names) → named text after
      ≡ and_then (and_then (next what end rest after) (λ x. branch_from (Some text, x))) later)
      → unnamed names ≡ and_then (branch_from (None, (n, rest)) names) later
      → cond is_named (branch_name n >>= named) unnamed names
      ≡ and_then (and_then (and_then (cond is_named (branch_name n >>= (λ text. pure (Some text))) (pure None) names)
      (λ text. behind_name what end n rest text)) branch_from) later
  named_or_not n rest names true named unnamed by_name without =
      elim (branch_name n names) as (λ r. and_then r named
      ≡ and_then (and_then (and_then (and_then r (λ text. pure (Some text)))
      (λ text. behind_name what end n rest text)) branch_from) later) [
        | Ok t ↦ by_name t.0 t.1
            ∙ ap (λ r. and_then r later) (sym (bind-assoc (next what end rest t.1) (λ x. pure (Some t.0, x))
            branch_from))
        | Err e ↦ refl
      ]
  named_or_not n rest names false named unnamed by_name without = without

-- ---- branches of a method

abbrev pub then_branches : Span → Branch × Forest → Parse (List Branch)
then_branches end x = branches end false x.1 >>= (λ others. pure (x.0 ∷ others))

abbrev tasks_of_branch : Span → Option (List ℕ) → Precondition → Forest → Parse (Branch × Forest)
tasks_of_branch end text p f = next wants.Tasks end f >>= (λ y. tasks InRule y.0 >>=
    (λ t. pure (make_branch text p t, y.1)))

branch_tasks-turn : (end : Span) (text : Option (List ℕ)) (p : Precondition) (f : Forest) (names : Names)
    → branch_tasks end text p f names ≡ and_then (tasks_of_branch end text p f names) (then_branches end)
unfolding branches
branch_tasks-turn end text p Bare names = refl
branch_tasks-turn end text p (Grow n rest) names =
    sym (bind-assoc (tasks InRule n names) (λ t. pure (make_branch text p t, rest)) (then_branches end))

from_precondition : (end : Span) (text : Option (List ℕ)) (n : Node) (rest : Forest) (names : Names)
    → and_then (precondition n names) (λ p. branch_tasks end text p rest)
    ≡ and_then (and_then (precondition n names) (λ p. tasks_of_branch end text p rest)) (then_branches end)
from_precondition end text n rest names =
    bind_same (precondition n names) _ _ (λ p later. branch_tasks-turn end text p rest later)
    ∙ sym (bind-assoc (precondition n names) (λ p. tasks_of_branch end text p rest) (then_branches end))

abbrev rest_of_branch : Span → Option (List ℕ) × (Node × Forest) → Parse (Branch × Forest)
rest_of_branch end x = precondition x.1.0 >>= (λ p. tasks_of_branch end x.0 p x.1.1)

named_branch-turn : (end : Span) (text : List ℕ) (f : Forest) (names : Names)
    → named_branch end text f names
    ≡ and_then (and_then (next wants.Pre end f names) (λ x. rest_of_branch end (Some text, x))) (then_branches end)
unfolding named_branch
named_branch-turn end text Bare names = refl
named_branch-turn end text (Grow n rest) names = from_precondition end (Some text) n rest names

-- the branches of a method are one branch, and then the rest
pub branches-turn : (end : Span) (f : Forest) (names : Names)
    → branches end true f names ≡ and_then (branch end f names) (then_branches end)
unfolding branches branch start
branches-turn end Bare names = refl
branches-turn end (Grow n rest) names =
    named_or_not wants.Pre end (rest_of_branch end) (then_branches end) n rest names (begins_named n)
    (λ text. named_branch end text rest) (precondition n >>= (λ p. branch_tasks end None p rest))
    (λ text later. named_branch-turn end text rest later) (from_precondition end None n rest names)

-- ---- branches of an axiom

abbrev pub then_clauses : Span → Clause × Forest → Parse (List Clause)
then_clauses end x = clauses end false x.1 >>= (λ others. pure (x.0 ∷ others))

abbrev rest_of_clause : Option (List ℕ) × (Node × Forest) → Parse (Clause × Forest)
rest_of_clause x = expression x.1.0 >>= (λ e. pure (make_clause x.0 e, x.1.1))

from_expression : (end : Span) (text : Option (List ℕ)) (n : Node) (rest : Forest) (names : Names)
    → and_then (expression n names) (λ e. clauses end false rest >>= (λ others. pure (make_clause text e ∷ others)))
    ≡ and_then (and_then (expression n names) (λ e. pure (make_clause text e, rest))) (then_clauses end)
from_expression end text n rest names =
    sym (bind-assoc (expression n names) (λ e. pure (make_clause text e, rest)) (then_clauses end))

named_clause-turn : (end : Span) (text : List ℕ) (f : Forest) (names : Names)
    → named_clause end text f names
    ≡ and_then (and_then (next wants.Expr end f names) (λ x. rest_of_clause (Some text, x))) (then_clauses end)
unfolding named_clause
named_clause-turn end text Bare names = refl
named_clause-turn end text (Grow n rest) names = from_expression end (Some text) n rest names

-- the branches of an axiom are one branch, and then the rest
pub clauses-turn : (end : Span) (f : Forest) (names : Names)
    → clauses end true f names ≡ and_then (clause end f names) (then_clauses end)
unfolding clauses clause start
clauses-turn end Bare names = refl
clauses-turn end (Grow n rest) names =
    named_or_not wants.Expr end rest_of_clause (then_clauses end) n rest names (begins_named n)
    (λ text. named_clause end text rest)
    (expression n >>= (λ e. clauses end false rest >>= (λ others. pure (make_clause None e ∷ others))))
    (λ text later. named_clause-turn end text rest later) (from_expression end None n rest names)

-- ---- turns of a loop over branches

-- one more branch is read
pub turn_read : {X A : Type 0} (view : X → A) (one : Parse (A × Forest)) (later : Forest → Parse (List A)) (g : Forest)
    (prefix : List X) (x : X) (before after : Names) (all whole : Result (List A × Names) Misform)
    → all ≡ prepend (map view prefix) whole
    → whole ≡ and_then (one before) (λ y. later y.1 >>= (λ others. pure (y.0 ∷ others)))
    → one before ≡ Ok ((view x, g), after) → all ≡ prepend (map view (prefix ++ x ∷ [])) (later g after)
turn_read view one later g prefix x before after all whole e turn r =
    e ∙ ap (prepend (map view prefix)) (turn
    ∙ ap (λ o. and_then o (λ y. later y.1 >>= (λ others. pure (y.0 ∷ others)))) r)
    ∙ prepend_more (map view prefix) (view x) (later g after)
    ∙ ap (λ xs. prepend xs (later g after)) (sym (map-append view prefix (x ∷ [])))

-- a branch that is refused refuses all
pub turn_refused : {A : Type 0} (why : FormRefusal) (one : Parse (A × Forest)) (later : Forest → Parse (List A))
    (prefix : List A) (before : Names) (all whole : Result (List A × Names) Misform) → all ≡ prepend prefix whole
    → whole ≡ and_then (one before) (λ y. later y.1 >>= (λ others. pure (y.0 ∷ others)))
    → Refuses why (one before) → Refuses why all
turn_refused (refusals.Expected what span) one later prefix before all whole e turn r =
    e ∙ ap (prepend prefix) (turn ∙ ap (λ o. and_then o (λ y. later y.1 >>= (λ others. pure (y.0 ∷ others)))) r)
turn_refused refusals.NoMemory one later prefix before all whole e turn r = r

-- where no node is left, the branches that were read are all
pub branches_done : (end : Span) (rest : List public.Node) (prefix : List Branch) (names : Names)
    (all : Result (List Branch × Names) Misform) → length rest ≡ 0
    → all ≡ prepend prefix (branches end false (nodes_of rest) names) → all ≡ Ok (prefix, names)
unfolding branches
branches_done end [] prefix names all none e = e ∙ ap (λ xs. Ok (xs, names)) (append-nil prefix)
branches_done end (n ∷ ns) prefix names all none e = absurd (omega arith)

pub clauses_done : (end : Span) (rest : List public.Node) (prefix : List Clause) (names : Names)
    (all : Result (List Clause × Names) Misform) → length rest ≡ 0
    → all ≡ prepend prefix (clauses end false (nodes_of rest) names) → all ≡ Ok (prefix, names)
unfolding clauses
clauses_done end [] prefix names all none e = e ∙ ap (λ xs. Ok (xs, names)) (append-nil prefix)
clauses_done end (n ∷ ns) prefix names all none e = absurd (omega arith)

-- where a node is left, further branches are read as at the front
pub branches_go_on : (end : Span) (rest : List public.Node) (names : Names) → length rest ≢ 0
    → branches end false (nodes_of rest) names ≡ branches end true (nodes_of rest) names
unfolding branches
branches_go_on end [] names some = absurd (some refl)
branches_go_on end (n ∷ ns) names some = refl

pub clauses_go_on : (end : Span) (rest : List public.Node) (names : Names) → length rest ≢ 0
    → clauses end false (nodes_of rest) names ≡ clauses end true (nodes_of rest) names
unfolding clauses
clauses_go_on end [] names some = absurd (some refl)
clauses_go_on end (n ∷ ns) names some = refl

-- ---- rules with variables of their own

own_value : {A : Type 0} (r : Result (A × Names) Misform) (x : A) (names : Names) → value_in r ≡ Ok x
    → and_then r (λ y _. pure y names) ≡ Ok (x, names)
own_value (Ok p) x names h = cc
own_value (Err e) x names h = cc

own_refusal : {A : Type 0} (r : Result (A × Names) Misform) (m : Misform) (names : Names) → value_in r ≡ Err m
    → and_then r (λ y _. pure y names) ≡ Err m
own_refusal (Ok p) m names h = cc
own_refusal (Err e) m names h = cc

-- a value of a step reads the step with variables of its own
pub reads_by_itself : {X A : Type 0} (view : X → A) (r : Result X FormRefusal) (p : Parse A) (names : Names)
    → Gives view r (value_in (p [])) → Reads view r (by_itself p) names names
reads_by_itself view (Ok x) p names h = own_value (p []) (view x) names h
reads_by_itself view (Err (refusals.Expected what span)) p names h = own_refusal (p []) (Expected what span) names h
reads_by_itself view (Err refusals.NoMemory) p names h = h
