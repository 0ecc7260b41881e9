-- What a part of a rule is with the values that its variables have.
use Rattle.std.specs.Prelude.{ℕ, ◌+◌, Bool, cond, List, [], ◌∷◌, ◌++◌, flat_map, slice_get, Option, Some, None, bytes_eq, codes}
use Rattle.std.specs.List.{list_any}
use Rattle.hp_syntax.specs.Syntax as syntax
use Rattle.hp_syntax.specs.Syntax.{Domain, Rule}
use Rattle.hp_syntax.specs.Terms.{Term}
use Rattle.hp_syntax.specs.TermTexts.{term_text}
use Rattle.hp_syntax.specs.Values.{Bindings}
use Rattle.hp_syntax.specs.Written as written
use Rattle.hp_syntax.specs.Written.{node_text}
use Rattle.hp_unmet.specs.Conjunctions.{part_at}
use Rattle.hp_doctor_why.specs.declared.phrases.TheConstants as says

-- ---- variables

-- a variable is written as its value, or by its name where it has none
abbrev pub value_or_name : List ℕ → Option (Option Term) → List ℕ
value_or_name name None = name
value_or_name name (Some None) = name
value_or_name name (Some (Some t)) = term_text t

-- so the variables from one of a number on
abbrev pub filled_from : ℕ → List (List ℕ) → Bindings → List (List ℕ)
filled_from i [] e = []
filled_from i (name ∷ names) e = value_or_name name (slice_get e i) ∷ filled_from (i + 1) names e

abbrev pub filled_names : List (List ℕ) → Bindings → List (List ℕ)
filled_names names e = filled_from 0 names e

-- the names of a rule's variables
abbrev pub rule_names : Rule → List (List ℕ)
rule_names (syntax.Does o) = o.vars
rule_names (syntax.Refines m) = m.vars
rule_names (syntax.Concludes x) = x.vars

abbrev pub names_if : Option Rule → List (List ℕ)
names_if None = []
names_if (Some r) = rule_names r

abbrev pub names_at : Domain → ℕ → List (List ℕ)
names_at d rule = names_if (slice_get d.rules rule)

-- ---- parts

abbrev pub atom_text : List (List ℕ) → syntax.Atom → List ℕ
atom_text names a = node_text (written.atom names a)

abbrev pub negated_text : List (List ℕ) → syntax.Expression → List ℕ
negated_text names (syntax.Holds s a) = codes "(not " ++ atom_text names a ++ codes ")"
negated_text names (syntax.And s es) = []
negated_text names (syntax.Or s es) = []
negated_text names (syntax.Not s e) = []
negated_text names (syntax.Forall s vs e f) = []
negated_text names (syntax.Assign s v p) = []
negated_text names (syntax.Test s p) = []

-- an atom, the negation of one, or a call; nothing of any other part
abbrev pub part_text : List (List ℕ) → syntax.Expression → List ℕ
part_text names (syntax.Holds s a) = atom_text names a
part_text names (syntax.And s es) = []
part_text names (syntax.Or s es) = []
part_text names (syntax.Not s e) = negated_text names e
part_text names (syntax.Forall s vs e f) = []
part_text names (syntax.Assign s v p) = []
part_text names (syntax.Test s p) = node_text (written.pattern names p)

-- a line with a text, where it isn't the plain one
abbrev pub line_if_other : List ℕ → List ℕ → List ℕ
line_if_other filled plain = cond (bytes_eq filled plain) [] (says.FILLED.now ++ filled ++ codes "\n")

abbrev pub filled_line : List (List ℕ) → Bindings → syntax.Expression → List ℕ
filled_line names e part = line_if_other (part_text (filled_names names e) part) (part_text names part)

abbrev pub filled_if : List (List ℕ) → Bindings → Option syntax.Expression → List ℕ
filled_if names e None = []
filled_if names e (Some part) = filled_line names e part

-- the part at a place of a precondition, where some variable in it has a value
abbrev pub filled_at : Domain → ℕ → ℕ → ℕ → Bindings → List ℕ
filled_at d rule branch place e = filled_if (names_at d rule) e (part_at d.rules rule branch place)

-- ---- protections

abbrev pub has_text : List ℕ → Term → Bool
has_text text t = bytes_eq (term_text t) text

abbrev pub is_protected : List Term → List ℕ → Bool
is_protected guards text = list_any (has_text text) guards

abbrev pub if_protected : List Term → List ℕ → List ℕ
if_protected guards text = cond (is_protected guards text) (codes " " ++ text) []

-- an atom that is deleted, where it is one of the protected ones
abbrev pub deleted_text : List (List ℕ) → List Term → syntax.Effect → List ℕ
deleted_text names guards (syntax.Change a) = if_protected guards (atom_text names a)
deleted_text names guards (syntax.Protection a) = []
deleted_text names guards (syntax.Each vs e as') = []

abbrev pub protected_line : List ℕ → List ℕ
protected_line [] = []
protected_line (b ∷ bs) = says.PROTECTED_HERE.now ++ (b ∷ bs) ++ codes "\n"

abbrev pub protected_of : Bindings → List Term → syntax.Operator → List ℕ
protected_of e guards o = protected_line (flat_map (deleted_text (filled_names o.vars e) guards) o.dels)

abbrev pub protected_by : Bindings → List Term → Rule → List ℕ
protected_by e guards (syntax.Does o) = protected_of e guards o
protected_by e guards (syntax.Refines m) = []
protected_by e guards (syntax.Concludes x) = []

abbrev pub protected_if : Bindings → List Term → Option Rule → List ℕ
protected_if e guards None = []
protected_if e guards (Some r) = protected_by e guards r

-- the protected atoms that an operator would delete
abbrev pub protected_text : Domain → ℕ → Bindings → List Term → List ℕ
protected_text d rule e guards = protected_if e guards (slice_get d.rules rule)
