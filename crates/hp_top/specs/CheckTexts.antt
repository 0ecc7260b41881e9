-- The text of `check` on an accepted domain and problem.
use Rattle.std.specs.Prelude.{ℕ, ◌+◌, Bool, true, false, cond, nat_lt, List, [], ◌∷◌, ◌++◌, length, codes, decimal}
use Rattle.std.specs.List.{flat_map, count_by}
use Rattle.hp_syntax.specs.Notes.{Note, notes}
use Rattle.hp_syntax.specs.Syntax.{Rule, Does, Refines, Concludes, Domain, Pair, Problem}
use Rattle.hp_out.specs.Lines.{note_text}

abbrev pub is_operator : Rule → Bool
is_operator (Does o) = true
is_operator (Refines m) = false
is_operator (Concludes a) = false

abbrev pub is_method : Rule → Bool
is_method (Does o) = false
is_method (Refines m) = true
is_method (Concludes a) = false

abbrev pub is_axiom : Rule → Bool
is_axiom (Does o) = false
is_axiom (Refines m) = false
is_axiom (Concludes a) = true

-- how many atoms the states of a problem have, as they are written
abbrev pub atoms_written : List Pair → ℕ
atoms_written [] = 0
atoms_written (p ∷ ps) = length p.state + atoms_written ps

-- how many rules there are of each kind
unfoldable pub counts_text : List Rule → List ℕ
counts_text rules =
    codes " operators " ++ decimal (count_by is_operator rules) ++ codes " methods "
    ++ decimal (count_by is_method rules) ++ codes " axioms " ++ decimal (count_by is_axiom rules)

unfoldable pub domain_line : Domain → List ℕ
domain_line d = codes "domain " ++ d.name ++ counts_text d.rules ++ codes "\n"

-- how many pairs there are, where there are several
unfoldable pub pairs_text : ℕ → List ℕ
pairs_text count = cond (nat_lt 1 count) (codes " pairs " ++ decimal count) []

unfoldable pub problem_line : Problem → List ℕ
problem_line p =
    codes "problem " ++ p.name ++ pairs_text (length p.pairs)
    ++ codes " atoms " ++ decimal (atoms_written p.pairs) ++ codes "\n"

abbrev pub count_lines : Domain → Problem → List ℕ
count_lines d p = domain_line d ++ problem_line p

abbrev pub notes_text : List Note → List ℕ
notes_text ns = flat_map note_text ns

-- two lines of counts, a line for each note, and that both are accepted
abbrev pub check_text : Domain → Problem → List ℕ
check_text d p = count_lines d p ++ (notes_text (notes d p) ++ codes "accepted\n")
