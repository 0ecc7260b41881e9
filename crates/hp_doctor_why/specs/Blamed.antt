-- What is said of what was at fault, where a fault ended a search.
use Rattle.std.specs.Prelude.{ℕ, ◌+◌, cond, List, [], ◌∷◌, ◌++◌, slice_get, Option, Some, None, codes}
use Rattle.std.specs.Option.{option_and_then}
use Rattle.hp_syntax.specs.declared.pattern.Span.{Span}
use Rattle.hp_syntax.specs.Syntax as syntax
use Rattle.hp_syntax.specs.Syntax.{Atom, Domain}
use Rattle.hp_syntax.specs.Terms.{Term}
use Rattle.hp_syntax.specs.TermTexts.{term_text}
use Rattle.hp_syntax.specs.Written as written
use Rattle.hp_syntax.specs.Written.{node_text}
use Rattle.hp_doctor.specs.Explained.{told_in}
use Rattle.hp_doctor.specs.Texts.{Texts}
use Rattle.hp_unmet.specs.Conjunctions.{Conjunction, asked_in}
use Rattle.hp_blame.specs.Blames.{Blame, Culprit}
use Rattle.hp_blame.specs.Firsts.{first_below}
use Rattle.hp_blame.specs.Patterns.{atom_mentions, mentions}
use Rattle.hp_doctor_why.specs.declared.phrases.TheConstants as says
use Rattle.hp_doctor_why.specs.Filled.{atom_text, filled_names}

-- ---- where the value of a variable comes from

-- an atom in which the variable stands
abbrev pub source_in : ℕ → syntax.Expression → Option Atom
source_in v (syntax.Holds s a) = cond (atom_mentions v a) (Some a) None
source_in v (syntax.And s es) = None
source_in v (syntax.Or s es) = None
source_in v (syntax.Not s e) = None
source_in v (syntax.Forall s vs e f) = None
source_in v (syntax.Assign s u p) = None
source_in v (syntax.Test s p) = None

abbrev pub source_at : ℕ → List syntax.Expression → ℕ → Option Atom
source_at v parts n = option_and_then (source_in v) (slice_get parts n)

-- the first among so many parts of a precondition
abbrev pub source : ℕ → List syntax.Expression → ℕ → Option Atom
source v parts before = first_below (source_at v parts) before

abbrev pub from_part : List (List ℕ) → Option Atom → List ℕ
from_part names None = []
from_part names (Some a) = says.FROM.now ++ atom_text names a

-- from the task, where the head has the variable, or else from that atom, as it is with the values
abbrev pub from_text : List (List ℕ) → ℕ → Conjunction → ℕ → List ℕ
from_text names v c before =
    cond (atom_mentions v c.head) says.FROM_TASK.now (from_part names (source v c.parts before))

-- ---- the variables of a pattern

abbrev pub value_text : List ℕ → List ℕ → Option (Option Term) → List ℕ
value_text name from None = name ++ says.NO_VALUE.now
value_text name from (Some None) = name ++ says.NO_VALUE.now
value_text name from (Some (Some t)) = name ++ codes " is " ++ term_text t ++ from ++ codes "\n"

abbrev pub variable_text : Conjunction → Culprit → ℕ → List ℕ → List ℕ
variable_text c x v name =
    cond (mentions v x.pattern)
    (value_text name (from_text (filled_names c.vars x.values) v c x.before) (slice_get x.values v)) []

-- those of some variables, from one of a number on
abbrev pub variables_from : Conjunction → Culprit → ℕ → List (List ℕ) → List ℕ
variables_from c x v [] = []
variables_from c x v (name ∷ names) = variable_text c x v name ++ variables_from c x (v + 1) names

-- ---- all of it

-- the pattern as it is with the values, and what each of its variables is
abbrev pub pattern_line : Conjunction → Culprit → List ℕ
pattern_line c x =
    says.FILLED.now ++ node_text (written.pattern (filled_names c.vars x.values) x.pattern) ++ codes "\n"

abbrev pub culprit_text : Culprit → Option Conjunction → List ℕ
culprit_text x None = []
culprit_text x (Some c) = pattern_line c x ++ variables_from c x 0 c.vars

abbrev pub task_line : Term → List ℕ
task_line t = says.TASK_AT_FAULT.now ++ term_text t ++ codes "\n"

-- the rule at its place, by where the preconditions of rules and branches stand
abbrev pub rule_line : Texts → (ℕ → ℕ → Option Span) → Culprit → List ℕ
rule_line t place x = told_in (Some t.domain) (place x.rule x.branch) says.RULE_AT_FAULT.now

-- the task, the rule and the pattern
abbrev pub blame_line : Texts → Domain → (ℕ → ℕ → Option Span) → Blame → List ℕ
blame_line t d place b =
    task_line b.task ++ rule_line t place b.culprit
    ++ culprit_text b.culprit (asked_in d.rules b.culprit.rule b.culprit.branch)

-- nothing where it isn't known
abbrev pub blame_text : Texts → Domain → (ℕ → ℕ → Option Span) → Option Blame → List ℕ
blame_text t d place None = []
blame_text t d place (Some b) = blame_line t d place b
