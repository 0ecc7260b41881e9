-- The faults of a domain and a problem that have their forms, and the one that is told.
use Rattle.std.specs.Prelude.{ℕ, ◌+◌, ◌≤◌, Bool, true, false, ◌&&◌, ◌||◌, cond, nat_lt, ◌==◌, List, [], ◌∷◌, ◌++◌, length, Option, Some, None, bytes_eq}
use Rattle.std.specs.List.{flat_map}
use Rattle.hp_syntax.specs.declared.pattern.Span.{Span}
use Rattle.hp_syntax.specs.declared.pattern.Tail.{Tail}
use Rattle.hp_syntax.specs.declared.check.CheckKind.{CheckKind}
use Rattle.hp_syntax.specs.declared.check.CheckKind.TheVariants.{OtherDomain, UnknownCall, CallArity, VariableInProblem, CallInHead, TooManyVariables, ExprNested, UnknownOrder}
use Rattle.hp_syntax.specs.declared.check.CheckFault.{CheckFault}
use Rattle.hp_syntax.specs.declared.limits.TheConstants.{MOST_VARIABLES, DEEPEST_EXPRESSION}
use Rattle.hp_syntax.specs.Calls.{Arity, arity_of, takes}
use Rattle.hp_syntax.specs.Syntax as syntax

-- ---- which faults stand in each part

-- where a part stands
pub data Region : Type 0 where
  InHead : Region
  InBody : Region
  InProblem : Region

abbrev pub is_in_problem : Region → Bool
is_in_problem InHead = false
is_in_problem InBody = false
is_in_problem InProblem = true

abbrev pub found : CheckKind → Region → Span → List CheckFault
found kind place span = record { kind = kind; in_problem = is_in_problem place; span = span } ∷ []

-- a fault where a test passes
abbrev pub found_if : Bool → CheckKind → Region → Span → List CheckFault
found_if b kind place span = cond b (found kind place span) []

abbrev pub count : syntax.Patterns → ℕ
count syntax.NoPattern = 0
count (syntax.Before p ps) = 1 + count ps

-- a call is known, with as many arguments
abbrev pub arity_faults : Option Arity → ℕ → Region → Span → List CheckFault
arity_faults None n place span = found UnknownCall place span
arity_faults (Some a) n place span = cond (takes a n) [] (found CallArity place span)

-- and doesn't stand in a head
abbrev pub head_faults : Region → Span → List CheckFault
head_faults InHead span = found CallInHead InHead span
head_faults InBody span = []
head_faults InProblem span = []

-- a variable doesn't stand in a problem
abbrev pub variable_faults : Region → Span → List CheckFault
variable_faults InHead span = []
variable_faults InBody span = []
variable_faults InProblem span = found VariableInProblem InProblem span

abbrev pub tail_faults : Region → Option Tail → List CheckFault
tail_faults place None = []
tail_faults place (Some t) = variable_faults place t.span

unfoldable mutual
  pub pattern_faults : Region → syntax.Pattern → List CheckFault
  pattern_faults place (syntax.Variable s v) = variable_faults place s
  pattern_faults place (syntax.Symbol s name) = []
  pattern_faults place (syntax.Number s n) = []
  pattern_faults place (syntax.Listing s parts tail) = patterns_faults place parts ++ tail_faults place tail
  pattern_faults place (syntax.Call s name args) =
      arity_faults (arity_of name) (count args) place s ++ head_faults place s ++ patterns_faults place args

  pub patterns_faults : Region → syntax.Patterns → List CheckFault
  patterns_faults place syntax.NoPattern = []
  patterns_faults place (syntax.Before p ps) = pattern_faults place p ++ patterns_faults place ps

abbrev pub atom_faults : Region → syntax.Atom → List CheckFault
atom_faults place a = patterns_faults place a.args ++ tail_faults place a.tail

abbrev pub atoms_faults : Region → List syntax.Atom → List CheckFault
atoms_faults place atoms = flat_map (atom_faults place) atoms

-- an expression one level too deep
abbrev pub level_faults : ℕ → Span → List CheckFault
level_faults level s = found_if (level == DEEPEST_EXPRESSION + 1) ExprNested InBody s

-- the faults of an expression at a level; its parts are one level deeper
unfoldable mutual
  pub expression_faults : ℕ → syntax.Expression → List CheckFault
  expression_faults level (syntax.Holds s a) = level_faults level s ++ atom_faults InBody a
  expression_faults level (syntax.And s parts) = level_faults level s ++ expressions_faults (level + 1) parts
  expression_faults level (syntax.Or s parts) = level_faults level s ++ expressions_faults (level + 1) parts
  expression_faults level (syntax.Not s part) = level_faults level s ++ expression_faults (level + 1) part
  expression_faults level (syntax.Forall s vars range body) =
      level_faults level s ++ expression_faults (level + 1) range ++ expression_faults (level + 1) body
  expression_faults level (syntax.Assign s v value) = level_faults level s ++ pattern_faults InBody value
  expression_faults level (syntax.Test s call) = level_faults level s ++ pattern_faults InBody call

  pub expressions_faults : ℕ → syntax.Expressions → List CheckFault
  expressions_faults level syntax.NoExpression = []
  expressions_faults level (syntax.Also e es) = expression_faults level e ++ expressions_faults level es

abbrev pub order_faults : syntax.Order → List CheckFault
order_faults syntax.Up = []
order_faults syntax.Down = []
order_faults (syntax.Unknown name s) = found UnknownOrder InBody s

abbrev pub precondition_faults : syntax.Precondition → List CheckFault
precondition_faults (syntax.Plain e) = expression_faults 1 e
precondition_faults (syntax.First e) = expression_faults 1 e
precondition_faults (syntax.Sorted key e) = order_faults key.order ++ expression_faults 1 e

unfoldable mutual
  pub tasks_faults : Region → syntax.Tasks → List CheckFault
  tasks_faults place (syntax.Task a immediate) = atom_faults place a
  tasks_faults place (syntax.Ordered parts) = task_list_faults place parts
  tasks_faults place (syntax.Unordered parts) = task_list_faults place parts

  pub task_list_faults : Region → syntax.TaskList → List CheckFault
  task_list_faults place syntax.NoTasks = []
  task_list_faults place (syntax.Then t ts) = tasks_faults place t ++ task_list_faults place ts

abbrev pub effect_faults : syntax.Effect → List CheckFault
effect_faults (syntax.Change a) = atom_faults InBody a
effect_faults (syntax.Protection a) = atom_faults InBody a
effect_faults (syntax.Each vars e atoms) = expression_faults 1 e ++ atoms_faults InBody atoms

-- a rule has too many variables
abbrev pub vars_faults : List (List ℕ) → Span → List CheckFault
vars_faults vars s = found_if (nat_lt MOST_VARIABLES (length vars)) TooManyVariables InBody s

-- a rule has few variables: no more than there is room for
abbrev pub HasFewVariables : syntax.Rule → Type 0
HasFewVariables (syntax.Does o) = length o.vars ≤ MOST_VARIABLES
HasFewVariables (syntax.Refines m) = length m.vars ≤ MOST_VARIABLES
HasFewVariables (syntax.Concludes x) = length x.vars ≤ MOST_VARIABLES

abbrev pub operator_faults : syntax.Operator → List CheckFault
operator_faults o =
    vars_faults o.vars o.span ++ atom_faults InHead o.head ++ precondition_faults o.pre
    ++ flat_map effect_faults o.dels ++ flat_map effect_faults o.adds ++ pattern_faults InBody o.cost

abbrev pub branch_faults : syntax.Branch → List CheckFault
branch_faults b = precondition_faults b.pre ++ tasks_faults InBody b.tasks

abbrev pub method_faults : syntax.Method → List CheckFault
method_faults m = vars_faults m.vars m.span ++ atom_faults InHead m.head ++ flat_map branch_faults m.branches

abbrev pub clause_faults : syntax.Clause → List CheckFault
clause_faults c = expression_faults 1 c.body

abbrev pub axiom_faults : syntax.Axiom → List CheckFault
axiom_faults a = vars_faults a.vars a.span ++ atom_faults InHead a.head ++ flat_map clause_faults a.clauses

abbrev pub rule_faults : syntax.Rule → List CheckFault
rule_faults (syntax.Does o) = operator_faults o
rule_faults (syntax.Refines m) = method_faults m
rule_faults (syntax.Concludes a) = axiom_faults a

abbrev pub pair_faults : syntax.Pair → List CheckFault
pair_faults p = atoms_faults InProblem p.state ++ tasks_faults InProblem p.tasks

-- all faults of a domain
unfoldable pub domain_faults : syntax.Domain → List CheckFault
domain_faults d = flat_map rule_faults d.rules

-- and those of a problem of it
unfoldable pub problem_faults : syntax.Domain → syntax.Problem → List CheckFault
problem_faults d p =
    cond (bytes_eq p.domain d.name) [] (found OtherDomain InProblem p.domain_span) ++ flat_map pair_faults p.pairs

-- ---- which one is told

abbrev pub number_of : CheckKind → ℕ
number_of OtherDomain = 1
number_of UnknownCall = 2
number_of CallArity = 3
number_of VariableInProblem = 4
number_of CallInHead = 5
number_of TooManyVariables = 6
number_of ExprNested = 7
number_of UnknownOrder = 8

-- within one text: by where the span begins, then by number
abbrev pub stands_before : CheckFault → CheckFault → Bool
stands_before f g =
    nat_lt f.span.from g.span.from
    || (f.span.from == g.span.from && nat_lt (number_of f.kind) (number_of g.kind))

-- the domain's come before the problem's
abbrev pub comes_before : CheckFault → CheckFault → Bool
comes_before f g = cond f.in_problem (g.in_problem && stands_before f g) (g.in_problem || stands_before f g)

-- of two faults the one that comes first
abbrev pub earlier : Option CheckFault → Option CheckFault → Option CheckFault
earlier None g = g
earlier (Some f) None = Some f
earlier (Some f) (Some g) = cond (comes_before g f) (Some g) (Some f)

-- the first of all
abbrev pub first_of : List CheckFault → Option CheckFault
first_of [] = None
first_of (f ∷ fs) = earlier (Some f) (first_of fs)
