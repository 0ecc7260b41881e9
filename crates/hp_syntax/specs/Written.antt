-- How values are written: as nodes that stand nowhere yet, and the text of nodes. A variable is written by its name.
use Rattle.std.specs.Prelude.{ℕ, true, false, List, [], ◌∷◌, ◌++◌, Option, Some, None, codes, slice_index_or}
use Rattle.hp_syntax.specs.TermTexts.{num_text}
use Rattle.hp_syntax.specs.declared.pattern.Span.{Span}
use Rattle.hp_syntax.specs.declared.pattern.Tail.{Tail}
use Rattle.hp_syntax.specs.Forest.{Node, Word, Numeral, Group, Forest, Bare, Grow}
use Rattle.hp_syntax.specs.Steps.{Names}
use Rattle.hp_syntax.specs.Syntax as syntax

-- the span of what stands nowhere
abbrev pub nowhere : Span
nowhere = record { from = 0; to = 0 }

abbrev pub word : List ℕ → Node
word text = Word nowhere text

abbrev pub group : Forest → Node
group parts = Group nowhere parts

-- a list that begins with a word
abbrev pub worded : List ℕ → Forest → Node
worded text rest = group (Grow (word text) rest)

abbrev pub one : Node → Forest
one n = Grow n Bare

abbrev pub two : Node → Node → Forest
two m n = Grow m (one n)

-- a forest, and then another
abbrev pub joined : Forest → Forest → Forest
joined Bare g = g
joined (Grow n f) g = Grow n (joined f g)

-- ---- terms and atoms

abbrev pub name_of : Names → ℕ → List ℕ
name_of names v = slice_index_or names v []

abbrev pub variable : Names → ℕ → Node
variable names v = word (name_of names v)

-- a dot and a variable, where there is a tail
abbrev pub tail : Names → Option Tail → Forest
tail names None = Bare
tail names (Some t) = two (word (codes ".")) (variable names t.var)

unfoldable mutual
  pub pattern : Names → syntax.Pattern → Node
  pattern names (syntax.Variable s v) = variable names v
  pattern names (syntax.Symbol s text) = word text
  pattern names (syntax.Number s n) = Numeral nowhere n
  pattern names (syntax.Listing s parts t) = group (items names parts t)
  pattern names (syntax.Call s text args) = worded (codes "call") (Grow (word text) (items names args None))

  -- parts, and a tail where there is one
  pub items : Names → syntax.Patterns → Option Tail → Forest
  items names syntax.NoPattern t = tail names t
  items names (syntax.Before p ps) t = Grow (pattern names p) (items names ps t)

abbrev pub atom : Names → syntax.Atom → Node
atom names a = worded a.name (items names a.args a.tail)

abbrev pub atoms : Names → List syntax.Atom → Forest
atoms names [] = Bare
atoms names (a ∷ as') = Grow (atom names a) (atoms names as')

abbrev pub variables : Names → List ℕ → Forest
variables names [] = Bare
variables names (v ∷ vs) = Grow (variable names v) (variables names vs)

-- ---- expressions and preconditions

abbrev pub assigned : Names → ℕ → syntax.Pattern → Node
assigned names v value = worded (codes "assign") (two (variable names v) (pattern names value))

unfoldable mutual
  pub expression : Names → syntax.Expression → Node
  expression names (syntax.Holds s a) = atom names a
  expression names (syntax.And s parts) = conjunction names parts
  expression names (syntax.Or s parts) = worded (codes "or") (expressions names parts)
  expression names (syntax.Not s part) = worded (codes "not") (one (expression names part))
  expression names (syntax.Forall s vars range body) =
      worded (codes "forall")
      (Grow (group (variables names vars)) (two (expression names range) (expression names body)))
  expression names (syntax.Assign s v value) = assigned names v value
  expression names (syntax.Test s call) = pattern names call

  -- that of nothing is the empty list
  pub conjunction : Names → syntax.Expressions → Node
  conjunction names syntax.NoExpression = group Bare
  conjunction names (syntax.Also e es) = worded (codes "and") (Grow (expression names e) (expressions names es))

  pub expressions : Names → syntax.Expressions → Forest
  expressions names syntax.NoExpression = Bare
  expressions names (syntax.Also e es) = Grow (expression names e) (expressions names es)

abbrev pub order_word : syntax.Order → List ℕ
order_word syntax.Up = codes "<"
order_word syntax.Down = codes ">"
order_word (syntax.Unknown text s) = text

unfoldable pub precondition : Names → syntax.Precondition → Node
precondition names (syntax.Plain e) = expression names e
precondition names (syntax.First e) = worded (codes ":first") (one (expression names e))
precondition names (syntax.Sorted key e) =
    worded (codes ":sort-by") (Grow (variable names key.var) (two (word (order_word key.order)) (expression names e)))

-- ---- tasks

abbrev pub immediate : Names → syntax.Atom → Node
immediate names a = worded (codes ":immediate") (Grow (word a.name) (items names a.args a.tail))

unfoldable mutual
  pub tasks : Names → syntax.Tasks → Node
  tasks names (syntax.Task a true) = immediate names a
  tasks names (syntax.Task a false) = atom names a
  tasks names (syntax.Ordered parts) = worded (codes ":ordered") (task_list names parts)
  tasks names (syntax.Unordered parts) = worded (codes ":unordered") (task_list names parts)

  pub task_list : Names → syntax.TaskList → Forest
  task_list names syntax.NoTasks = Bare
  task_list names (syntax.Then t ts) = Grow (tasks names t) (task_list names ts)

-- ---- effects

unfoldable pub effect : Names → syntax.Effect → Node
effect names (syntax.Change a) = atom names a
effect names (syntax.Protection a) = worded (codes ":protection") (one (atom names a))
effect names (syntax.Each vars e changed) =
    worded (codes "forall")
    (Grow (group (variables names vars)) (two (expression names e) (group (atoms names changed))))

abbrev pub effects : Names → List syntax.Effect → Forest
effects names [] = Bare
effects names (e ∷ es) = Grow (effect names e) (effects names es)

-- ---- rules

-- the cost is written always
unfoldable pub operator : syntax.Operator → Node
operator o =
    worded (codes ":operator")
    (Grow (atom o.vars o.head) (Grow (precondition o.vars o.pre)
    (Grow (group (effects o.vars o.dels)) (two (group (effects o.vars o.adds)) (pattern o.vars o.cost)))))

-- the name of a branch, where it has one
abbrev pub branch_name : Option (List ℕ) → Forest
branch_name None = Bare
branch_name (Some text) = one (word text)

abbrev pub branch : Names → syntax.Branch → Forest
branch names b = joined (branch_name b.name) (two (precondition names b.pre) (tasks names b.tasks))

unfoldable pub branches : Names → List syntax.Branch → Forest
branches names [] = Bare
branches names (b ∷ bs) = joined (branch names b) (branches names bs)

abbrev pub clause : Names → syntax.Clause → Forest
clause names c = joined (branch_name c.name) (one (expression names c.body))

unfoldable pub clauses : Names → List syntax.Clause → Forest
clauses names [] = Bare
clauses names (c ∷ cs) = joined (clause names c) (clauses names cs)

unfoldable pub method : syntax.Method → Node
method m = worded (codes ":method") (Grow (atom m.vars m.head) (branches m.vars m.branches))

unfoldable pub axiom_rule : syntax.Axiom → Node
axiom_rule a = worded (codes ":-") (Grow (atom a.vars a.head) (clauses a.vars a.clauses))

unfoldable pub rule : syntax.Rule → Node
rule (syntax.Does o) = operator o
rule (syntax.Refines m) = method m
rule (syntax.Concludes a) = axiom_rule a

abbrev pub rules : List syntax.Rule → Forest
rules [] = Bare
rules (r ∷ rs) = Grow (rule r) (rules rs)

-- ---- files

unfoldable pub domain : syntax.Domain → Node
domain d = worded (codes "defdomain") (two (word d.name) (group (rules d.rules)))

-- the atoms and the tasks of a pair
abbrev pub pair : Names → syntax.Pair → Forest
pair names p = two (group (atoms names p.state)) (tasks names p.tasks)

abbrev pub pairs : Names → List syntax.Pair → Forest
pairs names [] = Bare
pairs names (p ∷ ps) = joined (pair names p) (pairs names ps)

unfoldable pub problem : syntax.Problem → Node
problem p = worded (codes "defproblem") (Grow (word p.name) (Grow (word p.domain) (pairs p.vars p.pairs)))

-- ---- texts

-- one space stands between the parts of a list
unfoldable mutual
  pub node_text : Node → List ℕ
  node_text (Word s text) = text
  node_text (Numeral s n) = num_text n
  node_text (Group s Bare) = codes "()"
  node_text (Group s (Grow n f)) = codes "(" ++ node_text n ++ rest_text f ++ codes ")"

  pub rest_text : Forest → List ℕ
  rest_text Bare = []
  rest_text (Grow n f) = codes " " ++ node_text n ++ rest_text f

-- a line for each node
abbrev pub lines : Forest → List ℕ
lines Bare = []
lines (Grow n f) = node_text n ++ codes "\n" ++ lines f

-- the text of a domain has a line for each rule
unfoldable pub domain_text : syntax.Domain → List ℕ
domain_text d = codes "(defdomain " ++ d.name ++ codes " (\n" ++ lines (rules d.rules) ++ codes "))\n"

-- the text of a problem has a line for the atoms and one for the tasks of each pair
unfoldable pub problem_text : syntax.Problem → List ℕ
problem_text p =
    codes "(defproblem " ++ p.name ++ codes " " ++ p.domain ++ codes "\n" ++ lines (pairs p.vars p.pairs) ++ codes ")\n"
