-- Values and nodes without their places: all spans of what stands nowhere. Two values are equal up to spans where
-- these are equal.
use Rattle.std.specs.Prelude.{map, Option, option_map}
use Rattle.hp_syntax.specs.declared.pattern.Tail.{Tail}
use Rattle.hp_syntax.specs.Forest.{Node, Word, Numeral, Group, Forest, Bare, Grow}
use Rattle.hp_syntax.specs.Syntax as syntax
use Rattle.hp_syntax.specs.Written.{nowhere}

-- ---- nodes

unfoldable mutual
  pub node : Node → Node
  node (Word s text) = Word nowhere text
  node (Numeral s n) = Numeral nowhere n
  node (Group s parts) = Group nowhere (forest parts)

  pub forest : Forest → Forest
  forest Bare = Bare
  forest (Grow n f) = Grow (node n) (forest f)

-- ---- terms and atoms

abbrev pub tail : Option Tail → Option Tail
tail t = option_map (λ x. record { span = nowhere; var = x.var }) t

unfoldable mutual
  pub pattern : syntax.Pattern → syntax.Pattern
  pattern (syntax.Variable s v) = syntax.Variable nowhere v
  pattern (syntax.Symbol s text) = syntax.Symbol nowhere text
  pattern (syntax.Number s n) = syntax.Number nowhere n
  pattern (syntax.Listing s parts t) = syntax.Listing nowhere (patterns parts) (tail t)
  pattern (syntax.Call s text args) = syntax.Call nowhere text (patterns args)

  pub patterns : syntax.Patterns → syntax.Patterns
  patterns syntax.NoPattern = syntax.NoPattern
  patterns (syntax.Before p ps) = syntax.Before (pattern p) (patterns ps)

abbrev pub atom : syntax.Atom → syntax.Atom
atom a = record { span = nowhere; name = a.name; args = patterns a.args; tail = tail a.tail }

-- ---- expressions and preconditions

unfoldable mutual
  pub expression : syntax.Expression → syntax.Expression
  expression (syntax.Holds s a) = syntax.Holds nowhere (atom a)
  expression (syntax.And s parts) = syntax.And nowhere (expressions parts)
  expression (syntax.Or s parts) = syntax.Or nowhere (expressions parts)
  expression (syntax.Not s part) = syntax.Not nowhere (expression part)
  expression (syntax.Forall s vars range body) = syntax.Forall nowhere vars (expression range) (expression body)
  expression (syntax.Assign s v value) = syntax.Assign nowhere v (pattern value)
  expression (syntax.Test s call) = syntax.Test nowhere (pattern call)

  pub expressions : syntax.Expressions → syntax.Expressions
  expressions syntax.NoExpression = syntax.NoExpression
  expressions (syntax.Also e es) = syntax.Also (expression e) (expressions es)

abbrev pub order : syntax.Order → syntax.Order
order syntax.Up = syntax.Up
order syntax.Down = syntax.Down
order (syntax.Unknown text s) = syntax.Unknown text nowhere

abbrev pub key : syntax.Key → syntax.Key
key k = record { span = nowhere; var = k.var; order = order k.order }

unfoldable pub precondition : syntax.Precondition → syntax.Precondition
precondition (syntax.Plain e) = syntax.Plain (expression e)
precondition (syntax.First e) = syntax.First (expression e)
precondition (syntax.Sorted k e) = syntax.Sorted (key k) (expression e)

-- ---- tasks

unfoldable mutual
  pub tasks : syntax.Tasks → syntax.Tasks
  tasks (syntax.Task a immediate) = syntax.Task (atom a) immediate
  tasks (syntax.Ordered parts) = syntax.Ordered (task_list parts)
  tasks (syntax.Unordered parts) = syntax.Unordered (task_list parts)

  pub task_list : syntax.TaskList → syntax.TaskList
  task_list syntax.NoTasks = syntax.NoTasks
  task_list (syntax.Then t ts) = syntax.Then (tasks t) (task_list ts)

-- ---- effects and rules

unfoldable pub effect : syntax.Effect → syntax.Effect
effect (syntax.Change a) = syntax.Change (atom a)
effect (syntax.Protection a) = syntax.Protection (atom a)
effect (syntax.Each vars e changed) = syntax.Each vars (expression e) (map atom changed)

abbrev pub operator : syntax.Operator → syntax.Operator
operator o = record {
  span = nowhere;
  vars = o.vars;
  head = atom o.head;
  pre = precondition o.pre;
  dels = map effect o.dels;
  adds = map effect o.adds;
  cost = pattern o.cost;
}

abbrev pub branch : syntax.Branch → syntax.Branch
branch b = record { name = b.name; pre = precondition b.pre; tasks = tasks b.tasks }

abbrev pub method : syntax.Method → syntax.Method
method m = record { span = nowhere; vars = m.vars; head = atom m.head; branches = map branch m.branches }

abbrev pub clause : syntax.Clause → syntax.Clause
clause c = record { name = c.name; body = expression c.body }

abbrev pub axiom_rule : syntax.Axiom → syntax.Axiom
axiom_rule a = record { span = nowhere; vars = a.vars; head = atom a.head; clauses = map clause a.clauses }

unfoldable pub rule : syntax.Rule → syntax.Rule
rule (syntax.Does o) = syntax.Does (operator o)
rule (syntax.Refines m) = syntax.Refines (method m)
rule (syntax.Concludes a) = syntax.Concludes (axiom_rule a)

-- ---- files

abbrev pub domain : syntax.Domain → syntax.Domain
domain d = record { name = d.name; rules = map rule d.rules }

abbrev pub pair : syntax.Pair → syntax.Pair
pair p = record { state = map atom p.state; tasks = tasks p.tasks }

abbrev pub problem : syntax.Problem → syntax.Problem
problem p = record {
  name = p.name;
  domain = p.domain;
  domain_span = nowhere;
  vars = p.vars;
  pairs = map pair p.pairs;
}
