-- The plain value that each public value stands for.
use Rattle.std.specs.Prelude.{List, [], ◌∷◌, map}
use Rattle.hp_syntax.specs.declared.pattern.Span.{Span}
use Rattle.hp_syntax.specs.declared.pattern.Pat.{Pat}
use Rattle.hp_syntax.specs.declared.pattern.PatKind.TheOpen.{PatKind-F, Pat-F}
use Rattle.hp_syntax.specs.declared.pattern.PatKind.TheOpen as pats
use Rattle.hp_syntax.specs.declared.pattern.PatKind.TheFolds.{fold-Pat}
use Rattle.hp_syntax.specs.declared.pattern.AtomPat.{AtomPat}
use Rattle.hp_syntax.specs.declared.expression.Expr.{Expr}
use Rattle.hp_syntax.specs.declared.expression.ExprKind.TheOpen.{ExprKind-F, Expr-F}
use Rattle.hp_syntax.specs.declared.expression.ExprKind.TheOpen as exprs
use Rattle.hp_syntax.specs.declared.expression.ExprKind.TheFolds.{fold-Expr}
use Rattle.hp_syntax.specs.declared.expression.SortOrder.{SortOrder}
use Rattle.hp_syntax.specs.declared.expression.SortOrder.TheVariants as orders
use Rattle.hp_syntax.specs.declared.expression.SortKey.{SortKey}
use Rattle.hp_syntax.specs.declared.expression.Pre.{Pre}
use Rattle.hp_syntax.specs.declared.expression.Pre.TheVariants as pres
use Rattle.hp_syntax.specs.declared.tasks.NetPat.{NetPat}
use Rattle.hp_syntax.specs.declared.tasks.NetPat.TheOpen.{NetPat-F}
use Rattle.hp_syntax.specs.declared.tasks.NetPat.TheOpen as nets
use Rattle.hp_syntax.specs.declared.tasks.NetPat.TheFolds.{fold-NetPat}
use Rattle.hp_syntax.specs.declared.domain.Branch as public_branch
use Rattle.hp_syntax.specs.declared.domain.Clause as public_clause
use Rattle.hp_syntax.specs.declared.domain.Effect as public_effect
use Rattle.hp_syntax.specs.declared.domain.Effect.TheVariants as effects
use Rattle.hp_syntax.specs.declared.domain.Operator as public_operator
use Rattle.hp_syntax.specs.declared.domain.Method as public_method
use Rattle.hp_syntax.specs.declared.domain.Axiom as public_axiom
use Rattle.hp_syntax.specs.declared.domain.Rule as public_rule
use Rattle.hp_syntax.specs.declared.domain.Rule.TheVariants as rules
use Rattle.hp_syntax.specs.declared.domain.Domain as public_domain
use Rattle.hp_syntax.specs.declared.domain.Pair as public_pair
use Rattle.hp_syntax.specs.declared.domain.Problem as public_problem
use Rattle.hp_syntax.specs.Syntax as plain

-- lists of the plain kinds
abbrev pub as_patterns : List plain.Pattern → plain.Patterns
as_patterns [] = plain.NoPattern
as_patterns (p ∷ ps) = plain.Before p (as_patterns ps)

abbrev pub as_expressions : List plain.Expression → plain.Expressions
as_expressions [] = plain.NoExpression
as_expressions (e ∷ es) = plain.Also e (as_expressions es)

abbrev pub as_task_list : List plain.Tasks → plain.TaskList
as_task_list [] = plain.NoTasks
as_task_list (t ∷ ts) = plain.Then t (as_task_list ts)

-- ---- patterns

abbrev pub pattern_kind : PatKind-F (Span → plain.Pattern) plain.Pattern → Span → plain.Pattern
pattern_kind (pats.Var v) s = plain.Variable s v
pattern_kind (pats.Sym name) s = plain.Symbol s name
pattern_kind (pats.Num n) s = plain.Number s n
pattern_kind (pats.List parts tail) s = plain.Listing s (as_patterns parts.items) tail
pattern_kind (pats.Call name args) s = plain.Call s name (as_patterns args.items)

abbrev pub pattern_layer : Pat-F (Span → plain.Pattern) plain.Pattern → plain.Pattern
pattern_layer p = p.kind p.span

unfoldable pub pattern_of : Pat → plain.Pattern
pattern_of = fold-Pat (Span → plain.Pattern) plain.Pattern pattern_kind pattern_layer

abbrev pub patterns_of : List Pat → plain.Patterns
patterns_of ps = as_patterns (map pattern_of ps)

abbrev pub atom_of : AtomPat → plain.Atom
atom_of a = record { span = a.span; name = a.name; args = patterns_of a.args.items; tail = a.tail }

abbrev pub atoms_of : List AtomPat → List plain.Atom
atoms_of as' = map atom_of as'

-- ---- expressions

abbrev pub expression_kind : ExprKind-F (Span → plain.Expression) plain.Expression → Span → plain.Expression
expression_kind (exprs.Atom a) s = plain.Holds s (atom_of a)
expression_kind (exprs.And parts) s = plain.And s (as_expressions parts.items)
expression_kind (exprs.Or parts) s = plain.Or s (as_expressions parts.items)
expression_kind (exprs.Not part) s = plain.Not s part.value
expression_kind (exprs.Forall vars range body) s = plain.Forall s vars.items range.value body.value
expression_kind (exprs.Assign v value) s = plain.Assign s v (pattern_of value)
expression_kind (exprs.Call call) s = plain.Test s (pattern_of call)

abbrev pub expression_layer : Expr-F (Span → plain.Expression) plain.Expression → plain.Expression
expression_layer e = e.kind e.span

unfoldable pub expression_of : Expr → plain.Expression
expression_of = fold-Expr (Span → plain.Expression) plain.Expression expression_kind expression_layer

abbrev pub expressions_of : List Expr → plain.Expressions
expressions_of es = as_expressions (map expression_of es)

abbrev pub order_of : SortOrder → plain.Order
order_of orders.Up = plain.Up
order_of orders.Down = plain.Down
order_of (orders.Unknown name span) = plain.Unknown name span

abbrev pub key_of : SortKey → plain.Key
key_of k = record { span = k.span; var = k.var; order = order_of k.order }

abbrev pub precondition_of : Pre → plain.Precondition
precondition_of (pres.Plain e) = plain.Plain (expression_of e)
precondition_of (pres.First e) = plain.First (expression_of e)
precondition_of (pres.Sorted k e) = plain.Sorted (key_of k) (expression_of e)

-- ---- tasks

abbrev pub tasks_layer : NetPat-F plain.Tasks → plain.Tasks
tasks_layer (nets.Task t) = plain.Task (atom_of t.atom) t.immediate
tasks_layer (nets.Ordered parts) = plain.Ordered (as_task_list parts.items)
tasks_layer (nets.Unordered parts) = plain.Unordered (as_task_list parts.items)

unfoldable pub tasks_of : NetPat → plain.Tasks
tasks_of = fold-NetPat plain.Tasks tasks_layer

abbrev pub task_list_of : List NetPat → plain.TaskList
task_list_of ts = as_task_list (map tasks_of ts)

-- ---- rules

abbrev pub effect_of : public_effect.Effect → plain.Effect
effect_of (effects.Atom a) = plain.Change (atom_of a)
effect_of (effects.Protection a) = plain.Protection (atom_of a)
effect_of (effects.Forall vars e atoms) = plain.Each vars.items (expression_of e) (atoms_of atoms.items)

abbrev pub branch_of : public_branch.Branch → plain.Branch
branch_of b = record { name = b.name; pre = precondition_of b.pre; tasks = tasks_of b.tasks }

abbrev pub clause_of : public_clause.Clause → plain.Clause
clause_of c = record { name = c.name; body = expression_of c.body }

abbrev pub operator_of : public_operator.Operator → plain.Operator
operator_of o = record {
  span = o.span;
  vars = o.vars.items;
  head = atom_of o.head;
  pre = precondition_of o.pre;
  dels = map effect_of o.dels.items;
  adds = map effect_of o.adds.items;
  cost = pattern_of o.cost;
}

abbrev pub method_of : public_method.Method → plain.Method
method_of m = record {
  span = m.span;
  vars = m.vars.items;
  head = atom_of m.head;
  branches = map branch_of m.branches.items;
}

abbrev pub axiom_of : public_axiom.Axiom → plain.Axiom
axiom_of a = record {
  span = a.span;
  vars = a.vars.items;
  head = atom_of a.head;
  clauses = map clause_of a.clauses.items;
}

abbrev pub rule_of : public_rule.Rule → plain.Rule
rule_of (rules.Operator o) = plain.Does (operator_of o)
rule_of (rules.Method m) = plain.Refines (method_of m)
rule_of (rules.Axiom a) = plain.Concludes (axiom_of a)

-- ---- domains and problems

abbrev pub domain_of : public_domain.Domain → plain.Domain
domain_of d = record { name = d.name; rules = map rule_of d.rules.items }

abbrev pub pair_of : public_pair.Pair → plain.Pair
pair_of p = record { state = atoms_of p.state.items; tasks = tasks_of p.tasks }

abbrev pub problem_of : public_problem.Problem → plain.Problem
problem_of p = record {
  name = p.name;
  domain = p.domain;
  domain_span = p.domain_span;
  vars = p.vars.items;
  pairs = map pair_of p.pairs.items;
}
