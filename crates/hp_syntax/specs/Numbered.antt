-- Numbered forms: every variable number in a form is below a count, the count of the variables of its rule or problem.
use Rattle.std.specs.Prelude.{ℕ, ◌<◌, List, length, Option, Some, None}
use Rattle.std.specs.List.{All}
use Rattle.hp_syntax.specs.declared.pattern.Tail.{Tail}
use Rattle.hp_syntax.specs.Syntax as syntax

abbrev pub TailBelow : ℕ → Option Tail → Type 0
TailBelow count None = Unit {0}
TailBelow count (Some tail) = tail.var < count

abbrev mutual
  pub PatternBelow : ℕ → syntax.Pattern → Type 0
  PatternBelow count (syntax.Variable s v) = v < count
  PatternBelow count (syntax.Symbol s name) = Unit {0}
  PatternBelow count (syntax.Number s n) = Unit {0}
  PatternBelow count (syntax.Listing s parts tail) = PatternsBelow count parts × TailBelow count tail
  PatternBelow count (syntax.Call s name args) = PatternsBelow count args

  pub PatternsBelow : ℕ → syntax.Patterns → Type 0
  PatternsBelow count syntax.NoPattern = Unit {0}
  PatternsBelow count (syntax.Before first rest) = PatternBelow count first × PatternsBelow count rest

abbrev pub AtomBelow : ℕ → syntax.Atom → Type 0
AtomBelow count atom = PatternsBelow count atom.args × TailBelow count atom.tail

abbrev pub AllBelow : ℕ → List ℕ → Type 0
AllBelow count vars = All (λ v. v < count) vars

abbrev mutual
  pub ExpressionBelow : ℕ → syntax.Expression → Type 0
  ExpressionBelow count (syntax.Holds s atom) = AtomBelow count atom
  ExpressionBelow count (syntax.And s parts) = ExpressionsBelow count parts
  ExpressionBelow count (syntax.Or s parts) = ExpressionsBelow count parts
  ExpressionBelow count (syntax.Not s part) = ExpressionBelow count part
  ExpressionBelow count (syntax.Forall s vars range body) =
      AllBelow count vars × ExpressionBelow count range × ExpressionBelow count body
  ExpressionBelow count (syntax.Assign s v value) = (v < count) × PatternBelow count value
  ExpressionBelow count (syntax.Test s call) = PatternBelow count call

  pub ExpressionsBelow : ℕ → syntax.Expressions → Type 0
  ExpressionsBelow count syntax.NoExpression = Unit {0}
  ExpressionsBelow count (syntax.Also first rest) = ExpressionBelow count first × ExpressionsBelow count rest

abbrev pub KeyBelow : ℕ → syntax.Key → Type 0
KeyBelow count key = key.var < count

abbrev pub PreconditionBelow : ℕ → syntax.Precondition → Type 0
PreconditionBelow count (syntax.Plain e) = ExpressionBelow count e
PreconditionBelow count (syntax.First e) = ExpressionBelow count e
PreconditionBelow count (syntax.Sorted key e) = KeyBelow count key × ExpressionBelow count e

abbrev mutual
  pub TasksBelow : ℕ → syntax.Tasks → Type 0
  TasksBelow count (syntax.Task atom immediate) = AtomBelow count atom
  TasksBelow count (syntax.Ordered parts) = TaskListBelow count parts
  TasksBelow count (syntax.Unordered parts) = TaskListBelow count parts

  pub TaskListBelow : ℕ → syntax.TaskList → Type 0
  TaskListBelow count syntax.NoTasks = Unit {0}
  TaskListBelow count (syntax.Then first rest) = TasksBelow count first × TaskListBelow count rest

abbrev pub EffectBelow : ℕ → syntax.Effect → Type 0
EffectBelow count (syntax.Change atom) = AtomBelow count atom
EffectBelow count (syntax.Protection atom) = AtomBelow count atom
EffectBelow count (syntax.Each vars e atoms) =
    AllBelow count vars × ExpressionBelow count e × All (AtomBelow count) atoms

pub record IsNumberedOperator (o : syntax.Operator) : Type 0 where
  pub head : AtomBelow (length o.vars) o.head
  pub pre : PreconditionBelow (length o.vars) o.pre
  pub dels : All (EffectBelow (length o.vars)) o.dels
  pub adds : All (EffectBelow (length o.vars)) o.adds
  pub cost : PatternBelow (length o.vars) o.cost

abbrev pub BranchBelow : ℕ → syntax.Branch → Type 0
BranchBelow count branch = PreconditionBelow count branch.pre × TasksBelow count branch.tasks

pub record IsNumberedMethod (m : syntax.Method) : Type 0 where
  pub head : AtomBelow (length m.vars) m.head
  pub branches : All (BranchBelow (length m.vars)) m.branches

abbrev pub ClauseBelow : ℕ → syntax.Clause → Type 0
ClauseBelow count clause = ExpressionBelow count clause.body

pub record IsNumberedAxiom (a : syntax.Axiom) : Type 0 where
  pub head : AtomBelow (length a.vars) a.head
  pub clauses : All (ClauseBelow (length a.vars)) a.clauses

abbrev pub IsNumberedRule : syntax.Rule → Type 0
IsNumberedRule (syntax.Does o) = IsNumberedOperator o
IsNumberedRule (syntax.Refines m) = IsNumberedMethod m
IsNumberedRule (syntax.Concludes a) = IsNumberedAxiom a

abbrev pub IsNumberedDomain : syntax.Domain → Type 0
IsNumberedDomain domain = All IsNumberedRule domain.rules

abbrev pub PairBelow : ℕ → syntax.Pair → Type 0
PairBelow count pair = All (AtomBelow count) pair.state × TasksBelow count pair.tasks

abbrev pub IsNumberedProblem : syntax.Problem → Type 0
IsNumberedProblem problem = All (PairBelow (length problem.vars)) problem.pairs
