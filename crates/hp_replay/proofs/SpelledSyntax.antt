-- Terms, rules and problems whose symbols are read as such and whose numbers fit, where they may come into a term of a
-- run; where it is asked, without the symbol `call`.
use Rattle.std.proofs.Common.{◌≡◌, ℕ, ◌≤◌, Bool, true, false, ◌&&◌, List, bytes_eq, codes}
use Rattle.std.specs.List.{All}
use Rattle.hp_syntax.specs.declared.limits.TheConstants.{DEEPEST_NESTING}
use Rattle.hp_syntax.specs.Calls.{fits}
use Rattle.hp_syntax.specs.Names.{is_plain}
use Rattle.hp_syntax.specs.Syntax as syntax
use Rattle.hp_syntax.specs.Terms.{Term, Terms, Symbol, Number, Listed, NoTerm, More, term_nesting}
use Rattle.hp_replay.specs.Writable.{IsSymbol, is_named}

module _ (free : Bool) where
  -- a name of a symbol that is read as such, and that isn't `call` where no symbol may be
  pub record IsWord (name : List ℕ) : Type 0 where
    pub symbol : IsSymbol name
    pub other : free && bytes_eq name (codes "call") ≡ false

  -- each symbol of a term is such a one, and each number fits
  abbrev mutual
    pub IsSpelledTerm : Term → Type 0
    IsSpelledTerm (Symbol name) = IsWord name
    IsSpelledTerm (Number n) = fits n ≡ true
    IsSpelledTerm (Listed ts) = IsSpelledList ts

    -- the same of each of these terms
    pub IsSpelledList : Terms → Type 0
    IsSpelledList NoTerm = Unit {0}
    IsSpelledList (More t ts) = IsSpelledTerm t × IsSpelledList ts

  -- a step by its name, its symbols and numbers, and its nesting
  pub record IsSpelledStep (t : Term) : Type 0 where
    pub named : is_named t ≡ true
    pub spelled : IsSpelledTerm t
    pub shallow : term_nesting t ≤ DEEPEST_NESTING

  -- each symbol of a pattern is read as such, and each number fits
  abbrev mutual
    pub IsSpelledPattern : syntax.Pattern → Type 0
    IsSpelledPattern (syntax.Variable s v) = Unit {0}
    IsSpelledPattern (syntax.Symbol s name) = IsWord name
    IsSpelledPattern (syntax.Number s n) = fits n ≡ true
    IsSpelledPattern (syntax.Listing s ps tail) = AreSpelledPatterns ps
    IsSpelledPattern (syntax.Call s name args) = AreSpelledPatterns args

    -- the same of each of these patterns
    pub AreSpelledPatterns : syntax.Patterns → Type 0
    AreSpelledPatterns syntax.NoPattern = Unit {0}
    AreSpelledPatterns (syntax.Before p ps) = IsSpelledPattern p × AreSpelledPatterns ps

  -- an atom with a plain name
  pub record IsSpelledAtom (a : syntax.Atom) : Type 0 where
    pub word : IsWord a.name
    pub plain : is_plain a.name ≡ true
    pub args : AreSpelledPatterns a.args

  -- an expression, but for its parts that bind nothing
  abbrev mutual
    pub IsSpelledExpression : syntax.Expression → Type 0
    IsSpelledExpression (syntax.Holds s a) = IsSpelledAtom a
    IsSpelledExpression (syntax.And s ps) = AreSpelledExpressions ps
    IsSpelledExpression (syntax.Or s ps) = AreSpelledExpressions ps
    IsSpelledExpression (syntax.Not s p) = Unit {0}
    IsSpelledExpression (syntax.Forall s vs y z) = Unit {0}
    IsSpelledExpression (syntax.Assign s v p) = IsSpelledPattern p
    IsSpelledExpression (syntax.Test s p) = Unit {0}

    -- the same of each of these expressions
    pub AreSpelledExpressions : syntax.Expressions → Type 0
    AreSpelledExpressions syntax.NoExpression = Unit {0}
    AreSpelledExpressions (syntax.Also p ps) = IsSpelledExpression p × AreSpelledExpressions ps

  -- a precondition by its expression
  abbrev pub IsSpelledPrecondition : syntax.Precondition → Type 0
  IsSpelledPrecondition (syntax.Plain e) = IsSpelledExpression e
  IsSpelledPrecondition (syntax.First e) = IsSpelledExpression e
  IsSpelledPrecondition (syntax.Sorted key e) = IsSpelledExpression e

  -- each task has a plain name and terms that are spelled
  abbrev mutual
    pub AreSpelledTasks : syntax.Tasks → Type 0
    AreSpelledTasks (syntax.Task a immediate) = IsSpelledAtom a
    AreSpelledTasks (syntax.Ordered ts) = IsSpelledTaskList ts
    AreSpelledTasks (syntax.Unordered ts) = IsSpelledTaskList ts

    -- the same of each task in a list
    pub IsSpelledTaskList : syntax.TaskList → Type 0
    IsSpelledTaskList syntax.NoTasks = Unit {0}
    IsSpelledTaskList (syntax.Then t ts) = AreSpelledTasks t × IsSpelledTaskList ts

  -- an effect, in the atoms that it adds and in what it binds
  abbrev pub IsSpelledEffect : syntax.Effect → Type 0
  IsSpelledEffect (syntax.Change a) = IsSpelledAtom a
  IsSpelledEffect (syntax.Protection a) = Unit {0}
  IsSpelledEffect (syntax.Each vs e as') = IsSpelledExpression e × All IsSpelledAtom as'

  -- an operator, in what it binds and adds
  pub record IsSpelledOperator (o : syntax.Operator) : Type 0 where
    pub pre : IsSpelledPrecondition o.pre
    pub adds : All IsSpelledEffect o.adds

  -- a branch of a method, in what it binds and in its tasks
  pub record IsSpelledBranch (b : syntax.Branch) : Type 0 where
    pub pre : IsSpelledPrecondition b.pre
    pub tasks : AreSpelledTasks b.tasks

  -- a branch of an axiom, in what it binds
  abbrev pub IsSpelledClause : syntax.Clause → Type 0
  IsSpelledClause c = IsSpelledExpression c.body

  -- an axiom, in its head and in what it binds
  pub record IsSpelledAxiom (x : syntax.Axiom) : Type 0 where
    pub head : IsSpelledAtom x.head
    pub clauses : All IsSpelledClause x.clauses

  -- a rule, in what it binds, adds, concludes and asks to do
  abbrev pub IsSpelledRule : syntax.Rule → Type 0
  IsSpelledRule (syntax.Does o) = IsSpelledOperator o
  IsSpelledRule (syntax.Refines m) = All IsSpelledBranch m.branches
  IsSpelledRule (syntax.Concludes x) = IsSpelledAxiom x

  -- a pair, in its atoms and its tasks
  pub record IsSpelledPair (p : syntax.Pair) : Type 0 where
    pub state : All IsSpelledAtom p.state
    pub tasks : AreSpelledTasks p.tasks
