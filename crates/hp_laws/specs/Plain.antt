-- Plain parts, as those of a problem are read: they hold no call, and their terms nest no deeper than a bound.
use Rattle.std.specs.Prelude.{ℕ, ◌≤◌}
use Rattle.std.specs.List.{All}
use Rattle.hp_syntax.specs.GroundPatterns.{term_said, terms_said, atom_said}
use Rattle.hp_syntax.specs.Syntax as syntax
use Rattle.hp_syntax.specs.Terms.{term_nesting, deepest}

-- no call stands in a pattern
abbrev mutual
  pub IsCallFree : syntax.Pattern → Type 0
  IsCallFree (syntax.Variable s v) = Unit {0}
  IsCallFree (syntax.Symbol s name) = Unit {0}
  IsCallFree (syntax.Number s n) = Unit {0}
  IsCallFree (syntax.Listing s parts tail) = AreCallFree parts
  IsCallFree (syntax.Call s name args) = ⊥

  pub AreCallFree : syntax.Patterns → Type 0
  AreCallFree syntax.NoPattern = Unit {0}
  AreCallFree (syntax.Before first rest) = IsCallFree first × AreCallFree rest

-- a pattern without calls, whose term nests no deeper than this
pub record IsPlain (most : ℕ) (p : syntax.Pattern) : Type 0 where
  pub call_free : IsCallFree p
  pub shallow : term_nesting (term_said p) ≤ most

-- patterns without calls, whose terms nest no deeper than this
pub record ArePlain (most : ℕ) (ps : syntax.Patterns) : Type 0 where
  pub call_free : AreCallFree ps
  pub shallow : deepest (terms_said ps) ≤ most

-- an atom without calls, whose term nests no deeper than this
pub record IsPlainAtom (most : ℕ) (a : syntax.Atom) : Type 0 where
  pub call_free : AreCallFree a.args
  pub shallow : term_nesting (atom_said a) ≤ most

-- tasks whose atoms are all plain
abbrev mutual
  pub ArePlainTasks : ℕ → syntax.Tasks → Type 0
  ArePlainTasks most (syntax.Task a immediate) = IsPlainAtom most a
  ArePlainTasks most (syntax.Ordered parts) = IsPlainTaskList most parts
  ArePlainTasks most (syntax.Unordered parts) = IsPlainTaskList most parts

  pub IsPlainTaskList : ℕ → syntax.TaskList → Type 0
  IsPlainTaskList most syntax.NoTasks = Unit {0}
  IsPlainTaskList most (syntax.Then first rest) = ArePlainTasks most first × IsPlainTaskList most rest

-- a pair whose atoms and tasks are all plain
pub record IsPlainPair (most : ℕ) (p : syntax.Pair) : Type 0 where
  pub state : All (IsPlainAtom most) p.state
  pub tasks : ArePlainTasks most p.tasks
