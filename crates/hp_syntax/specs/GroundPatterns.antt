-- Patterns that hold no variable and no call, as a problem has them, and the terms and the network that they say.
use Rattle.std.specs.Prelude.{◌≡◌, List, map, None}
use Rattle.std.specs.List.{All}
use Rattle.hp_syntax.specs.Syntax.{Pattern, Patterns, Variable, Listing, Call, NoPattern, Before, Atom, Tasks, TaskList, NoTasks, Then, Pair}
use Rattle.hp_syntax.specs.Syntax as syntax
use Rattle.hp_syntax.specs.Terms.{Term, Terms, Symbol, Number, Listed, NoTerm, More}
use Rattle.hp_syntax.specs.Networks.{Network, Networks, Task, Ordered, Unordered, NoNetwork, And}

-- the term that a pattern says as it stands; a variable or a call, which no problem has that the checks accept, says
-- the empty list
unfoldable mutual
  pub term_said : Pattern → Term
  term_said (Variable s v) = Listed NoTerm
  term_said (syntax.Symbol s name) = Symbol name
  term_said (syntax.Number s n) = Number n
  term_said (Listing s ps tail) = Listed (terms_said ps)
  term_said (Call s name args) = Listed NoTerm

  pub terms_said : Patterns → Terms
  terms_said NoPattern = NoTerm
  terms_said (Before p ps) = More (term_said p) (terms_said ps)

abbrev pub atom_said : Atom → Term
atom_said a = Listed (More (Symbol a.name) (terms_said a.args))

abbrev pub atoms_said : List Atom → List Term
atoms_said as' = map atom_said as'

unfoldable mutual
  pub network_said : Tasks → Network
  network_said (syntax.Task a i) = Task (atom_said a) i
  network_said (syntax.Ordered ts) = Ordered (networks_said ts)
  network_said (syntax.Unordered ts) = Unordered (networks_said ts)

  pub networks_said : TaskList → Networks
  networks_said NoTasks = NoNetwork
  networks_said (Then t ts) = And (network_said t) (networks_said ts)

-- ---- what holds no variable and no call

-- no variable and no call stands in a pattern
abbrev mutual
  pub IsGroundPattern : Pattern → Type 0
  IsGroundPattern (Variable s v) = ⊥
  IsGroundPattern (syntax.Symbol s name) = Unit {0}
  IsGroundPattern (syntax.Number s n) = Unit {0}
  IsGroundPattern (Listing s ps tail) = AreGroundPatterns ps × (tail ≡ None)
  IsGroundPattern (Call s name args) = ⊥

  pub AreGroundPatterns : Patterns → Type 0
  AreGroundPatterns NoPattern = Unit {0}
  AreGroundPatterns (Before p ps) = IsGroundPattern p × AreGroundPatterns ps

-- no variable and no call stands in an atom
pub record IsGroundAtom (a : Atom) : Type 0 where
  pub args : AreGroundPatterns a.args
  pub tail : a.tail ≡ None

-- nor in tasks
abbrev mutual
  pub AreGroundTasks : Tasks → Type 0
  AreGroundTasks (syntax.Task a i) = IsGroundAtom a
  AreGroundTasks (syntax.Ordered ts) = IsGroundTaskList ts
  AreGroundTasks (syntax.Unordered ts) = IsGroundTaskList ts

  pub IsGroundTaskList : TaskList → Type 0
  IsGroundTaskList NoTasks = Unit {0}
  IsGroundTaskList (Then t ts) = AreGroundTasks t × IsGroundTaskList ts

-- nor in a pair
pub record IsGroundPair (p : Pair) : Type 0 where
  pub state : All IsGroundAtom p.state
  pub tasks : AreGroundTasks p.tasks
