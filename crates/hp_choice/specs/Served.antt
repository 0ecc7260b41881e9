-- The rule and the branch by which a choice serves its task.
use Rattle.std.specs.Prelude.{◌≡◌, ℕ, List, length, Some}
use Rattle.hp_syntax.specs.Events.{State}
use Rattle.hp_syntax.specs.Matching.{match_atom}
use Rattle.hp_syntax.specs.Syntax.{Method, Rule, Does, Refines, Concludes}
use Rattle.hp_syntax.specs.Terms.{Term}
use Rattle.hp_syntax.specs.Values.{Bindings, unbound}
use Rattle.hp_method.specs.Branches.{IsChosenAt}
use Rattle.hp_choice.specs.declared.choice.Choice.{Choice}

-- the head of a method matches a task, and of its branches the one of this number is chosen in a state
pub record IsBranchFor (rules : List Rule) (nest : ℕ) (st : State) (t : Term) (m : Method) (branch : ℕ) : Type 0 where
  pub matched : Bindings
  pub head : match_atom m.head t (unbound (length m.vars)) ≡ Some matched
  pub chosen : IsChosenAt rules nest st matched m.branches branch

-- a rule serves a task in a state by its branch of this number; an operator, which has none, by 0
abbrev pub ServesBy : List Rule → ℕ → State → Term → Rule → ℕ → Type 0
ServesBy rules nest st t (Does o) branch = branch ≡ 0
ServesBy rules nest st t (Refines m) branch = IsBranchFor rules nest st t m branch
ServesBy rules nest st t (Concludes x) branch = ⊥

-- a choice is still that of the same task, by the same rule and branch
pub record ServesStill (old new : Choice) : Type 0 where
  pub task : new.task ≡ old.task
  pub rule : new.rule ≡ old.rule
  pub branch : new.branch ≡ old.branch
