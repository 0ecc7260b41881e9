-- The size of a pattern counts it and all patterns in it, and so do those of a task list and of a part of a goal.
-- Recursion goes to what is smaller.
use Rattle.std.proofs.Common.{◌≡◌, ℕ, ◌+◌, ◌<◌, List, Option, Vec, length, get_or, ap, ◌∙◌, refl, arith}
use Rattle.std.specs.Global.{Global}
use Rattle.hp_syntax.specs.declared.name.Name.{Name}
use Rattle.hp_syntax.specs.declared.pattern.Pat.{Pat}
use Rattle.hp_syntax.specs.declared.pattern.PatKind.TheVariants as kinds
use Rattle.hp_syntax.specs.declared.pattern.Tail.{Tail}
use Rattle.hp_syntax.specs.declared.tasks.NetPat.{NetPat}
use Rattle.hp_syntax.specs.declared.tasks.NetPat.TheVariants as nets
use Rattle.hp_syntax.specs.Goals as goals
use Rattle.hp_syntax.specs.Syntax.{Pattern, Patterns, Variable, Symbol, Number, Listing, Call, NoPattern, Before, Tasks, TaskList, Task, Ordered, Unordered, NoTasks, Then}
use Rattle.hp_syntax.specs.ViewLaws.{pattern_of-list, pattern_of-call, tasks_of-ordered, tasks_of-unordered}
use Rattle.hp_syntax.specs.Views.{pattern_of, patterns_of, tasks_of, task_list_of}
use Rattle.hp_syntax.specs.Terms.{Term}
use Rattle.hp_eval.specs.declared.goals.Filled.{Filled}
use Rattle.hp_eval.specs.declared.goals.Filled.TheVariants as parts_of_goals
use Rattle.hp_eval.specs.GoalViews.{filled_of, fillings_of}
use Rattle.hp_eval.proofs.GoalViewLemmas.{filled_of-list}
use Rattle.hp_syntax.proofs.ListLemmas.{element-smaller}

abbrev mutual
  pub pattern_size : Pattern → ℕ
  pattern_size (Variable s v) = 1
  pattern_size (Symbol s name) = 1
  pattern_size (Number s n) = 1
  pattern_size (Listing s parts t) = patterns_size parts + 2
  pattern_size (Call s name args) = patterns_size args + 2

  pub patterns_size : Patterns → ℕ
  patterns_size NoPattern = 0
  patterns_size (Before p ps) = pattern_size p + patterns_size ps + 1

-- each pattern of some is smaller than all of them
pub pattern-smaller : (ps : List Pat) (i : ℕ) (p : Pat) → i < length ps → p ≡ get_or ps i p
    → pattern_size (pattern_of p) < patterns_size (patterns_of ps)
pattern-smaller =
    element-smaller (λ p. pattern_size (pattern_of p)) (λ ps. patterns_size (patterns_of ps)) (λ p ps. refl)

-- a list is by two larger than its parts
pub list-size : (p : Pat) (xs : List Pat) (parts : Vec Pat Global) (tail : Option Tail)
    → p.kind ≡ kinds.List parts tail → xs ≡ parts.items
    → pattern_size (pattern_of p) ≡ patterns_size (patterns_of xs) + 2
list-size p xs parts tail is same =
    let whole : pattern_size (pattern_of p) ≡ patterns_size (patterns_of parts.items) + 2 =
    ap pattern_size (pattern_of-list p parts tail is) in
    let of_parts = ap (λ ys. patterns_size (patterns_of ys)) same in omega arith

-- a call is by two larger than its arguments
pub call-size : (p : Pat) (xs : List Pat) (name : Name) (args : Vec Pat Global)
    → p.kind ≡ kinds.Call name args → xs ≡ args.items
    → pattern_size (pattern_of p) ≡ patterns_size (patterns_of xs) + 2
call-size p xs name args is same =
    let whole : pattern_size (pattern_of p) ≡ patterns_size (patterns_of args.items) + 2 =
    ap pattern_size (pattern_of-call p name args is) in
    let of_args = ap (λ ys. patterns_size (patterns_of ys)) same in omega arith

abbrev mutual
  pub tasks_size : Tasks → ℕ
  tasks_size (Task a i) = 1
  tasks_size (Ordered ts) = task_list_size ts + 1
  tasks_size (Unordered ts) = task_list_size ts + 1

  pub task_list_size : TaskList → ℕ
  task_list_size NoTasks = 0
  task_list_size (Then t ts) = tasks_size t + task_list_size ts + 1

-- each task list among some is smaller than all of them
pub tasks-smaller : (ts : List NetPat) (i : ℕ) (t : NetPat) → i < length ts → t ≡ get_or ts i t
    → tasks_size (tasks_of t) < task_list_size (task_list_of ts)
tasks-smaller =
    element-smaller (λ t. tasks_size (tasks_of t)) (λ ts. task_list_size (task_list_of ts)) (λ t ts. refl)

-- an ordered list is by one larger than its parts
pub ordered-size : (t : NetPat) (xs : List NetPat) (parts : Vec NetPat Global) → t ≡ nets.Ordered parts
    → xs ≡ parts.items → tasks_size (tasks_of t) ≡ task_list_size (task_list_of xs) + 1
ordered-size t xs parts is same =
    let whole : tasks_size (tasks_of t) ≡ task_list_size (task_list_of parts.items) + 1 =
    ap (λ n. tasks_size (tasks_of n)) is ∙ ap tasks_size (tasks_of-ordered parts) in
    let of_parts = ap (λ ys. task_list_size (task_list_of ys)) same in omega arith

-- an unordered list is by one larger than its parts
pub unordered-size : (t : NetPat) (xs : List NetPat) (parts : Vec NetPat Global) → t ≡ nets.Unordered parts
    → xs ≡ parts.items → tasks_size (tasks_of t) ≡ task_list_size (task_list_of xs) + 1
unordered-size t xs parts is same =
    let whole : tasks_size (tasks_of t) ≡ task_list_size (task_list_of parts.items) + 1 =
    ap (λ n. tasks_size (tasks_of n)) is ∙ ap tasks_size (tasks_of-unordered parts) in
    let of_parts = ap (λ ys. task_list_size (task_list_of ys)) same in omega arith

abbrev mutual
  pub filled_size : goals.Filled → ℕ
  filled_size (goals.Known t) = 1
  filled_size (goals.Free v) = 1
  filled_size (goals.Partly fs tail) = fillings_size fs + 1

  pub fillings_size : goals.Fillings → ℕ
  fillings_size goals.NoFilling = 0
  fillings_size (goals.Then f fs) = filled_size f + fillings_size fs + 1

module _ (terms : List Term) where
  -- each part of a goal is smaller than all of them
  pub filled-smaller : (fs : List Filled) (i : ℕ) (f : Filled) → i < length fs → f ≡ get_or fs i f
      → filled_size (filled_of terms f) < fillings_size (fillings_of terms fs)
  filled-smaller =
      element-smaller (λ f. filled_size (filled_of terms f)) (λ fs. fillings_size (fillings_of terms fs))
      (λ f fs. refl)

  -- a list among the parts of a goal is by one larger than its own parts
  pub partly-size : (f : Filled) (xs : List Filled) (parts : Vec Filled Global) (tail : Option ℕ)
      → f ≡ parts_of_goals.List parts tail → xs ≡ parts.items
      → filled_size (filled_of terms f) ≡ fillings_size (fillings_of terms xs) + 1
  partly-size f xs parts tail is same =
      let whole : filled_size (filled_of terms f) ≡ fillings_size (fillings_of terms parts.items) + 1 =
      ap (λ g. filled_size (filled_of terms g)) is ∙ ap filled_size (filled_of-list terms parts tail) in
      let of_parts = ap (λ ys. fillings_size (fillings_of terms ys)) same in omega arith
