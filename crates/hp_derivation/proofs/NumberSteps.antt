-- Task lists with numbers in place of their tasks, part by part.
use Rattle.std.proofs.Common.{◌≡◌, ℕ, ◌+◌, ◌<◌, ◌≤◌, List, [], ◌∷◌, ◌++◌, length, drop, get_or, pos, unsigned_abs, Option, Some, None, Vec, ap, sym, ◌∙◌}
use Rattle.std.specs.Global.{Global}
use Rattle.std.proofs.lemmas.List.{drop_all}
use Rattle.std.proofs.lemmas.Option.{slice_get_past}
use Rattle.hp_cells.specs.declared.keys.View.{View}
use Rattle.hp_cells.specs.declared.keys.View.TheVariants.{Nil, Sym, Num, Cons}
use Rattle.hp_cells.specs.Shows.{Shows}
use Rattle.hp_syntax.specs.declared.tasks.NetPat.{NetPat}
use Rattle.hp_syntax.specs.declared.tasks.NetPat.TheVariants as nets
use Rattle.hp_syntax.specs.declared.tasks.TaskPat.{TaskPat}
use Rattle.hp_syntax.specs.Networks.{Network, Networks, Task, Ordered, Unordered, And}
use Rattle.hp_syntax.specs.Syntax.{Then}
use Rattle.hp_syntax.specs.Terms.{Term, Number}
use Rattle.hp_syntax.specs.ViewLaws.{tasks_of-task, tasks_of-ordered, tasks_of-unordered}
use Rattle.hp_syntax.specs.Views.{tasks_of, task_list_of}
use Rattle.hp_eval.specs.GoalViews.{as_networks, term_at, term_or_nil}
use Rattle.hp_eval.specs.Steps.{in_front}
use Rattle.hp_eval.proofs.Loops.{left_more, in_front_push}
use Rattle.hp_eval.proofs.TaskSteps.{networks_in_front}
use Rattle.hp_derivation.specs.Numbering.{task_count, list_count, number_of, numbered, list_numbered}

-- ---- lists

module _ (ts : List NetPat) (i : ℕ) (t : NetPat) (lt : i < length ts) (is : t ≡ get_or ts i t) where
  tasks_left : task_list_of (drop i ts) ≡ Then (tasks_of t) (task_list_of (drop (i + 1) ts))
  tasks_left = ap task_list_of (left_more ts i t lt is)

  -- what is left has as many tasks as its first part and the others
  pub count_more : list_count (task_list_of (drop i ts))
      ≡ task_count (tasks_of t) + list_count (task_list_of (drop (i + 1) ts))
  unfolding task_count list_count
  count_more = ap list_count tasks_left

  -- the network of the next part, behind those that are there, leaves that of all
  pub numbered_more : (n m : ℕ) → m ≡ n + task_count (tasks_of t) → (old new : List Network) (whole : Networks)
      → whole ≡ in_front And old (list_numbered n (task_list_of (drop i ts)))
      → new ≡ old ++ numbered n (tasks_of t) ∷ []
      → whole ≡ in_front And new (list_numbered m (task_list_of (drop (i + 1) ts)))
  unfolding numbered list_numbered
  numbered_more n m e old new whole so_far grown =
      let others = task_list_of (drop (i + 1) ts) in
      so_far
      ∙ (ap (λ q. in_front And old (list_numbered n q)) tasks_left
      ∙ (ap (λ j. in_front And old (And (numbered n (tasks_of t)) (list_numbered j others))) (sym e)
      ∙ (sym (in_front_push And old (numbered n (tasks_of t)) (list_numbered m others))
      ∙ ap (λ ns. in_front And ns (list_numbered m others)) (sym grown))))

-- where no part is left, the networks that are there are that of all
pub numbered_all : (ts : List NetPat) (i n : ℕ) (old : List Network) (whole : Networks) → length ts ≤ i
    → whole ≡ in_front And old (list_numbered n (task_list_of (drop i ts))) → as_networks old ≡ whole
unfolding numbered list_numbered
numbered_all ts i n old whole le so_far =
    sym
    (so_far
    ∙ (ap (λ ns. in_front And old (list_numbered n (task_list_of ns))) (drop_all i ts le) ∙ networks_in_front old))

-- where no part is left, no task is
pub count_all : (ts : List NetPat) (i : ℕ) → length ts ≤ i → list_count (task_list_of (drop i ts)) ≡ 0
unfolding task_count list_count
count_all ts i le = ap (λ us. list_count (task_list_of us)) (drop_all i ts le)

-- ---- tasks

module _ (tasks : NetPat) (n : ℕ) where
  -- a task is the number
  pub numbered-task : (t : TaskPat) → tasks ≡ nets.Task t
      → numbered n (tasks_of tasks) ≡ Task (Number (pos n)) t.immediate
  unfolding numbered list_numbered
  numbered-task t h = ap (numbered n) (ap tasks_of h ∙ tasks_of-task t)

  pub count-task : (t : TaskPat) → tasks ≡ nets.Task t → task_count (tasks_of tasks) ≡ 1
  unfolding task_count list_count
  count-task t h = ap task_count (ap tasks_of h ∙ tasks_of-task t)

  -- a list is that of its parts
  pub numbered-ordered : (parts : Vec NetPat Global) → tasks ≡ nets.Ordered parts
      → numbered n (tasks_of tasks) ≡ Ordered (list_numbered n (task_list_of parts.items))
  unfolding numbered list_numbered
  numbered-ordered parts h = ap (numbered n) (ap tasks_of h ∙ tasks_of-ordered parts)

  pub count-ordered : (parts : Vec NetPat Global) → tasks ≡ nets.Ordered parts
      → task_count (tasks_of tasks) ≡ list_count (task_list_of parts.items)
  unfolding task_count list_count
  count-ordered parts h = ap task_count (ap tasks_of h ∙ tasks_of-ordered parts)

  pub numbered-unordered : (parts : Vec NetPat Global) → tasks ≡ nets.Unordered parts
      → numbered n (tasks_of tasks) ≡ Unordered (list_numbered n (task_list_of parts.items))
  unfolding numbered list_numbered
  numbered-unordered parts h = ap (numbered n) (ap tasks_of h ∙ tasks_of-unordered parts)

  pub count-unordered : (parts : Vec NetPat Global) → tasks ≡ nets.Unordered parts
      → task_count (tasks_of tasks) ≡ list_count (task_list_of parts.items)
  unfolding task_count list_count
  count-unordered parts h = ap task_count (ap tasks_of h ∙ tasks_of-unordered parts)

-- ---- the number that a cell names

-- the number that a view has
abbrev pub number_seen : View → Option ℕ
number_seen Nil = None
number_seen (Sym name) = None
number_seen (Num z) = Some (unsigned_abs z)
number_seen (Cons head tail) = None

-- a term that is shown by a view is the number that the view has
pub number_shown : (terms : List Term) (v : View) (t : Term) → Shows terms v t → number_seen v ≡ number_of t
number_shown terms Nil t h = sym (ap number_of h)
number_shown terms (Sym name) t h = sym (ap number_of h)
number_shown terms (Num z) t h = sym (ap number_of h)
number_shown terms (Cons head tail) t h = sym (ap number_of h.whole)

-- a cell that no term is for names no number
pub number_beyond : (terms : List Term) (cell : ℕ) → length terms ≤ cell → None ≡ number_of (term_at terms cell)
number_beyond terms cell le = sym (ap (λ o. number_of (term_or_nil o)) (slice_get_past terms cell le))
