-- The terms and networks of ground patterns and task lists, part by part.
use Rattle.std.proofs.Common.{◌≡◌, ℕ, ◌+◌, ◌<◌, ◌≤◌, List, [], ◌∷◌, ◌++◌, length, drop, get_or, Option, ℤ, Vec, ap, sym, ◌∙◌, subst}
use Rattle.std.specs.Global.{Global}
use Rattle.std.proofs.lemmas.List.{drop_all}
use Rattle.hp_syntax.specs.declared.name.Name.{Name}
use Rattle.hp_syntax.specs.declared.pattern.Tail.{Tail}
use Rattle.hp_syntax.specs.declared.pattern.Pat.{Pat}
use Rattle.hp_syntax.specs.declared.pattern.PatKind.TheVariants as pats
use Rattle.hp_syntax.specs.declared.tasks.NetPat.{NetPat}
use Rattle.hp_syntax.specs.declared.tasks.NetPat.TheVariants as nets
use Rattle.hp_syntax.specs.declared.tasks.TaskPat.{TaskPat}
use Rattle.hp_syntax.specs.Syntax.{Before, Then}
use Rattle.hp_syntax.specs.Terms.{Term, Terms, Symbol, Number, Listed, NoTerm, More}
use Rattle.hp_syntax.specs.Networks.{Network, Networks, Task, Ordered, Unordered, And}
use Rattle.hp_syntax.specs.GroundPatterns.{IsGroundPattern, AreGroundPatterns, IsGroundAtom, AreGroundTasks, IsGroundTaskList, term_said, terms_said, atom_said, network_said, networks_said}
use Rattle.hp_syntax.specs.Views.{pattern_of, patterns_of, atom_of, tasks_of, task_list_of}
use Rattle.hp_syntax.specs.ViewLaws.{pattern_of-var, pattern_of-sym, pattern_of-num, pattern_of-list, pattern_of-call, tasks_of-task, tasks_of-ordered, tasks_of-unordered}
use Rattle.hp_eval.specs.GoalViews.{as_networks}
use Rattle.hp_eval.specs.Steps.{in_front, onto}
use Rattle.hp_eval.proofs.Loops.{left_more, in_front_push}
use Rattle.hp_eval.proofs.TaskSteps.{networks_in_front}

-- ---- parts of a list

module _ (ps : List Pat) (i : ℕ) (p : Pat) (lt : i < length ps) (is : p ≡ get_or ps i p) where
  patterns_left : patterns_of (drop i ps) ≡ Before (pattern_of p) (patterns_of (drop (i + 1) ps))
  patterns_left = ap patterns_of (left_more ps i p lt is)

  -- where the patterns that are left are ground, so are the first of them and the others
  pub first_ground : AreGroundPatterns (patterns_of (drop i ps))
      → IsGroundPattern (pattern_of p) × AreGroundPatterns (patterns_of (drop (i + 1) ps))
  first_ground h = subst AreGroundPatterns patterns_left h

  -- the term of the next pattern, behind those that are there, leaves what all say
  pub said_more : (old new : List Term) (whole : Terms) → whole ≡ onto old (terms_said (patterns_of (drop i ps)))
      → new ≡ old ++ term_said (pattern_of p) ∷ [] → whole ≡ onto new (terms_said (patterns_of (drop (i + 1) ps)))
  unfolding term_said terms_said
  said_more old new whole so_far grown =
      let rest = terms_said (patterns_of (drop (i + 1) ps)) in
      so_far
      ∙ (ap (λ q. onto old (terms_said q)) patterns_left
      ∙ (sym (in_front_push More old (term_said (pattern_of p)) rest) ∙ ap (λ ts. onto ts rest) (sym grown)))

-- where no pattern is left, the terms that are there are what all say
pub said_all : (ps : List Pat) (i : ℕ) (old : List Term) (whole : Terms) → length ps ≤ i
    → whole ≡ onto old (terms_said (patterns_of (drop i ps))) → whole ≡ onto old NoTerm
unfolding term_said terms_said
said_all ps i old whole le so_far = so_far ∙ ap (λ qs. onto old (terms_said (patterns_of qs))) (drop_all i ps le)

-- ---- patterns

module _ (p : Pat) where
  -- a symbol says itself
  pub said-sym : (name : Name) → p.kind ≡ pats.Sym name → term_said (pattern_of p) ≡ Symbol name
  unfolding term_said terms_said
  said-sym name h = ap term_said (pattern_of-sym p name h)

  -- a number says itself
  pub said-num : (n : ℤ) → p.kind ≡ pats.Num n → term_said (pattern_of p) ≡ Number n
  unfolding term_said terms_said
  said-num n h = ap term_said (pattern_of-num p n h)

  -- a list says the list of what its parts say
  pub said-list : (parts : Vec Pat Global) (tail : Option Tail) → p.kind ≡ pats.List parts tail
      → term_said (pattern_of p) ≡ Listed (terms_said (patterns_of parts.items))
  unfolding term_said terms_said
  said-list parts tail h = ap term_said (pattern_of-list p parts tail h)

  module _ (ground : IsGroundPattern (pattern_of p)) where
    -- no variable is ground
    pub ground-var : (v : ℕ) → p.kind ≡ pats.Var v → ⊥
    ground-var v h = subst IsGroundPattern (pattern_of-var p v h) ground

    -- no call is ground
    pub ground-call : (name : Name) (args : Vec Pat Global) → p.kind ≡ pats.Call name args → ⊥
    ground-call name args h = subst IsGroundPattern (pattern_of-call p name args h) ground

    -- the parts of a ground list are ground
    pub ground-list : (parts : Vec Pat Global) (tail : Option Tail) → p.kind ≡ pats.List parts tail
        → AreGroundPatterns (patterns_of parts.items)
    ground-list parts tail h =
        let both = subst IsGroundPattern (pattern_of-list p parts tail h) ground in
        both.0

-- ---- tasks

module _ (ts : List NetPat) (i : ℕ) (t : NetPat) (lt : i < length ts) (is : t ≡ get_or ts i t) where
  tasks_left : task_list_of (drop i ts) ≡ Then (tasks_of t) (task_list_of (drop (i + 1) ts))
  tasks_left = ap task_list_of (left_more ts i t lt is)

  -- where the tasks that are left are ground, so are the first of them and the others
  pub first_task_ground : IsGroundTaskList (task_list_of (drop i ts))
      → AreGroundTasks (tasks_of t) × IsGroundTaskList (task_list_of (drop (i + 1) ts))
  first_task_ground h = subst IsGroundTaskList tasks_left h

  -- the network of the next tasks, behind those that are there, leaves what all say
  pub tasks_said_more : (old new : List Network) (whole : Networks)
      → whole ≡ in_front And old (networks_said (task_list_of (drop i ts)))
      → new ≡ old ++ network_said (tasks_of t) ∷ []
      → whole ≡ in_front And new (networks_said (task_list_of (drop (i + 1) ts)))
  unfolding network_said networks_said
  tasks_said_more old new whole so_far grown =
      let rest = networks_said (task_list_of (drop (i + 1) ts)) in
      so_far
      ∙ (ap (λ q. in_front And old (networks_said q)) tasks_left
      ∙ (sym (in_front_push And old (network_said (tasks_of t)) rest) ∙ ap (λ ns. in_front And ns rest) (sym grown)))

-- where no tasks are left, the networks that are there are what all say
pub tasks_said_all : (ts : List NetPat) (i : ℕ) (old : List Network) (whole : Networks) → length ts ≤ i
    → whole ≡ in_front And old (networks_said (task_list_of (drop i ts))) → as_networks old ≡ whole
unfolding network_said networks_said
tasks_said_all ts i old whole le so_far =
    sym
    (so_far
    ∙ (ap (λ ns. in_front And old (networks_said (task_list_of ns))) (drop_all i ts le) ∙ networks_in_front old))

module _ (tasks : NetPat) where
  -- a task says the task that its atom says
  pub said-task : (t : TaskPat) → tasks ≡ nets.Task t
      → network_said (tasks_of tasks) ≡ Task (atom_said (atom_of t.atom)) t.immediate
  unfolding network_said networks_said
  said-task t h = ap network_said (ap tasks_of h ∙ tasks_of-task t)

  -- an ordered list says the ordered list of what its parts say
  pub said-ordered : (parts : Vec NetPat Global) → tasks ≡ nets.Ordered parts
      → network_said (tasks_of tasks) ≡ Ordered (networks_said (task_list_of parts.items))
  unfolding network_said networks_said
  said-ordered parts h = ap network_said (ap tasks_of h ∙ tasks_of-ordered parts)

  -- an unordered list says the unordered list of what its parts say
  pub said-unordered : (parts : Vec NetPat Global) → tasks ≡ nets.Unordered parts
      → network_said (tasks_of tasks) ≡ Unordered (networks_said (task_list_of parts.items))
  unfolding network_said networks_said
  said-unordered parts h = ap network_said (ap tasks_of h ∙ tasks_of-unordered parts)

  module _ (ground : AreGroundTasks (tasks_of tasks)) where
    -- the atom of a ground task is ground
    pub ground-task : (t : TaskPat) → tasks ≡ nets.Task t → IsGroundAtom (atom_of t.atom)
    ground-task t h = subst AreGroundTasks (ap tasks_of h ∙ tasks_of-task t) ground

    -- the parts of a ground ordered list are ground
    pub ground-ordered : (parts : Vec NetPat Global) → tasks ≡ nets.Ordered parts
        → IsGroundTaskList (task_list_of parts.items)
    ground-ordered parts h = subst AreGroundTasks (ap tasks_of h ∙ tasks_of-ordered parts) ground

    -- the parts of a ground unordered list are ground
    pub ground-unordered : (parts : Vec NetPat Global) → tasks ≡ nets.Unordered parts
        → IsGroundTaskList (task_list_of parts.items)
    ground-unordered parts h = subst AreGroundTasks (ap tasks_of h ∙ tasks_of-unordered parts) ground
