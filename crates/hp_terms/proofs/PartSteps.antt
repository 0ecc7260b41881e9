-- Lists whose parts are read one by one: the parts of an expression and of a task list.
use Rattle.std.proofs.Common.{◌≡◌, ◌∙◌, sym, ap, refl, subst, ℕ, ◌<◌, ◌≤◌, List, [], ◌∷◌, Result, Ok, Err, true, map, length, get_or, ◌≢◌, arith}
use Rattle.hp_syntax.specs.declared.pattern.Span.{Span}
use Rattle.hp_syntax.specs.Forest.{Forest, Bare, Grow, Word, Group}
use Rattle.hp_syntax.specs.Syntax.{And, NoExpression, Also, NoTasks, Then, Ordered}
use Rattle.hp_syntax.specs.Steps.{Misform, Names, Parse, each, and_then, pure, ◌<$>◌}
use Rattle.hp_syntax.specs.Views.{as_expressions, expression_of, expressions_of, as_task_list, tasks_of, task_list_of}
use Rattle.hp_syntax.specs.declared.expression.Expr.{Expr}
use Rattle.hp_syntax.specs.declared.tasks.NetPat.{NetPat}
use Rattle.hp_syntax.specs.Grammar.{Setting, expression, expressions, list_expression, tasks, task_list, list_tasks, is_nil, gathered}
use Rattle.hp_text.specs.declared.forest.Node as public
use Rattle.hp_text.specs.declared.forest.NodeKind.TheVariants as kinds
use Rattle.hp_text.specs.Nodes.{node_of, nodes_of}
use Rattle.hp_text.specs.NodeLaws.{node_of-name, node_of-list}
use Rattle.hp_syntax.specs.declared.name.Name.{Name}
use Rattle.std.specs.Prelude.{Vec}
use Rattle.std.specs.Global.{Global}
use Rattle.hp_terms.specs.FormReads.{Refuses, Gives, Reads}
use Rattle.hp_terms.specs.declared.refusal.FormRefusal.{FormRefusal}
use Rattle.hp_terms.proofs.Turns.{refused_next, refused_same, prepend, from_here, all_read, one_refused}

-- expressions are read each in turn
pub expressions-each : (f : Forest) (names : Names)
    → expressions f names ≡ and_then (each expression f names) (λ es. pure (as_expressions es))
unfolding expressions
expressions-each Bare names = refl
expressions-each (Grow n f) names = elim (expression n names) as
    (λ r. and_then r (λ first later. and_then (expressions f later) (λ others. pure (Also first others)))
    ≡ and_then (and_then r (λ first later. and_then (each expression f later) (λ es. pure (first ∷ es))))
    (λ es. pure (as_expressions es))) [
      | Ok p ↦ rw (expressions-each f p.1) (elim (each expression f p.1) as
          (λ r. and_then (and_then r (λ es. pure (as_expressions es))) (λ others. pure (Also p.0 others))
          ≡ and_then (and_then r (λ es. pure (p.0 ∷ es))) (λ es. pure (as_expressions es)))
          [ Ok q ↦ refl | Err e ↦ refl ])
      | Err e ↦ refl
    ]

-- tasks are read each in turn
pub task_list-each : (setting : Setting) (f : Forest) (names : Names)
    → task_list setting f names ≡ and_then (each (tasks setting) f names) (λ ts. pure (as_task_list ts))
unfolding task_list
task_list-each setting Bare names = refl
task_list-each setting (Grow n f) names = elim (tasks setting n names) as
    (λ r. and_then r (λ first later. and_then (task_list setting f later) (λ others. pure (Then first others)))
    ≡ and_then (and_then r (λ first later. and_then (each (tasks setting) f later) (λ ts. pure (first ∷ ts))))
    (λ ts. pure (as_task_list ts))) [
      | Ok p ↦ rw (task_list-each setting f p.1) (elim (each (tasks setting) f p.1) as
          (λ r. and_then (and_then r (λ ts. pure (as_task_list ts))) (λ others. pure (Then p.0 others))
          ≡ and_then (and_then r (λ ts. pure (p.0 ∷ ts))) (λ ts. pure (as_task_list ts)))
          [ Ok q ↦ refl | Err e ↦ refl ])
      | Err e ↦ refl
    ]

-- expressions that were read one by one are read
pub expressions_read : (nodes : List public.Node) (i : ℕ) (prefix : List Expr) (start names : Names) → length nodes ≤ i
    → each expression (nodes_of nodes) start ≡ prepend (map expression_of prefix) (from_here expression nodes i names)
    → expressions (nodes_of nodes) start ≡ Ok (expressions_of prefix, names)
expressions_read nodes i prefix start names h e =
    expressions-each (nodes_of nodes) start
    ∙ ap (λ r. and_then r (λ es. pure (as_expressions es)))
    (all_read expression nodes i (map expression_of prefix) names (each expression (nodes_of nodes) start) h e)

-- an expression that is refused refuses all
pub expressions_refused : (nodes : List public.Node) (i : ℕ) (d : public.Node) (prefix : List Expr) (why : FormRefusal)
    (start names : Names) → i < length nodes
    → each expression (nodes_of nodes) start ≡ prepend (map expression_of prefix) (from_here expression nodes i names)
    → d ≡ get_or nodes i d → Refuses why (expression (node_of d) names)
    → Refuses why (expressions (nodes_of nodes) start)
expressions_refused nodes i d prefix why start names h e at r =
    refused_same why _ _ (expressions-each (nodes_of nodes) start)
    (refused_next why (each expression (nodes_of nodes) start) _
    (one_refused expression nodes i d (map expression_of prefix) why names (each expression (nodes_of nodes) start) h e
    (subst (λ n. Refuses why (expression (node_of n) names)) at r)))

-- tasks that were read one by one are a task list
pub task_list_read : (setting : Setting) (nodes : List public.Node) (i : ℕ) (prefix : List NetPat) (start names : Names)
    → length nodes ≤ i
    → each (tasks setting) (nodes_of nodes) start
    ≡ prepend (map tasks_of prefix) (from_here (tasks setting) nodes i names)
    → task_list setting (nodes_of nodes) start ≡ Ok (task_list_of prefix, names)
task_list_read setting nodes i prefix start names h e =
    task_list-each setting (nodes_of nodes) start
    ∙ ap (λ r. and_then r (λ ts. pure (as_task_list ts)))
    (all_read (tasks setting) nodes i (map tasks_of prefix) names (each (tasks setting) (nodes_of nodes) start) h e)

-- tasks that are refused refuse the task list
pub task_list_refused : (setting : Setting) (nodes : List public.Node) (i : ℕ) (d : public.Node) (prefix : List NetPat)
    (why : FormRefusal) (start names : Names) → i < length nodes
    → each (tasks setting) (nodes_of nodes) start
    ≡ prepend (map tasks_of prefix) (from_here (tasks setting) nodes i names)
    → d ≡ get_or nodes i d → Refuses why (tasks setting (node_of d) names)
    → Refuses why (task_list setting (nodes_of nodes) start)
task_list_refused setting nodes i d prefix why start names h e at r =
    refused_same why _ _ (task_list-each setting (nodes_of nodes) start)
    (refused_next why (each (tasks setting) (nodes_of nodes) start) _
    (one_refused (tasks setting) nodes i d (map tasks_of prefix) why names (each (tasks setting) (nodes_of nodes) start)
    h e
    (subst (λ n. Refuses why (tasks setting (node_of n) names)) at r)))

-- a list that begins with a list is the conjunction of its parts
pub listed-group : (s t : Span) (parts rest : Forest) (names : Names)
    → list_expression s (Grow (Group t parts) rest) names
    ≡ and_then (expressions (Grow (Group t parts) rest) names) (λ es. pure (And s es))
unfolding list_expression expressions expression
listed-group s t parts rest names = elim (list_expression t parts names) as
    (λ r. and_then r (λ first later. and_then (expressions rest later) (λ others. pure (And s (Also first others))))
    ≡ and_then (and_then r (λ first later. and_then (expressions rest later) (λ others. pure (Also first others))))
    (λ es. pure (And s es))) [
      | Ok p ↦ elim (expressions rest p.1) as (λ r. and_then r (λ others. pure (And s (Also p.0 others)))
          ≡ and_then (and_then r (λ others. pure (Also p.0 others))) (λ es. pure (And s es)))
          [ Ok q ↦ refl | Err e ↦ refl ]
      | Err e ↦ refl
    ]

-- so is one that begins with `nil`
pub listed-nil : (s t : Span) (key : List ℕ) (rest : Forest) (names : Names) → is_nil key ≡ true
    → list_expression s (Grow (Word t key) rest) names
    ≡ and_then (expressions (Grow (Word t key) rest) names) (λ es. pure (And s es))
unfolding list_expression expressions expression
listed-nil s t key rest names h = rw h (elim (expressions rest names) as
    (λ r. and_then r (λ es. pure (And s (Also (And t NoExpression) es)))
    ≡ and_then (and_then r (λ others. pure (Also (And t NoExpression) others))) (λ es. pure (And s es)))
    [ Ok q ↦ refl | Err e ↦ refl ])

-- a list that begins with a list is the ordered list of its parts
pub ordered-group : (setting : Setting) (s t : Span) (parts rest : Forest) (names : Names)
    → list_tasks setting s (Grow (Group t parts) rest) names
    ≡ and_then (task_list setting (Grow (Group t parts) rest) names) (λ ts. pure (Ordered ts))
unfolding list_tasks task_list tasks
ordered-group setting s t parts rest names = elim (list_tasks setting t parts names) as
    (λ r. and_then r (λ first later. and_then (task_list setting rest later)
    (λ others. pure (Ordered (Then first others))))
    ≡ and_then (and_then r (λ first later. and_then (task_list setting rest later)
    (λ others. pure (Then first others)))) (λ ts. pure (Ordered ts))) [
      | Ok p ↦ elim (task_list setting rest p.1) as (λ r. and_then r (λ others. pure (Ordered (Then p.0 others)))
          ≡ and_then (and_then r (λ others. pure (Then p.0 others))) (λ ts. pure (Ordered ts)))
          [ Ok q ↦ refl | Err e ↦ refl ]
      | Err e ↦ refl
    ]

-- so is one that begins with `nil`
pub ordered-nil : (setting : Setting) (s t : Span) (key : List ℕ) (rest : Forest) (names : Names) → is_nil key ≡ true
    → list_tasks setting s (Grow (Word t key) rest) names
    ≡ and_then (task_list setting (Grow (Word t key) rest) names) (λ ts. pure (Ordered ts))
unfolding list_tasks task_list tasks
ordered-nil setting s t key rest names h = rw h (elim (task_list setting rest names) as
    (λ r. and_then r (λ ts. pure (Ordered (Then (Ordered NoTasks) ts)))
    ≡ and_then (and_then r (λ others. pure (Then (Ordered NoTasks) others))) (λ ts. pure (Ordered ts)))
    [ Ok q ↦ refl | Err e ↦ refl ])

-- nodes that begin with a list, seen plainly
group_first : (nodes rest : List public.Node) (first : public.Node) (parts : Vec public.Node Global)
    → nodes ≡ first ∷ rest → first.kind ≡ kinds.List parts
    → nodes_of nodes ≡ Grow (Group first.span (nodes_of parts.items)) (nodes_of rest)
group_first nodes rest first parts split at =
    ap nodes_of split ∙ ap (λ n. Grow n (nodes_of rest)) (node_of-list first parts at)

-- nodes that begin with a name, seen plainly
pub word_first : (nodes rest : List public.Node) (first : public.Node) (name : Name)
    → nodes ≡ first ∷ rest → first.kind ≡ kinds.Name name
    → nodes_of nodes ≡ Grow (Word first.span name) (nodes_of rest)
word_first nodes rest first name split at =
    ap nodes_of split ∙ ap (λ n. Grow n (nodes_of rest)) (node_of-name first name at)

-- a result that reads a step reads one that gives the same
pub reads_same : {X Y : Type 0} (view : X → Y) (r : Result X FormRefusal) (p q : Parse Y) (before after : Names)
    → q before ≡ p before → Reads view r p before after → Reads view r q before after
reads_same view (Ok x) p q before after same h = same ∙ h
reads_same view (Err e) p q before after same h = refused_same e (q before) (p before) same h

-- a value that gives a result gives an equal one
pub gives_same : {X Y : Type 0} (view : X → Y) (r : Result X FormRefusal) (p q : Result Y Misform) → q ≡ p
    → Gives view r p → Gives view r q
gives_same view (Ok x) p q same h = same ∙ h
gives_same view (Err e) p q same h = refused_same e q p same h

-- the list of nodes that begin with a list is the conjunction of its parts
pub conjunction-list : (s : Span) (nodes rest : List public.Node) (first : public.Node) (parts : Vec public.Node Global)
    (names : Names) → nodes ≡ first ∷ rest → first.kind ≡ kinds.List parts
    → list_expression s (nodes_of nodes) names ≡ (And s <$> expressions (nodes_of nodes)) names
conjunction-list s nodes rest first parts names split at =
    let e = group_first nodes rest first parts split at in
    ap (λ f. list_expression s f names) e ∙ listed-group s first.span (nodes_of parts.items) (nodes_of rest) names
    ∙ ap (λ f. (And s <$> expressions f) names) (sym e)

-- so is that of nodes that begin with `nil`
pub conjunction-nil : (s : Span) (nodes rest : List public.Node) (first : public.Node) (name : Name)
    (names : Names) → nodes ≡ first ∷ rest → first.kind ≡ kinds.Name name → is_nil name ≡ true
    → list_expression s (nodes_of nodes) names ≡ (And s <$> expressions (nodes_of nodes)) names
conjunction-nil s nodes rest first name names split at nil =
    let e = word_first nodes rest first name split at in
    ap (λ f. list_expression s f names) e ∙ listed-nil s first.span name (nodes_of rest) names nil
    ∙ ap (λ f. (And s <$> expressions f) names) (sym e)

-- the list of nodes that begin with a list is the ordered list of its parts
pub ordered-list : (setting : Setting) (s : Span) (nodes rest : List public.Node) (first : public.Node)
    (parts : Vec public.Node Global) (names : Names) → nodes ≡ first ∷ rest → first.kind ≡ kinds.List parts
    → list_tasks setting s (nodes_of nodes) names ≡ (Ordered <$> task_list setting (nodes_of nodes)) names
ordered-list setting s nodes rest first parts names split at =
    let e = group_first nodes rest first parts split at in
    ap (λ f. list_tasks setting s f names) e
    ∙ ordered-group setting s first.span (nodes_of parts.items) (nodes_of rest) names
    ∙ ap (λ f. (Ordered <$> task_list setting f) names) (sym e)

-- so is that of nodes that begin with `nil`
pub ordered-none : (setting : Setting) (s : Span) (nodes rest : List public.Node) (first : public.Node) (name : Name)
    (names : Names) → nodes ≡ first ∷ rest → first.kind ≡ kinds.Name name → is_nil name ≡ true
    → list_tasks setting s (nodes_of nodes) names ≡ (Ordered <$> task_list setting (nodes_of nodes)) names
ordered-none setting s nodes rest first name names split at nil =
    let e = word_first nodes rest first name split at in
    ap (λ f. list_tasks setting s f names) e ∙ ordered-nil setting s first.span name (nodes_of rest) names nil
    ∙ ap (λ f. (Ordered <$> task_list setting f) names) (sym e)

-- one expression is what is gathered of it
pub gathered-one : (s : Span) (es : List Expr) (e : Expr) → length es ≡ 1 → e ≡ get_or es 0 e
    → expression_of e ≡ gathered s (expressions_of es)
gathered-one s [] e one at = absurd (omega arith)
gathered-one s (f ∷ []) e one at = ap expression_of at
gathered-one s (f ∷ g ∷ es) e one at = absurd (omega arith)

-- another number of expressions are gathered to their conjunction
pub gathered-many : (s : Span) (es : List Expr) → length es ≢ 1 → And s (expressions_of es)
    ≡ gathered s (expressions_of es)
gathered-many s [] many = refl
gathered-many s (f ∷ []) many = absurd (many refl)
gathered-many s (f ∷ g ∷ es) many = refl
