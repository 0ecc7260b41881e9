-- The grammar of domains and problems, after JSHOP2's: what each node is read as, from left to right, what is
-- inside a node before what follows it.
use Rattle.std.specs.Prelude.{ℕ, Bool, true, false, not, ◌||◌, cond, pos, List, [], ◌∷◌, Option, Some, None, Result, bytes_eq, codes}
use Rattle.hp_syntax.specs.declared.pattern.Span.{Span}
use Rattle.hp_syntax.specs.declared.pattern.Tail.{Tail}
use Rattle.hp_syntax.specs.declared.form.What.{What}
use Rattle.hp_syntax.specs.declared.form.What.TheVariants as wants
use Rattle.hp_syntax.specs.Forest.{Node, Word, Numeral, Group, Forest, Bare, Grow, span_of}
use Rattle.hp_syntax.specs.Names.{is_variable, is_plain, is_primitive, is_compound, is_branch_name}
use Rattle.hp_syntax.specs.Steps as steps
use Rattle.hp_syntax.specs.Steps.{◌>>=◌, ◌>>◌, ◌<$>◌}
use Rattle.hp_syntax.specs.Syntax as syntax

-- where a term stands: calls may stand in a rule, and not in a problem
pub data Setting : Type 0 where
  InRule : Setting
  InProblem : Setting

abbrev pub is_nil : List ℕ → Bool
is_nil name = bytes_eq name (codes "nil")

-- ---- names and lists

-- a name is any token that is no numeral and no dot
unfoldable pub name : Node → steps.Parse (List ℕ)
name (Word s text) = cond (bytes_eq text (codes ".")) (steps.expected wants.Name s) (steps.pure text)
name (Numeral s n) = steps.expected wants.Name s
name (Group s parts) = steps.expected wants.Name s

-- the items of a list; `nil` has none
unfoldable pub list : What → Node → steps.Parse Forest
list what (Word s text) = cond (is_nil text) (steps.pure Bare) (steps.expected what s)
list what (Numeral s n) = steps.expected what s
list what (Group s parts) = steps.pure parts

unfoldable pub variable : Node → steps.Parse ℕ
variable (Word s text) = cond (is_variable text) (steps.numbered text) (steps.expected wants.Variable s)
variable (Numeral s n) = steps.expected wants.Variable s
variable (Group s parts) = steps.expected wants.Variable s

abbrev pub one_variable : List ℕ → steps.Parse (List ℕ)
one_variable text = (λ v. v ∷ []) <$> steps.numbered text

-- one variable, or a list of them
unfoldable pub variables : Node → steps.Parse (List ℕ)
variables (Word s text) =
    cond (is_nil text) (steps.pure []) (cond (is_variable text) (one_variable text) (steps.expected wants.Variable s))
variables (Numeral s n) = steps.expected wants.Variable s
variables (Group s parts) = steps.each variable parts

-- ---- terms

-- a variable, `nil`, or another name
unfoldable pub word_term : Span → List ℕ → steps.Parse syntax.Pattern
word_term s text =
    cond (bytes_eq text (codes ".")) (steps.expected wants.Term s)
    (cond (is_nil text) (steps.pure (syntax.Listing s syntax.NoPattern None))
    (cond (is_variable text) (syntax.Variable s <$> steps.numbered text) (steps.pure (syntax.Symbol s text))))

abbrev pub tail_at : Span → ℕ → syntax.Patterns × Option Tail
tail_at s v = (syntax.NoPattern, Some (record { span = s; var = v }))

-- behind a dot `nil` adds nothing
unfoldable pub word_tail : Span → List ℕ → steps.Parse (syntax.Patterns × Option Tail)
word_tail s text =
    cond (is_nil text) (steps.pure (syntax.NoPattern, None))
    (cond (is_variable text) (tail_at s <$> steps.numbered text) (steps.expected wants.Tail s))

unfoldable mutual
  pub term : Setting → Node → steps.Parse syntax.Pattern
  term setting (Word s text) = word_term s text
  term setting (Numeral s n) = steps.pure (syntax.Number s n)
  term setting (Group s parts) = list_term setting s parts

  -- a list that begins with `call` is a call
  pub list_term : Setting → Span → Forest → steps.Parse syntax.Pattern
  list_term setting s Bare = steps.pure (syntax.Listing s syntax.NoPattern None)
  list_term setting s (Grow n rest) =
      cond (steps.is_word (codes "call") n) (called setting s rest)
      (do
        first ← term setting n
        others ← items setting (steps.closing s) rest
        steps.pure (syntax.Listing s (syntax.Before first others.0) others.1))

  -- terms, and then a dot and a tail, where they are
  pub items : Setting → Span → Forest → steps.Parse (syntax.Patterns × Option Tail)
  items setting end Bare = steps.pure (syntax.NoPattern, None)
  items setting end (Grow n rest) =
      cond (steps.is_word (codes ".") n) (dotted setting end rest)
      (do
        first ← term setting n
        others ← items setting end rest
        steps.pure (syntax.Before first others.0, others.1))

  -- the tail behind a dot
  pub dotted : Setting → Span → Forest → steps.Parse (syntax.Patterns × Option Tail)
  dotted setting end Bare = steps.expected wants.Tail end
  dotted setting end (Grow n rest) = do
    behind ← tail setting n
    steps.ended rest
    steps.pure behind

  -- a tail is a variable, or a list whose parts and tail take its place
  pub tail : Setting → Node → steps.Parse (syntax.Patterns × Option Tail)
  tail setting (Word s text) = word_tail s text
  tail setting (Numeral s n) = steps.expected wants.Tail s
  tail setting (Group s parts) = list_tail setting s parts

  pub list_tail : Setting → Span → Forest → steps.Parse (syntax.Patterns × Option Tail)
  list_tail setting s Bare = steps.pure (syntax.NoPattern, None)
  list_tail setting s (Grow n rest) =
      cond (steps.is_word (codes "call") n) (steps.expected wants.Tail s)
      (do
        first ← term setting n
        others ← items setting (steps.closing s) rest
        steps.pure (syntax.Before first others.0, others.1))

  -- `(call NAME term ..)`
  pub called : Setting → Span → Forest → steps.Parse syntax.Pattern
  called InProblem s rest = steps.expected wants.Ground s
  called InRule s Bare = steps.expected wants.Name (steps.closing s)
  called InRule s (Grow n rest) = do
    text ← name n
    args ← terms rest
    steps.pure (syntax.Call s text args)

  pub terms : Forest → steps.Parse syntax.Patterns
  terms Bare = steps.pure syntax.NoPattern
  terms (Grow n rest) = do
    first ← term InRule n
    others ← terms rest
    steps.pure (syntax.Before first others)

-- ---- atoms

abbrev pub make_atom : Span → List ℕ → syntax.Patterns × Option Tail → syntax.Atom
make_atom s text x = record { span = s; name = text; args = x.0; tail = x.1 }

-- an atom by its name and what follows
unfoldable pub named_atom : Setting → Span → List ℕ → Forest → steps.Parse syntax.Atom
named_atom setting s text rest = make_atom s text <$> items setting (steps.closing s) rest

-- a list that begins with a fitting name
unfoldable pub headed : What → (List ℕ → Bool) → Setting → Node → steps.Parse syntax.Atom
headed what fits setting n =
    steps.if_begun (steps.begun n)
    (λ text rest. cond (fits text) (named_atom setting (span_of n) text rest) (steps.expected what (span_of n)))
    (steps.expected what (span_of n))

abbrev pub atom : Setting → Node → steps.Parse syntax.Atom
atom setting = headed wants.Atom is_plain setting

unfoldable pub atoms : Setting → Node → steps.Parse (List syntax.Atom)
atoms setting n = list wants.Atoms n >>= steps.each (atom setting)

-- ---- expressions

-- `(assign VARIABLE term)`
unfoldable pub assigned : Span → Forest → steps.Parse syntax.Expression
assigned s rest = do
  left ← steps.next wants.Variable (steps.closing s) rest
  v ← variable left.0
  right ← steps.next wants.Term (steps.closing s) left.1
  value ← term InRule right.0
  steps.ended right.1
  steps.pure (syntax.Assign s v value)

-- `(imply Y Z)` is that Y doesn't hold or Z does
abbrev pub implied : Span → syntax.Expression × syntax.Expression → syntax.Expression
implied s both = syntax.Or s (syntax.Also (syntax.Not s both.0) (syntax.Also both.1 syntax.NoExpression))

unfoldable mutual
  pub expression : Node → steps.Parse syntax.Expression
  expression (Word s text) = cond (is_nil text) (steps.pure (syntax.And s syntax.NoExpression))
      (steps.expected wants.Expr s)
  expression (Numeral s n) = steps.expected wants.Expr s
  expression (Group s parts) = list_expression s parts

  -- by what a list begins with: a list or `nil` begins a conjunction
  pub list_expression : Span → Forest → steps.Parse syntax.Expression
  list_expression s Bare = steps.pure (syntax.And s syntax.NoExpression)
  list_expression s (Grow (Word t key) rest) =
      cond (is_nil key) ((λ es. syntax.And s (syntax.Also (syntax.And t syntax.NoExpression) es)) <$> expressions rest)
      (cond (bytes_eq key (codes "and")) (syntax.And s <$> expressions rest)
      (cond (bytes_eq key (codes "or")) (syntax.Or s <$> expressions rest)
      (cond (bytes_eq key (codes "not")) (syntax.Not s <$> one_expression (steps.closing s) rest)
      (cond (bytes_eq key (codes "imply")) (implied s <$> two_expressions (steps.closing s) rest)
      (cond (bytes_eq key (codes "forall")) (quantified s rest)
      (cond (bytes_eq key (codes "assign")) (assigned s rest)
      (cond (bytes_eq key (codes "call")) (syntax.Test s <$> called InRule s rest)
      (cond (is_plain key) (syntax.Holds s <$> named_atom InRule s key rest) (steps.expected wants.Expr s)))))))))
  list_expression s (Grow (Numeral t n) rest) = steps.expected wants.Expr s
  list_expression s (Grow (Group t parts) rest) = do
    first ← list_expression t parts
    others ← expressions rest
    steps.pure (syntax.And s (syntax.Also first others))

  pub expressions : Forest → steps.Parse syntax.Expressions
  expressions Bare = steps.pure syntax.NoExpression
  expressions (Grow n rest) = do
    first ← expression n
    others ← expressions rest
    steps.pure (syntax.Also first others)

  pub one_expression : Span → Forest → steps.Parse syntax.Expression
  one_expression end Bare = steps.expected wants.Expr end
  one_expression end (Grow n rest) = do
    e ← expression n
    steps.ended rest
    steps.pure e

  pub two_expressions : Span → Forest → steps.Parse (syntax.Expression × syntax.Expression)
  two_expressions end Bare = steps.expected wants.Expr end
  two_expressions end (Grow n rest) = do
    first ← expression n
    second ← one_expression end rest
    steps.pure (first, second)

  -- `(forall VARIABLES expression expression)`
  pub quantified : Span → Forest → steps.Parse syntax.Expression
  quantified s Bare = steps.expected wants.Variable (steps.closing s)
  quantified s (Grow n rest) = do
    vs ← variables n
    both ← two_expressions (steps.closing s) rest
    steps.pure (syntax.Forall s vs both.0 both.1)

-- ---- preconditions

-- one expression is itself, another number of them their conjunction
abbrev pub gathered : Span → syntax.Expressions → syntax.Expression
gathered s syntax.NoExpression = syntax.And s syntax.NoExpression
gathered s (syntax.Also e syntax.NoExpression) = e
gathered s (syntax.Also e (syntax.Also f es)) = syntax.And s (syntax.Also e (syntax.Also f es))

abbrev pub order_named : Span → List ℕ → syntax.Order
order_named s text =
    cond (bytes_eq text (codes "<") || bytes_eq text (codes "<=")) syntax.Up
    (cond (bytes_eq text (codes ">") || bytes_eq text (codes ">=")) syntax.Down (syntax.Unknown text s))

-- the order that a sort names, and what follows; without a name it is upwards
unfoldable pub order : Forest → syntax.Order × Forest
order Bare = (syntax.Up, Bare)
order (Grow (Word s text) rest) = cond (is_nil text) (syntax.Up, Grow (Word s text) rest) (order_named s text, rest)
order (Grow (Numeral s n) rest) = (syntax.Up, Grow (Numeral s n) rest)
order (Grow (Group s parts) rest) = (syntax.Up, Grow (Group s parts) rest)

abbrev pub make_key : Span → ℕ → syntax.Order → syntax.Key
make_key s v o = record { span = s; var = v; order = o }

-- `(:sort-by VARIABLE order expression ..)`
unfoldable pub sorted : Span → Forest → steps.Parse syntax.Precondition
sorted s rest = do
  by ← steps.next wants.Variable (steps.closing s) rest
  v ← variable by.0
  es ← expressions (order by.1).1
  steps.pure (syntax.Sorted (make_key (span_of by.0) v (order by.1).0) (gathered s es))

-- a list as a precondition
unfoldable pub list_precondition : Span → Forest → steps.Parse syntax.Precondition
list_precondition s Bare = syntax.Plain <$> list_expression s Bare
list_precondition s (Grow (Word t key) rest) =
    cond (bytes_eq key (codes ":first")) ((λ es. syntax.First (gathered s es)) <$> expressions rest)
    (cond (bytes_eq key (codes ":sort-by")) (sorted s rest)
    (syntax.Plain <$> list_expression s (Grow (Word t key) rest)))
list_precondition s (Grow (Numeral t n) rest) = syntax.Plain <$> list_expression s (Grow (Numeral t n) rest)
list_precondition s (Grow (Group t parts) rest) = syntax.Plain <$> list_expression s (Grow (Group t parts) rest)

unfoldable pub precondition : Node → steps.Parse syntax.Precondition
precondition (Word s text) = cond (is_nil text) (steps.pure (syntax.Plain (syntax.And s syntax.NoExpression)))
    (steps.expected wants.Pre s)
precondition (Numeral s n) = steps.expected wants.Pre s
precondition (Group s parts) = list_precondition s parts

-- ---- tasks

-- a task, by its name and what follows
abbrev pub task : Setting → Span → Bool → List ℕ → Forest → steps.Parse syntax.Tasks
task setting s is_immediate text rest = (λ a. syntax.Task a is_immediate) <$> named_atom setting s text rest

-- `(:immediate NAME term ..)`
unfoldable pub immediate : Setting → Span → Forest → steps.Parse syntax.Tasks
immediate setting s Bare = steps.expected wants.Name (steps.closing s)
immediate setting s (Grow (Word t text) rest) =
    cond (is_plain text) (task setting s true text rest) (steps.expected wants.Name t)
immediate setting s (Grow (Numeral t n) rest) = steps.expected wants.Name t
immediate setting s (Grow (Group t parts) rest) = steps.expected wants.Name t

unfoldable mutual
  pub tasks : Setting → Node → steps.Parse syntax.Tasks
  tasks setting (Word s text) = cond (is_nil text) (steps.pure (syntax.Ordered syntax.NoTasks))
      (steps.expected wants.Tasks s)
  tasks setting (Numeral s n) = steps.expected wants.Tasks s
  tasks setting (Group s parts) = list_tasks setting s parts

  -- by what a list begins with: a list or `nil` begins an ordered list
  pub list_tasks : Setting → Span → Forest → steps.Parse syntax.Tasks
  list_tasks setting s Bare = steps.pure (syntax.Ordered syntax.NoTasks)
  list_tasks setting s (Grow (Word t key) rest) =
      cond (is_nil key) ((λ ts. syntax.Ordered (syntax.Then (syntax.Ordered syntax.NoTasks) ts))
      <$> task_list setting rest)
      (cond (bytes_eq key (codes ":ordered")) (syntax.Ordered <$> task_list setting rest)
      (cond (bytes_eq key (codes ":unordered")) (syntax.Unordered <$> task_list setting rest)
      (cond (bytes_eq key (codes ":immediate")) (immediate setting s rest)
      (cond (is_plain key) (task setting s false key rest) (steps.expected wants.Tasks s)))))
  list_tasks setting s (Grow (Numeral t n) rest) = steps.expected wants.Tasks s
  list_tasks setting s (Grow (Group t parts) rest) = do
    first ← list_tasks setting t parts
    others ← task_list setting rest
    steps.pure (syntax.Ordered (syntax.Then first others))

  pub task_list : Setting → Forest → steps.Parse syntax.TaskList
  task_list setting Bare = steps.pure syntax.NoTasks
  task_list setting (Grow n rest) = do
    first ← tasks setting n
    others ← task_list setting rest
    steps.pure (syntax.Then first others)

-- ---- effects

-- `(:protection atom)`
unfoldable pub protection : Span → Forest → steps.Parse syntax.Effect
protection s rest = do
  x ← steps.next wants.Atom (steps.closing s) rest
  a ← atom InRule x.0
  steps.ended x.1
  steps.pure (syntax.Protection a)

-- `(forall VARIABLES expression atoms)`
unfoldable pub for_each : Span → Forest → steps.Parse syntax.Effect
for_each s rest = do
  x ← steps.next wants.Variable (steps.closing s) rest
  vs ← variables x.0
  y ← steps.next wants.Expr (steps.closing s) x.1
  e ← expression y.0
  z ← steps.next wants.Atoms (steps.closing s) y.1
  changed ← atoms InRule z.0
  steps.ended z.1
  steps.pure (syntax.Each vs e changed)

unfoldable pub keyed_effect : Span → List ℕ → Forest → steps.Parse syntax.Effect
keyed_effect s key rest =
    cond (bytes_eq key (codes ":protection")) (protection s rest)
    (cond (bytes_eq key (codes "forall")) (for_each s rest)
    (cond (is_plain key) (syntax.Change <$> named_atom InRule s key rest) (steps.expected wants.Atom s)))

unfoldable pub effect : Node → steps.Parse syntax.Effect
effect n = steps.if_begun (steps.begun n) (keyed_effect (span_of n)) (steps.expected wants.Atom (span_of n))

unfoldable pub effects : Node → steps.Parse (List syntax.Effect)
effects n = list wants.Effects n >>= steps.each effect

-- ---- rules

-- a cost that isn't written is 1, with the operator's span
unfoldable pub cost : Span → Forest → steps.Parse syntax.Pattern
cost s Bare = steps.pure (syntax.Number s (pos 1000))
cost s (Grow n rest) = do
  t ← term InRule n
  steps.ended rest
  steps.pure t

-- `(:operator head precondition deletes adds cost)`
unfoldable pub operator : Span → Forest → steps.Parse syntax.Rule
operator s rest = do
  h ← steps.next wants.Head (steps.closing s) rest
  head ← headed wants.Head is_primitive InRule h.0
  p ← steps.next wants.Pre (steps.closing s) h.1
  pre ← precondition p.0
  d ← steps.next wants.Effects (steps.closing s) p.1
  dels ← effects d.0
  a ← steps.next wants.Effects (steps.closing s) d.1
  adds ← effects a.0
  price ← cost s a.1
  vars ← steps.names_so_far
  steps.pure (syntax.Does (record {
    span = s;
    vars = vars;
    head = head;
    pre = pre;
    dels = dels;
    adds = adds;
    cost =
        price;
  }))

-- a name token at a branch's place must be the name of the branch; `nil` is none
abbrev pub begins_named : Node → Bool
begins_named (Word s text) = not (is_nil text)
begins_named (Numeral s n) = false
begins_named (Group s parts) = false

unfoldable pub branch_name : Node → steps.Parse (List ℕ)
branch_name (Word s text) = cond (is_branch_name text) (steps.pure text) (steps.expected wants.Name s)
branch_name (Numeral s n) = steps.expected wants.Name s
branch_name (Group s parts) = steps.expected wants.Name s

abbrev pub make_branch : Option (List ℕ) → syntax.Precondition → syntax.Tasks → syntax.Branch
make_branch text p t = record { name = text; pre = p; tasks = t }

unfoldable mutual
  -- branches of a method, one or more: a name where there is one, a precondition and tasks
  pub branches : Span → Bool → Forest → steps.Parse (List syntax.Branch)
  branches end is_first Bare = cond is_first (steps.expected wants.Pre end) (steps.pure [])
  branches end is_first (Grow n rest) =
      cond (begins_named n) (branch_name n >>= (λ text. named_branch end text rest))
      (precondition n >>= (λ p. branch_tasks end None p rest))

  pub named_branch : Span → List ℕ → Forest → steps.Parse (List syntax.Branch)
  named_branch end text Bare = steps.expected wants.Pre end
  named_branch end text (Grow n rest) = precondition n >>= (λ p. branch_tasks end (Some text) p rest)

  pub branch_tasks : Span → Option (List ℕ) → syntax.Precondition → Forest → steps.Parse (List syntax.Branch)
  branch_tasks end text p Bare = steps.expected wants.Tasks end
  branch_tasks end text p (Grow n rest) = do
    t ← tasks InRule n
    others ← branches end false rest
    steps.pure (make_branch text p t ∷ others)

-- `(:method head branch ..)`
unfoldable pub method : Span → Forest → steps.Parse syntax.Rule
method s rest = do
  h ← steps.next wants.Head (steps.closing s) rest
  head ← headed wants.Head is_compound InRule h.0
  bs ← branches (steps.closing s) true h.1
  vars ← steps.names_so_far
  steps.pure (syntax.Refines (record { span = s; vars = vars; head = head; branches = bs }))

abbrev pub make_clause : Option (List ℕ) → syntax.Expression → syntax.Clause
make_clause text e = record { name = text; body = e }

unfoldable mutual
  -- branches of an axiom, one or more: a name where there is one, and an expression
  pub clauses : Span → Bool → Forest → steps.Parse (List syntax.Clause)
  clauses end is_first Bare = cond is_first (steps.expected wants.Expr end) (steps.pure [])
  clauses end is_first (Grow n rest) =
      cond (begins_named n) (branch_name n >>= (λ text. named_clause end text rest))
      (do
        e ← expression n
        others ← clauses end false rest
        steps.pure (make_clause None e ∷ others))

  pub named_clause : Span → List ℕ → Forest → steps.Parse (List syntax.Clause)
  named_clause end text Bare = steps.expected wants.Expr end
  named_clause end text (Grow n rest) = do
    e ← expression n
    others ← clauses end false rest
    steps.pure (make_clause (Some text) e ∷ others)

-- `(:- head branch ..)`
unfoldable pub axiom_rule : Span → Forest → steps.Parse syntax.Rule
axiom_rule s rest = do
  h ← steps.next wants.Head (steps.closing s) rest
  head ← headed wants.Head is_plain InRule h.0
  cs ← clauses (steps.closing s) true h.1
  vars ← steps.names_so_far
  steps.pure (syntax.Concludes (record { span = s; vars = vars; head = head; clauses = cs }))

unfoldable pub keyed_rule : Span → List ℕ → Forest → steps.Parse syntax.Rule
keyed_rule s key rest =
    cond (bytes_eq key (codes ":operator")) (operator s rest)
    (cond (bytes_eq key (codes ":method")) (method s rest)
    (cond (bytes_eq key (codes ":-")) (axiom_rule s rest) (steps.expected wants.Rule s)))

-- each rule has variables of its own
unfoldable pub rule : Node → steps.Parse syntax.Rule
rule n = steps.if_begun (steps.begun n) (λ key rest. steps.by_itself (keyed_rule (span_of n) key rest))
    (steps.expected wants.Rule (span_of n))

-- ---- files

-- `(defdomain NAME (rule ..))`
unfoldable pub domain_list : Span → Forest → steps.Parse syntax.Domain
domain_list s rest = do
  x ← steps.next wants.Name (steps.closing s) rest
  text ← name x.0
  y ← steps.next wants.Rules (steps.closing s) x.1
  rules ← list wants.Rules y.0 >>= steps.each rule
  steps.ended y.1
  steps.pure (record { name = text; rules = rules })

abbrev pub make_pair : List syntax.Atom → syntax.Tasks → syntax.Pair
make_pair state ts = record { state = state; tasks = ts }

unfoldable mutual
  -- the pairs of a problem, one or more: atoms, and tasks behind them
  pub pairs : Span → Bool → Forest → steps.Parse (List syntax.Pair)
  pairs end is_first Bare = cond is_first (steps.expected wants.Atoms end) (steps.pure [])
  pairs end is_first (Grow n rest) = atoms InProblem n >>= (λ state. pair_tasks end state rest)

  pub pair_tasks : Span → List syntax.Atom → Forest → steps.Parse (List syntax.Pair)
  pair_tasks end state Bare = steps.expected wants.Tasks end
  pair_tasks end state (Grow n rest) = do
    ts ← tasks InProblem n
    others ← pairs end false rest
    steps.pure (make_pair state ts ∷ others)

-- `(defproblem NAME NAME atoms tasks ..)`
unfoldable pub problem_list : Span → Forest → steps.Parse syntax.Problem
problem_list s rest = do
  x ← steps.next wants.Name (steps.closing s) rest
  text ← name x.0
  y ← steps.next wants.Name (steps.closing s) x.1
  domain ← name y.0
  ps ← pairs (steps.closing s) true y.1
  vars ← steps.names_so_far
  steps.pure (record {
    name = text;
    domain = domain;
    domain_span = span_of y.0;
    vars = vars;
    pairs = ps;
  })

-- a list that begins with this word
unfoldable pub file_list : {A : Type 0} → What → List ℕ → (Span → Forest → steps.Parse A) → Node → steps.Parse A
file_list what key parts n =
    steps.if_begun (steps.begun n)
    (λ text rest. cond (bytes_eq text key) (parts (span_of n) rest) (steps.expected what (span_of n)))
    (steps.expected what (span_of n))

abbrev pub end_of_file : ℕ → Span
end_of_file len = record { from = len; to = len }

-- the only node of a file
unfoldable pub file : {A : Type 0} → What → (Node → steps.Parse A) → ℕ → Forest → steps.Parse A
file what node len f = do
  x ← steps.next what (end_of_file len) f
  value ← node x.0
  steps.ended x.1
  steps.pure value

-- the domain, or the problem, whose form is the forest of a text of this length
abbrev pub domain_form : ℕ → Forest → Result syntax.Domain steps.Misform
domain_form len f =
    steps.from_no_names (file wants.Domain (file_list wants.Domain (codes "defdomain") domain_list) len f)

abbrev pub problem_form : ℕ → Forest → Result syntax.Problem steps.Misform
problem_form len f =
    steps.from_no_names (file wants.Problem (file_list wants.Problem (codes "defproblem") problem_list) len f)
