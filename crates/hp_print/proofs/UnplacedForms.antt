-- Places don't matter to the grammar: a forest without places has the same form up to spans.
use Rattle.std.proofs.Common.{◌≡◌, ℕ, Bool, true, false, ◌||◌, cond, pos, List, [], ◌∷◌, map, Option, Some, None, Ok, refl, sym, ◌∙◌, ap, bytes_eq, codes}
use Rattle.hp_syntax.specs.declared.pattern.Span.{Span}
use Rattle.hp_syntax.specs.declared.pattern.Tail.{Tail}
use Rattle.hp_syntax.specs.declared.form.What.{What}
use Rattle.hp_syntax.specs.declared.form.What.TheVariants as wants
use Rattle.hp_syntax.specs.Forest.{Node, Word, Numeral, Group, Forest, Bare, Grow, span_of}
use Rattle.hp_syntax.specs.Names.{is_variable, is_plain, is_primitive, is_compound, is_branch_name}
use Rattle.hp_syntax.specs.Steps.{Parse, ◌<$>◌, closing}
use Rattle.hp_syntax.specs.Grammar as grammar
use Rattle.hp_syntax.specs.Syntax as syntax
use Rattle.hp_syntax.specs.Written.{nowhere}
use Rattle.hp_syntax.specs.Unplaced as unplaced
use Rattle.hp_print.proofs.UnplacedSteps as unplaced_steps

-- ---- names and lists

-- a name is the same without places
moved_name : (n : Node) → unplaced_steps.Moves (λ x. x) (grammar.name n) (grammar.name (unplaced.node n))
unfolding grammar.name unplaced.node
moved_name (Word s text) = unplaced_steps.moves_choice (bytes_eq text (codes ".")) (unplaced_steps.moves_refusal _)
    (unplaced_steps.moves_pure text)
moved_name (Numeral s n) = unplaced_steps.moves_refusal _
moved_name (Group s parts) = unplaced_steps.moves_refusal _

-- the items of a list are the same without places
moved_list : (what : What) (n : Node) → unplaced_steps.Moves unplaced.forest (grammar.list what n)
    (grammar.list what (unplaced.node n))
unfolding grammar.list unplaced.node unplaced.forest
moved_list what (Word s text) = unplaced_steps.moves_choice (grammar.is_nil text) (unplaced_steps.moves_pure Bare)
    (unplaced_steps.moves_refusal _)
moved_list what (Numeral s n) = unplaced_steps.moves_refusal _
moved_list what (Group s parts) = unplaced_steps.moves_pure parts

-- a variable is the same without places
moved_variable : (n : Node) → unplaced_steps.Moves (λ v. v) (grammar.variable n) (grammar.variable (unplaced.node n))
unfolding grammar.variable unplaced.node
moved_variable (Word s text) = unplaced_steps.moves_choice (is_variable text) (unplaced_steps.moves_numbered text)
    (unplaced_steps.moves_refusal _)
moved_variable (Numeral s n) = unplaced_steps.moves_refusal _
moved_variable (Group s parts) = unplaced_steps.moves_refusal _

-- numbers of variables have no places
pub map_same : (vs : List ℕ) → map (λ v. v) vs ≡ vs
map_same [] = refl
map_same (v ∷ vs) = ap (λ (x : List ℕ). v ∷ x) (map_same vs)

-- the variables of a list are the same without places
moved_variables : (n : Node) → unplaced_steps.Moves (map (λ v. v)) (grammar.variables n)
    (grammar.variables (unplaced.node n))
unfolding grammar.variables unplaced.node
moved_variables (Word s text) =
    unplaced_steps.moves_choice (grammar.is_nil text) (unplaced_steps.moves_pure [])
    (unplaced_steps.moves_choice (is_variable text) (unplaced_steps.moves_made (λ v. v ∷ []) (λ v. v ∷ [])
    (unplaced_steps.moves_numbered text) (λ v. refl))
    (unplaced_steps.moves_refusal _))
moved_variables (Numeral s n) = unplaced_steps.moves_refusal _
moved_variables (Group s parts) = unplaced_steps.moves_each parts moved_variable

-- ---- terms

-- patterns and a tail without places
abbrev pub unplaced_parts : syntax.Patterns × Option Tail → syntax.Patterns × Option Tail
unplaced_parts x = (unplaced.patterns x.0, unplaced.tail x.1)

-- a word as a term is the same without places
moved_word : (s : Span) (text : List ℕ) → unplaced_steps.Moves unplaced.pattern (grammar.word_term s text)
    (grammar.word_term nowhere text)
unfolding grammar.word_term unplaced.pattern unplaced.patterns
moved_word s text =
    unplaced_steps.moves_choice (bytes_eq text (codes ".")) (unplaced_steps.moves_refusal _)
    (unplaced_steps.moves_choice (grammar.is_nil text) (unplaced_steps.moves_pure
    (syntax.Listing s syntax.NoPattern None))
    (unplaced_steps.moves_choice (is_variable text) (unplaced_steps.moves_made (syntax.Variable s) _
    (unplaced_steps.moves_numbered text) (λ v. refl))
    (unplaced_steps.moves_pure (syntax.Symbol s text))))

-- a word as a tail is the same without places
moved_word_tail : (s : Span) (text : List ℕ) → unplaced_steps.Moves unplaced_parts (grammar.word_tail s text)
    (grammar.word_tail nowhere text)
unfolding grammar.word_tail unplaced.patterns
moved_word_tail s text =
    unplaced_steps.moves_choice (grammar.is_nil text) (unplaced_steps.moves_pure (syntax.NoPattern, None))
    (unplaced_steps.moves_choice (is_variable text) (unplaced_steps.moves_made (grammar.tail_at s) _
    (unplaced_steps.moves_numbered text) (λ v. refl)) (unplaced_steps.moves_refusal _))

mutual
  unfolding grammar.term grammar.list_term grammar.items grammar.dotted grammar.tail grammar.list_tail grammar.called
      grammar.terms unplaced.node unplaced.forest unplaced.pattern
      unplaced.patterns

  -- a term is the same without places
  moved_term : (setting : grammar.Setting) (n : Node)
      → unplaced_steps.Moves unplaced.pattern (grammar.term setting n) (grammar.term setting (unplaced.node n))
  moved_term setting (Word s text) = moved_word s text
  moved_term setting (Numeral s n) = unplaced_steps.moves_pure (syntax.Number s n)
  moved_term setting (Group s parts) = moved_list_term setting s parts

  -- a list as a term is the same without places
  moved_list_term : (setting : grammar.Setting) (s : Span) (f : Forest)
      → unplaced_steps.Moves unplaced.pattern (grammar.list_term setting s f)
      (grammar.list_term setting nowhere (unplaced.forest f))
  moved_list_term setting s Bare = unplaced_steps.moves_pure (syntax.Listing s syntax.NoPattern None)
  moved_list_term setting s (Grow n rest) =
      unplaced_steps.moves_word (codes "call") n (moved_called setting s rest)
      (unplaced_steps.moves_chain _ (moved_term setting n) (λ first.
      unplaced_steps.moves_chain _ (moved_items setting (closing s) rest) (λ others.
      unplaced_steps.moves_pure (syntax.Listing s (syntax.Before first others.0) others.1))))

  -- terms with a tail are the same without places
  moved_items : (setting : grammar.Setting) (end : Span) (f : Forest)
      → unplaced_steps.Moves unplaced_parts (grammar.items setting end f)
      (grammar.items setting nowhere (unplaced.forest f))
  moved_items setting end Bare = unplaced_steps.moves_pure (syntax.NoPattern, None)
  moved_items setting end (Grow n rest) =
      unplaced_steps.moves_word (codes ".") n (moved_dotted setting end rest)
      (unplaced_steps.moves_chain _ (moved_term setting n) (λ first.
      unplaced_steps.moves_chain _ (moved_items setting end rest) (λ others.
      unplaced_steps.moves_pure (syntax.Before first others.0, others.1))))

  -- the tail behind a dot is the same without places
  moved_dotted : (setting : grammar.Setting) (end : Span) (f : Forest)
      → unplaced_steps.Moves unplaced_parts (grammar.dotted setting end f)
      (grammar.dotted setting nowhere (unplaced.forest f))
  moved_dotted setting end Bare = unplaced_steps.moves_refusal _
  moved_dotted setting end (Grow n rest) =
      unplaced_steps.moves_chain _ (moved_tail setting n) (λ behind.
      unplaced_steps.moves_chain _ (unplaced_steps.moves_ended rest) (λ x. unplaced_steps.moves_pure behind))

  -- a tail is the same without places
  moved_tail : (setting : grammar.Setting) (n : Node) → unplaced_steps.Moves unplaced_parts (grammar.tail setting n)
      (grammar.tail setting (unplaced.node n))
  moved_tail setting (Word s text) = moved_word_tail s text
  moved_tail setting (Numeral s n) = unplaced_steps.moves_refusal _
  moved_tail setting (Group s parts) = moved_list_tail setting s parts

  -- a list as a tail is the same without places
  moved_list_tail : (setting : grammar.Setting) (s : Span) (f : Forest)
      → unplaced_steps.Moves unplaced_parts (grammar.list_tail setting s f)
      (grammar.list_tail setting nowhere (unplaced.forest f))
  moved_list_tail setting s Bare = unplaced_steps.moves_pure (syntax.NoPattern, None)
  moved_list_tail setting s (Grow n rest) =
      unplaced_steps.moves_word (codes "call") n (unplaced_steps.moves_refusal _)
      (unplaced_steps.moves_chain _ (moved_term setting n) (λ first.
      unplaced_steps.moves_chain _ (moved_items setting (closing s) rest) (λ others.
      unplaced_steps.moves_pure (syntax.Before first others.0, others.1))))

  -- a call is the same without places
  moved_called : (setting : grammar.Setting) (s : Span) (f : Forest)
      → unplaced_steps.Moves unplaced.pattern (grammar.called setting s f)
      (grammar.called setting nowhere (unplaced.forest f))
  moved_called grammar.InProblem s rest = unplaced_steps.moves_refusal _
  moved_called grammar.InRule s Bare = unplaced_steps.moves_refusal _
  moved_called grammar.InRule s (Grow n rest) =
      unplaced_steps.moves_chain _ (moved_name n) (λ text.
      unplaced_steps.moves_chain _ (moved_terms rest) (λ args.
      unplaced_steps.moves_pure (syntax.Call s text args)))

  -- terms are the same without places
  moved_terms : (f : Forest) → unplaced_steps.Moves unplaced.patterns (grammar.terms f)
      (grammar.terms (unplaced.forest f))
  moved_terms Bare = unplaced_steps.moves_pure syntax.NoPattern
  moved_terms (Grow n rest) =
      unplaced_steps.moves_chain _ (moved_term grammar.InRule n) (λ first.
      unplaced_steps.moves_chain _ (moved_terms rest) (λ others.
      unplaced_steps.moves_pure (syntax.Before first others)))

-- ---- atoms

-- an atom with its name is the same without places
moved_named_atom : (setting : grammar.Setting) (s : Span) (text : List ℕ) (rest : Forest)
    → unplaced_steps.Moves unplaced.atom (grammar.named_atom setting s text rest)
    (grammar.named_atom setting nowhere text (unplaced.forest rest))
unfolding grammar.named_atom
moved_named_atom setting s text rest =
    unplaced_steps.moves_made (grammar.make_atom s text) _ (moved_items setting (closing s) rest) (λ x. refl)

-- a list that begins with a fitting name is the same without places
moved_headed : (what : What) (fits : List ℕ → Bool) (setting : grammar.Setting) (n : Node)
    → unplaced_steps.Moves unplaced.atom (grammar.headed what fits setting n)
    (grammar.headed what fits setting (unplaced.node n))
unfolding grammar.headed
moved_headed what fits setting n =
    rw (unplaced_steps.span_nowhere n)
    (unplaced_steps.moves_begun n _
    (λ text rest. unplaced_steps.moves_choice (fits text) (moved_named_atom setting (span_of n) text rest)
    (unplaced_steps.moves_refusal _))
    (unplaced_steps.moves_refusal _))

-- a list of atoms is the same without places
moved_atoms : (setting : grammar.Setting) (n : Node)
    → unplaced_steps.Moves (map unplaced.atom) (grammar.atoms setting n) (grammar.atoms setting (unplaced.node n))
unfolding grammar.atoms
moved_atoms setting n =
    unplaced_steps.moves_chain _ (moved_list wants.Atoms n) (λ f. unplaced_steps.moves_each f
    (moved_headed wants.Atom is_plain setting))

-- ---- expressions

-- an assignment is the same without places
moved_assigned : (s : Span) (f : Forest)
    → unplaced_steps.Moves unplaced.expression (grammar.assigned s f) (grammar.assigned nowhere (unplaced.forest f))
unfolding grammar.assigned unplaced.expression
moved_assigned s rest =
    unplaced_steps.moves_chain _ (unplaced_steps.moves_next wants.Variable (closing s) rest) (λ left.
    unplaced_steps.moves_chain _ (moved_variable left.0) (λ v.
    unplaced_steps.moves_chain _ (unplaced_steps.moves_next wants.Term (closing s) left.1) (λ right.
    unplaced_steps.moves_chain _ (moved_term grammar.InRule right.0) (λ value.
    unplaced_steps.moves_chain _ (unplaced_steps.moves_ended right.1) (λ x.
    unplaced_steps.moves_pure (syntax.Assign s v value))))))

-- two expressions without places
abbrev both_expressions : syntax.Expression × syntax.Expression → syntax.Expression × syntax.Expression
both_expressions both = (unplaced.expression both.0, unplaced.expression both.1)

mutual
  unfolding grammar.expression grammar.list_expression grammar.expressions grammar.one_expression
      grammar.two_expressions grammar.quantified unplaced.node
      unplaced.forest unplaced.expression unplaced.expressions

  -- an expression is the same without places
  moved_expression : (n : Node) → unplaced_steps.Moves unplaced.expression (grammar.expression n)
      (grammar.expression (unplaced.node n))
  moved_expression (Word s text) =
      unplaced_steps.moves_choice (grammar.is_nil text) (unplaced_steps.moves_pure (syntax.And s syntax.NoExpression))
      (unplaced_steps.moves_refusal _)
  moved_expression (Numeral s n) = unplaced_steps.moves_refusal _
  moved_expression (Group s parts) = moved_list_expression s parts

  -- a list as an expression is the same without places
  moved_list_expression : (s : Span) (f : Forest)
      → unplaced_steps.Moves unplaced.expression (grammar.list_expression s f)
      (grammar.list_expression nowhere (unplaced.forest f))
  moved_list_expression s Bare = unplaced_steps.moves_pure (syntax.And s syntax.NoExpression)
  moved_list_expression s (Grow (Word t key) rest) =
      unplaced_steps.moves_choice (grammar.is_nil key)
      (unplaced_steps.moves_made (λ es. syntax.And s (syntax.Also (syntax.And t syntax.NoExpression) es)) _
      (moved_expressions rest) (λ es. refl))
      (unplaced_steps.moves_choice (bytes_eq key (codes "and")) (unplaced_steps.moves_made (syntax.And s) _
      (moved_expressions rest) (λ es. refl))
      (unplaced_steps.moves_choice (bytes_eq key (codes "or")) (unplaced_steps.moves_made (syntax.Or s) _
      (moved_expressions rest) (λ es. refl))
      (unplaced_steps.moves_choice (bytes_eq key (codes "not"))
      (unplaced_steps.moves_made (syntax.Not s) _ (moved_one_expression (closing s) rest) (λ e. refl))
      (unplaced_steps.moves_choice (bytes_eq key (codes "imply"))
      (unplaced_steps.moves_made (grammar.implied s) _ (moved_two_expressions (closing s) rest) (λ both. refl))
      (unplaced_steps.moves_choice (bytes_eq key (codes "forall")) (moved_quantified s rest)
      (unplaced_steps.moves_choice (bytes_eq key (codes "assign")) (moved_assigned s rest)
      (unplaced_steps.moves_choice (bytes_eq key (codes "call")) (unplaced_steps.moves_made (syntax.Test s) _
      (moved_called grammar.InRule s rest) (λ x. refl))
      (unplaced_steps.moves_choice (is_plain key) (unplaced_steps.moves_made (syntax.Holds s) _
      (moved_named_atom grammar.InRule s key rest) (λ a. refl))
      (unplaced_steps.moves_refusal _)))))))))
  moved_list_expression s (Grow (Numeral t n) rest) = unplaced_steps.moves_refusal _
  moved_list_expression s (Grow (Group t parts) rest) =
      unplaced_steps.moves_chain _ (moved_list_expression t parts) (λ first.
      unplaced_steps.moves_chain _ (moved_expressions rest) (λ others.
      unplaced_steps.moves_pure (syntax.And s (syntax.Also first others))))

  -- expressions are the same without places
  moved_expressions : (f : Forest) → unplaced_steps.Moves unplaced.expressions (grammar.expressions f)
      (grammar.expressions (unplaced.forest f))
  moved_expressions Bare = unplaced_steps.moves_pure syntax.NoExpression
  moved_expressions (Grow n rest) =
      unplaced_steps.moves_chain _ (moved_expression n) (λ first.
      unplaced_steps.moves_chain _ (moved_expressions rest) (λ others.
      unplaced_steps.moves_pure (syntax.Also first others)))

  -- one expression is the same without places
  moved_one_expression : (end : Span) (f : Forest)
      → unplaced_steps.Moves unplaced.expression (grammar.one_expression end f)
      (grammar.one_expression nowhere (unplaced.forest f))
  moved_one_expression end Bare = unplaced_steps.moves_refusal _
  moved_one_expression end (Grow n rest) =
      unplaced_steps.moves_chain _ (moved_expression n) (λ e. unplaced_steps.moves_chain _
      (unplaced_steps.moves_ended rest) (λ x. unplaced_steps.moves_pure e))

  -- two expressions are the same without places
  moved_two_expressions : (end : Span) (f : Forest)
      → unplaced_steps.Moves both_expressions (grammar.two_expressions end f)
      (grammar.two_expressions nowhere (unplaced.forest f))
  moved_two_expressions end Bare = unplaced_steps.moves_refusal _
  moved_two_expressions end (Grow n rest) =
      unplaced_steps.moves_chain _ (moved_expression n) (λ first.
      unplaced_steps.moves_chain _ (moved_one_expression end rest) (λ second.
      unplaced_steps.moves_pure (first, second)))

  -- a quantified expression is the same without places
  moved_quantified : (s : Span) (f : Forest)
      → unplaced_steps.Moves unplaced.expression (grammar.quantified s f)
      (grammar.quantified nowhere (unplaced.forest f))
  moved_quantified s Bare = unplaced_steps.moves_refusal _
  moved_quantified s (Grow n rest) =
      unplaced_steps.moves_chain _ (moved_variables n) (λ vs.
      unplaced_steps.moves_chain _ (moved_two_expressions (closing s) rest) (λ both.
      rw map_same (unplaced_steps.moves_pure (syntax.Forall s vs both.0 both.1))))

-- ---- preconditions

-- expressions are gathered alike without places
moved_gathered : (s : Span) (es : syntax.Expressions)
    → grammar.gathered nowhere (unplaced.expressions es) ≡ unplaced.expression (grammar.gathered s es)
unfolding unplaced.expression unplaced.expressions
moved_gathered s syntax.NoExpression = refl
moved_gathered s (syntax.Also e syntax.NoExpression) = refl
moved_gathered s (syntax.Also e (syntax.Also f es)) = refl

-- an order without places
moved_order_named : (s : Span) (text : List ℕ) → grammar.order_named nowhere text
    ≡ unplaced.order (grammar.order_named s text)
moved_order_named s text =
    at (bytes_eq text (codes "<") || bytes_eq text (codes "<="))
    (bytes_eq text (codes ">") || bytes_eq text (codes ">="))
  where
    at : (a b : Bool) → cond a syntax.Up (cond b syntax.Down (syntax.Unknown text nowhere))
        ≡ unplaced.order (cond a syntax.Up (cond b syntax.Down (syntax.Unknown text s)))
    at true b = refl
    at false true = refl
    at false false = refl

-- an order and what follows it, without places
abbrev order_and_rest : syntax.Order × Forest → syntax.Order × Forest
order_and_rest x = (unplaced.order x.0, unplaced.forest x.1)

-- the order of a sort is the same without places
moved_order : (f : Forest) → grammar.order (unplaced.forest f) ≡ order_and_rest (grammar.order f)
unfolding grammar.order unplaced.node unplaced.forest
moved_order Bare = refl
moved_order (Grow (Word s text) rest) = at (grammar.is_nil text)
  where
    at : (b : Bool)
        → cond b (syntax.Up, Grow (Word nowhere text) (unplaced.forest rest))
        (grammar.order_named nowhere text, unplaced.forest rest)
        ≡ order_and_rest (cond b (syntax.Up, Grow (Word s text) rest) (grammar.order_named s text, rest))
    at true = refl
    at false = rw (moved_order_named s text) refl
moved_order (Grow (Numeral s n) rest) = refl
moved_order (Grow (Group s parts) rest) = refl

-- a sorted precondition is the same without places
moved_sorted : (s : Span) (f : Forest)
    → unplaced_steps.Moves unplaced.precondition (grammar.sorted s f) (grammar.sorted nowhere (unplaced.forest f))
unfolding grammar.sorted unplaced.precondition
moved_sorted s rest =
    unplaced_steps.moves_chain _ (unplaced_steps.moves_next wants.Variable (closing s) rest) (λ by.
    unplaced_steps.moves_chain _ (moved_variable by.0) (λ v.
    rw moved_order
    (unplaced_steps.moves_made (λ es. syntax.Sorted (grammar.make_key (span_of by.0) v (grammar.order by.1).0)
    (grammar.gathered s es)) _
    (moved_expressions (grammar.order by.1).1)
    (λ es. rw (unplaced_steps.span_nowhere by.0, moved_gathered s es) refl))))

-- an expression as a precondition is the same without places
moved_plain : (s : Span) (f : Forest)
    → unplaced_steps.Moves unplaced.precondition (syntax.Plain <$> grammar.list_expression s f)
    (syntax.Plain <$> grammar.list_expression nowhere (unplaced.forest f))
unfolding unplaced.precondition
moved_plain s f = unplaced_steps.moves_made syntax.Plain syntax.Plain (moved_list_expression s f) (λ e. refl)

-- a list as a precondition is the same without places
moved_list_precondition : (s : Span) (f : Forest)
    → unplaced_steps.Moves unplaced.precondition (grammar.list_precondition s f)
    (grammar.list_precondition nowhere (unplaced.forest f))
unfolding grammar.list_precondition unplaced.precondition unplaced.node unplaced.forest
moved_list_precondition s Bare = moved_plain s Bare
moved_list_precondition s (Grow (Word t key) rest) =
    unplaced_steps.moves_choice (bytes_eq key (codes ":first"))
    (unplaced_steps.moves_made (λ es. syntax.First (grammar.gathered s es)) _ (moved_expressions rest)
    (λ es. rw (moved_gathered s es) refl))
    (unplaced_steps.moves_choice (bytes_eq key (codes ":sort-by")) (moved_sorted s rest)
    (moved_plain s (Grow (Word t key) rest)))
moved_list_precondition s (Grow (Numeral t n) rest) = moved_plain s (Grow (Numeral t n) rest)
moved_list_precondition s (Grow (Group t parts) rest) = moved_plain s (Grow (Group t parts) rest)

-- a precondition is the same without places
moved_precondition : (n : Node) → unplaced_steps.Moves unplaced.precondition (grammar.precondition n)
    (grammar.precondition (unplaced.node n))
unfolding grammar.precondition unplaced.precondition unplaced.expression unplaced.expressions unplaced.node
moved_precondition (Word s text) =
    unplaced_steps.moves_choice (grammar.is_nil text) (unplaced_steps.moves_pure
    (syntax.Plain (syntax.And s syntax.NoExpression))) (unplaced_steps.moves_refusal _)
moved_precondition (Numeral s n) = unplaced_steps.moves_refusal _
moved_precondition (Group s parts) = moved_list_precondition s parts

-- ---- tasks

-- a task is the same without places
moved_task : (setting : grammar.Setting) (s : Span) (b : Bool) (text : List ℕ) (rest : Forest)
    → unplaced_steps.Moves unplaced.tasks (grammar.task setting s b text rest)
    (grammar.task setting nowhere b text (unplaced.forest rest))
unfolding unplaced.tasks
moved_task setting s b text rest =
    unplaced_steps.moves_made (λ a. syntax.Task a b) (λ a. syntax.Task a b) (moved_named_atom setting s text rest)
    (λ a. refl)

-- an immediate task is the same without places
moved_immediate : (setting : grammar.Setting) (s : Span) (f : Forest)
    → unplaced_steps.Moves unplaced.tasks (grammar.immediate setting s f)
    (grammar.immediate setting nowhere (unplaced.forest f))
unfolding grammar.immediate unplaced.node unplaced.forest
moved_immediate setting s Bare = unplaced_steps.moves_refusal _
moved_immediate setting s (Grow (Word t text) rest) =
    unplaced_steps.moves_choice (is_plain text) (moved_task setting s true text rest) (unplaced_steps.moves_refusal _)
moved_immediate setting s (Grow (Numeral t n) rest) = unplaced_steps.moves_refusal _
moved_immediate setting s (Grow (Group t parts) rest) = unplaced_steps.moves_refusal _

mutual
  unfolding grammar.tasks grammar.list_tasks grammar.task_list unplaced.node unplaced.forest unplaced.tasks
      unplaced.task_list

  -- a task or a list of them is the same without places
  moved_tasks : (setting : grammar.Setting) (n : Node)
      → unplaced_steps.Moves unplaced.tasks (grammar.tasks setting n) (grammar.tasks setting (unplaced.node n))
  moved_tasks setting (Word s text) = unplaced_steps.moves_choice (grammar.is_nil text)
      (unplaced_steps.moves_pure (syntax.Ordered syntax.NoTasks)) (unplaced_steps.moves_refusal _)
  moved_tasks setting (Numeral s n) = unplaced_steps.moves_refusal _
  moved_tasks setting (Group s parts) = moved_list_tasks setting s parts

  -- a list as tasks is the same without places
  moved_list_tasks : (setting : grammar.Setting) (s : Span) (f : Forest)
      → unplaced_steps.Moves unplaced.tasks (grammar.list_tasks setting s f)
      (grammar.list_tasks setting nowhere (unplaced.forest f))
  moved_list_tasks setting s Bare = unplaced_steps.moves_pure (syntax.Ordered syntax.NoTasks)
  moved_list_tasks setting s (Grow (Word t key) rest) =
      unplaced_steps.moves_choice (grammar.is_nil key)
      (unplaced_steps.moves_made (λ ts. syntax.Ordered (syntax.Then (syntax.Ordered syntax.NoTasks) ts)) _
      (moved_task_list setting rest) (λ ts. refl))
      (unplaced_steps.moves_choice (bytes_eq key (codes ":ordered"))
      (unplaced_steps.moves_made syntax.Ordered _ (moved_task_list setting rest) (λ ts. refl))
      (unplaced_steps.moves_choice (bytes_eq key (codes ":unordered"))
      (unplaced_steps.moves_made syntax.Unordered _ (moved_task_list setting rest) (λ ts. refl))
      (unplaced_steps.moves_choice (bytes_eq key (codes ":immediate")) (moved_immediate setting s rest)
      (unplaced_steps.moves_choice (is_plain key) (moved_task setting s false key rest)
      (unplaced_steps.moves_refusal _)))))
  moved_list_tasks setting s (Grow (Numeral t n) rest) = unplaced_steps.moves_refusal _
  moved_list_tasks setting s (Grow (Group t parts) rest) =
      unplaced_steps.moves_chain _ (moved_list_tasks setting t parts) (λ first.
      unplaced_steps.moves_chain _ (moved_task_list setting rest) (λ others.
      unplaced_steps.moves_pure (syntax.Ordered (syntax.Then first others))))

  -- tasks in a list are the same without places
  moved_task_list : (setting : grammar.Setting) (f : Forest)
      → unplaced_steps.Moves unplaced.task_list (grammar.task_list setting f)
      (grammar.task_list setting (unplaced.forest f))
  moved_task_list setting Bare = unplaced_steps.moves_pure syntax.NoTasks
  moved_task_list setting (Grow n rest) =
      unplaced_steps.moves_chain _ (moved_tasks setting n) (λ first.
      unplaced_steps.moves_chain _ (moved_task_list setting rest) (λ others.
      unplaced_steps.moves_pure (syntax.Then first others)))

-- ---- effects

-- a protection is the same without places
moved_protection : (s : Span) (f : Forest)
    → unplaced_steps.Moves unplaced.effect (grammar.protection s f) (grammar.protection nowhere (unplaced.forest f))
unfolding grammar.protection unplaced.effect
moved_protection s rest =
    unplaced_steps.moves_chain _ (unplaced_steps.moves_next wants.Atom (closing s) rest) (λ x.
    unplaced_steps.moves_chain _ (moved_headed wants.Atom is_plain grammar.InRule x.0) (λ a.
    unplaced_steps.moves_chain _ (unplaced_steps.moves_ended x.1) (λ y.
    unplaced_steps.moves_pure (syntax.Protection a))))

-- a quantified effect is the same without places
moved_for_each : (s : Span) (f : Forest) → unplaced_steps.Moves unplaced.effect (grammar.for_each s f)
    (grammar.for_each nowhere (unplaced.forest f))
unfolding grammar.for_each unplaced.effect
moved_for_each s rest =
    unplaced_steps.moves_chain _ (unplaced_steps.moves_next wants.Variable (closing s) rest) (λ x.
    unplaced_steps.moves_chain _ (moved_variables x.0) (λ vs.
    unplaced_steps.moves_chain _ (unplaced_steps.moves_next wants.Expr (closing s) x.1) (λ y.
    unplaced_steps.moves_chain _ (moved_expression y.0) (λ e.
    unplaced_steps.moves_chain _ (unplaced_steps.moves_next wants.Atoms (closing s) y.1) (λ z.
    unplaced_steps.moves_chain _ (moved_atoms grammar.InRule z.0) (λ changed.
    unplaced_steps.moves_chain _ (unplaced_steps.moves_ended z.1) (λ u.
    rw map_same (unplaced_steps.moves_pure (syntax.Each vs e changed)))))))))

-- an effect with its name is the same without places
moved_keyed_effect : (s : Span) (key : List ℕ) (f : Forest)
    → unplaced_steps.Moves unplaced.effect (grammar.keyed_effect s key f)
    (grammar.keyed_effect nowhere key (unplaced.forest f))
unfolding grammar.keyed_effect unplaced.effect
moved_keyed_effect s key rest =
    unplaced_steps.moves_choice (bytes_eq key (codes ":protection")) (moved_protection s rest)
    (unplaced_steps.moves_choice (bytes_eq key (codes "forall")) (moved_for_each s rest)
    (unplaced_steps.moves_choice (is_plain key) (unplaced_steps.moves_made syntax.Change _
    (moved_named_atom grammar.InRule s key rest) (λ a. refl))
    (unplaced_steps.moves_refusal _)))

-- an effect is the same without places
moved_effect : (n : Node) → unplaced_steps.Moves unplaced.effect (grammar.effect n) (grammar.effect (unplaced.node n))
unfolding grammar.effect
moved_effect n = rw (unplaced_steps.span_nowhere n) (unplaced_steps.moves_begun n _ (moved_keyed_effect (span_of n))
    (unplaced_steps.moves_refusal _))

-- a list of effects is the same without places
moved_effects : (n : Node) → unplaced_steps.Moves (map unplaced.effect) (grammar.effects n)
    (grammar.effects (unplaced.node n))
unfolding grammar.effects
moved_effects n = unplaced_steps.moves_chain _ (moved_list wants.Effects n)
    (λ f. unplaced_steps.moves_each f moved_effect)

-- ---- rules

-- a cost is the same without places
moved_cost : (s : Span) (f : Forest) → unplaced_steps.Moves unplaced.pattern (grammar.cost s f)
    (grammar.cost nowhere (unplaced.forest f))
unfolding grammar.cost unplaced.pattern unplaced.forest
moved_cost s Bare = unplaced_steps.moves_pure (syntax.Number s (pos 1000))
moved_cost s (Grow n rest) =
    unplaced_steps.moves_chain _ (moved_term grammar.InRule n) (λ t. unplaced_steps.moves_chain _
    (unplaced_steps.moves_ended rest) (λ x. unplaced_steps.moves_pure t))

-- an operator is the same without places
moved_operator : (s : Span) (f : Forest) → unplaced_steps.Moves unplaced.rule (grammar.operator s f)
    (grammar.operator nowhere (unplaced.forest f))
unfolding grammar.operator unplaced.rule
moved_operator s rest =
    unplaced_steps.moves_chain _ (unplaced_steps.moves_next wants.Head (closing s) rest) (λ h.
    unplaced_steps.moves_chain _ (moved_headed wants.Head is_primitive grammar.InRule h.0) (λ head.
    unplaced_steps.moves_chain _ (unplaced_steps.moves_next wants.Pre (closing s) h.1) (λ p.
    unplaced_steps.moves_chain _ (moved_precondition p.0) (λ pre.
    unplaced_steps.moves_chain _ (unplaced_steps.moves_next wants.Effects (closing s) p.1) (λ d.
    unplaced_steps.moves_chain _ (moved_effects d.0) (λ dels.
    unplaced_steps.moves_chain _ (unplaced_steps.moves_next wants.Effects (closing s) d.1) (λ a.
    unplaced_steps.moves_chain _ (moved_effects a.0) (λ adds.
    unplaced_steps.moves_chain _ (moved_cost s a.1) (λ price.
    unplaced_steps.moves_chain _ unplaced_steps.moves_names (λ vars.
    unplaced_steps.moves_pure (syntax.Does (record {
      span = s;
      vars = vars;
      head = head;
      pre = pre;
      dels = dels;
      adds = adds;
      cost = price;
    }))))))))))))

-- whether a branch begins with a name doesn't turn on places
same_beginning : (n : Node) → grammar.begins_named (unplaced.node n) ≡ grammar.begins_named n
unfolding unplaced.node
same_beginning (Word s text) = refl
same_beginning (Numeral s n) = refl
same_beginning (Group s parts) = refl

-- the name of a branch is the same without places
moved_branch_name : (n : Node) → unplaced_steps.Moves (λ x. x) (grammar.branch_name n)
    (grammar.branch_name (unplaced.node n))
unfolding grammar.branch_name unplaced.node
moved_branch_name (Word s text) = unplaced_steps.moves_choice (is_branch_name text) (unplaced_steps.moves_pure text)
    (unplaced_steps.moves_refusal _)
moved_branch_name (Numeral s n) = unplaced_steps.moves_refusal _
moved_branch_name (Group s parts) = unplaced_steps.moves_refusal _

mutual
  unfolding grammar.branches grammar.named_branch grammar.branch_tasks unplaced.forest

  -- branches of a method are the same without places
  moved_branches : (end : Span) (is_first : Bool) (f : Forest)
      → unplaced_steps.Moves (map unplaced.branch) (grammar.branches end is_first f)
      (grammar.branches nowhere is_first (unplaced.forest f))
  moved_branches end is_first Bare = unplaced_steps.moves_choice is_first (unplaced_steps.moves_refusal _)
      (unplaced_steps.moves_pure [])
  moved_branches end is_first (Grow n rest) =
      rw (same_beginning n)
      (unplaced_steps.moves_choice (grammar.begins_named n)
      (unplaced_steps.moves_chain _ (moved_branch_name n) (λ text. moved_named_branch end text rest))
      (unplaced_steps.moves_chain _ (moved_precondition n) (λ p. moved_branch_tasks end None p rest)))

  -- a branch with its name is the same without places
  moved_named_branch : (end : Span) (text : List ℕ) (f : Forest)
      → unplaced_steps.Moves (map unplaced.branch) (grammar.named_branch end text f)
      (grammar.named_branch nowhere text (unplaced.forest f))
  moved_named_branch end text Bare = unplaced_steps.moves_refusal _
  moved_named_branch end text (Grow n rest) =
      unplaced_steps.moves_chain _ (moved_precondition n) (λ p. moved_branch_tasks end (Some text) p rest)

  -- the tasks of a branch and what follows are the same without places
  moved_branch_tasks : (end : Span) (text : Option (List ℕ)) (p : syntax.Precondition) (f : Forest)
      → unplaced_steps.Moves (map unplaced.branch) (grammar.branch_tasks end text p f)
      (grammar.branch_tasks nowhere text (unplaced.precondition p) (unplaced.forest f))
  moved_branch_tasks end text p Bare = unplaced_steps.moves_refusal _
  moved_branch_tasks end text p (Grow n rest) =
      unplaced_steps.moves_chain _ (moved_tasks grammar.InRule n) (λ t.
      unplaced_steps.moves_chain _ (moved_branches end false rest) (λ others.
      unplaced_steps.moves_pure (grammar.make_branch text p t ∷ others)))

-- a method is the same without places
moved_method : (s : Span) (f : Forest) → unplaced_steps.Moves unplaced.rule (grammar.method s f)
    (grammar.method nowhere (unplaced.forest f))
unfolding grammar.method unplaced.rule
moved_method s rest =
    unplaced_steps.moves_chain _ (unplaced_steps.moves_next wants.Head (closing s) rest) (λ h.
    unplaced_steps.moves_chain _ (moved_headed wants.Head is_compound grammar.InRule h.0) (λ head.
    unplaced_steps.moves_chain _ (moved_branches (closing s) true h.1) (λ bs.
    unplaced_steps.moves_chain _ unplaced_steps.moves_names (λ vars.
    unplaced_steps.moves_pure (syntax.Refines (record { span = s; vars = vars; head = head; branches = bs }))))))

mutual
  unfolding grammar.clauses grammar.named_clause unplaced.forest

  -- branches of an axiom are the same without places
  moved_clauses : (end : Span) (is_first : Bool) (f : Forest)
      → unplaced_steps.Moves (map unplaced.clause) (grammar.clauses end is_first f)
      (grammar.clauses nowhere is_first (unplaced.forest f))
  moved_clauses end is_first Bare = unplaced_steps.moves_choice is_first (unplaced_steps.moves_refusal _)
      (unplaced_steps.moves_pure [])
  moved_clauses end is_first (Grow n rest) =
      rw (same_beginning n)
      (unplaced_steps.moves_choice (grammar.begins_named n)
      (unplaced_steps.moves_chain _ (moved_branch_name n) (λ text. moved_named_clause end text rest))
      (unplaced_steps.moves_chain _ (moved_expression n) (λ e.
      unplaced_steps.moves_chain _ (moved_clauses end false rest) (λ others.
      unplaced_steps.moves_pure (grammar.make_clause None e ∷ others)))))

  -- a branch with its name is the same without places
  moved_named_clause : (end : Span) (text : List ℕ) (f : Forest)
      → unplaced_steps.Moves (map unplaced.clause) (grammar.named_clause end text f)
      (grammar.named_clause nowhere text (unplaced.forest f))
  moved_named_clause end text Bare = unplaced_steps.moves_refusal _
  moved_named_clause end text (Grow n rest) =
      unplaced_steps.moves_chain _ (moved_expression n) (λ e.
      unplaced_steps.moves_chain _ (moved_clauses end false rest) (λ others.
      unplaced_steps.moves_pure (grammar.make_clause (Some text) e ∷ others)))

-- an axiom is the same without places
moved_axiom : (s : Span) (f : Forest) → unplaced_steps.Moves unplaced.rule (grammar.axiom_rule s f)
    (grammar.axiom_rule nowhere (unplaced.forest f))
unfolding grammar.axiom_rule unplaced.rule
moved_axiom s rest =
    unplaced_steps.moves_chain _ (unplaced_steps.moves_next wants.Head (closing s) rest) (λ h.
    unplaced_steps.moves_chain _ (moved_headed wants.Head is_plain grammar.InRule h.0) (λ head.
    unplaced_steps.moves_chain _ (moved_clauses (closing s) true h.1) (λ cs.
    unplaced_steps.moves_chain _ unplaced_steps.moves_names (λ vars.
    unplaced_steps.moves_pure (syntax.Concludes (record { span = s; vars = vars; head = head; clauses = cs }))))))

-- a rule with its name is the same without places
moved_keyed_rule : (s : Span) (key : List ℕ) (f : Forest)
    → unplaced_steps.Moves unplaced.rule (grammar.keyed_rule s key f)
    (grammar.keyed_rule nowhere key (unplaced.forest f))
unfolding grammar.keyed_rule
moved_keyed_rule s key rest =
    unplaced_steps.moves_choice (bytes_eq key (codes ":operator")) (moved_operator s rest)
    (unplaced_steps.moves_choice (bytes_eq key (codes ":method")) (moved_method s rest)
    (unplaced_steps.moves_choice (bytes_eq key (codes ":-")) (moved_axiom s rest) (unplaced_steps.moves_refusal _)))

-- a rule is the same without places
moved_rule : (n : Node) → unplaced_steps.Moves unplaced.rule (grammar.rule n) (grammar.rule (unplaced.node n))
unfolding grammar.rule
moved_rule n =
    rw (unplaced_steps.span_nowhere n)
    (unplaced_steps.moves_begun n _ (λ key rest. unplaced_steps.moves_by_itself (moved_keyed_rule (span_of n) key rest))
    (unplaced_steps.moves_refusal _))

-- ---- files

-- a domain is the same without places
moved_domain_list : (s : Span) (f : Forest)
    → unplaced_steps.Moves unplaced.domain (grammar.domain_list s f) (grammar.domain_list nowhere (unplaced.forest f))
unfolding grammar.domain_list
moved_domain_list s rest =
    unplaced_steps.moves_chain _ (unplaced_steps.moves_next wants.Name (closing s) rest) (λ x.
    unplaced_steps.moves_chain _ (moved_name x.0) (λ text.
    unplaced_steps.moves_chain _ (unplaced_steps.moves_next wants.Rules (closing s) x.1) (λ y.
    unplaced_steps.moves_chain _ (unplaced_steps.moves_chain _ (moved_list wants.Rules y.0)
    (λ f. unplaced_steps.moves_each f moved_rule)) (λ rules.
    unplaced_steps.moves_chain _ (unplaced_steps.moves_ended y.1) (λ z.
    unplaced_steps.moves_pure (record { name = text; rules = rules }))))))

mutual
  unfolding grammar.pairs grammar.pair_tasks unplaced.forest

  -- the pairs of a problem are the same without places
  moved_pairs : (end : Span) (is_first : Bool) (f : Forest)
      → unplaced_steps.Moves (map unplaced.pair) (grammar.pairs end is_first f)
      (grammar.pairs nowhere is_first (unplaced.forest f))
  moved_pairs end is_first Bare = unplaced_steps.moves_choice is_first (unplaced_steps.moves_refusal _)
      (unplaced_steps.moves_pure [])
  moved_pairs end is_first (Grow n rest) =
      unplaced_steps.moves_chain _ (moved_atoms grammar.InProblem n) (λ state. moved_pair_tasks end state rest)

  -- the tasks of a pair and what follows are the same without places
  moved_pair_tasks : (end : Span) (state : List syntax.Atom) (f : Forest)
      → unplaced_steps.Moves (map unplaced.pair) (grammar.pair_tasks end state f)
      (grammar.pair_tasks nowhere (map unplaced.atom state) (unplaced.forest f))
  moved_pair_tasks end state Bare = unplaced_steps.moves_refusal _
  moved_pair_tasks end state (Grow n rest) =
      unplaced_steps.moves_chain _ (moved_tasks grammar.InProblem n) (λ ts.
      unplaced_steps.moves_chain _ (moved_pairs end false rest) (λ others.
      unplaced_steps.moves_pure (grammar.make_pair state ts ∷ others)))

-- a problem is the same without places
moved_problem_list : (s : Span) (f : Forest)
    → unplaced_steps.Moves unplaced.problem (grammar.problem_list s f)
    (grammar.problem_list nowhere (unplaced.forest f))
unfolding grammar.problem_list
moved_problem_list s rest =
    unplaced_steps.moves_chain _ (unplaced_steps.moves_next wants.Name (closing s) rest) (λ x.
    unplaced_steps.moves_chain _ (moved_name x.0) (λ text.
    unplaced_steps.moves_chain _ (unplaced_steps.moves_next wants.Name (closing s) x.1) (λ y.
    unplaced_steps.moves_chain _ (moved_name y.0) (λ domain.
    unplaced_steps.moves_chain _ (moved_pairs (closing s) true y.1) (λ ps.
    unplaced_steps.moves_made
    (λ vars. record { name = text; domain = domain; domain_span = span_of y.0; vars = vars; pairs = ps }) _
    unplaced_steps.moves_names (λ vars. rw (unplaced_steps.span_nowhere y.0) refl))))))

-- a list that begins with a certain word is the same without places where its parts are
moved_file_list : {A : Type 0} {u : A → A} (what : What) (key : List ℕ) (parts : Span → Forest → Parse A) (n : Node)
    → ((s : Span) (f : Forest) → unplaced_steps.Moves u (parts s f) (parts nowhere (unplaced.forest f)))
    → unplaced_steps.Moves u (grammar.file_list what key parts n) (grammar.file_list what key parts (unplaced.node n))
unfolding grammar.file_list
moved_file_list what key parts n h =
    rw (unplaced_steps.span_nowhere n)
    (unplaced_steps.moves_begun n _ (λ text rest. unplaced_steps.moves_choice (bytes_eq text key) (h (span_of n) rest)
    (unplaced_steps.moves_refusal _))
    (unplaced_steps.moves_refusal _))

-- a file is the same without places where its node is
moved_file : {A : Type 0} {u : A → A} (what : What) (read : Node → Parse A) (len : ℕ) (f : Forest)
    → ((n : Node) → unplaced_steps.Moves u (read n) (read (unplaced.node n)))
    → unplaced_steps.Moves u (grammar.file what read len f) (grammar.file what read 0 (unplaced.forest f))
unfolding grammar.file
moved_file what read len f h =
    unplaced_steps.moves_chain _ (unplaced_steps.moves_next what (grammar.end_of_file len) f) (λ x.
    unplaced_steps.moves_chain _ (h x.0) (λ value.
    unplaced_steps.moves_chain _ (unplaced_steps.moves_ended x.1) (λ y.
    unplaced_steps.moves_pure value)))

-- a forest without places has the same form as a domain, up to spans
pub domain_unplaced : (len : ℕ) (f : Forest)
    → grammar.domain_form 0 (unplaced.forest f) ≡ unplaced_steps.unplaced_result unplaced.domain
    (grammar.domain_form len f)
domain_unplaced len f =
    unplaced_steps.moved_result
    (moved_file wants.Domain (grammar.file_list wants.Domain (codes "defdomain") grammar.domain_list) len f
    (λ n. moved_file_list wants.Domain (codes "defdomain") grammar.domain_list n moved_domain_list))

-- a forest without places has the same form as a problem, up to spans
pub problem_unplaced : (len : ℕ) (f : Forest)
    → grammar.problem_form 0 (unplaced.forest f) ≡ unplaced_steps.unplaced_result unplaced.problem
    (grammar.problem_form len f)
problem_unplaced len f =
    unplaced_steps.moved_result
    (moved_file wants.Problem (grammar.file_list wants.Problem (codes "defproblem") grammar.problem_list) len f
    (λ n. moved_file_list wants.Problem (codes "defproblem") grammar.problem_list n moved_problem_list))

-- a domain that is the form of a forest without places is, up to spans, the form of the forest
pub domain_placed : (len : ℕ) (g : Forest) (v : syntax.Domain) → grammar.domain_form 0 (unplaced.forest g) ≡ Ok v
    → (e : syntax.Domain) × (grammar.domain_form len g ≡ Ok e) × (unplaced.domain e ≡ v)
domain_placed len g v e = unplaced_steps.placed_value unplaced.domain (grammar.domain_form len g) v
    (sym (domain_unplaced len g) ∙ e)

-- a problem that is the form of a forest without places is, up to spans, the form of the forest
pub problem_placed : (len : ℕ) (g : Forest) (v : syntax.Problem) → grammar.problem_form 0 (unplaced.forest g) ≡ Ok v
    → (e : syntax.Problem) × (grammar.problem_form len g ≡ Ok e) × (unplaced.problem e ≡ v)
problem_placed len g v e = unplaced_steps.placed_value unplaced.problem (grammar.problem_form len g) v
    (sym (problem_unplaced len g) ∙ e)
