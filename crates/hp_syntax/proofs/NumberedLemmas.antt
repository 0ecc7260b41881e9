-- The forms of domains and problems are numbered.
use Rattle.std.proofs.Common.{◌≡◌, ℕ, ◌<◌, Bool, true, false, List, length, Option, Some, None, refl, sym, subst, bytes_eq, codes}
use Rattle.std.specs.Prelude.{Ok}
use Rattle.std.specs.List.{All}
use Rattle.std.proofs.lemmas.List.Elements.{All-cons}
use Rattle.hp_syntax.specs.declared.pattern.Span.{Span}
use Rattle.hp_syntax.specs.declared.pattern.Tail.{Tail}
use Rattle.hp_syntax.specs.declared.form.What.{What}
use Rattle.hp_syntax.specs.declared.form.What.TheVariants as wants
use Rattle.hp_syntax.specs.Forest.{Node, Word, Numeral, Group, Forest, Bare, Grow, span_of}
use Rattle.hp_syntax.specs.Names.{is_variable, is_plain, is_primitive, is_compound, is_branch_name}
use Rattle.hp_syntax.specs.Steps.{Parse, Names, ◌<$>◌, closing, begun, is_word}
use Rattle.hp_syntax.specs.Grammar as grammar
use Rattle.hp_syntax.specs.Syntax as syntax
use Rattle.hp_syntax.specs.Numbered as numbered
use Rattle.hp_syntax.proofs.NumberedSteps as numbered_steps

-- patterns and a tail are numbered
abbrev PartsBelow : ℕ → syntax.Patterns × Option Tail → Type 0
PartsBelow count x = numbered.PatternsBelow count x.0 × numbered.TailBelow count x.1

-- the names of a rule's variables
abbrev rule_names : syntax.Rule → Names
rule_names (syntax.Does o) = o.vars
rule_names (syntax.Refines m) = m.vars
rule_names (syntax.Concludes a) = a.vars

-- the parts of a rule are numbered
abbrev RuleBelow : ℕ → syntax.Rule → Type 0
RuleBelow count (syntax.Does o) =
    numbered.AtomBelow count o.head × numbered.PreconditionBelow count o.pre × All (numbered.EffectBelow count) o.dels
    × All (numbered.EffectBelow count) o.adds × numbered.PatternBelow count o.cost
RuleBelow count (syntax.Refines m) = numbered.AtomBelow count m.head × All (numbered.BranchBelow count) m.branches
RuleBelow count (syntax.Concludes a) = numbered.AtomBelow count a.head × All (numbered.ClauseBelow count) a.clauses

-- a rule has the names at its end, and is numbered below their count
abbrev IsRuleAt : ℕ → syntax.Rule → Names → Type 0
IsRuleAt count r names = (rule_names r ≡ names) × RuleBelow count r

-- a problem has the names at its end, and is numbered below their count
abbrev IsProblemAt : ℕ → syntax.Problem → Names → Type 0
IsProblemAt count p names = (p.vars ≡ names) × All (numbered.PairBelow count) p.pairs

module _ (most : ℕ) where
  -- ---- names and lists

  -- a name keeps the names of variables
  numbered_name : (n : Node) → numbered_steps.Keeps most (λ x. Unit {0}) (grammar.name n)
  unfolding grammar.name
  numbered_name (Word s text) = numbered_steps.keeps_choice (bytes_eq text (codes ".")) (numbered_steps.keeps_refusal _)
      (numbered_steps.keeps_pure tt)
  numbered_name (Numeral s n) = numbered_steps.keeps_refusal _
  numbered_name (Group s parts) = numbered_steps.keeps_refusal _

  -- the items of a list keep the names of variables
  numbered_items_of : (what : What) (n : Node) → numbered_steps.Keeps most (λ x. Unit {0}) (grammar.list what n)
  unfolding grammar.list
  numbered_items_of what (Word s text) = numbered_steps.keeps_choice (grammar.is_nil text)
      (numbered_steps.keeps_pure tt) (numbered_steps.keeps_refusal _)
  numbered_items_of what (Numeral s n) = numbered_steps.keeps_refusal _
  numbered_items_of what (Group s parts) = numbered_steps.keeps_pure tt

  -- a variable is numbered
  numbered_variable : (n : Node) → numbered_steps.Keeps most (λ v. v < most) (grammar.variable n)
  unfolding grammar.variable
  numbered_variable (Word s text) = numbered_steps.keeps_choice (is_variable text) (numbered_steps.keeps_numbered text)
      (numbered_steps.keeps_refusal _)
  numbered_variable (Numeral s n) = numbered_steps.keeps_refusal _
  numbered_variable (Group s parts) = numbered_steps.keeps_refusal _

  -- the variables of a list are numbered
  numbered_variables : (n : Node) → numbered_steps.Keeps most (numbered.AllBelow most) (grammar.variables n)
  unfolding grammar.variables
  numbered_variables (Word s text) =
      numbered_steps.keeps_choice (grammar.is_nil text) (numbered_steps.keeps_none (λ v. v < most))
      (numbered_steps.keeps_choice (is_variable text) (numbered_steps.keeps_one _ (numbered_steps.keeps_numbered text))
      (numbered_steps.keeps_refusal _))
  numbered_variables (Numeral s n) = numbered_steps.keeps_refusal _
  numbered_variables (Group s parts) = numbered_steps.keeps_each _ parts numbered_variable

  -- ---- terms

  -- a word as a term is numbered
  numbered_word : (s : Span) (text : List ℕ) → numbered_steps.Keeps most (numbered.PatternBelow most)
      (grammar.word_term s text)
  unfolding grammar.word_term
  numbered_word s text =
      numbered_steps.keeps_choice (bytes_eq text (codes ".")) (numbered_steps.keeps_refusal _)
      (numbered_steps.keeps_choice (grammar.is_nil text) (numbered_steps.keeps_pure (tt, tt))
      (numbered_steps.keeps_choice (is_variable text) (numbered_steps.keeps_made (syntax.Variable s)
      (numbered_steps.keeps_numbered text) (λ v h. h)) (numbered_steps.keeps_pure tt)))

  -- a word as a tail is numbered
  numbered_word_tail : (s : Span) (text : List ℕ) → numbered_steps.Keeps most (PartsBelow most)
      (grammar.word_tail s text)
  unfolding grammar.word_tail
  numbered_word_tail s text =
      numbered_steps.keeps_choice (grammar.is_nil text) (numbered_steps.keeps_pure (tt, tt))
      (numbered_steps.keeps_choice (is_variable text) (numbered_steps.keeps_made (grammar.tail_at s)
      (numbered_steps.keeps_numbered text) (λ v h. (tt, h)))
      (numbered_steps.keeps_refusal _))

  mutual
    unfolding grammar.term grammar.list_term grammar.items grammar.dotted grammar.tail grammar.list_tail grammar.called
        grammar.terms

    -- a term is numbered
    numbered_term : (setting : grammar.Setting) (n : Node) → numbered_steps.Keeps most (numbered.PatternBelow most)
        (grammar.term setting n)
    numbered_term setting (Word s text) = numbered_word s text
    numbered_term setting (Numeral s n) = numbered_steps.keeps_pure tt
    numbered_term setting (Group s parts) = numbered_list setting s parts

    -- a list as a term is numbered
    numbered_list : (setting : grammar.Setting) (s : Span) (f : Forest)
        → numbered_steps.Keeps most (numbered.PatternBelow most) (grammar.list_term setting s f)
    numbered_list setting s Bare = numbered_steps.keeps_pure (tt, tt)
    numbered_list setting s (Grow n rest) =
        numbered_steps.keeps_choice (is_word (codes "call") n) (numbered_call setting s rest)
        (numbered_steps.keeps_chain (numbered_term setting n)
        (λ first. numbered_steps.keeps_chain (numbered_items setting (closing s) rest)
        (λ others. numbered_steps.keeps_pure (λ h k. ((k, h.0), h.1)))))

    -- terms with a tail are numbered
    numbered_items : (setting : grammar.Setting) (end : Span) (f : Forest)
        → numbered_steps.Keeps most (PartsBelow most) (grammar.items setting end f)
    numbered_items setting end Bare = numbered_steps.keeps_pure (tt, tt)
    numbered_items setting end (Grow n rest) =
        numbered_steps.keeps_choice (is_word (codes ".") n) (numbered_dotted setting end rest)
        (numbered_steps.keeps_chain (numbered_term setting n)
        (λ first. numbered_steps.keeps_chain (numbered_items setting end rest)
        (λ others. numbered_steps.keeps_pure (λ h k. ((k, h.0), h.1)))))

    -- the tail behind a dot is numbered
    numbered_dotted : (setting : grammar.Setting) (end : Span) (f : Forest)
        → numbered_steps.Keeps most (PartsBelow most) (grammar.dotted setting end f)
    numbered_dotted setting end Bare = numbered_steps.keeps_refusal _
    numbered_dotted setting end (Grow n rest) =
        numbered_steps.keeps_chain (numbered_tail setting n) (λ behind. numbered_steps.keeps_then
        (numbered_steps.keeps_ended rest) (λ x. numbered_steps.keeps_pure (λ h. h)))

    -- a tail is numbered
    numbered_tail : (setting : grammar.Setting) (n : Node) → numbered_steps.Keeps most (PartsBelow most)
        (grammar.tail setting n)
    numbered_tail setting (Word s text) = numbered_word_tail s text
    numbered_tail setting (Numeral s n) = numbered_steps.keeps_refusal _
    numbered_tail setting (Group s parts) = numbered_list_tail setting s parts

    -- a list as a tail is numbered
    numbered_list_tail : (setting : grammar.Setting) (s : Span) (f : Forest)
        → numbered_steps.Keeps most (PartsBelow most) (grammar.list_tail setting s f)
    numbered_list_tail setting s Bare = numbered_steps.keeps_pure (tt, tt)
    numbered_list_tail setting s (Grow n rest) =
        numbered_steps.keeps_choice (is_word (codes "call") n) (numbered_steps.keeps_refusal _)
        (numbered_steps.keeps_chain (numbered_term setting n)
        (λ first. numbered_steps.keeps_chain (numbered_items setting (closing s) rest)
        (λ others. numbered_steps.keeps_pure (λ h k. ((k, h.0), h.1)))))

    -- a call is numbered
    numbered_call : (setting : grammar.Setting) (s : Span) (f : Forest)
        → numbered_steps.Keeps most (numbered.PatternBelow most) (grammar.called setting s f)
    numbered_call grammar.InProblem s rest = numbered_steps.keeps_refusal _
    numbered_call grammar.InRule s Bare = numbered_steps.keeps_refusal _
    numbered_call grammar.InRule s (Grow n rest) =
        numbered_steps.keeps_then (numbered_name n) (λ text. numbered_steps.keeps_chain (numbered_terms rest)
        (λ args. numbered_steps.keeps_pure (λ h. h)))

    -- terms are numbered
    numbered_terms : (f : Forest) → numbered_steps.Keeps most (numbered.PatternsBelow most) (grammar.terms f)
    numbered_terms Bare = numbered_steps.keeps_pure tt
    numbered_terms (Grow n rest) =
        numbered_steps.keeps_chain (numbered_term grammar.InRule n)
        (λ first. numbered_steps.keeps_chain (numbered_terms rest) (λ others. numbered_steps.keeps_pure
        (λ h k. (k, h))))

  -- ---- atoms

  -- an atom with its name is numbered
  numbered_named_atom : (setting : grammar.Setting) (s : Span) (text : List ℕ) (rest : Forest)
      → numbered_steps.Keeps most (numbered.AtomBelow most) (grammar.named_atom setting s text rest)
  unfolding grammar.named_atom
  numbered_named_atom setting s text rest =
      numbered_steps.keeps_made (grammar.make_atom s text) (numbered_items setting (closing s) rest) (λ x h. h)

  -- a list that begins with a fitting name is numbered
  numbered_headed : (what : What) (fits : List ℕ → Bool) (setting : grammar.Setting) (n : Node)
      → numbered_steps.Keeps most (numbered.AtomBelow most) (grammar.headed what fits setting n)
  unfolding grammar.headed
  numbered_headed what fits setting n =
      numbered_steps.keeps_begun (begun n)
      (λ text rest. numbered_steps.keeps_choice (fits text) (numbered_named_atom setting (span_of n) text rest)
      (numbered_steps.keeps_refusal _))
      (numbered_steps.keeps_refusal _)

  -- an atom is numbered
  numbered_atom : (setting : grammar.Setting) (n : Node) → numbered_steps.Keeps most (numbered.AtomBelow most)
      (grammar.atom setting n)
  numbered_atom = numbered_headed wants.Atom is_plain

  -- a list of atoms is numbered
  numbered_atoms : (setting : grammar.Setting) (n : Node) → numbered_steps.Keeps most (All (numbered.AtomBelow most))
      (grammar.atoms setting n)
  unfolding grammar.atoms
  numbered_atoms setting n = numbered_steps.keeps_then (numbered_items_of wants.Atoms n)
      (λ f. numbered_steps.keeps_each _ f (numbered_atom setting))

  -- ---- expressions

  -- an assignment is numbered
  numbered_assigned : (s : Span) (f : Forest) → numbered_steps.Keeps most (numbered.ExpressionBelow most)
      (grammar.assigned s f)
  unfolding grammar.assigned
  numbered_assigned s rest =
      numbered_steps.keeps_then (numbered_steps.keeps_next wants.Variable (closing s) rest) (λ left.
      numbered_steps.keeps_chain (numbered_variable left.0) (λ v.
      numbered_steps.keeps_then (numbered_steps.keeps_next wants.Term (closing s) left.1) (λ right.
      numbered_steps.keeps_chain (numbered_term grammar.InRule right.0) (λ value.
      numbered_steps.keeps_then (numbered_steps.keeps_ended right.1) (λ x.
      numbered_steps.keeps_pure (λ h k. (k, h)))))))

  mutual
    unfolding grammar.expression grammar.list_expression grammar.expressions grammar.one_expression
        grammar.two_expressions grammar.quantified

    -- an expression is numbered
    numbered_expression : (n : Node) → numbered_steps.Keeps most (numbered.ExpressionBelow most) (grammar.expression n)
    numbered_expression (Word s text) = numbered_steps.keeps_choice (grammar.is_nil text) (numbered_steps.keeps_pure tt)
        (numbered_steps.keeps_refusal _)
    numbered_expression (Numeral s n) = numbered_steps.keeps_refusal _
    numbered_expression (Group s parts) = numbered_list_expression s parts

    -- a list as an expression is numbered
    numbered_list_expression : (s : Span) (f : Forest) → numbered_steps.Keeps most (numbered.ExpressionBelow most)
        (grammar.list_expression s f)
    numbered_list_expression s Bare = numbered_steps.keeps_pure tt
    numbered_list_expression s (Grow (Word t key) rest) =
        numbered_steps.keeps_choice (grammar.is_nil key)
        (numbered_steps.keeps_made (λ es. syntax.And s (syntax.Also (syntax.And t syntax.NoExpression) es))
        (numbered_expressions rest) (λ es h. (tt, h)))
        (numbered_steps.keeps_choice (bytes_eq key (codes "and")) (numbered_steps.keeps_made (syntax.And s)
        (numbered_expressions rest) (λ es h. h))
        (numbered_steps.keeps_choice (bytes_eq key (codes "or")) (numbered_steps.keeps_made (syntax.Or s)
        (numbered_expressions rest) (λ es h. h))
        (numbered_steps.keeps_choice (bytes_eq key (codes "not"))
        (numbered_steps.keeps_made (syntax.Not s) (numbered_one_expression (closing s) rest) (λ e h. h))
        (numbered_steps.keeps_choice (bytes_eq key (codes "imply"))
        (numbered_steps.keeps_made (grammar.implied s) (numbered_two_expressions (closing s) rest)
        (λ both h. (h.0, (h.1, tt))))
        (numbered_steps.keeps_choice (bytes_eq key (codes "forall")) (numbered_quantified s rest)
        (numbered_steps.keeps_choice (bytes_eq key (codes "assign")) (numbered_assigned s rest)
        (numbered_steps.keeps_choice (bytes_eq key (codes "call")) (numbered_steps.keeps_made (syntax.Test s)
        (numbered_call grammar.InRule s rest) (λ x h. h))
        (numbered_steps.keeps_choice (is_plain key) (numbered_steps.keeps_made (syntax.Holds s)
        (numbered_named_atom grammar.InRule s key rest) (λ x h. h))
        (numbered_steps.keeps_refusal _)))))))))
    numbered_list_expression s (Grow (Numeral t n) rest) = numbered_steps.keeps_refusal _
    numbered_list_expression s (Grow (Group t parts) rest) =
        numbered_steps.keeps_chain (numbered_list_expression t parts)
        (λ first. numbered_steps.keeps_chain (numbered_expressions rest)
        (λ others. numbered_steps.keeps_pure (λ h k. (k, h))))

    -- expressions are numbered
    numbered_expressions : (f : Forest) → numbered_steps.Keeps most (numbered.ExpressionsBelow most)
        (grammar.expressions f)
    numbered_expressions Bare = numbered_steps.keeps_pure tt
    numbered_expressions (Grow n rest) =
        numbered_steps.keeps_chain (numbered_expression n)
        (λ first. numbered_steps.keeps_chain (numbered_expressions rest)
        (λ others. numbered_steps.keeps_pure (λ h k. (k, h))))

    -- one expression is numbered
    numbered_one_expression : (end : Span) (f : Forest) → numbered_steps.Keeps most (numbered.ExpressionBelow most)
        (grammar.one_expression end f)
    numbered_one_expression end Bare = numbered_steps.keeps_refusal _
    numbered_one_expression end (Grow n rest) =
        numbered_steps.keeps_chain (numbered_expression n) (λ e. numbered_steps.keeps_then
        (numbered_steps.keeps_ended rest) (λ x. numbered_steps.keeps_pure (λ h. h)))

    -- two expressions are numbered
    numbered_two_expressions : (end : Span) (f : Forest)
        → numbered_steps.Keeps most (λ both. numbered.ExpressionBelow most both.0
        × numbered.ExpressionBelow most both.1) (grammar.two_expressions end f)
    numbered_two_expressions end Bare = numbered_steps.keeps_refusal _
    numbered_two_expressions end (Grow n rest) =
        numbered_steps.keeps_chain (numbered_expression n)
        (λ first. numbered_steps.keeps_chain (numbered_one_expression end rest)
        (λ second. numbered_steps.keeps_pure (λ h k. (k, h))))

    -- a quantified expression is numbered
    numbered_quantified : (s : Span) (f : Forest) → numbered_steps.Keeps most (numbered.ExpressionBelow most)
        (grammar.quantified s f)
    numbered_quantified s Bare = numbered_steps.keeps_refusal _
    numbered_quantified s (Grow n rest) =
        numbered_steps.keeps_chain (numbered_variables n)
        (λ vs. numbered_steps.keeps_chain (numbered_two_expressions (closing s) rest)
        (λ both. numbered_steps.keeps_pure (λ h k. (k, h.0, h.1))))

  -- ---- preconditions

  -- a conjunction of numbered expressions is numbered
  numbered_gathered : (s : Span) (es : syntax.Expressions) → numbered.ExpressionsBelow most es
      → numbered.ExpressionBelow most (grammar.gathered s es)
  numbered_gathered s syntax.NoExpression h = tt
  numbered_gathered s (syntax.Also e syntax.NoExpression) h = h.0
  numbered_gathered s (syntax.Also e (syntax.Also f es)) h = h

  -- a sorted precondition is numbered
  numbered_sorted : (s : Span) (f : Forest) → numbered_steps.Keeps most (numbered.PreconditionBelow most)
      (grammar.sorted s f)
  unfolding grammar.sorted
  numbered_sorted s rest =
      numbered_steps.keeps_then (numbered_steps.keeps_next wants.Variable (closing s) rest) (λ by.
      numbered_steps.keeps_chain (numbered_variable by.0) (λ v.
      numbered_steps.keeps_chain (numbered_expressions (grammar.order by.1).1) (λ es.
      numbered_steps.keeps_pure (λ h k. (k, numbered_gathered s es h)))))

  -- an expression as a precondition is numbered
  numbered_plain : (s : Span) (f : Forest) → numbered_steps.Keeps most (numbered.PreconditionBelow most)
      (syntax.Plain <$> grammar.list_expression s f)
  numbered_plain s f = numbered_steps.keeps_made syntax.Plain (numbered_list_expression s f) (λ e h. h)

  -- a list as a precondition is numbered
  numbered_list_precondition : (s : Span) (f : Forest) → numbered_steps.Keeps most (numbered.PreconditionBelow most)
      (grammar.list_precondition s f)
  unfolding grammar.list_precondition
  numbered_list_precondition s Bare = numbered_plain s Bare
  numbered_list_precondition s (Grow (Word t key) rest) =
      numbered_steps.keeps_choice (bytes_eq key (codes ":first"))
      (numbered_steps.keeps_made (λ es. syntax.First (grammar.gathered s es)) (numbered_expressions rest)
      (numbered_gathered s))
      (numbered_steps.keeps_choice (bytes_eq key (codes ":sort-by")) (numbered_sorted s rest)
      (numbered_plain s (Grow (Word t key) rest)))
  numbered_list_precondition s (Grow (Numeral t n) rest) = numbered_plain s (Grow (Numeral t n) rest)
  numbered_list_precondition s (Grow (Group t parts) rest) = numbered_plain s (Grow (Group t parts) rest)

  -- a precondition is numbered
  numbered_precondition : (n : Node) → numbered_steps.Keeps most (numbered.PreconditionBelow most)
      (grammar.precondition n)
  unfolding grammar.precondition
  numbered_precondition (Word s text) = numbered_steps.keeps_choice (grammar.is_nil text) (numbered_steps.keeps_pure tt)
      (numbered_steps.keeps_refusal _)
  numbered_precondition (Numeral s n) = numbered_steps.keeps_refusal _
  numbered_precondition (Group s parts) = numbered_list_precondition s parts

  -- ---- tasks

  -- a task is numbered
  numbered_task : (setting : grammar.Setting) (s : Span) (b : Bool) (text : List ℕ) (rest : Forest)
      → numbered_steps.Keeps most (numbered.TasksBelow most) (grammar.task setting s b text rest)
  numbered_task setting s b text rest = numbered_steps.keeps_made (λ a. syntax.Task a b)
      (numbered_named_atom setting s text rest) (λ a h. h)

  -- an immediate task is numbered
  numbered_immediate : (setting : grammar.Setting) (s : Span) (f : Forest)
      → numbered_steps.Keeps most (numbered.TasksBelow most) (grammar.immediate setting s f)
  unfolding grammar.immediate
  numbered_immediate setting s Bare = numbered_steps.keeps_refusal _
  numbered_immediate setting s (Grow (Word t text) rest) =
      numbered_steps.keeps_choice (is_plain text) (numbered_task setting s true text rest)
      (numbered_steps.keeps_refusal _)
  numbered_immediate setting s (Grow (Numeral t n) rest) = numbered_steps.keeps_refusal _
  numbered_immediate setting s (Grow (Group t parts) rest) = numbered_steps.keeps_refusal _

  mutual
    unfolding grammar.tasks grammar.list_tasks grammar.task_list

    -- a task or a list of them is numbered
    numbered_tasks : (setting : grammar.Setting) (n : Node) → numbered_steps.Keeps most (numbered.TasksBelow most)
        (grammar.tasks setting n)
    numbered_tasks setting (Word s text) = numbered_steps.keeps_choice (grammar.is_nil text)
        (numbered_steps.keeps_pure tt) (numbered_steps.keeps_refusal _)
    numbered_tasks setting (Numeral s n) = numbered_steps.keeps_refusal _
    numbered_tasks setting (Group s parts) = numbered_list_tasks setting s parts

    -- a list as tasks is numbered
    numbered_list_tasks : (setting : grammar.Setting) (s : Span) (f : Forest)
        → numbered_steps.Keeps most (numbered.TasksBelow most) (grammar.list_tasks setting s f)
    numbered_list_tasks setting s Bare = numbered_steps.keeps_pure tt
    numbered_list_tasks setting s (Grow (Word t key) rest) =
        numbered_steps.keeps_choice (grammar.is_nil key)
        (numbered_steps.keeps_made (λ ts. syntax.Ordered (syntax.Then (syntax.Ordered syntax.NoTasks) ts))
        (numbered_task_list setting rest) (λ ts h. (tt, h)))
        (numbered_steps.keeps_choice (bytes_eq key (codes ":ordered"))
        (numbered_steps.keeps_made syntax.Ordered (numbered_task_list setting rest) (λ ts h. h))
        (numbered_steps.keeps_choice (bytes_eq key (codes ":unordered"))
        (numbered_steps.keeps_made syntax.Unordered (numbered_task_list setting rest) (λ ts h. h))
        (numbered_steps.keeps_choice (bytes_eq key (codes ":immediate")) (numbered_immediate setting s rest)
        (numbered_steps.keeps_choice (is_plain key) (numbered_task setting s false key rest)
        (numbered_steps.keeps_refusal _)))))
    numbered_list_tasks setting s (Grow (Numeral t n) rest) = numbered_steps.keeps_refusal _
    numbered_list_tasks setting s (Grow (Group t parts) rest) =
        numbered_steps.keeps_chain (numbered_list_tasks setting t parts)
        (λ first. numbered_steps.keeps_chain (numbered_task_list setting rest)
        (λ others. numbered_steps.keeps_pure (λ h k. (k, h))))

    -- tasks in a list are numbered
    numbered_task_list : (setting : grammar.Setting) (f : Forest)
        → numbered_steps.Keeps most (numbered.TaskListBelow most) (grammar.task_list setting f)
    numbered_task_list setting Bare = numbered_steps.keeps_pure tt
    numbered_task_list setting (Grow n rest) =
        numbered_steps.keeps_chain (numbered_tasks setting n)
        (λ first. numbered_steps.keeps_chain (numbered_task_list setting rest)
        (λ others. numbered_steps.keeps_pure (λ h k. (k, h))))

  -- ---- effects

  -- a protection is numbered
  numbered_protection : (s : Span) (f : Forest) → numbered_steps.Keeps most (numbered.EffectBelow most)
      (grammar.protection s f)
  unfolding grammar.protection
  numbered_protection s rest =
      numbered_steps.keeps_then (numbered_steps.keeps_next wants.Atom (closing s) rest) (λ x.
      numbered_steps.keeps_chain (numbered_atom grammar.InRule x.0) (λ a.
      numbered_steps.keeps_then (numbered_steps.keeps_ended x.1) (λ y.
      numbered_steps.keeps_pure (λ h. h))))

  -- a quantified effect is numbered
  numbered_for_each : (s : Span) (f : Forest) → numbered_steps.Keeps most (numbered.EffectBelow most)
      (grammar.for_each s f)
  unfolding grammar.for_each
  numbered_for_each s rest =
      numbered_steps.keeps_then (numbered_steps.keeps_next wants.Variable (closing s) rest) (λ x.
      numbered_steps.keeps_chain (numbered_variables x.0) (λ vs.
      numbered_steps.keeps_then (numbered_steps.keeps_next wants.Expr (closing s) x.1) (λ y.
      numbered_steps.keeps_chain (numbered_expression y.0) (λ e.
      numbered_steps.keeps_then (numbered_steps.keeps_next wants.Atoms (closing s) y.1) (λ z.
      numbered_steps.keeps_chain (numbered_atoms grammar.InRule z.0) (λ changed.
      numbered_steps.keeps_then (numbered_steps.keeps_ended z.1) (λ u.
      numbered_steps.keeps_pure (λ h k l. (l, k, h)))))))))

  -- an effect with its name is numbered
  numbered_keyed_effect : (s : Span) (key : List ℕ) (f : Forest)
      → numbered_steps.Keeps most (numbered.EffectBelow most) (grammar.keyed_effect s key f)
  unfolding grammar.keyed_effect
  numbered_keyed_effect s key rest =
      numbered_steps.keeps_choice (bytes_eq key (codes ":protection")) (numbered_protection s rest)
      (numbered_steps.keeps_choice (bytes_eq key (codes "forall")) (numbered_for_each s rest)
      (numbered_steps.keeps_choice (is_plain key) (numbered_steps.keeps_made syntax.Change
      (numbered_named_atom grammar.InRule s key rest) (λ a h. h))
      (numbered_steps.keeps_refusal _)))

  -- an effect is numbered
  numbered_effect : (n : Node) → numbered_steps.Keeps most (numbered.EffectBelow most) (grammar.effect n)
  unfolding grammar.effect
  numbered_effect n = numbered_steps.keeps_begun (begun n) (numbered_keyed_effect (span_of n))
      (numbered_steps.keeps_refusal _)

  -- a list of effects is numbered
  numbered_effects : (n : Node) → numbered_steps.Keeps most (All (numbered.EffectBelow most)) (grammar.effects n)
  unfolding grammar.effects
  numbered_effects n = numbered_steps.keeps_then (numbered_items_of wants.Effects n)
      (λ f. numbered_steps.keeps_each _ f numbered_effect)

  -- ---- rules

  -- a cost is numbered
  numbered_cost : (s : Span) (f : Forest) → numbered_steps.Keeps most (numbered.PatternBelow most) (grammar.cost s f)
  unfolding grammar.cost
  numbered_cost s Bare = numbered_steps.keeps_pure tt
  numbered_cost s (Grow n rest) =
      numbered_steps.keeps_chain (numbered_term grammar.InRule n) (λ t. numbered_steps.keeps_then
      (numbered_steps.keeps_ended rest) (λ x. numbered_steps.keeps_pure (λ h. h)))

  -- an operator is numbered
  numbered_operator : (s : Span) (f : Forest) → numbered_steps.Leaves most (IsRuleAt most) (grammar.operator s f)
  unfolding grammar.operator
  numbered_operator s rest =
      numbered_steps.keeps_then (numbered_steps.keeps_next wants.Head (closing s) rest) (λ h.
      numbered_steps.keeps_chain (numbered_headed wants.Head is_primitive grammar.InRule h.0) (λ head.
      numbered_steps.keeps_then (numbered_steps.keeps_next wants.Pre (closing s) h.1) (λ p.
      numbered_steps.keeps_chain (numbered_precondition p.0) (λ pre.
      numbered_steps.keeps_then (numbered_steps.keeps_next wants.Effects (closing s) p.1) (λ d.
      numbered_steps.keeps_chain (numbered_effects d.0) (λ dels.
      numbered_steps.keeps_then (numbered_steps.keeps_next wants.Effects (closing s) d.1) (λ a.
      numbered_steps.keeps_chain (numbered_effects a.0) (λ adds.
      numbered_steps.keeps_chain (numbered_cost s a.1) (λ price.
      numbered_steps.leaves_names (λ names c b a p h. (refl, (h, p, a, b, c))))))))))))

  -- a branch's name keeps the names of variables
  numbered_branch_name : (n : Node) → numbered_steps.Keeps most (λ x. Unit {0}) (grammar.branch_name n)
  unfolding grammar.branch_name
  numbered_branch_name (Word s text) = numbered_steps.keeps_choice (is_branch_name text) (numbered_steps.keeps_pure tt)
      (numbered_steps.keeps_refusal _)
  numbered_branch_name (Numeral s n) = numbered_steps.keeps_refusal _
  numbered_branch_name (Group s parts) = numbered_steps.keeps_refusal _

  mutual
    unfolding grammar.branches grammar.named_branch grammar.branch_tasks

    -- the branches of a method are numbered
    numbered_branches : (end : Span) (is_first : Bool) (f : Forest)
        → numbered_steps.Keeps most (All (numbered.BranchBelow most)) (grammar.branches end is_first f)
    numbered_branches end is_first Bare = numbered_steps.keeps_choice is_first (numbered_steps.keeps_refusal _)
        (numbered_steps.keeps_none (numbered.BranchBelow most))
    numbered_branches end is_first (Grow n rest) =
        numbered_steps.keeps_choice (grammar.begins_named n)
        (numbered_steps.keeps_then (numbered_branch_name n) (λ text. numbered_named_branch end text rest))
        (numbered_steps.keeps_chain (numbered_precondition n) (λ p. numbered_branch_tasks end None p rest))

    -- a branch with its name is numbered
    numbered_named_branch : (end : Span) (text : List ℕ) (f : Forest)
        → numbered_steps.Keeps most (All (numbered.BranchBelow most)) (grammar.named_branch end text f)
    numbered_named_branch end text Bare = numbered_steps.keeps_refusal _
    numbered_named_branch end text (Grow n rest) =
        numbered_steps.keeps_chain (numbered_precondition n) (λ p. numbered_branch_tasks end (Some text) p rest)

    -- a branch's tasks and the branches behind it is numbered
    numbered_branch_tasks : (end : Span) (text : Option (List ℕ)) (p : syntax.Precondition) (f : Forest)
        → numbered_steps.Keeps most (λ bs. numbered.PreconditionBelow most p → All (numbered.BranchBelow most) bs)
        (grammar.branch_tasks end text p f)
    numbered_branch_tasks end text p Bare = numbered_steps.keeps_refusal _
    numbered_branch_tasks end text p (Grow n rest) =
        numbered_steps.keeps_chain (numbered_tasks grammar.InRule n)
        (λ t. numbered_steps.keeps_chain (numbered_branches end false rest) (λ others.
        numbered_steps.keeps_pure (λ h k l. All-cons (numbered.BranchBelow most) (grammar.make_branch text p t) others
        (l, k) h)))

  -- a method is numbered
  numbered_method : (s : Span) (f : Forest) → numbered_steps.Leaves most (IsRuleAt most) (grammar.method s f)
  unfolding grammar.method
  numbered_method s rest =
      numbered_steps.keeps_then (numbered_steps.keeps_next wants.Head (closing s) rest) (λ h.
      numbered_steps.keeps_chain (numbered_headed wants.Head is_compound grammar.InRule h.0) (λ head.
      numbered_steps.keeps_chain (numbered_branches (closing s) true h.1) (λ bs.
      numbered_steps.leaves_names (λ names k l. (refl, (l, k))))))

  mutual
    unfolding grammar.clauses grammar.named_clause

    -- the branches of an axiom are numbered
    numbered_clauses : (end : Span) (is_first : Bool) (f : Forest)
        → numbered_steps.Keeps most (All (numbered.ClauseBelow most)) (grammar.clauses end is_first f)
    numbered_clauses end is_first Bare = numbered_steps.keeps_choice is_first (numbered_steps.keeps_refusal _)
        (numbered_steps.keeps_none (numbered.ClauseBelow most))
    numbered_clauses end is_first (Grow n rest) =
        numbered_steps.keeps_choice (grammar.begins_named n)
        (numbered_steps.keeps_then (numbered_branch_name n) (λ text. numbered_named_clause end text rest))
        (numbered_steps.keeps_chain (numbered_expression n) (λ e. numbered_steps.keeps_chain
        (numbered_clauses end false rest) (λ others.
        numbered_steps.keeps_pure (λ h k. All-cons (numbered.ClauseBelow most)
        (grammar.make_clause None e) others k h))))

    -- a branch of an axiom with its name is numbered
    numbered_named_clause : (end : Span) (text : List ℕ) (f : Forest)
        → numbered_steps.Keeps most (All (numbered.ClauseBelow most)) (grammar.named_clause end text f)
    numbered_named_clause end text Bare = numbered_steps.keeps_refusal _
    numbered_named_clause end text (Grow n rest) =
        numbered_steps.keeps_chain (numbered_expression n) (λ e. numbered_steps.keeps_chain
        (numbered_clauses end false rest) (λ others.
        numbered_steps.keeps_pure (λ h k. All-cons (numbered.ClauseBelow most)
        (grammar.make_clause (Some text) e) others k h)))

  -- an axiom is numbered
  numbered_axiom : (s : Span) (f : Forest) → numbered_steps.Leaves most (IsRuleAt most) (grammar.axiom_rule s f)
  unfolding grammar.axiom_rule
  numbered_axiom s rest =
      numbered_steps.keeps_then (numbered_steps.keeps_next wants.Head (closing s) rest) (λ h.
      numbered_steps.keeps_chain (numbered_headed wants.Head is_plain grammar.InRule h.0) (λ head.
      numbered_steps.keeps_chain (numbered_clauses (closing s) true h.1) (λ cs.
      numbered_steps.leaves_names (λ names k l. (refl, (l, k))))))

  -- a rule with its name is numbered
  numbered_keyed_rule : (s : Span) (key : List ℕ) (f : Forest)
      → numbered_steps.Leaves most (IsRuleAt most) (grammar.keyed_rule s key f)
  unfolding grammar.keyed_rule
  numbered_keyed_rule s key rest =
      numbered_steps.keeps_choice (bytes_eq key (codes ":operator")) (numbered_operator s rest)
      (numbered_steps.keeps_choice (bytes_eq key (codes ":method")) (numbered_method s rest)
      (numbered_steps.keeps_choice (bytes_eq key (codes ":-")) (numbered_axiom s rest)
      (numbered_steps.keeps_refusal _)))

  -- ---- problems

  mutual
    unfolding grammar.pairs grammar.pair_tasks

    -- the pairs of a problem are numbered
    numbered_pairs : (end : Span) (is_first : Bool) (f : Forest)
        → numbered_steps.Keeps most (All (numbered.PairBelow most)) (grammar.pairs end is_first f)
    numbered_pairs end is_first Bare = numbered_steps.keeps_choice is_first (numbered_steps.keeps_refusal _)
        (numbered_steps.keeps_none (numbered.PairBelow most))
    numbered_pairs end is_first (Grow n rest) =
        numbered_steps.keeps_chain (numbered_atoms grammar.InProblem n) (λ state. numbered_pair_tasks end state rest)

    -- the tasks of a pair and the pairs behind them are numbered
    numbered_pair_tasks : (end : Span) (state : List syntax.Atom) (f : Forest)
        → numbered_steps.Keeps most (λ ps. All (numbered.AtomBelow most) state → All (numbered.PairBelow most) ps)
        (grammar.pair_tasks end state f)
    numbered_pair_tasks end state Bare = numbered_steps.keeps_refusal _
    numbered_pair_tasks end state (Grow n rest) =
        numbered_steps.keeps_chain (numbered_tasks grammar.InProblem n)
        (λ ts. numbered_steps.keeps_chain (numbered_pairs end false rest) (λ others.
        numbered_steps.keeps_pure (λ h k l. All-cons (numbered.PairBelow most) (grammar.make_pair state ts) others
        (l, k) h)))

  -- a problem is numbered by the names at its end
  numbered_problem_list : (s : Span) (f : Forest) → numbered_steps.Leaves most (IsProblemAt most)
      (grammar.problem_list s f)
  unfolding grammar.problem_list
  numbered_problem_list s rest =
      numbered_steps.keeps_then (numbered_steps.keeps_next wants.Name (closing s) rest) (λ x.
      numbered_steps.keeps_then (numbered_name x.0) (λ text.
      numbered_steps.keeps_then (numbered_steps.keeps_next wants.Name (closing s) x.1) (λ y.
      numbered_steps.keeps_then (numbered_name y.0) (λ domain.
      numbered_steps.keeps_chain (numbered_pairs (closing s) true y.1) (λ ps.
      numbered_steps.leaves_names (λ names h. (refl, h)))))))

  -- ---- files

  -- a list that begins with a certain word keeps what its parts keep
  kept_file_list : {A : Type 0} (P : A → Type 0) (what : What) (key : List ℕ) (parts : Span → Forest → Parse A)
      (n : Node)
      → ((s : Span) (f : Forest) → numbered_steps.Keeps most P (parts s f))
      → numbered_steps.Keeps most P (grammar.file_list what key parts n)
  unfolding grammar.file_list
  kept_file_list P what key parts n h =
      numbered_steps.keeps_begun (begun n) (λ text rest. numbered_steps.keeps_choice (bytes_eq text key)
      (h (span_of n) rest) (numbered_steps.keeps_refusal _))
      (numbered_steps.keeps_refusal _)

  -- a file keeps what its node keeps
  kept_file : {A : Type 0} (P : A → Type 0) (what : What) (node : Node → Parse A) (len : ℕ) (f : Forest)
      → ((n : Node) → numbered_steps.Keeps most P (node n)) → numbered_steps.Keeps most P (grammar.file what node len f)
  unfolding grammar.file
  kept_file P what node len f h =
      numbered_steps.keeps_then (numbered_steps.keeps_next what (grammar.end_of_file len) f) (λ x.
      numbered_steps.keeps_chain (h x.0) (λ value. numbered_steps.keeps_then (numbered_steps.keeps_ended x.1)
      (λ y. numbered_steps.keeps_pure (λ k. k))))

-- a rule whose parts are below the number of its names is numbered
whole_rule : (r : syntax.Rule) → RuleBelow (length (rule_names r)) r → numbered.IsNumberedRule r
whole_rule (syntax.Does o) h = record { head = h.0; pre = h.1; dels = h.2; adds = h.3; cost = h.4 }
whole_rule (syntax.Refines m) h = record { head = h.0; branches = h.1 }
whole_rule (syntax.Concludes a) h = record { head = h.0; clauses = h.1 }

-- a rule that is numbered by the names at its end is numbered by its own
rule_at : (r : syntax.Rule) (names : Names) → IsRuleAt (length names) r names → numbered.IsNumberedRule r
rule_at r names h = whole_rule r (subst (λ (x : Names). RuleBelow (length x) r) (sym h.0) h.1)

-- so is a problem
problem_at : (p : syntax.Problem) (names : Names) → IsProblemAt (length names) p names → numbered.IsNumberedProblem p
problem_at p names h = subst (λ (x : Names). All (numbered.PairBelow (length x)) p.pairs) (sym h.0) h.1

-- each rule of a domain is numbered by its own names
numbered_rule : (most : ℕ) (n : Node) → numbered_steps.Keeps most numbered.IsNumberedRule (grammar.rule n)
unfolding grammar.rule
numbered_rule most n =
    numbered_steps.keeps_begun (begun n)
    (λ key rest. numbered_steps.keeps_by_itself
    (numbered_steps.leaves_all IsRuleAt numbered.IsNumberedRule (λ count. numbered_keyed_rule count
    (span_of n) key rest) rule_at))
    (numbered_steps.keeps_refusal _)

-- a domain is numbered
numbered_domain_list : (most : ℕ) (s : Span) (f : Forest) → numbered_steps.Keeps most numbered.IsNumberedDomain
    (grammar.domain_list s f)
unfolding grammar.domain_list
numbered_domain_list most s rest =
    numbered_steps.keeps_then (numbered_steps.keeps_next wants.Name (closing s) rest) (λ x.
    numbered_steps.keeps_then (numbered_name most x.0) (λ text.
    numbered_steps.keeps_then (numbered_steps.keeps_next wants.Rules (closing s) x.1) (λ y.
    numbered_steps.keeps_chain (numbered_steps.keeps_then (numbered_items_of most wants.Rules y.0)
    (λ f. numbered_steps.keeps_each _ f (numbered_rule most)))
    (λ rules.
    numbered_steps.keeps_then (numbered_steps.keeps_ended y.1) (λ z.
    numbered_steps.keeps_pure (λ h. h))))))

-- a problem is numbered by its own names
numbered_whole_problem : (most : ℕ) (s : Span) (f : Forest) → numbered_steps.Keeps most numbered.IsNumberedProblem
    (grammar.problem_list s f)
numbered_whole_problem most s f =
    numbered_steps.leaves_all IsProblemAt numbered.IsNumberedProblem
    (λ count. numbered_problem_list count s f) problem_at most

-- the forms of domains are numbered
pub numbered_domain : (len : ℕ) (f : Forest) (d : syntax.Domain) → grammar.domain_form len f ≡ Ok d
    → numbered.IsNumberedDomain d
numbered_domain len f d e =
    numbered_steps.kept_value numbered.IsNumberedDomain (grammar.file wants.Domain
    (grammar.file_list wants.Domain (codes "defdomain") grammar.domain_list) len f) d
    (λ most. kept_file most numbered.IsNumberedDomain wants.Domain
    (grammar.file_list wants.Domain (codes "defdomain") grammar.domain_list) len f
    (λ n. kept_file_list most numbered.IsNumberedDomain wants.Domain (codes "defdomain") grammar.domain_list n
    (numbered_domain_list most))) e

-- the forms of problems are numbered
pub numbered_problem : (len : ℕ) (f : Forest) (p : syntax.Problem) → grammar.problem_form len f ≡ Ok p
    → numbered.IsNumberedProblem p
numbered_problem len f p e =
    numbered_steps.kept_value numbered.IsNumberedProblem
    (grammar.file wants.Problem (grammar.file_list wants.Problem (codes "defproblem") grammar.problem_list) len f) p
    (λ most. kept_file most numbered.IsNumberedProblem wants.Problem
    (grammar.file_list wants.Problem (codes "defproblem") grammar.problem_list) len f
    (λ n. kept_file_list most numbered.IsNumberedProblem wants.Problem (codes "defproblem") grammar.problem_list n
    (numbered_whole_problem most))) e
