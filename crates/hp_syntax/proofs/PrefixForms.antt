-- The grammar refuses forests alike that are alike up to an offset.
use Rattle.std.proofs.Common.{◌≡◌, ℕ, ◌+◌, ◌<◌, ◌≤◌, Bool, true, false, cond, List, [], ◌∷◌, length, take, Option, Some, None, refl, sym, ap, ◌∙◌, subst, arith, ⊎_elim, bytes_eq, codes}
use Rattle.std.specs.Prelude.{Result, Ok, Err}
use Rattle.hp_syntax.specs.declared.pattern.Span.{Span}
use Rattle.hp_syntax.specs.declared.form.What.{What}
use Rattle.hp_syntax.specs.declared.form.What.TheVariants as wants
use Rattle.hp_syntax.specs.Forest.{Node, Word, Numeral, Group, Forest, Bare, Grow, span_of, IsForest}
use Rattle.hp_syntax.specs.Names.{is_variable, is_plain, is_primitive, is_compound, is_branch_name}
use Rattle.hp_syntax.specs.Steps.{Misform, Parse, Names, ◌>>=◌, ◌<$>◌, pure, Expected, expected, by_itself, closing, is_word, value_in, from_no_names}
use Rattle.hp_syntax.specs.Grammar as grammar
use Rattle.hp_syntax.specs.Syntax.{Atom, Variable, Expression, And, Also, Order, Up, Precondition, Plain, Tasks, Ordered, Then}
use Rattle.hp_syntax.specs.Misforms.{misform_span}
use Rattle.std.proofs.lemmas.Bool.{cases_lt}
use Rattle.hp_syntax.proofs.ForestLemmas.{one_forest}
use Rattle.hp_syntax.proofs.PrefixForests.{cut_texts, whole_texts}
use Rattle.hp_syntax.proofs.PrefixSteps as prefix_steps

-- a list at the head of a list, as an expression
abbrev first_expression : Node → Parse Expression
first_expression (Word s text) = expected wants.Expr s
first_expression (Numeral s n) = expected wants.Expr s
first_expression (Group s parts) = grammar.list_expression s parts

-- a list at the head of a list, as tasks
abbrev first_tasks : grammar.Setting → Node → Parse Tasks
first_tasks setting (Word s text) = expected wants.Tasks s
first_tasks setting (Numeral s n) = expected wants.Tasks s
first_tasks setting (Group s parts) = grammar.list_tasks setting s parts

module _ {at : ℕ} where
  -- ---- names and lists

  -- a name is read alike
  reads_name : (n : Node) → prefix_steps.ReadsNodeAlike at n grammar.name
  unfolding grammar.name
  reads_name (Word s text) = prefix_steps.node_word (λ l. prefix_steps.late_choice (bytes_eq text (codes "."))
      (prefix_steps.late_refusal l) prefix_steps.late_pure)
  reads_name (Numeral s n) = prefix_steps.node_numeral (λ l. prefix_steps.late_refusal l)
  reads_name (Group s f) = prefix_steps.node_group (λ t l. prefix_steps.reads_late (prefix_steps.late_refusal l))

  -- that `nil` has no items is late
  late_nil : {A : Type 0} (K : Forest → Parse A) (b : Bool) (what : What) (s : Span) → at < s.to
      → prefix_steps.IsLate at (K Bare)
      → prefix_steps.IsLate at (cond b (pure Bare) (expected what s) >>= K)
  late_nil K true what s l h = h
  late_nil K false what s l h = prefix_steps.late_refusal l

  -- the items of a list are read alike
  reads_list : {A : Type 0} (what : What) {K : Forest → Parse A} → ((f : Forest) → prefix_steps.ReadsAlike at f K K)
      → (n : Node)
      → prefix_steps.ReadsNodeAlike at n (λ m. grammar.list what m >>= K)
  unfolding grammar.list
  reads_list what {K} h (Word s text) = prefix_steps.node_word
      (λ l. late_nil K (grammar.is_nil text) what s l ((h Bare).beyond tt))
  reads_list what h (Numeral s n) = prefix_steps.node_numeral (λ l. prefix_steps.late_refusal l)
  reads_list what h (Group s f) = prefix_steps.node_group (λ t l. h f)

  -- a variable is read alike
  reads_variable : (n : Node) → prefix_steps.ReadsNodeAlike at n grammar.variable
  unfolding grammar.variable
  reads_variable (Word s text) = prefix_steps.node_word (λ l. prefix_steps.late_choice (is_variable text)
      (prefix_steps.late_numbered text) (prefix_steps.late_refusal l))
  reads_variable (Numeral s n) = prefix_steps.node_numeral (λ l. prefix_steps.late_refusal l)
  reads_variable (Group s f) = prefix_steps.node_group (λ t l. prefix_steps.reads_late (prefix_steps.late_refusal l))

  -- a list of variables is read alike
  reads_variables : (n : Node) → prefix_steps.ReadsNodeAlike at n grammar.variables
  unfolding grammar.variables
  reads_variables (Word s text) =
      prefix_steps.node_word (λ l. prefix_steps.late_choice (grammar.is_nil text) prefix_steps.late_pure
      (prefix_steps.late_choice (is_variable text) (prefix_steps.late_made (λ v. v ∷ [])
      (prefix_steps.late_numbered text)) (prefix_steps.late_refusal l)))
  reads_variables (Numeral s n) = prefix_steps.node_numeral (λ l. prefix_steps.late_refusal l)
  reads_variables (Group s f) = prefix_steps.node_group (λ t l. prefix_steps.reads_each reads_variable f)

  -- ---- terms

  -- a word as a term is late
  late_word : (s : Span) (text : List ℕ) → at < s.to → prefix_steps.IsLate at (grammar.word_term s text)
  unfolding grammar.word_term
  late_word s text l =
      prefix_steps.late_choice (bytes_eq text (codes ".")) (prefix_steps.late_refusal l)
      (prefix_steps.late_choice (grammar.is_nil text) prefix_steps.late_pure
      (prefix_steps.late_choice (is_variable text) (prefix_steps.late_made (Variable s)
      (prefix_steps.late_numbered text)) prefix_steps.late_pure))

  -- a word as a tail is late
  late_word_tail : (s : Span) (text : List ℕ) → at < s.to → prefix_steps.IsLate at (grammar.word_tail s text)
  unfolding grammar.word_tail
  late_word_tail s text l =
      prefix_steps.late_choice (grammar.is_nil text) prefix_steps.late_pure
      (prefix_steps.late_choice (is_variable text) (prefix_steps.late_made (grammar.tail_at s)
      (prefix_steps.late_numbered text)) (prefix_steps.late_refusal l))

  mutual
    unfolding grammar.term grammar.list_term grammar.items grammar.dotted grammar.tail grammar.list_tail grammar.called
        grammar.terms

    -- a term is read alike
    reads_term : (setting : grammar.Setting) (n : Node) → prefix_steps.ReadsNodeAlike at n (grammar.term setting)
    reads_term setting (Word s text) = prefix_steps.node_word (late_word s text)
    reads_term setting (Numeral s n) = prefix_steps.node_numeral (λ l. prefix_steps.late_pure)
    reads_term setting (Group s f) = prefix_steps.node_group (λ t l. reads_list_term setting s t l f)

    -- a list as a term is read alike
    reads_list_term : (setting : grammar.Setting) (s t : Span) → at < s.to → (f : Forest)
        → prefix_steps.ReadsAlike at f (grammar.list_term setting s) (grammar.list_term setting t)
    reads_list_term setting s t l Bare = prefix_steps.reads_late prefix_steps.late_pure
    reads_list_term setting s t l (Grow n f) =
        prefix_steps.reads_grow (prefix_steps.both_choice (is_word (codes "call")) (λ u p. refl)
        (prefix_steps.both_rest (reads_call setting s t l f))
        (prefix_steps.both_then (reads_term setting n)
        (λ first. prefix_steps.reads_last _ _ (reads_items setting (closing s) (closing t) l f)
        (λ others. prefix_steps.late_pure))))

    -- terms with a tail are read alike
    reads_items : (setting : grammar.Setting) (s t : Span) → at < s.to → (f : Forest)
        → prefix_steps.ReadsAlike at f (grammar.items setting s) (grammar.items setting t)
    reads_items setting s t l Bare = prefix_steps.reads_late prefix_steps.late_pure
    reads_items setting s t l (Grow n f) =
        prefix_steps.reads_grow (prefix_steps.both_choice (is_word (codes ".")) (λ u p. refl)
        (prefix_steps.both_rest (reads_dotted setting s t l f))
        (prefix_steps.both_then (reads_term setting n)
        (λ first. prefix_steps.reads_last _ _ (reads_items setting s t l f) (λ others. prefix_steps.late_pure))))

    -- the tail behind a dot is read alike
    reads_dotted : (setting : grammar.Setting) (s t : Span) → at < s.to → (f : Forest)
        → prefix_steps.ReadsAlike at f (grammar.dotted setting s) (grammar.dotted setting t)
    reads_dotted setting s t l Bare = prefix_steps.reads_late (prefix_steps.late_refusal l)
    reads_dotted setting s t l (Grow n f) =
        prefix_steps.reads_grow (prefix_steps.both_then (reads_tail setting n)
        (λ behind. prefix_steps.reads_last _ _ (prefix_steps.reads_ended f) (λ x. prefix_steps.late_pure)))

    -- a tail is read alike
    reads_tail : (setting : grammar.Setting) (n : Node) → prefix_steps.ReadsNodeAlike at n (grammar.tail setting)
    reads_tail setting (Word s text) = prefix_steps.node_word (late_word_tail s text)
    reads_tail setting (Numeral s n) = prefix_steps.node_numeral (λ l. prefix_steps.late_refusal l)
    reads_tail setting (Group s f) = prefix_steps.node_group (λ t l. reads_list_tail setting s t l f)

    -- a list as a tail is read alike
    reads_list_tail : (setting : grammar.Setting) (s t : Span) → at < s.to → (f : Forest)
        → prefix_steps.ReadsAlike at f (grammar.list_tail setting s) (grammar.list_tail setting t)
    reads_list_tail setting s t l Bare = prefix_steps.reads_late prefix_steps.late_pure
    reads_list_tail setting s t l (Grow n f) =
        prefix_steps.reads_grow (prefix_steps.both_choice (is_word (codes "call")) (λ u p. refl)
        (prefix_steps.both_rest (prefix_steps.reads_late (prefix_steps.late_refusal l)))
        (prefix_steps.both_then (reads_term setting n)
        (λ first. prefix_steps.reads_last _ _ (reads_items setting (closing s) (closing t) l f)
        (λ others. prefix_steps.late_pure))))

    -- a call is read alike
    reads_call : (setting : grammar.Setting) (s t : Span) → at < s.to → (f : Forest)
        → prefix_steps.ReadsAlike at f (grammar.called setting s) (grammar.called setting t)
    reads_call grammar.InProblem s t l f = prefix_steps.reads_late (prefix_steps.late_refusal l)
    reads_call grammar.InRule s t l Bare = prefix_steps.reads_late (prefix_steps.late_refusal l)
    reads_call grammar.InRule s t l (Grow n f) =
        prefix_steps.reads_grow (prefix_steps.both_then (reads_name n)
        (λ text. prefix_steps.reads_last _ _ (reads_terms f) (λ args. prefix_steps.late_pure)))

    -- terms are read alike
    reads_terms : (f : Forest) → prefix_steps.ReadsAlike at f grammar.terms grammar.terms
    reads_terms Bare = prefix_steps.reads_late prefix_steps.late_pure
    reads_terms (Grow n f) =
        prefix_steps.reads_grow (prefix_steps.both_then (reads_term grammar.InRule n)
        (λ first. prefix_steps.reads_last _ _ (reads_terms f) (λ others. prefix_steps.late_pure)))

  -- ---- atoms

  -- an atom with its name is read alike
  reads_named_atom : (setting : grammar.Setting) (s t : Span) (text : List ℕ) → at < s.to → (f : Forest)
      → prefix_steps.ReadsAlike at f (grammar.named_atom setting s text) (grammar.named_atom setting t text)
  unfolding grammar.named_atom
  reads_named_atom setting s t text l f =
      prefix_steps.reads_made (grammar.make_atom s text) (grammar.make_atom t text)
      (reads_items setting (closing s) (closing t) l f)

  -- a list that begins with a fitting name is read alike
  reads_headed : (what : What) (fits : List ℕ → Bool) (setting : grammar.Setting) (n : Node)
      → prefix_steps.ReadsNodeAlike at n (grammar.headed what fits setting)
  unfolding grammar.headed
  reads_headed what fits setting n =
      prefix_steps.reads_begun (λ s text f. cond (fits text) (grammar.named_atom setting s text f) (expected what s))
      (λ s text f t l. prefix_steps.reads_choice (fits text) (reads_named_atom setting s t text l f)
      (prefix_steps.reads_late (prefix_steps.late_refusal l))) n

  -- a list of atoms is read alike
  reads_atoms : (setting : grammar.Setting) (n : Node) → prefix_steps.ReadsNodeAlike at n (grammar.atoms setting)
  unfolding grammar.atoms
  reads_atoms setting n = reads_list wants.Atoms (prefix_steps.reads_each (reads_headed wants.Atom is_plain setting)) n

  -- ---- expressions

  -- an assignment is read alike
  reads_assigned : (s t : Span) → at < s.to → (f : Forest) → prefix_steps.ReadsAlike at f (grammar.assigned s)
      (grammar.assigned t)
  unfolding grammar.assigned
  reads_assigned s t l =
      prefix_steps.reads_next wants.Variable l (λ left f. prefix_steps.both_then (reads_variable left) (λ v.
      prefix_steps.reads_next wants.Term l (λ right f. prefix_steps.both_then (reads_term grammar.InRule right)
      (λ value.
      prefix_steps.reads_last _ _ (prefix_steps.reads_ended f) (λ x. prefix_steps.late_pure))) f))

  -- a list that begins with a name is read alike if the parts that may follow are
  keyed_expression : (s t : Span) → at < s.to → (u : Span) (key : List ℕ) (f : Forest)
      → prefix_steps.ReadsAlike at f grammar.expressions grammar.expressions
      → prefix_steps.ReadsAlike at f (grammar.one_expression (closing s)) (grammar.one_expression (closing t))
      → prefix_steps.ReadsAlike at f (grammar.two_expressions (closing s)) (grammar.two_expressions (closing t))
      → prefix_steps.ReadsAlike at f (grammar.quantified s) (grammar.quantified t)
      → prefix_steps.ReadsAlike at f (λ g. grammar.list_expression s (Grow (Word u key) g))
      (λ g. grammar.list_expression t (Grow (Word u key) g))
  unfolding grammar.list_expression
  keyed_expression s t l u key f all one two each =
      prefix_steps.reads_choice (grammar.is_nil key) (prefix_steps.reads_made _ _ all)
      (prefix_steps.reads_choice (bytes_eq key (codes "and")) (prefix_steps.reads_made _ _ all)
      (prefix_steps.reads_choice (bytes_eq key (codes "or")) (prefix_steps.reads_made _ _ all)
      (prefix_steps.reads_choice (bytes_eq key (codes "not")) (prefix_steps.reads_made _ _ one)
      (prefix_steps.reads_choice (bytes_eq key (codes "imply")) (prefix_steps.reads_made _ _ two)
      (prefix_steps.reads_choice (bytes_eq key (codes "forall")) each
      (prefix_steps.reads_choice (bytes_eq key (codes "assign")) (reads_assigned s t l f)
      (prefix_steps.reads_choice (bytes_eq key (codes "call")) (prefix_steps.reads_made _ _
      (reads_call grammar.InRule s t l f))
      (prefix_steps.reads_choice (is_plain key) (prefix_steps.reads_made _ _
      (reads_named_atom grammar.InRule s t key l f))
      (prefix_steps.reads_late (prefix_steps.late_refusal l))))))))))

  mutual
    unfolding grammar.expression grammar.list_expression grammar.expressions grammar.one_expression
        grammar.two_expressions grammar.quantified

    -- an expression is read alike
    reads_expression : (n : Node) → prefix_steps.ReadsNodeAlike at n grammar.expression
    reads_expression (Word s text) = prefix_steps.node_word (λ l. prefix_steps.late_choice
        (grammar.is_nil text) prefix_steps.late_pure (prefix_steps.late_refusal l))
    reads_expression (Numeral s n) = prefix_steps.node_numeral (λ l. prefix_steps.late_refusal l)
    reads_expression (Group s f) = prefix_steps.node_group (λ t l. reads_list_expression s t l f)

    -- a list as an expression is read alike
    reads_list_expression : (s t : Span) → at < s.to → (f : Forest)
        → prefix_steps.ReadsAlike at f (grammar.list_expression s) (grammar.list_expression t)
    reads_list_expression s t l Bare = prefix_steps.reads_late prefix_steps.late_pure
    reads_list_expression s t l (Grow (Word u key) f) =
        prefix_steps.reads_word
        (keyed_expression s t l u key f (reads_expressions f) (reads_one_expression (closing s) (closing t) l f)
        (reads_two_expressions (closing s) (closing t) l f) (reads_quantified s t l f))
    reads_list_expression s t l (Grow (Numeral u n) f) = prefix_steps.reads_late (prefix_steps.late_refusal l)
    reads_list_expression s t l (Grow (Group u p) f) =
        prefix_steps.reads_group
        (λ m g. first_expression m >>= (λ first. grammar.expressions g
        >>= (λ others. pure (And s (Also first others)))))
        (λ m g. first_expression m >>= (λ first. grammar.expressions g
        >>= (λ others. pure (And t (Also first others))))) refl
        (λ v q g. refl)
        (prefix_steps.both_then (prefix_steps.node_group (λ v k. reads_list_expression u v k p))
        (λ first. prefix_steps.reads_last _ _ (reads_expressions f) (λ others. prefix_steps.late_pure)))

    -- expressions are read alike
    reads_expressions : (f : Forest) → prefix_steps.ReadsAlike at f grammar.expressions grammar.expressions
    reads_expressions Bare = prefix_steps.reads_late prefix_steps.late_pure
    reads_expressions (Grow n f) =
        prefix_steps.reads_grow
        (prefix_steps.both_then (reads_expression n) (λ first. prefix_steps.reads_last _ _ (reads_expressions f)
        (λ others. prefix_steps.late_pure)))

    -- one expression is read alike
    reads_one_expression : (s t : Span) → at < s.to → (f : Forest)
        → prefix_steps.ReadsAlike at f (grammar.one_expression s) (grammar.one_expression t)
    reads_one_expression s t l Bare = prefix_steps.reads_late (prefix_steps.late_refusal l)
    reads_one_expression s t l (Grow n f) =
        prefix_steps.reads_grow (prefix_steps.both_then (reads_expression n)
        (λ e. prefix_steps.reads_last _ _ (prefix_steps.reads_ended f) (λ x. prefix_steps.late_pure)))

    -- two expressions are read alike
    reads_two_expressions : (s t : Span) → at < s.to → (f : Forest)
        → prefix_steps.ReadsAlike at f (grammar.two_expressions s) (grammar.two_expressions t)
    reads_two_expressions s t l Bare = prefix_steps.reads_late (prefix_steps.late_refusal l)
    reads_two_expressions s t l (Grow n f) =
        prefix_steps.reads_grow
        (prefix_steps.both_then (reads_expression n)
        (λ first. prefix_steps.reads_last _ _ (reads_one_expression s t l f) (λ second. prefix_steps.late_pure)))

    -- a quantified expression is read alike
    reads_quantified : (s t : Span) → at < s.to → (f : Forest) → prefix_steps.ReadsAlike at f (grammar.quantified s)
        (grammar.quantified t)
    reads_quantified s t l Bare = prefix_steps.reads_late (prefix_steps.late_refusal l)
    reads_quantified s t l (Grow n f) =
        prefix_steps.reads_grow
        (prefix_steps.both_then (reads_variables n)
        (λ vs. prefix_steps.reads_last _ _ (reads_two_expressions (closing s) (closing t) l f)
        (λ both. prefix_steps.late_pure)))

  -- a list that begins with a name is read alike as an expression
  reads_keyed_expression : (s t : Span) → at < s.to → (u : Span) (key : List ℕ) (f : Forest)
      → prefix_steps.ReadsAlike at f (λ g. grammar.list_expression s (Grow (Word u key) g))
      (λ g. grammar.list_expression t (Grow (Word u key) g))
  reads_keyed_expression s t l u key f =
      keyed_expression s t l u key f (reads_expressions f) (reads_one_expression (closing s) (closing t) l f)
      (reads_two_expressions (closing s) (closing t) l f) (reads_quantified s t l f)

  -- ---- preconditions

  -- expressions behind the order of a sort are refused alike
  ordered_alike : (b : Bool) (o : Order) (w : Node) (f g : Forest) → prefix_steps.AlikeUpTo at f g
      → prefix_steps.RefusesAlike at (grammar.expressions (cond {A = Order × Forest} b (Up, Grow w f) (o, f)).1)
      (grammar.expressions (cond {A = Order × Forest} b (Up, Grow w g) (o, g)).1)
  ordered_alike true o w f g c = (reads_expressions (Grow w f)).alike (Grow w g) (prefix_steps.SameNode c)
  ordered_alike false o w f g c = (reads_expressions f).alike g c

  -- expressions behind the order of a sort are late
  ordered_late : (b : Bool) (o : Order) (w : Node) (f : Forest) → prefix_steps.NodeBeyond at w
      → prefix_steps.Beyond at f
      → prefix_steps.IsLate at (grammar.expressions (cond {A = Order × Forest} b (Up, Grow w f) (o, f)).1)
  ordered_late true o w f u v = (reads_expressions (Grow w f)).beyond (u, v)
  ordered_late false o w f u v = (reads_expressions f).beyond v

  -- expressions behind the order of a sort are read alike
  reads_ordered : (f : Forest) → prefix_steps.ReadsAlike at f (λ g. grammar.expressions (grammar.order g).1)
      (λ g. grammar.expressions (grammar.order g).1)
  unfolding grammar.order
  reads_ordered Bare = prefix_steps.reads_late ((reads_expressions Bare).beyond tt)
  reads_ordered (Grow (Word s text) f) =
      prefix_steps.reads_word_by (λ u v. ordered_late (grammar.is_nil text) (grammar.order_named s text)
      (Word s text) f u v)
      (λ g c. ordered_alike (grammar.is_nil text) (grammar.order_named s text) (Word s text) f g c)
  reads_ordered (Grow (Numeral s n) f) =
      prefix_steps.reads_numeral_by (λ u v. (reads_expressions (Grow (Numeral s n) f)).beyond (u, v))
      (λ g c. (reads_expressions (Grow (Numeral s n) f)).alike (Grow (Numeral s n) g) (prefix_steps.SameNode c))
  reads_ordered (Grow (Group s p) f) =
      prefix_steps.reads_group (λ m g. grammar.expressions (Grow m g)) (λ m g. grammar.expressions (Grow m g)) refl
      (λ t q g. refl)
      (prefix_steps.both_whole (reads_expressions (Grow (Group s p) f)))

  -- a sorted precondition is read alike
  reads_sorted : (s t : Span) → at < s.to → (f : Forest) → prefix_steps.ReadsAlike at f (grammar.sorted s)
      (grammar.sorted t)
  unfolding grammar.sorted
  reads_sorted s t l =
      prefix_steps.reads_next wants.Variable l (λ by f. prefix_steps.both_by _ _ (reads_variable by) (λ v.
      prefix_steps.reads_last _ _ (reads_ordered f) (λ es. prefix_steps.late_pure)))

  -- an expression as a precondition is read alike
  reads_plain : (s t : Span) → at < s.to → (f : Forest)
      → prefix_steps.ReadsAlike at f (λ g. Plain <$> grammar.list_expression s g)
      (λ g. Plain <$> grammar.list_expression t g)
  reads_plain s t l f = prefix_steps.reads_made Plain Plain (reads_list_expression s t l f)

  -- a list as a precondition is read alike
  reads_list_precondition : (s t : Span) → at < s.to → (f : Forest)
      → prefix_steps.ReadsAlike at f (grammar.list_precondition s) (grammar.list_precondition t)
  unfolding grammar.list_precondition
  reads_list_precondition s t l Bare = prefix_steps.reads_late ((reads_plain s t l Bare).beyond tt)
  reads_list_precondition s t l (Grow (Word u key) f) =
      prefix_steps.reads_word (prefix_steps.reads_choice (bytes_eq key (codes ":first"))
      (prefix_steps.reads_made _ _ (reads_expressions f))
      (prefix_steps.reads_choice (bytes_eq key (codes ":sort-by")) (reads_sorted s t l f)
      (prefix_steps.reads_made Plain Plain (reads_keyed_expression s t l u key f))))
  reads_list_precondition s t l (Grow (Numeral u n) f) =
      prefix_steps.reads_numeral_by (λ a b. (reads_plain s t l (Grow (Numeral u n) f)).beyond (a, b))
      (λ g c. (reads_plain s t l (Grow (Numeral u n) f)).alike (Grow (Numeral u n) g) (prefix_steps.SameNode c))
  reads_list_precondition s t l (Grow (Group u p) f) =
      prefix_steps.reads_group (λ m g. Plain <$> grammar.list_expression s (Grow m g))
      (λ m g. Plain <$> grammar.list_expression t (Grow m g)) refl
      (λ v q g. refl) (prefix_steps.both_whole (reads_plain s t l (Grow (Group u p) f)))

  -- a precondition is read alike
  reads_precondition : (n : Node) → prefix_steps.ReadsNodeAlike at n grammar.precondition
  unfolding grammar.precondition
  reads_precondition (Word s text) = prefix_steps.node_word (λ l. prefix_steps.late_choice
      (grammar.is_nil text) prefix_steps.late_pure (prefix_steps.late_refusal l))
  reads_precondition (Numeral s n) = prefix_steps.node_numeral (λ l. prefix_steps.late_refusal l)
  reads_precondition (Group s f) = prefix_steps.node_group (λ t l. reads_list_precondition s t l f)

  -- ---- tasks

  -- a task is read alike
  reads_task : (setting : grammar.Setting) (s t : Span) (b : Bool) (text : List ℕ) → at < s.to → (f : Forest)
      → prefix_steps.ReadsAlike at f (grammar.task setting s b text) (grammar.task setting t b text)
  reads_task setting s t b text l f = prefix_steps.reads_made _ _ (reads_named_atom setting s t text l f)

  -- an immediate task is read alike
  reads_immediate : (setting : grammar.Setting) (s t : Span) → at < s.to → (f : Forest)
      → prefix_steps.ReadsAlike at f (grammar.immediate setting s) (grammar.immediate setting t)
  unfolding grammar.immediate
  reads_immediate setting s t l Bare = prefix_steps.reads_late (prefix_steps.late_refusal l)
  reads_immediate setting s t l (Grow (Word u text) f) =
      let h = reads_task setting s t true text l f in
      prefix_steps.reads_word_by (λ a b. prefix_steps.late_choice (is_plain text) (h.beyond b)
      (prefix_steps.late_refusal a))
      (λ g c. prefix_steps.alike_choice (is_plain text) (h.alike g c) prefix_steps.alike_same)
  reads_immediate setting s t l (Grow (Numeral u n) f) = prefix_steps.reads_numeral_by
      (λ a b. prefix_steps.late_refusal a) (λ g c. prefix_steps.alike_same)
  reads_immediate setting s t l (Grow (Group u p) f) =
      prefix_steps.reads_group (λ m g. expected wants.Name (span_of m)) (λ m g. expected wants.Name (span_of m)) refl
      (λ v q g. refl)
      (prefix_steps.both_refused (Expected wants.Name) (λ v. refl))

  mutual
    unfolding grammar.tasks grammar.list_tasks grammar.task_list

    -- a task or a list of them is read alike
    reads_tasks : (setting : grammar.Setting) (n : Node) → prefix_steps.ReadsNodeAlike at n (grammar.tasks setting)
    reads_tasks setting (Word s text) = prefix_steps.node_word (λ l. prefix_steps.late_choice
        (grammar.is_nil text) prefix_steps.late_pure (prefix_steps.late_refusal l))
    reads_tasks setting (Numeral s n) = prefix_steps.node_numeral (λ l. prefix_steps.late_refusal l)
    reads_tasks setting (Group s f) = prefix_steps.node_group (λ t l. reads_list_tasks setting s t l f)

    -- a list as tasks is read alike
    reads_list_tasks : (setting : grammar.Setting) (s t : Span) → at < s.to → (f : Forest)
        → prefix_steps.ReadsAlike at f (grammar.list_tasks setting s) (grammar.list_tasks setting t)
    reads_list_tasks setting s t l Bare = prefix_steps.reads_late prefix_steps.late_pure
    reads_list_tasks setting s t l (Grow (Word u key) f) =
        prefix_steps.reads_word (prefix_steps.reads_choice (grammar.is_nil key)
        (prefix_steps.reads_made _ _ (reads_task_list setting f))
        (prefix_steps.reads_choice (bytes_eq key (codes ":ordered"))
        (prefix_steps.reads_made _ _ (reads_task_list setting f))
        (prefix_steps.reads_choice (bytes_eq key (codes ":unordered"))
        (prefix_steps.reads_made _ _ (reads_task_list setting f))
        (prefix_steps.reads_choice (bytes_eq key (codes ":immediate")) (reads_immediate setting s t l f)
        (prefix_steps.reads_choice (is_plain key) (reads_task setting s t false key l f)
        (prefix_steps.reads_late (prefix_steps.late_refusal l)))))))
    reads_list_tasks setting s t l (Grow (Numeral u n) f) = prefix_steps.reads_late (prefix_steps.late_refusal l)
    reads_list_tasks setting s t l (Grow (Group u p) f) =
        prefix_steps.reads_group
        (λ m g. first_tasks setting m >>=
        (λ first. grammar.task_list setting g >>= (λ others. pure (Ordered (Then first others)))))
        (λ m g. first_tasks setting m >>=
        (λ first. grammar.task_list setting g >>= (λ others. pure (Ordered (Then first others))))) refl (λ v q g. refl)
        (prefix_steps.both_then (prefix_steps.node_group (λ v k. reads_list_tasks setting u v k p))
        (λ first. prefix_steps.reads_last _ _ (reads_task_list setting f) (λ others. prefix_steps.late_pure)))

    -- tasks in a list are read alike
    reads_task_list : (setting : grammar.Setting) (f : Forest) → prefix_steps.ReadsAlike at f
        (grammar.task_list setting) (grammar.task_list setting)
    reads_task_list setting Bare = prefix_steps.reads_late prefix_steps.late_pure
    reads_task_list setting (Grow n f) =
        prefix_steps.reads_grow
        (prefix_steps.both_then (reads_tasks setting n)
        (λ first. prefix_steps.reads_last _ _ (reads_task_list setting f) (λ others. prefix_steps.late_pure)))

  -- ---- effects

  -- a protection is read alike
  reads_protection : (s t : Span) → at < s.to → (f : Forest) → prefix_steps.ReadsAlike at f (grammar.protection s)
      (grammar.protection t)
  unfolding grammar.protection
  reads_protection s t l =
      prefix_steps.reads_next wants.Atom l (λ x f. prefix_steps.both_then
      (reads_headed wants.Atom is_plain grammar.InRule x) (λ a.
      prefix_steps.reads_last _ _ (prefix_steps.reads_ended f) (λ y. prefix_steps.late_pure)))

  -- a quantified effect is read alike
  reads_for_each : (s t : Span) → at < s.to → (f : Forest) → prefix_steps.ReadsAlike at f (grammar.for_each s)
      (grammar.for_each t)
  unfolding grammar.for_each
  reads_for_each s t l =
      prefix_steps.reads_next wants.Variable l (λ x f. prefix_steps.both_then (reads_variables x) (λ vs.
      prefix_steps.reads_next wants.Expr l (λ y f. prefix_steps.both_then (reads_expression y) (λ e.
      prefix_steps.reads_next wants.Atoms l (λ z f. prefix_steps.both_then (reads_atoms grammar.InRule z) (λ changed.
      prefix_steps.reads_last _ _ (prefix_steps.reads_ended f) (λ u. prefix_steps.late_pure))) f)) f))

  -- an effect with its name is read alike
  reads_keyed_effect : (s t : Span) (key : List ℕ) → at < s.to → (f : Forest)
      → prefix_steps.ReadsAlike at f (grammar.keyed_effect s key) (grammar.keyed_effect t key)
  unfolding grammar.keyed_effect
  reads_keyed_effect s t key l f =
      prefix_steps.reads_choice (bytes_eq key (codes ":protection")) (reads_protection s t l f)
      (prefix_steps.reads_choice (bytes_eq key (codes "forall")) (reads_for_each s t l f)
      (prefix_steps.reads_choice (is_plain key) (prefix_steps.reads_made _ _
      (reads_named_atom grammar.InRule s t key l f))
      (prefix_steps.reads_late (prefix_steps.late_refusal l))))

  -- an effect is read alike
  reads_effect : (n : Node) → prefix_steps.ReadsNodeAlike at n grammar.effect
  unfolding grammar.effect
  reads_effect = prefix_steps.reads_begun grammar.keyed_effect (λ s key f t l. reads_keyed_effect s t key l f)

  -- a list of effects is read alike
  reads_effects : (n : Node) → prefix_steps.ReadsNodeAlike at n grammar.effects
  unfolding grammar.effects
  reads_effects = reads_list wants.Effects (prefix_steps.reads_each reads_effect)

  -- ---- rules

  -- a cost is read alike
  reads_cost : (s t : Span) (f : Forest) → prefix_steps.ReadsAlike at f (grammar.cost s) (grammar.cost t)
  unfolding grammar.cost
  reads_cost s t Bare = prefix_steps.reads_late prefix_steps.late_pure
  reads_cost s t (Grow n f) =
      prefix_steps.reads_grow (prefix_steps.both_then (reads_term grammar.InRule n)
      (λ x. prefix_steps.reads_last _ _ (prefix_steps.reads_ended f) (λ y. prefix_steps.late_pure)))

  -- an operator is read alike
  reads_operator : (s t : Span) → at < s.to → (f : Forest) → prefix_steps.ReadsAlike at f (grammar.operator s)
      (grammar.operator t)
  unfolding grammar.operator
  reads_operator s t l =
      prefix_steps.reads_next wants.Head l (λ h f. prefix_steps.both_then
      (reads_headed wants.Head is_primitive grammar.InRule h) (λ head.
      prefix_steps.reads_next wants.Pre l (λ p f. prefix_steps.both_then (reads_precondition p) (λ pre.
      prefix_steps.reads_next wants.Effects l (λ d f. prefix_steps.both_then (reads_effects d) (λ dels.
      prefix_steps.reads_next wants.Effects l (λ a f. prefix_steps.both_then (reads_effects a) (λ adds.
      prefix_steps.reads_last _ _ (reads_cost s t f) (λ price. prefix_steps.late_names))) f)) f)) f))

  -- a branch's name is read alike
  reads_branch_name : (n : Node) → prefix_steps.ReadsNodeAlike at n grammar.branch_name
  unfolding grammar.branch_name
  reads_branch_name (Word s text) = prefix_steps.node_word (λ l. prefix_steps.late_choice
      (is_branch_name text) prefix_steps.late_pure (prefix_steps.late_refusal l))
  reads_branch_name (Numeral s n) = prefix_steps.node_numeral (λ l. prefix_steps.late_refusal l)
  reads_branch_name (Group s f) = prefix_steps.node_group (λ t l. prefix_steps.reads_late (prefix_steps.late_refusal l))

  mutual
    unfolding grammar.branches grammar.named_branch grammar.branch_tasks

    -- the branches of a method are read alike
    reads_branches : (s t : Span) (is_first : Bool) → at < s.to → (f : Forest)
        → prefix_steps.ReadsAlike at f (grammar.branches s is_first) (grammar.branches t is_first)
    reads_branches s t is_first l Bare = prefix_steps.reads_late
        (prefix_steps.late_choice is_first (prefix_steps.late_refusal l) prefix_steps.late_pure)
    reads_branches s t is_first l (Grow n f) =
        prefix_steps.reads_grow (prefix_steps.both_choice grammar.begins_named (λ u p. refl)
        (prefix_steps.both_then (reads_branch_name n) (λ text. reads_named_branch s t text l f))
        (prefix_steps.both_then (reads_precondition n) (λ p. reads_branch_tasks s t None p l f)))

    -- a branch with its name is read alike
    reads_named_branch : (s t : Span) (text : List ℕ) → at < s.to → (f : Forest)
        → prefix_steps.ReadsAlike at f (grammar.named_branch s text) (grammar.named_branch t text)
    reads_named_branch s t text l Bare = prefix_steps.reads_late (prefix_steps.late_refusal l)
    reads_named_branch s t text l (Grow n f) =
        prefix_steps.reads_grow (prefix_steps.both_then (reads_precondition n)
        (λ p. reads_branch_tasks s t (Some text) p l f))

    -- a branch's tasks and the branches behind it is read alike
    reads_branch_tasks : (s t : Span) (text : Option (List ℕ)) (p : Precondition) → at < s.to → (f : Forest)
        → prefix_steps.ReadsAlike at f (grammar.branch_tasks s text p) (grammar.branch_tasks t text p)
    reads_branch_tasks s t text p l Bare = prefix_steps.reads_late (prefix_steps.late_refusal l)
    reads_branch_tasks s t text p l (Grow n f) =
        prefix_steps.reads_grow
        (prefix_steps.both_then (reads_tasks grammar.InRule n)
        (λ x. prefix_steps.reads_last _ _ (reads_branches s t false l f) (λ others. prefix_steps.late_pure)))

  -- a method is read alike
  reads_method : (s t : Span) → at < s.to → (f : Forest) → prefix_steps.ReadsAlike at f (grammar.method s)
      (grammar.method t)
  unfolding grammar.method
  reads_method s t l =
      prefix_steps.reads_next wants.Head l (λ h f. prefix_steps.both_then
      (reads_headed wants.Head is_compound grammar.InRule h) (λ head.
      prefix_steps.reads_last _ _ (reads_branches (closing s) (closing t) true l f) (λ bs. prefix_steps.late_names)))

  mutual
    unfolding grammar.clauses grammar.named_clause

    -- the branches of an axiom are read alike
    reads_clauses : (s t : Span) (is_first : Bool) → at < s.to → (f : Forest)
        → prefix_steps.ReadsAlike at f (grammar.clauses s is_first) (grammar.clauses t is_first)
    reads_clauses s t is_first l Bare = prefix_steps.reads_late (prefix_steps.late_choice is_first
        (prefix_steps.late_refusal l) prefix_steps.late_pure)
    reads_clauses s t is_first l (Grow n f) =
        prefix_steps.reads_grow (prefix_steps.both_choice grammar.begins_named (λ u p. refl)
        (prefix_steps.both_then (reads_branch_name n) (λ text. reads_named_clause s t text l f))
        (prefix_steps.both_then (reads_expression n) (λ e. prefix_steps.reads_last _ _ (reads_clauses s t false l f)
        (λ others. prefix_steps.late_pure))))

    -- a branch of an axiom with its name is read alike
    reads_named_clause : (s t : Span) (text : List ℕ) → at < s.to → (f : Forest)
        → prefix_steps.ReadsAlike at f (grammar.named_clause s text) (grammar.named_clause t text)
    reads_named_clause s t text l Bare = prefix_steps.reads_late (prefix_steps.late_refusal l)
    reads_named_clause s t text l (Grow n f) =
        prefix_steps.reads_grow
        (prefix_steps.both_then (reads_expression n) (λ e. prefix_steps.reads_last _ _ (reads_clauses s t false l f)
        (λ others. prefix_steps.late_pure)))

  -- an axiom is read alike
  reads_axiom : (s t : Span) → at < s.to → (f : Forest) → prefix_steps.ReadsAlike at f (grammar.axiom_rule s)
      (grammar.axiom_rule t)
  unfolding grammar.axiom_rule
  reads_axiom s t l =
      prefix_steps.reads_next wants.Head l (λ h f. prefix_steps.both_then
      (reads_headed wants.Head is_plain grammar.InRule h) (λ head.
      prefix_steps.reads_last _ _ (reads_clauses (closing s) (closing t) true l f) (λ cs. prefix_steps.late_names)))

  -- a rule with its name is read alike
  reads_keyed_rule : (s t : Span) (key : List ℕ) → at < s.to → (f : Forest)
      → prefix_steps.ReadsAlike at f (grammar.keyed_rule s key) (grammar.keyed_rule t key)
  unfolding grammar.keyed_rule
  reads_keyed_rule s t key l f =
      prefix_steps.reads_choice (bytes_eq key (codes ":operator")) (reads_operator s t l f)
      (prefix_steps.reads_choice (bytes_eq key (codes ":method")) (reads_method s t l f)
      (prefix_steps.reads_choice (bytes_eq key (codes ":-")) (reads_axiom s t l f)
      (prefix_steps.reads_late (prefix_steps.late_refusal l))))

  -- a rule is read alike
  reads_rule : (n : Node) → prefix_steps.ReadsNodeAlike at n grammar.rule
  unfolding grammar.rule
  reads_rule =
      prefix_steps.reads_begun (λ s key f. by_itself (grammar.keyed_rule s key f))
      (λ s key f t l. prefix_steps.reads_by_itself (reads_keyed_rule s t key l f))

  -- ---- files

  -- a domain is read alike
  reads_domain_list : (s t : Span) → at < s.to → (f : Forest) → prefix_steps.ReadsAlike at f (grammar.domain_list s)
      (grammar.domain_list t)
  unfolding grammar.domain_list
  reads_domain_list s t l =
      prefix_steps.reads_next wants.Name l (λ x f. prefix_steps.both_then (reads_name x) (λ text.
      prefix_steps.reads_next wants.Rules l (λ y f. prefix_steps.both_then
      (reads_list wants.Rules (prefix_steps.reads_each reads_rule) y) (λ rules.
      prefix_steps.reads_last _ _ (prefix_steps.reads_ended f) (λ z. prefix_steps.late_pure))) f))

  mutual
    unfolding grammar.pairs grammar.pair_tasks

    -- the pairs of a problem are read alike
    reads_pairs : (s t : Span) (is_first : Bool) → at < s.to → (f : Forest)
        → prefix_steps.ReadsAlike at f (grammar.pairs s is_first) (grammar.pairs t is_first)
    reads_pairs s t is_first l Bare = prefix_steps.reads_late (prefix_steps.late_choice is_first
        (prefix_steps.late_refusal l) prefix_steps.late_pure)
    reads_pairs s t is_first l (Grow n f) =
        prefix_steps.reads_grow
        (prefix_steps.both_then (reads_atoms grammar.InProblem n) (λ state. reads_pair_tasks s t state l f))

    -- the tasks of a pair and the pairs behind them are read alike
    reads_pair_tasks : (s t : Span) (state : List Atom) → at < s.to → (f : Forest)
        → prefix_steps.ReadsAlike at f (grammar.pair_tasks s state) (grammar.pair_tasks t state)
    reads_pair_tasks s t state l Bare = prefix_steps.reads_late (prefix_steps.late_refusal l)
    reads_pair_tasks s t state l (Grow n f) =
        prefix_steps.reads_grow
        (prefix_steps.both_then (reads_tasks grammar.InProblem n) (λ ts.
        prefix_steps.reads_last _ _ (reads_pairs s t false l f) (λ others. prefix_steps.late_pure)))

  -- a problem is read alike
  reads_problem_list : (s t : Span) → at < s.to → (f : Forest)
      → prefix_steps.ReadsAlike at f (grammar.problem_list s) (grammar.problem_list t)
  unfolding grammar.problem_list
  reads_problem_list s t l =
      prefix_steps.reads_next wants.Name l (λ x f. prefix_steps.both_then (reads_name x) (λ text.
      prefix_steps.reads_next wants.Name l (λ y f. prefix_steps.both_by _ _ (reads_name y) (λ domain.
      prefix_steps.reads_last _ _ (reads_pairs (closing s) (closing t) true l f) (λ ps. prefix_steps.late_names))) f))

  -- a list that begins with a certain word is read alike
  reads_file_list : {A : Type 0} (what : What) (key : List ℕ) (parts : Span → Forest → Parse A)
      → ((s t : Span) → at < s.to → (f : Forest) → prefix_steps.ReadsAlike at f (parts s) (parts t)) → (n : Node)
      → prefix_steps.ReadsNodeAlike at n (grammar.file_list what key parts)
  unfolding grammar.file_list
  reads_file_list what key parts h =
      prefix_steps.reads_begun (λ s text f. cond (bytes_eq text key) (parts s f) (expected what s))
      (λ s text f t l. prefix_steps.reads_choice (bytes_eq text key) (h s t l f)
      (prefix_steps.reads_late (prefix_steps.late_refusal l)))

  -- a file that goes on behind the offset is read alike
  reads_file : {A : Type 0} (what : What) (node : Node → Parse A) → ((n : Node) → prefix_steps.ReadsNodeAlike at n node)
      → (len more : ℕ) → at < len → (f : Forest)
      → prefix_steps.ReadsAlike at f (grammar.file what node len) (grammar.file what node more)
  unfolding grammar.file
  reads_file what node h len more l =
      prefix_steps.reads_next what l (λ x f. prefix_steps.both_then (h x)
      (λ value. prefix_steps.reads_last _ _ (prefix_steps.reads_ended f) (λ y. prefix_steps.late_pure)))

-- results that are refused alike give the same refusal
refused_value : {A : Type 0} (at : ℕ) (r q : Result (A × Names) Misform) (e : Misform) → prefix_steps.AlikeResult at r q
    → (misform_span e).to ≤ at
    → value_in r ≡ Err e → value_in q ≡ Err e
refused_value at (Ok x) q e h l u = absurd cc
refused_value at (Err m) q e h l u =
    let v : m ≡ e = cc in ap value_in (h (subst (λ (z : Misform). (misform_span z).to ≤ at) (sym v) l)) ∙ u

-- a file is refused alike up to the end of the refused node
file_refused : {A : Type 0} (what : What) (node : Node → Parse A)
    → ((at : ℕ) (n : Node) → prefix_steps.ReadsNodeAlike at n node)
    → (text other : List ℕ) (f g : Forest) (e : Misform) → IsForest text f → IsForest other g
    → from_no_names (grammar.file what node (length text) f) ≡ Err e
    → take ((misform_span e).to + 1) text ≡ take ((misform_span e).to + 1) other
    → from_no_names (grammar.file what node (length other) g) ≡ Err e
file_refused {A} what node h text other f g e x y r u = ⊎_elim alike same (cases_lt at (length text))
  where
    at : ℕ
    at = (misform_span e).to

    alike : at < length text → from_no_names (grammar.file what node (length other) g) ≡ Err e
    alike l =
        let k = reads_file what node (h at) (length text) (length other) l f in
        let c = cut_texts at text other f g x y u l in
        refused_value at (grammar.file what node (length text) f []) (grammar.file what node (length other) g []) e
        ((k.alike g c).refused_alike []) (omega arith) r

    same : length text ≤ at → from_no_names (grammar.file what node (length other) g) ≡ Err e
    same l =
        let t = whole_texts at text other u l in
        let p = one_forest other f g (subst (λ z. IsForest z f) t x) y in
        subst (λ z. from_no_names (grammar.file what node (length other) z) ≡ Err e) p
        (subst (λ (z : List ℕ). from_no_names (grammar.file what node (length z) f) ≡ Err e) t r)

-- a domain is refused alike by texts that are alike up to the byte behind the refused node
pub domain_refused : (text other : List ℕ) (f g : Forest) (e : Misform) → IsForest text f → IsForest other g
    → grammar.domain_form (length text) f ≡ Err e → take ((misform_span e).to + 1) text
    ≡ take ((misform_span e).to + 1) other
    → grammar.domain_form (length other) g ≡ Err e
domain_refused =
    file_refused wants.Domain (grammar.file_list wants.Domain (codes "defdomain") grammar.domain_list)
    (λ at. reads_file_list wants.Domain (codes "defdomain") grammar.domain_list reads_domain_list)

-- so is a problem
pub problem_refused : (text other : List ℕ) (f g : Forest) (e : Misform) → IsForest text f → IsForest other g
    → grammar.problem_form (length text) f ≡ Err e → take ((misform_span e).to + 1) text
    ≡ take ((misform_span e).to + 1) other
    → grammar.problem_form (length other) g ≡ Err e
problem_refused =
    file_refused wants.Problem (grammar.file_list wants.Problem (codes "defproblem") grammar.problem_list)
    (λ at. reads_file_list wants.Problem (codes "defproblem") grammar.problem_list reads_problem_list)
