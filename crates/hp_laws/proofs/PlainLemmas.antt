-- The reading of a forest for a problem is plain: it holds no call, and nests hardly deeper than the forest.
use Rattle.std.proofs.Common.{◌≡◌, ℕ, ◌+◌, ◌-◌, ◌<◌, ◌≤◌, Bool, true, false, List, Option, bytes_eq, codes, arith}
use Rattle.std.specs.Prelude.{Ok}
use Rattle.std.specs.List.{All}
use Rattle.std.proofs.lemmas.List.Elements.{All-nil, All-cons}
use Rattle.hp_syntax.specs.declared.limits.TheConstants.{DEEPEST_TERM}
use Rattle.hp_syntax.specs.declared.pattern.Span.{Span}
use Rattle.hp_syntax.specs.declared.pattern.Tail.{Tail}
use Rattle.hp_syntax.specs.declared.form.What.{What}
use Rattle.hp_syntax.specs.declared.form.What.TheVariants as wants
use Rattle.hp_syntax.specs.Forest.{Node, Word, Numeral, Group, Forest, Bare, Grow, span_of, nesting, nesting_of_node}
use Rattle.hp_syntax.specs.GroundPatterns.{term_said, terms_said}
use Rattle.hp_syntax.specs.Names.{is_variable, is_plain}
use Rattle.hp_syntax.specs.Steps.{closing, ended, is_word, names_so_far, numbered}
use Rattle.hp_syntax.specs.Grammar as grammar
use Rattle.hp_syntax.specs.Syntax.{Atom, Patterns, Variable, Task, Ordered, Unordered, NoTasks, Then, Problem}
use Rattle.hp_syntax.specs.TextForms.{IsRead}
use Rattle.hp_syntax.proofs.LimitLemmas.{forest_keeps_limits}
use Rattle.hp_laws.specs.Plain.{IsPlain, ArePlain, IsPlainAtom, ArePlainTasks, IsPlainTaskList, IsPlainPair}
use Rattle.hp_laws.proofs.StepLemmas.{Gives, gives_chain, gives_any, gives_then, gives_pure, gives_refusal, gives_made, gives_choice, gives_next, gives_each, gives_begun, given_value}

-- the parts of a list are plain, whatever its tail
abbrev PlainParts : ℕ → Patterns × Option Tail → Type 0
PlainParts most x = ArePlain most x.0

-- a word is read as a plain term, which nests at most once
word_is_plain : (most : ℕ) (s : Span) (text : List ℕ) → 0 < most → Gives (IsPlain most) (grammar.word_term s text)
unfolding grammar.word_term term_said terms_said
word_is_plain most s text l =
    gives_choice (bytes_eq text (codes ".")) (gives_refusal _)
    (gives_choice (grammar.is_nil text) (gives_pure (record { call_free = tt; shallow = omega arith }))
    (gives_choice (is_variable text)
    (gives_made (Variable s) (gives_any (numbered text)) (λ v h. record { call_free = tt; shallow = omega arith }))
    (gives_pure (record { call_free = tt; shallow = omega arith }))))

-- a word as a tail has no parts
word_tail_is_plain : (most : ℕ) (s : Span) (text : List ℕ) → Gives (PlainParts most) (grammar.word_tail s text)
unfolding grammar.word_tail terms_said
word_tail_is_plain most s text =
    gives_choice (grammar.is_nil text) (gives_pure (record { call_free = tt; shallow = omega arith }))
    (gives_choice (is_variable text)
    (gives_made (grammar.tail_at s) (gives_any (numbered text)) (λ v h.
    record { call_free = tt; shallow = omega arith }))
    (gives_refusal _))

mutual
  unfolding grammar.term grammar.list_term grammar.items grammar.dotted grammar.tail grammar.list_tail term_said
      terms_said

  -- a node is read as a plain term, which nests one deeper at most
  term_is_plain : (most : ℕ) (n : Node) → nesting_of_node n < most
      → Gives (IsPlain most) (grammar.term grammar.InProblem n)
  term_is_plain most (Word s text) l = word_is_plain most s text (omega arith)
  term_is_plain most (Numeral s n) l = gives_pure (record { call_free = tt; shallow = omega arith })
  term_is_plain most (Group s parts) l = list_is_plain most s parts (omega arith)

  -- a list of nodes is read as a plain term, which nests two deeper at most than its nodes
  list_is_plain : (most : ℕ) (s : Span) (f : Forest) → nesting f + 1 < most
      → Gives (IsPlain most) (grammar.list_term grammar.InProblem s f)
  list_is_plain most s Bare l = gives_pure (record { call_free = tt; shallow = omega arith })
  list_is_plain most s (Grow n rest) l =
      gives_choice (is_word (codes "call") n) (gives_refusal _)
      (gives_chain (term_is_plain (most - 1) n (omega arith)) (λ first h.
      gives_chain (items_are_plain (most - 1) (closing s) rest (omega arith)) (λ others k.
      gives_pure (record { call_free = (h.call_free, k.call_free); shallow = omega arith }))))

  -- a forest is read as plain terms, which nest one deeper at most
  items_are_plain : (most : ℕ) (end : Span) (f : Forest) → nesting f < most
      → Gives (PlainParts most) (grammar.items grammar.InProblem end f)
  items_are_plain most end Bare l = gives_pure (record { call_free = tt; shallow = omega arith })
  items_are_plain most end (Grow n rest) l =
      gives_choice (is_word (codes ".") n) (dotted_is_plain most end rest (omega arith))
      (gives_chain (term_is_plain most n (omega arith)) (λ first h.
      gives_chain (items_are_plain most end rest (omega arith)) (λ others k.
      gives_pure (record { call_free = (h.call_free, k.call_free); shallow = omega arith }))))

  -- the tail behind a dot is read as plain terms
  dotted_is_plain : (most : ℕ) (end : Span) (f : Forest) → nesting f < most
      → Gives (PlainParts most) (grammar.dotted grammar.InProblem end f)
  dotted_is_plain most end Bare l = gives_refusal _
  dotted_is_plain most end (Grow n rest) l =
      gives_chain (tail_is_plain most n (omega arith)) (λ behind h. gives_then (ended rest) (λ x. gives_pure h))

  -- a tail is read as plain terms
  tail_is_plain : (most : ℕ) (n : Node) → nesting_of_node n < most
      → Gives (PlainParts most) (grammar.tail grammar.InProblem n)
  tail_is_plain most (Word s text) l = word_tail_is_plain most s text
  tail_is_plain most (Numeral s n) l = gives_refusal _
  tail_is_plain most (Group s parts) l = list_tail_is_plain most s parts (omega arith)

  -- a list as a tail is read as plain terms
  list_tail_is_plain : (most : ℕ) (s : Span) (f : Forest) → nesting f < most
      → Gives (PlainParts most) (grammar.list_tail grammar.InProblem s f)
  list_tail_is_plain most s Bare l = gives_pure (record { call_free = tt; shallow = omega arith })
  list_tail_is_plain most s (Grow n rest) l =
      gives_choice (is_word (codes "call") n) (gives_refusal _)
      (gives_chain (term_is_plain most n (omega arith)) (λ first h.
      gives_chain (items_are_plain most (closing s) rest (omega arith)) (λ others k.
      gives_pure (record { call_free = (h.call_free, k.call_free); shallow = omega arith }))))

module _ (most : ℕ) where
  -- ---- atoms

  -- an atom is plain that is read by its name
  named_is_plain : (s : Span) (text : List ℕ) (f : Forest) → nesting f + 1 < most
      → Gives (IsPlainAtom most) (grammar.named_atom grammar.InProblem s text f)
  unfolding grammar.named_atom
  named_is_plain s text f l =
      gives_made (grammar.make_atom s text) (items_are_plain (most - 1) (closing s) f (omega arith))
      (λ x h. record { call_free = h.call_free; shallow = omega arith })

  -- a node is read as a plain atom
  atom_is_plain : (n : Node) → nesting_of_node n < most → Gives (IsPlainAtom most) (grammar.atom grammar.InProblem n)
  unfolding grammar.headed
  atom_is_plain n l =
      gives_begun n
      (λ text rest m. gives_choice (is_plain text) (named_is_plain (span_of n) text rest (omega arith))
      (gives_refusal _))
      (gives_refusal _)

  -- the items of a list nest less deep than the list
  items_within : (what : What) (n : Node) → nesting_of_node n < most
      → Gives (λ f. nesting f < most) (grammar.list what n)
  unfolding grammar.list
  items_within what (Word s text) l = gives_choice (grammar.is_nil text) (gives_pure (omega arith)) (gives_refusal _)
  items_within what (Numeral s n) l = gives_refusal _
  items_within what (Group s parts) l = gives_pure (omega arith)

  -- a node is read as plain atoms
  atoms_are_plain : (n : Node) → nesting_of_node n < most → Gives (All (IsPlainAtom most))
      (grammar.atoms grammar.InProblem n)
  unfolding grammar.atoms
  atoms_are_plain n l =
      gives_chain (items_within wants.Atoms n l) (λ f m.
      gives_each (IsPlainAtom most) (most - 1) f (omega arith) (λ x k. atom_is_plain x (omega arith)))

  -- ---- tasks

  -- a task is plain that is read by its name
  task_is_plain : (s : Span) (b : Bool) (text : List ℕ) (f : Forest) → nesting f + 1 < most
      → Gives (ArePlainTasks most) (grammar.task grammar.InProblem s b text f)
  task_is_plain s b text f l = gives_made (λ a. Task a b) (named_is_plain s text f l) (λ a h. h)

  -- an immediate task is plain
  immediate_is_plain : (s : Span) (f : Forest) → nesting f + 1 < most
      → Gives (ArePlainTasks most) (grammar.immediate grammar.InProblem s f)
  unfolding grammar.immediate
  immediate_is_plain s Bare l = gives_refusal _
  immediate_is_plain s (Grow (Word t text) rest) l =
      gives_choice (is_plain text) (task_is_plain s true text rest (omega arith)) (gives_refusal _)
  immediate_is_plain s (Grow (Numeral t n) rest) l = gives_refusal _
  immediate_is_plain s (Grow (Group t parts) rest) l = gives_refusal _

  mutual
    unfolding grammar.tasks grammar.list_tasks grammar.task_list

    -- a node is read as plain tasks
    tasks_are_plain : (n : Node) → nesting_of_node n < most → Gives (ArePlainTasks most)
        (grammar.tasks grammar.InProblem n)
    tasks_are_plain (Word s text) l = gives_choice (grammar.is_nil text) (gives_pure tt) (gives_refusal _)
    tasks_are_plain (Numeral s n) l = gives_refusal _
    tasks_are_plain (Group s parts) l = list_tasks_are_plain s parts (omega arith)

    -- a list is read as plain tasks
    list_tasks_are_plain : (s : Span) (f : Forest) → nesting f + 1 < most
        → Gives (ArePlainTasks most) (grammar.list_tasks grammar.InProblem s f)
    list_tasks_are_plain s Bare l = gives_pure tt
    list_tasks_are_plain s (Grow (Word t key) rest) l =
        gives_choice (grammar.is_nil key)
        (gives_made (λ ts. Ordered (Then (Ordered NoTasks) ts)) (task_list_is_plain rest (omega arith))
        (λ ts h. (tt, h)))
        (gives_choice (bytes_eq key (codes ":ordered"))
        (gives_made Ordered (task_list_is_plain rest (omega arith)) (λ ts h. h))
        (gives_choice (bytes_eq key (codes ":unordered"))
        (gives_made Unordered (task_list_is_plain rest (omega arith)) (λ ts h. h))
        (gives_choice (bytes_eq key (codes ":immediate")) (immediate_is_plain s rest (omega arith))
        (gives_choice (is_plain key) (task_is_plain s false key rest (omega arith)) (gives_refusal _)))))
    list_tasks_are_plain s (Grow (Numeral t n) rest) l = gives_refusal _
    list_tasks_are_plain s (Grow (Group t parts) rest) l =
        gives_chain (list_tasks_are_plain t parts (omega arith)) (λ first h.
        gives_chain (task_list_is_plain rest (omega arith)) (λ others k. gives_pure (h, k)))

    -- a forest is read as plain tasks
    task_list_is_plain : (f : Forest) → nesting f < most → Gives (IsPlainTaskList most)
        (grammar.task_list grammar.InProblem f)
    task_list_is_plain Bare l = gives_pure tt
    task_list_is_plain (Grow n rest) l =
        gives_chain (tasks_are_plain n (omega arith)) (λ first h.
        gives_chain (task_list_is_plain rest (omega arith)) (λ others k. gives_pure (h, k)))

  -- ---- problems

  mutual
    unfolding grammar.pairs grammar.pair_tasks

    -- nodes are read as plain pairs
    pairs_are_plain : (end : Span) (is_first : Bool) (f : Forest) → nesting f < most
        → Gives (All (IsPlainPair most)) (grammar.pairs end is_first f)
    pairs_are_plain end is_first Bare l = gives_choice is_first (gives_refusal _)
        (gives_pure (All-nil (IsPlainPair most)))
    pairs_are_plain end is_first (Grow n rest) l =
        gives_chain (atoms_are_plain n (omega arith)) (λ state s. pair_tasks_are_plain end state s rest (omega arith))

    -- behind plain atoms nodes are read as plain pairs
    pair_tasks_are_plain : (end : Span) (state : List Atom) → All (IsPlainAtom most) state → (f : Forest)
        → nesting f < most → Gives (All (IsPlainPair most)) (grammar.pair_tasks end state f)
    pair_tasks_are_plain end state s Bare l = gives_refusal _
    pair_tasks_are_plain end state s (Grow n rest) l =
        gives_chain (tasks_are_plain n (omega arith)) (λ ts t.
        gives_chain (pairs_are_plain end false rest (omega arith)) (λ others k.
        gives_pure (All-cons (IsPlainPair most) (grammar.make_pair state ts) others
        (record { state = s; tasks = t }) k)))

  -- the pairs of a problem are plain
  problem_is_plain : (s : Span) (f : Forest) → nesting f < most
      → Gives (λ (p : Problem). All (IsPlainPair most) p.pairs) (grammar.problem_list s f)
  unfolding grammar.problem_list
  problem_is_plain s f l =
      gives_chain (gives_next {most = most - 1} wants.Name (closing s) f (omega arith)) (λ x h.
      gives_then (grammar.name x.0) (λ text.
      gives_chain (gives_next {most = most - 1} wants.Name (closing s) x.1 h.rest) (λ y k.
      let b = k.rest in
      gives_then (grammar.name y.0) (λ domain.
      gives_chain (pairs_are_plain (closing s) true y.1 (omega arith)) (λ ps q.
      gives_then names_so_far (λ vars. gives_pure q))))))

  -- the pairs are plain of the problem that a node is read as
  node_is_plain : (n : Node) → nesting_of_node n ≤ most
      → Gives (λ (p : Problem). All (IsPlainPair most) p.pairs)
      (grammar.file_list wants.Problem (codes "defproblem") grammar.problem_list n)
  unfolding grammar.file_list
  node_is_plain n l =
      gives_begun n
      (λ text rest m. gives_choice (bytes_eq text (codes "defproblem"))
      (problem_is_plain (span_of n) rest (omega arith)) (gives_refusal _))
      (gives_refusal _)

  -- the pairs of the problem in a file are plain
  file_is_plain : (len : ℕ) (f : Forest) → nesting f ≤ most
      → Gives (λ (p : Problem). All (IsPlainPair most) p.pairs)
      (grammar.file wants.Problem (grammar.file_list wants.Problem (codes "defproblem") grammar.problem_list) len f)
  unfolding grammar.file
  file_is_plain len f l =
      gives_chain (gives_next {most = most} wants.Problem (grammar.end_of_file len) f l) (λ x h.
      gives_chain (node_is_plain x.0 h.first) (λ p q. gives_then (ended x.1) (λ y. gives_pure q)))

-- the pairs of the problem that a forest is the form of are plain, and nest no deeper than the forest
problem_form_is_plain : (most len : ℕ) (f : Forest) (p : Problem) → nesting f ≤ most → grammar.problem_form len f ≡ Ok p
    → All (IsPlainPair most) p.pairs
problem_form_is_plain most len f p l e =
    given_value (λ (q : Problem). All (IsPlainPair most) q.pairs)
    (grammar.file wants.Problem (grammar.file_list wants.Problem (codes "defproblem") grammar.problem_list) len f) p
    (file_is_plain most len f l) e

-- the pairs of the problem that a text is read as are plain, since a text's brackets nest no deeper than a term may
pub read_problem_is_plain : (text : List ℕ) (p : Problem) → IsRead grammar.problem_form text p
    → All (IsPlainPair DEEPEST_TERM) p.pairs
read_problem_is_plain text p h =
    problem_form_is_plain DEEPEST_TERM _ h.forest p (forest_keeps_limits text h.forest h.spelled).2 h.form_is
