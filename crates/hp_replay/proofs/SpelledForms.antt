-- What is read of nodes that a text spells is spelled.
use Rattle.std.proofs.Common.{◌≡◌, ℕ, ◌-◌, ◌<◌, ◌^◌, Bool, true, false, ◌||◌, cond, ℤ, pos, negsuc, List, [], Option, Some, None, Ok, Err, refl, arith, bytes_eq, codes, ap, ◌&&◌}
use Rattle.std.specs.Prelude.{Result, int_le}
use Rattle.std.specs.List.{All, list_any}
use Rattle.std.specs.Bool.{Decides}
use Rattle.std.proofs.lemmas.Bool.{not-true, cond_both, and_from, le-leb}
use Rattle.std.proofs.lemmas.List.Elements.{All-nil, All-cons}
use Rattle.std.proofs.lemmas.Slice.Eq.{bytes_eq-Decides}
use Rattle.hp_syntax.specs.declared.pattern.Span.{Span}
use Rattle.hp_syntax.specs.declared.pattern.Tail.{Tail}
use Rattle.hp_syntax.specs.declared.form.What.{What}
use Rattle.hp_syntax.specs.declared.form.What.TheVariants as wants
use Rattle.hp_syntax.specs.Calls.{fits}
use Rattle.hp_syntax.specs.Forest.{Node, Word, Numeral, Group, Forest, Bare, Grow, span_of}
use Rattle.hp_syntax.specs.Grammar as grammar
use Rattle.hp_syntax.specs.Names.{is_variable, is_plain, begins_with, reserved}
use Rattle.hp_syntax.specs.Steps.{Misform, Names, Parse, and_then, pure, next, each, begun, if_begun, by_itself, closing, ended, is_word, numbered, names_so_far}
use Rattle.hp_syntax.specs.Syntax as syntax
use Rattle.hp_syntax.specs.TermTexts.{num_text}
use Rattle.hp_syntax.specs.TextForms.{IsRead}
use Rattle.hp_laws.proofs.StepLemmas.{Gives, gives_chain, gives_any, gives_then, gives_pure, gives_refusal, gives_made, gives_choice, given_value}
use Rattle.hp_print.proofs.CanSpell as tokens
use Rattle.hp_print.proofs.NumberTexts.{spelled_in_range}
use Rattle.hp_print.proofs.SpelledNodes.{can_spell}
use Rattle.hp_replay.specs.StrayCalls.{stray_calls}
use Rattle.hp_replay.specs.Writable.{IsName, is_no_symbol}
use Rattle.hp_replay.proofs.ReadWords.{never, IsReadWord, CanRead, CanReadList, CanReadAll, CanReadItem, CanReadItems, as_item, list_items, head_read, rest_read, all_can_read}
use Rattle.hp_replay.proofs.SpelledSyntax.{IsSpelledPattern, AreSpelledPatterns, IsSpelledAtom, IsSpelledExpression, AreSpelledExpressions, IsSpelledPrecondition, AreSpelledTasks, IsSpelledTaskList, IsSpelledEffect, IsSpelledBranch, IsSpelledClause, IsSpelledRule, IsSpelledPair}
use lib.Signed.{mag}

-- ---- steps

-- a choice gives what each of its steps gives where the test says so
chooses : {A : Type 0} {P : A → Type 0} (b : Bool) {p q : Parse A} → (b ≡ true → Gives P p) → (b ≡ false → Gives P q)
    → Gives P (cond b p q)
chooses true h k = h refl
chooses false h k = k refl

-- this holds of the value, where there is one
abbrev GivesResult : {A : Type 0} → (A → Type 0) → Result (A × Names) Misform → Type 0
GivesResult P (Ok x) = P x.0
GivesResult P (Err m) = Unit {0}

-- a step with variables of its own gives the same
by_itself_gives : {A : Type 0} {P : A → Type 0} {p : Parse A} → Gives P p → Gives P (by_itself p)
by_itself_gives {A} {P} {p} h = record { given = λ names. of_result names (p []) (h.given []) }
  where
    of_result : (names : Names) (r : Result (A × Names) Misform) → GivesResult P r
        → GivesResult P (and_then r (λ x rest. pure x names))
    of_result names (Ok x) k = k
    of_result names (Err m) k = tt

-- ---- tokens

-- a token of a text spells its name
to_name : (text : List ℕ) → tokens.IsName text → IsName text
to_name text h = record { bytes = h.bytes; some = h.some; short = h.short; spells = h.spells }

-- a number of the language fits
fits_from : (n : ℤ) → mag n < 2 ^ 63 → fits n ≡ true
fits_from (pos n) l =
    and_from (int_le (negsuc (2 ^ 63 - 1)) (pos n)) (int_le (pos n) (pos (2 ^ 63 - 1))) refl
    (le-leb n (2 ^ 63 - 1) (omega arith))
fits_from (negsuc n) l =
    and_from (int_le (negsuc (2 ^ 63 - 1)) (negsuc n)) (int_le (negsuc n) (pos (2 ^ 63 - 1)))
    (le-leb n (2 ^ 63 - 1) (omega arith)) refl

-- a number that a token spells fits
number_fits : (n : ℤ) → tokens.IsNumber n → fits n ≡ true
number_fits n h = fits_from n (spelled_in_range (num_text n) n h.spells)

-- three tests that fail fail together
none_of : (a b c : Bool) → a ≡ false → b ≡ false → c ≡ false → a || b || c ≡ false
none_of a b c h k l = rw (h, k, l) refl

-- a plain name differs from each name that isn't plain
plain_is_not : (key other : List ℕ) → is_plain key ≡ true → is_plain other ≡ false → bytes_eq key other ≡ false
plain_is_not key other e f = at (bytes_eq key other) (bytes_eq-Decides key other)
  where
    at : (b : Bool) → Decides b (key ≡ other) → b ≡ false
    at true d = let same = ap is_plain (d.0 refl) in absurd cc
    at false d = refl

-- what does not begin with a question mark is no variable
no_variable : (name : List ℕ) → begins_with 63 name ≡ false → is_variable name ≡ false
no_variable name h = rw h refl

-- where neither of two tests holds, the first doesn't
first_of_neither : (a b : Bool) → a || b ≡ false → a ≡ false
first_of_neither true b h = absurd cc
first_of_neither false b h = refl

-- a plain name is the name of a symbol
plain_symbol : (name : List ℕ) → is_plain name ≡ true → is_no_symbol name ≡ false
plain_symbol name h =
    let a = first_of_neither (begins_with 63 name || begins_with 58 name) (list_any (bytes_eq name) reserved)
    (not-true _ h) in
    let b = first_of_neither (begins_with 63 name) (begins_with 58 name) a in
    none_of (bytes_eq name (codes ".")) (bytes_eq name (codes "nil")) (is_variable name)
    (plain_is_not name (codes ".") h refl) (plain_is_not name (codes "nil") h refl) (no_variable name b)

module _ (free : Bool) where
  -- ---- nodes

  -- a node that can be read, and what follows it
  abbrev CanReadBoth : Node × Forest → Type 0
  CanReadBoth x = CanRead free x.0 × CanReadAll free x.1

  -- the next item and what follows it can be read if all can
  next_spelled : (what : What) (end : Span) (f : Forest) → CanReadAll free f → Gives CanReadBoth (next what end f)
  next_spelled what end Bare h = gives_refusal _
  next_spelled what end (Grow n f) h = gives_pure h

  -- each item has a property that what is read of a node has which can be read
  each_spelled : {A : Type 0} (P : A → Type 0) {item : Node → Parse A} (f : Forest) → CanReadItems free f
      → ((n : Node) → CanReadItem free n → Gives P (item n)) → Gives (All P) (each item f)
  each_spelled P Bare h k = gives_pure (All-nil P)
  each_spelled P (Grow n f) h k =
      gives_chain (k n h.0) (λ x a. gives_chain (each_spelled P f h.1 k) (λ xs b. gives_pure (All-cons P x xs a b)))

  -- a list is read by its first name, and the name and what follows it can be read
  begun_spelled : {A : Type 0} {P : A → Type 0} (n : Node) {by_name : List ℕ → Forest → Parse A} (m : Misform)
      → CanReadItem free n
      → ((text : List ℕ) (rest : Forest) → tokens.IsName text → CanReadAll free rest → Gives P (by_name text rest))
      → Gives P (if_begun (begun n) by_name (λ names. Err m))
  begun_spelled (Word s text) m h k = gives_refusal m
  begun_spelled (Numeral s n) m h k = gives_refusal m
  begun_spelled (Group s Bare) m h k = gives_refusal m
  begun_spelled (Group s (Grow (Word t text) rest)) m h k = k text rest h.0 h.1
  begun_spelled (Group s (Grow (Numeral t n) rest)) m h k = gives_refusal m
  begun_spelled (Group s (Grow (Group t parts) rest)) m h k = gives_refusal m

  -- ---- terms

  -- a word is read as a pattern that is spelled
  word_spelled : (s : Span) (text : List ℕ) → IsReadWord free text
      → Gives (IsSpelledPattern free) (grammar.word_term s text)
  unfolding grammar.word_term
  word_spelled s text h =
      chooses (bytes_eq text (codes ".")) (λ e. gives_refusal _)
      (λ dot. chooses (grammar.is_nil text) (λ e. gives_pure tt)
      (λ nil. chooses (is_variable text) (λ e. gives_made (syntax.Variable s) (gives_any (numbered text)) (λ v k. tt))
      (λ var. gives_pure (record {
        symbol = record {
          token = to_name text h.token;
          symbol = none_of (bytes_eq text (codes ".")) (grammar.is_nil text) (is_variable text) dot nil var;
        };
        other = h.other;
      }))))

  -- parts that are spelled, whatever tail stands behind them
  abbrev AreSpelledParts : syntax.Patterns × Option Tail → Type 0
  AreSpelledParts x = AreSpelledPatterns free x.0

  -- a word as a tail has no parts
  word_tail_spelled : (s : Span) (text : List ℕ) → Gives AreSpelledParts (grammar.word_tail s text)
  unfolding grammar.word_tail
  word_tail_spelled s text =
      gives_choice (grammar.is_nil text) (gives_pure tt)
      (gives_choice (is_variable text) (gives_made (grammar.tail_at s) (gives_any (numbered text)) (λ v k. tt))
      (gives_refusal _))

  mutual
    unfolding grammar.term grammar.list_term grammar.items grammar.dotted grammar.tail grammar.list_tail grammar.called
        grammar.terms

    -- a node is read as a pattern that is spelled
    term_spelled : (setting : grammar.Setting) (n : Node) → CanRead free n
        → Gives (IsSpelledPattern free) (grammar.term setting n)
    term_spelled setting (Word s text) h = word_spelled s text h
    term_spelled setting (Numeral s n) h = gives_pure (number_fits n h)
    term_spelled setting (Group s parts) h = list_term_spelled setting s parts h

    -- a list is read as a pattern that is spelled
    list_term_spelled : (setting : grammar.Setting) (s : Span) (f : Forest) → CanReadList free f
        → Gives (IsSpelledPattern free) (grammar.list_term setting s f)
    list_term_spelled setting s Bare h = gives_pure tt
    list_term_spelled setting s (Grow n rest) h =
        chooses (is_word (codes "call") n) (λ e. called_spelled setting s rest (rest_read free n rest h))
        (λ e. gives_chain (term_spelled setting n (head_read free n rest h e)) (λ first k.
        gives_chain (items_spelled setting (closing s) rest (rest_read free n rest h)) (λ others l. gives_pure (k, l))))

    -- nodes are read as parts that are spelled
    items_spelled : (setting : grammar.Setting) (end : Span) (f : Forest) → CanReadAll free f
        → Gives AreSpelledParts (grammar.items setting end f)
    items_spelled setting end Bare h = gives_pure tt
    items_spelled setting end (Grow n rest) h =
        gives_choice (is_word (codes ".") n) (dotted_spelled setting end rest h.1)
        (gives_chain (term_spelled setting n h.0) (λ first k.
        gives_chain (items_spelled setting end rest h.1) (λ others l. gives_pure (k, l))))

    -- what stands behind a dot is read as parts that are spelled
    dotted_spelled : (setting : grammar.Setting) (end : Span) (f : Forest) → CanReadAll free f
        → Gives AreSpelledParts (grammar.dotted setting end f)
    dotted_spelled setting end Bare h = gives_refusal _
    dotted_spelled setting end (Grow n rest) h =
        gives_chain (tail_spelled setting n h.0) (λ behind k. gives_then (ended rest) (λ x. gives_pure k))

    -- a tail is read as parts that are spelled
    tail_spelled : (setting : grammar.Setting) (n : Node) → CanRead free n
        → Gives AreSpelledParts (grammar.tail setting n)
    tail_spelled setting (Word s text) h = word_tail_spelled s text
    tail_spelled setting (Numeral s n) h = gives_refusal _
    tail_spelled setting (Group s parts) h = list_tail_spelled setting s parts h

    -- a list as a tail is read as parts that are spelled
    list_tail_spelled : (setting : grammar.Setting) (s : Span) (f : Forest) → CanReadList free f
        → Gives AreSpelledParts (grammar.list_tail setting s f)
    list_tail_spelled setting s Bare h = gives_pure tt
    list_tail_spelled setting s (Grow n rest) h =
        chooses (is_word (codes "call") n) (λ e. gives_refusal _)
        (λ e. gives_chain (term_spelled setting n (head_read free n rest h e)) (λ first k.
        gives_chain (items_spelled setting (closing s) rest (rest_read free n rest h)) (λ others l. gives_pure (k, l))))

    -- a call is read as a pattern that is spelled
    called_spelled : (setting : grammar.Setting) (s : Span) (f : Forest) → CanReadAll free f
        → Gives (IsSpelledPattern free) (grammar.called setting s f)
    called_spelled grammar.InProblem s f h = gives_refusal _
    called_spelled grammar.InRule s Bare h = gives_refusal _
    called_spelled grammar.InRule s (Grow n rest) h =
        gives_then (grammar.name n) (λ text. gives_chain (terms_spelled rest h.1) (λ args k. gives_pure k))

    -- arguments are read as patterns that are spelled
    terms_spelled : (f : Forest) → CanReadAll free f → Gives (AreSpelledPatterns free) (grammar.terms f)
    terms_spelled Bare h = gives_pure tt
    terms_spelled (Grow n rest) h =
        gives_chain (term_spelled grammar.InRule n h.0) (λ first k.
        gives_chain (terms_spelled rest h.1) (λ others l. gives_pure (k, l)))

  -- ---- atoms

  -- what follows a plain name is read as an atom that is spelled
  named_spelled : (setting : grammar.Setting) (s : Span) (text : List ℕ) (f : Forest) → tokens.IsName text
      → is_plain text ≡ true → CanReadAll free f → Gives (IsSpelledAtom free) (grammar.named_atom setting s text f)
  unfolding grammar.named_atom
  named_spelled setting s text f h e k =
      gives_made (grammar.make_atom s text) (items_spelled setting (closing s) f k)
      (λ x l. record {
        word = record {
          symbol = record { token = to_name text h; symbol = plain_symbol text e };
          other = rw (plain_is_not text (codes "call") e refl) (never free);
        };
        plain = e;
        args = l;
      })

  -- a list with a plain name is read as an atom that is spelled
  headed_spelled : (what : What) (setting : grammar.Setting) (n : Node) → CanReadItem free n
      → Gives (IsSpelledAtom free) (grammar.headed what is_plain setting n)
  unfolding grammar.headed
  headed_spelled what setting n h =
      begun_spelled n _ h (λ text rest k l. chooses (is_plain text)
      (λ e. named_spelled setting (span_of n) text rest k e l) (λ e. gives_refusal _))

  -- the items of a list can be spelled
  list_spelled : (what : What) (n : Node) → CanRead free n → Gives (CanReadItems free) (grammar.list what n)
  unfolding grammar.list
  list_spelled what (Word s text) h = gives_choice (grammar.is_nil text) (gives_pure tt) (gives_refusal _)
  list_spelled what (Numeral s n) h = gives_refusal _
  list_spelled what (Group s parts) h = gives_pure (list_items free parts h)

  -- atoms are read as such that are spelled
  atoms_spelled : (setting : grammar.Setting) (n : Node) → CanRead free n
      → Gives (All (IsSpelledAtom free)) (grammar.atoms setting n)
  unfolding grammar.atoms
  atoms_spelled setting n h =
      gives_chain (list_spelled wants.Atoms n h) (λ f k.
      each_spelled (IsSpelledAtom free) f k (headed_spelled wants.Atom setting))

  -- ---- expressions

  -- an assignment is read as one that is spelled
  assigned_spelled : (s : Span) (f : Forest) → CanReadAll free f
      → Gives (IsSpelledExpression free) (grammar.assigned s f)
  unfolding grammar.assigned
  assigned_spelled s f h =
      gives_chain (next_spelled wants.Variable (closing s) f h) (λ left k.
      gives_then (grammar.variable left.0) (λ v.
      gives_chain (next_spelled wants.Term (closing s) left.1 k.1) (λ right l.
      gives_chain (term_spelled grammar.InRule right.0 l.0) (λ value m.
      gives_then (ended right.1) (λ x. gives_pure m)))))

  -- the second of two expressions is spelled
  abbrev IsSecondSpelled : syntax.Expression × syntax.Expression → Type 0
  IsSecondSpelled both = IsSpelledExpression free both.1

  mutual
    unfolding grammar.expression grammar.list_expression grammar.expressions grammar.one_expression
        grammar.two_expressions grammar.quantified

    -- a node is read as an expression that is spelled
    expression_spelled : (n : Node) → CanRead free n → Gives (IsSpelledExpression free) (grammar.expression n)
    expression_spelled (Word s text) h = gives_choice (grammar.is_nil text) (gives_pure tt) (gives_refusal _)
    expression_spelled (Numeral s n) h = gives_refusal _
    expression_spelled (Group s parts) h = list_expression_spelled s parts h

    -- a list is read as an expression that is spelled
    list_expression_spelled : (s : Span) (f : Forest) → CanReadList free f
        → Gives (IsSpelledExpression free) (grammar.list_expression s f)
    list_expression_spelled s Bare h = gives_pure tt
    list_expression_spelled s (Grow (Word t key) rest) h =
        gives_choice (grammar.is_nil key)
        (gives_made (λ es. syntax.And s (syntax.Also (syntax.And t syntax.NoExpression) es))
        (expressions_spelled rest h.1) (λ es k. (tt, k)))
        (gives_choice (bytes_eq key (codes "and"))
        (gives_made (syntax.And s) (expressions_spelled rest h.1) (λ es k. k))
        (gives_choice (bytes_eq key (codes "or"))
        (gives_made (syntax.Or s) (expressions_spelled rest h.1) (λ es k. k))
        (gives_choice (bytes_eq key (codes "not"))
        (gives_made (syntax.Not s) (gives_any (grammar.one_expression (closing s) rest)) (λ e k. tt))
        (gives_choice (bytes_eq key (codes "imply"))
        (gives_made (grammar.implied s) (two_expressions_spelled (closing s) rest h.1) (λ both k. (tt, (k, tt))))
        (gives_choice (bytes_eq key (codes "forall")) (quantified_spelled s rest)
        (gives_choice (bytes_eq key (codes "assign")) (assigned_spelled s rest h.1)
        (gives_choice (bytes_eq key (codes "call"))
        (gives_made (syntax.Test s) (gives_any (grammar.called grammar.InRule s rest)) (λ p k. tt))
        (chooses (is_plain key)
        (λ e. gives_made (syntax.Holds s) (named_spelled grammar.InRule s key rest h.0 e h.1) (λ a k. k))
        (λ e. gives_refusal _)))))))))
    list_expression_spelled s (Grow (Numeral t n) rest) h = gives_refusal _
    list_expression_spelled s (Grow (Group t parts) rest) h =
        gives_chain (list_expression_spelled t parts h.0) (λ first k.
        gives_chain (expressions_spelled rest h.1) (λ others l. gives_pure (k, l)))

    -- nodes are read as expressions that are spelled
    expressions_spelled : (f : Forest) → CanReadAll free f → Gives (AreSpelledExpressions free) (grammar.expressions f)
    expressions_spelled Bare h = gives_pure tt
    expressions_spelled (Grow n rest) h =
        gives_chain (expression_spelled n h.0) (λ first k.
        gives_chain (expressions_spelled rest h.1) (λ others l. gives_pure (k, l)))

    -- one expression is read as one that is spelled
    one_expression_spelled : (end : Span) (f : Forest) → CanReadAll free f
        → Gives (IsSpelledExpression free) (grammar.one_expression end f)
    one_expression_spelled end Bare h = gives_refusal _
    one_expression_spelled end (Grow n rest) h =
        gives_chain (expression_spelled n h.0) (λ e k. gives_then (ended rest) (λ x. gives_pure k))

    -- the second of two expressions is read as one that is spelled
    two_expressions_spelled : (end : Span) (f : Forest) → CanReadAll free f
        → Gives IsSecondSpelled (grammar.two_expressions end f)
    two_expressions_spelled end Bare h = gives_refusal _
    two_expressions_spelled end (Grow n rest) h =
        gives_then (grammar.expression n) (λ first.
        gives_chain (one_expression_spelled end rest h.1) (λ second k. gives_pure k))

    -- a quantified expression binds nothing
    quantified_spelled : (s : Span) (f : Forest) → Gives (IsSpelledExpression free) (grammar.quantified s f)
    quantified_spelled s Bare = gives_refusal _
    quantified_spelled s (Grow n rest) =
        gives_then (grammar.variables n) (λ vs.
        gives_then (grammar.two_expressions (closing s) rest) (λ both. gives_pure tt))

  -- ---- preconditions

  -- the conjunction of expressions that are spelled is spelled
  gathered_spelled : (s : Span) (es : syntax.Expressions) → AreSpelledExpressions free es
      → IsSpelledExpression free (grammar.gathered s es)
  gathered_spelled s syntax.NoExpression h = tt
  gathered_spelled s (syntax.Also e syntax.NoExpression) h = h.0
  gathered_spelled s (syntax.Also e (syntax.Also f es)) h = h

  -- what follows an order can be spelled
  order_spelled : (f : Forest) → CanReadAll free f → CanReadAll free (grammar.order f).1
  unfolding grammar.order
  order_spelled Bare h = tt
  order_spelled (Grow (Word s text) rest) h =
      cond_both {A = syntax.Order × Forest} (grammar.is_nil text) (syntax.Up, Grow (Word s text) rest)
      (grammar.order_named s text, rest)
      (λ x. CanReadAll free x.1) (λ e. h) (λ e. h.1)
  order_spelled (Grow (Numeral s n) rest) h = h
  order_spelled (Grow (Group s parts) rest) h = h

  -- a sort is read as a precondition that is spelled
  sorted_spelled : (s : Span) (f : Forest) → CanReadAll free f → Gives (IsSpelledPrecondition free) (grammar.sorted s f)
  unfolding grammar.sorted
  sorted_spelled s f h =
      gives_chain (next_spelled wants.Variable (closing s) f h) (λ by k.
      gives_then (grammar.variable by.0) (λ v.
      gives_chain (expressions_spelled (grammar.order by.1).1 (order_spelled by.1 k.1)) (λ es l.
      gives_pure (gathered_spelled s es l))))

  -- a list as a plain precondition is read as one that is spelled
  plain_spelled : (s : Span) (f : Forest) → CanReadList free f
      → Gives (IsSpelledPrecondition free)
      (λ names. and_then (grammar.list_expression s f names) (λ e. pure (syntax.Plain e)))
  plain_spelled s f h = gives_made syntax.Plain (list_expression_spelled s f h) (λ e k. k)

  -- a list is read as a precondition that is spelled
  list_precondition_spelled : (s : Span) (f : Forest) → CanReadList free f
      → Gives (IsSpelledPrecondition free) (grammar.list_precondition s f)
  unfolding grammar.list_precondition
  list_precondition_spelled s Bare h = plain_spelled s Bare h
  list_precondition_spelled s (Grow (Word t key) rest) h =
      gives_choice (bytes_eq key (codes ":first"))
      (gives_made (λ es. syntax.First (grammar.gathered s es)) (expressions_spelled rest h.1)
      (λ es k. gathered_spelled s es k))
      (gives_choice (bytes_eq key (codes ":sort-by")) (sorted_spelled s rest h.1)
      (plain_spelled s (Grow (Word t key) rest) h))
  list_precondition_spelled s (Grow (Numeral t n) rest) h = plain_spelled s (Grow (Numeral t n) rest) h
  list_precondition_spelled s (Grow (Group t parts) rest) h = plain_spelled s (Grow (Group t parts) rest) h

  -- a node is read as a precondition that is spelled
  precondition_spelled : (n : Node) → CanRead free n → Gives (IsSpelledPrecondition free) (grammar.precondition n)
  unfolding grammar.precondition
  precondition_spelled (Word s text) h = gives_choice (grammar.is_nil text) (gives_pure tt) (gives_refusal _)
  precondition_spelled (Numeral s n) h = gives_refusal _
  precondition_spelled (Group s parts) h = list_precondition_spelled s parts h

  -- ---- tasks

  -- what follows a plain name is read as a task that is spelled
  task_spelled : (setting : grammar.Setting) (s : Span) (b : Bool) (text : List ℕ) (f : Forest) → tokens.IsName text
      → is_plain text ≡ true → CanReadAll free f → Gives (AreSpelledTasks free) (grammar.task setting s b text f)
  task_spelled setting s b text f h e k =
      gives_made (λ a. syntax.Task a b) (named_spelled setting s text f h e k) (λ a l. l)

  -- an immediate task is read as one that is spelled
  immediate_spelled : (setting : grammar.Setting) (s : Span) (f : Forest) → CanReadAll free f
      → Gives (AreSpelledTasks free) (grammar.immediate setting s f)
  unfolding grammar.immediate
  immediate_spelled setting s Bare h = gives_refusal _
  immediate_spelled setting s (Grow (Word t text) rest) h =
      chooses (is_plain text) (λ e. task_spelled setting s true text rest h.0.token e h.1) (λ e. gives_refusal _)
  immediate_spelled setting s (Grow (Numeral t n) rest) h = gives_refusal _
  immediate_spelled setting s (Grow (Group t parts) rest) h = gives_refusal _

  mutual
    unfolding grammar.tasks grammar.list_tasks grammar.task_list

    -- a node is read as tasks that are spelled
    tasks_spelled : (setting : grammar.Setting) (n : Node) → CanRead free n
        → Gives (AreSpelledTasks free) (grammar.tasks setting n)
    tasks_spelled setting (Word s text) h = gives_choice (grammar.is_nil text) (gives_pure tt) (gives_refusal _)
    tasks_spelled setting (Numeral s n) h = gives_refusal _
    tasks_spelled setting (Group s parts) h = list_tasks_spelled setting s parts h

    -- a list is read as tasks that are spelled
    list_tasks_spelled : (setting : grammar.Setting) (s : Span) (f : Forest) → CanReadList free f
        → Gives (AreSpelledTasks free) (grammar.list_tasks setting s f)
    list_tasks_spelled setting s Bare h = gives_pure tt
    list_tasks_spelled setting s (Grow (Word t key) rest) h =
        gives_choice (grammar.is_nil key)
        (gives_made (λ ts. syntax.Ordered (syntax.Then (syntax.Ordered syntax.NoTasks) ts))
        (task_list_spelled setting rest h.1) (λ ts k. (tt, k)))
        (gives_choice (bytes_eq key (codes ":ordered"))
        (gives_made syntax.Ordered (task_list_spelled setting rest h.1) (λ ts k. k))
        (gives_choice (bytes_eq key (codes ":unordered"))
        (gives_made syntax.Unordered (task_list_spelled setting rest h.1) (λ ts k. k))
        (gives_choice (bytes_eq key (codes ":immediate")) (immediate_spelled setting s rest h.1)
        (chooses (is_plain key) (λ e. task_spelled setting s false key rest h.0 e h.1) (λ e. gives_refusal _)))))
    list_tasks_spelled setting s (Grow (Numeral t n) rest) h = gives_refusal _
    list_tasks_spelled setting s (Grow (Group t parts) rest) h =
        gives_chain (list_tasks_spelled setting t parts h.0) (λ first k.
        gives_chain (task_list_spelled setting rest h.1) (λ others l. gives_pure (k, l)))

    -- nodes are read as tasks that are spelled
    task_list_spelled : (setting : grammar.Setting) (f : Forest) → CanReadAll free f
        → Gives (IsSpelledTaskList free) (grammar.task_list setting f)
    task_list_spelled setting Bare h = gives_pure tt
    task_list_spelled setting (Grow n rest) h =
        gives_chain (tasks_spelled setting n h.0) (λ first k.
        gives_chain (task_list_spelled setting rest h.1) (λ others l. gives_pure (k, l)))

  -- ---- effects

  -- a protection adds nothing
  protection_spelled : (s : Span) (f : Forest) → Gives (IsSpelledEffect free) (grammar.protection s f)
  unfolding grammar.protection
  protection_spelled s f =
      gives_then (next wants.Atom (closing s) f) (λ x.
      gives_then (grammar.atom grammar.InRule x.0) (λ a. gives_then (ended x.1) (λ y. gives_pure tt)))

  -- a quantified effect is read as one that is spelled
  for_each_spelled : (s : Span) (f : Forest) → CanReadAll free f → Gives (IsSpelledEffect free) (grammar.for_each s f)
  unfolding grammar.for_each
  for_each_spelled s f h =
      gives_chain (next_spelled wants.Variable (closing s) f h) (λ x k.
      gives_then (grammar.variables x.0) (λ vs.
      gives_chain (next_spelled wants.Expr (closing s) x.1 k.1) (λ y l.
      gives_chain (expression_spelled y.0 l.0) (λ e m.
      gives_chain (next_spelled wants.Atoms (closing s) y.1 l.1) (λ z q.
      gives_chain (atoms_spelled grammar.InRule z.0 q.0) (λ changed r.
      gives_then (ended z.1) (λ u. gives_pure (m, r))))))))

  -- a node is read as an effect that is spelled
  effect_spelled : (n : Node) → CanReadItem free n → Gives (IsSpelledEffect free) (grammar.effect n)
  unfolding grammar.effect grammar.keyed_effect
  effect_spelled n h =
      begun_spelled n _ h (λ key rest k l.
      gives_choice (bytes_eq key (codes ":protection")) (protection_spelled (span_of n) rest)
      (gives_choice (bytes_eq key (codes "forall")) (for_each_spelled (span_of n) rest l)
      (chooses (is_plain key)
      (λ e. gives_made syntax.Change (named_spelled grammar.InRule (span_of n) key rest k e l) (λ a m. m))
      (λ e. gives_refusal _))))

  -- effects are read as such that are spelled
  effects_spelled : (n : Node) → CanRead free n → Gives (All (IsSpelledEffect free)) (grammar.effects n)
  unfolding grammar.effects
  effects_spelled n h =
      gives_chain (list_spelled wants.Effects n h) (λ f k. each_spelled (IsSpelledEffect free) f k effect_spelled)

  -- ---- rules

  -- an operator is read as one that is spelled
  operator_spelled : (s : Span) (f : Forest) → CanReadAll free f → Gives (IsSpelledRule free) (grammar.operator s f)
  unfolding grammar.operator
  operator_spelled s f h =
      gives_chain (next_spelled wants.Head (closing s) f h) (λ x a.
      gives_then _ (λ head.
      gives_chain (next_spelled wants.Pre (closing s) x.1 a.1) (λ p b.
      gives_chain (precondition_spelled p.0 b.0) (λ pre c.
      gives_chain (next_spelled wants.Effects (closing s) p.1 b.1) (λ d i.
      gives_then (grammar.effects d.0) (λ dels.
      gives_chain (next_spelled wants.Effects (closing s) d.1 i.1) (λ y j.
      gives_chain (effects_spelled y.0 j.0) (λ adds k.
      gives_then (grammar.cost s y.1) (λ price.
      gives_then names_so_far (λ vars. gives_pure (record { pre = c; adds = k })))))))))))

  mutual
    unfolding grammar.branches grammar.named_branch grammar.branch_tasks

    -- branches of a method are read as such that are spelled
    branches_spelled : (end : Span) (is_first : Bool) (f : Forest) → CanReadAll free f
        → Gives (All (IsSpelledBranch free)) (grammar.branches end is_first f)
    branches_spelled end is_first Bare h =
        gives_choice is_first (gives_refusal _) (gives_pure (All-nil (IsSpelledBranch free)))
    branches_spelled end is_first (Grow n rest) h =
        gives_choice (grammar.begins_named n)
        (gives_then (grammar.branch_name n) (λ text. named_branch_spelled end text rest h.1))
        (gives_chain (precondition_spelled n h.0) (λ p k. branch_tasks_spelled end None p rest k h.1))

    -- those behind a name are
    named_branch_spelled : (end : Span) (text : List ℕ) (f : Forest) → CanReadAll free f
        → Gives (All (IsSpelledBranch free)) (grammar.named_branch end text f)
    named_branch_spelled end text Bare h = gives_refusal _
    named_branch_spelled end text (Grow n rest) h =
        gives_chain (precondition_spelled n h.0) (λ p k. branch_tasks_spelled end (Some text) p rest k h.1)

    -- those behind a precondition are
    branch_tasks_spelled : (end : Span) (text : Option (List ℕ)) (p : syntax.Precondition) (f : Forest)
        → IsSpelledPrecondition free p → CanReadAll free f
        → Gives (All (IsSpelledBranch free)) (grammar.branch_tasks end text p f)
    branch_tasks_spelled end text p Bare k h = gives_refusal _
    branch_tasks_spelled end text p (Grow n rest) k h =
        gives_chain (tasks_spelled grammar.InRule n h.0) (λ t l.
        gives_chain (branches_spelled end false rest h.1) (λ others m.
        gives_pure (All-cons (IsSpelledBranch free) (grammar.make_branch text p t) others
        (record { pre = k; tasks = l }) m)))

  -- a method is read as one that is spelled
  method_spelled : (s : Span) (f : Forest) → CanReadAll free f → Gives (IsSpelledRule free) (grammar.method s f)
  unfolding grammar.method
  method_spelled s f h =
      gives_chain (next_spelled wants.Head (closing s) f h) (λ x a.
      gives_then _ (λ head.
      gives_chain (branches_spelled (closing s) true x.1 a.1) (λ bs k.
      gives_then names_so_far (λ vars. gives_pure k))))

  mutual
    unfolding grammar.clauses grammar.named_clause

    -- branches of an axiom are read as such that are spelled
    clauses_spelled : (end : Span) (is_first : Bool) (f : Forest) → CanReadAll free f
        → Gives (All (IsSpelledClause free)) (grammar.clauses end is_first f)
    clauses_spelled end is_first Bare h =
        gives_choice is_first (gives_refusal _) (gives_pure (All-nil (IsSpelledClause free)))
    clauses_spelled end is_first (Grow n rest) h =
        gives_choice (grammar.begins_named n)
        (gives_then (grammar.branch_name n) (λ text. named_clause_spelled end text rest h.1))
        (gives_chain (expression_spelled n h.0) (λ e k.
        gives_chain (clauses_spelled end false rest h.1) (λ others l.
        gives_pure (All-cons (IsSpelledClause free) (grammar.make_clause None e) others k l))))

    -- those behind a name are
    named_clause_spelled : (end : Span) (text : List ℕ) (f : Forest) → CanReadAll free f
        → Gives (All (IsSpelledClause free)) (grammar.named_clause end text f)
    named_clause_spelled end text Bare h = gives_refusal _
    named_clause_spelled end text (Grow n rest) h =
        gives_chain (expression_spelled n h.0) (λ e k.
        gives_chain (clauses_spelled end false rest h.1) (λ others l.
        gives_pure (All-cons (IsSpelledClause free) (grammar.make_clause (Some text) e) others k l)))

  -- an axiom is read as one that is spelled
  axiom_spelled : (s : Span) (f : Forest) → CanReadAll free f → Gives (IsSpelledRule free) (grammar.axiom_rule s f)
  unfolding grammar.axiom_rule
  axiom_spelled s f h =
      gives_chain (next_spelled wants.Head (closing s) f h) (λ x a.
      gives_chain (headed_spelled wants.Head grammar.InRule x.0 (as_item free x.0 a.0)) (λ head k.
      gives_chain (clauses_spelled (closing s) true x.1 a.1) (λ cs l.
      gives_then names_so_far (λ vars. gives_pure (record { head = k; clauses = l })))))

  -- a node is read as a rule that is spelled
  rule_spelled : (n : Node) → CanReadItem free n → Gives (IsSpelledRule free) (grammar.rule n)
  unfolding grammar.rule grammar.keyed_rule
  rule_spelled n h =
      begun_spelled n _ h (λ key rest k l.
      by_itself_gives
      (gives_choice (bytes_eq key (codes ":operator")) (operator_spelled (span_of n) rest l)
      (gives_choice (bytes_eq key (codes ":method")) (method_spelled (span_of n) rest l)
      (gives_choice (bytes_eq key (codes ":-")) (axiom_spelled (span_of n) rest l) (gives_refusal _)))))

  -- ---- files

  -- each rule of a domain is spelled
  abbrev IsSpelledDomain : syntax.Domain → Type 0
  IsSpelledDomain d = All (IsSpelledRule free) d.rules

  -- a list is read as a domain whose rules are spelled
  domain_spelled : (s : Span) (f : Forest) → CanReadAll free f → Gives IsSpelledDomain (grammar.domain_list s f)
  unfolding grammar.domain_list
  domain_spelled s f h =
      gives_chain (next_spelled wants.Name (closing s) f h) (λ x a.
      gives_then (grammar.name x.0) (λ text.
      gives_chain (next_spelled wants.Rules (closing s) x.1 a.1) (λ y b.
      gives_chain {P = All (IsSpelledRule free)}
      (gives_chain (list_spelled wants.Rules y.0 b.0) (λ g k. each_spelled (IsSpelledRule free) g k rule_spelled))
      (λ rules l.
      gives_then (ended y.1) (λ u. gives_pure l)))))

  mutual
    unfolding grammar.pairs grammar.pair_tasks

    -- pairs are read as such that are spelled
    pairs_spelled : (end : Span) (is_first : Bool) (f : Forest) → CanReadAll free f
        → Gives (All (IsSpelledPair free)) (grammar.pairs end is_first f)
    pairs_spelled end is_first Bare h =
        gives_choice is_first (gives_refusal _) (gives_pure (All-nil (IsSpelledPair free)))
    pairs_spelled end is_first (Grow n rest) h =
        gives_chain (atoms_spelled grammar.InProblem n h.0) (λ state k. pair_tasks_spelled end state rest k h.1)

    -- those behind atoms are
    pair_tasks_spelled : (end : Span) (state : List syntax.Atom) (f : Forest) → All (IsSpelledAtom free) state
        → CanReadAll free f
        → Gives (All (IsSpelledPair free)) (grammar.pair_tasks end state f)
    pair_tasks_spelled end state Bare k h = gives_refusal _
    pair_tasks_spelled end state (Grow n rest) k h =
        gives_chain (tasks_spelled grammar.InProblem n h.0) (λ ts l.
        gives_chain (pairs_spelled end false rest h.1) (λ others m.
        gives_pure (All-cons (IsSpelledPair free) (grammar.make_pair state ts) others
        (record { state = k; tasks = l }) m)))

  -- each pair of a problem is spelled
  abbrev IsSpelledProblem : syntax.Problem → Type 0
  IsSpelledProblem p = All (IsSpelledPair free) p.pairs

  -- a list is read as a problem whose pairs are spelled
  problem_spelled : (s : Span) (f : Forest) → CanReadAll free f → Gives IsSpelledProblem (grammar.problem_list s f)
  unfolding grammar.problem_list
  problem_spelled s f h =
      gives_chain (next_spelled wants.Name (closing s) f h) (λ x a.
      gives_then (grammar.name x.0) (λ text.
      gives_chain (next_spelled wants.Name (closing s) x.1 a.1) (λ y b.
      gives_then (grammar.name y.0) (λ domain.
      gives_chain (pairs_spelled (closing s) true y.1 b.1) (λ ps k.
      gives_then names_so_far (λ vars. gives_pure k))))))

  -- the only node of a file gives what its parts give
  file_spelled : {A : Type 0} (P : A → Type 0) (what : What) (key : List ℕ) (parts : Span → Forest → Parse A)
      → ((s : Span) (f : Forest) → CanReadAll free f → Gives P (parts s f)) → (len : ℕ) (f : Forest) → CanReadAll free f
      → Gives P (grammar.file what (grammar.file_list what key parts) len f)
  unfolding grammar.file grammar.file_list
  file_spelled P what key parts k len f h =
      gives_chain (next_spelled what (grammar.end_of_file len) f h) (λ x a.
      gives_chain {P = P}
      (begun_spelled x.0 _ (as_item free x.0 a.0) (λ text rest b c.
      gives_choice (bytes_eq text key) (k (span_of x.0) rest c) (gives_refusal _))) (λ v l.
      gives_then (ended x.1) (λ y. gives_pure l)))

  -- the rules of a domain that is read are spelled
  pub read_rules_spelled : (text : List ℕ) (d : syntax.Domain) → (h : IsRead grammar.domain_form text d)
      → free && stray_calls h.forest ≡ false → All (IsSpelledRule free) d.rules
  read_rules_spelled text d h k =
      given_value IsSpelledDomain _ d
      (file_spelled IsSpelledDomain wants.Domain (codes "defdomain") grammar.domain_list domain_spelled _ h.forest
      (all_can_read free h.forest (can_spell text h.forest h.spelled) k)) h.form_is

  -- the pairs of a problem that is read are spelled
  pub read_pairs_spelled : (text : List ℕ) (p : syntax.Problem) → (h : IsRead grammar.problem_form text p)
      → free && stray_calls h.forest ≡ false → All (IsSpelledPair free) p.pairs
  read_pairs_spelled text p h k =
      given_value IsSpelledProblem _ p
      (file_spelled IsSpelledProblem wants.Problem (codes "defproblem") grammar.problem_list problem_spelled _ h.forest
      (all_can_read free h.forest (can_spell text h.forest h.spelled) k)) h.form_is
