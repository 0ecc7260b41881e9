-- What is matched, valued and filled from terms that are spelled is spelled.
use Rattle.std.proofs.Common.{◌≡◌, ℕ, zero, suc, ◌≤◌, Bool, true, false, cond, ℤ, pos, negsuc, ◌-ℤ◌, ◌*ℤ◌, List, [], ◌∷◌, Option, Some, None, Result, Ok, Err, refl, sym, ◌∙◌, ap, subst, arith, bytes_eq, codes}
use Rattle.std.specs.Prelude.{IfSome, IfOk, nat_lt, replicate, slice_get, slice_set, option_map, int_div, int_rem, unsigned_abs}
use Rattle.std.specs.Int.{int_min, int_max}
use Rattle.std.specs.Option.{option_and_then}
use Rattle.std.specs.Ordering.{int_eq}
use Rattle.std.proofs.lemmas.Bool.{cond_both, ltb-false}
use Rattle.hp_syntax.specs.declared.limits.TheConstants.{DEEPEST_TERM}
use Rattle.hp_syntax.specs.declared.pattern.Span.{Span}
use Rattle.hp_syntax.specs.declared.pattern.Tail.{Tail}
use Rattle.hp_syntax.specs.declared.fault.RunFault.{RunFault}
use Rattle.hp_syntax.specs.declared.fault.FaultKind.TheVariants.{TooDeep, Overflow, ZeroDivisor, FractionPower}
use Rattle.hp_syntax.specs.Text.{spelling_of}
use Rattle.hp_syntax.specs.Calls.{fits, fault_at, number, truth, numbers, in_turn, product, whole_power, power, Row, InTurn, OfTwo, OfOne, OfTerms, OfList, Unknown, row, from_left, of_two, of_one, of_terms, of_list, called, call}
use Rattle.hp_syntax.specs.Matching.{met, meet, match_tail, match_pattern, match_parts, match_atom}
use Rattle.hp_syntax.specs.Syntax as syntax
use Rattle.hp_syntax.specs.Terms.{Term, Terms, Symbol, Number, Listed, NoTerm, More, same_term, term_nesting}
use Rattle.hp_syntax.specs.Values.{Bindings, unbound, bound, on_ok, value_of_variable, parts_of, list_of, tail_value, value, values, atom_value}
use Rattle.hp_replay.specs.Writable.{is_named}
use Rattle.hp_replay.proofs.ReadWords.{never}
use Rattle.hp_replay.proofs.SpelledSyntax.{AreSpelledPatterns, IsSpelledAtom, IsSpelledList, IsSpelledPattern, IsSpelledStep, IsSpelledTerm}

-- ---- results and options

-- what goes on from a value of which one thing holds to values of which another does, gives only such values
pub on_ok_if : {A B : Type 0} (P : A → Type 0) (Q : B → Type 0) (r : Result A RunFault) (f : A → Result B RunFault)
    → IfOk r P → ((x : A) → P x → IfOk (f x) Q) → IfOk (on_ok r f) Q
on_ok_if P Q (Ok x) f h k = k x h
on_ok_if P Q (Err e) f h k = tt

-- so does what goes on from something
pub and_then_if : {A B : Type 0} (P : A → Type 0) (Q : B → Type 0) (f : A → Option B) (o : Option A)
    → IfSome o P → ((x : A) → P x → IfSome (f x) Q) → IfSome (option_and_then f o) Q
and_then_if P Q f None h k = tt
and_then_if P Q f (Some x) h k = k x h

-- what is made of something has a property that follows from one of that
pub map_if : {A B : Type 0} (P : A → Type 0) (Q : B → Type 0) (f : A → B) (o : Option A)
    → IfSome o P → ((x : A) → P x → Q (f x)) → IfSome (option_map f o) Q
map_if P Q f None h k = tt
map_if P Q f (Some x) h k = k x h

module _ (free : Bool) where
  -- ---- calls

  -- the value of a call is spelled, where there is one
  abbrev GivesSpelled : Result Term RunFault → Type 0
  GivesSpelled r = IfOk r (IsSpelledTerm free)

  -- each number fits
  abbrev AllFit : List ℤ → Type 0
  AllFit [] = Unit {0}
  AllFit (n ∷ ns) = (fits n ≡ true) × AllFit ns

  -- a number that is given fits
  number_spelled : (s : Span) (n : ℤ) → GivesSpelled (number s n)
  number_spelled s n = cond_both (fits n) (Ok (Number n)) (Err (fault_at Overflow s)) GivesSpelled (λ e. e) (λ e. tt)

  -- a truth value is spelled
  truth_spelled : (b : Bool) → GivesSpelled (truth b)
  unfolding spelling_of
  truth_spelled true = record {
    symbol = record {
      token = record { bytes = refl; some = omega arith; short = omega arith; spells = refl };
      symbol = refl;
    };
    other = never free;
  }
  truth_spelled false = tt

  -- the numbers that terms are fit where the terms are spelled
  numbers_fit : (ts : Terms) → IsSpelledList free ts → IfSome (numbers ts) AllFit
  numbers_fit NoTerm h = tt
  numbers_fit (More (Number n) ts) h =
      map_if AllFit AllFit (λ ns. n ∷ ns) (numbers ts) (numbers_fit ts h.1) (λ ns k. (h.0, k))
  numbers_fit (More (Symbol name) ts) h = tt
  numbers_fit (More (Listed xs) ts) h = tt

  -- a function of numbers, one after another, gives a number that fits
  in_turn_spelled : (f : ℤ → ℤ → ℤ) (s : Span) (n : ℤ) (ns : List ℤ) → fits n ≡ true → GivesSpelled (in_turn f s n ns)
  in_turn_spelled f s n [] h = h
  in_turn_spelled f s n (m ∷ ms) h =
      cond_both (fits (f n m)) (in_turn f s (f n m) ms) (Err (fault_at Overflow s)) GivesSpelled
      (in_turn_spelled f s (f n m) ms) (λ e. tt)

  -- a whole power that is given fits
  whole_power_spelled : (s : Span) (m n : ℤ) → GivesSpelled (whole_power s m n)
  whole_power_spelled s m (pos k) = in_turn_spelled product s (pos 1000) (replicate k m) refl
  whole_power_spelled s m (negsuc k) = tt

  -- a power that is given fits
  power_spelled : (s : Span) (m n : ℤ) → GivesSpelled (power s m n)
  power_spelled s m n =
      cond_both (int_eq (int_rem n (pos 1000)) (pos 0)) (whole_power s m (int_div n (pos 1000)))
      (Err (fault_at FractionPower s)) GivesSpelled (λ e. whole_power_spelled s m (int_div n (pos 1000))) (λ e. tt)

  -- what is spelled stays so where a divisor that is zero is a fault
  unless_zero : (s : Span) (n : ℤ) (r : Result Term RunFault) → GivesSpelled r
      → GivesSpelled (cond (int_eq n (pos 0)) (Err (fault_at ZeroDivisor s)) r)
  unless_zero s n r h = cond_both (int_eq n (pos 0)) (Err (fault_at ZeroDivisor s)) r GivesSpelled (λ e. tt) (λ e. h)

  -- a function of two numbers gives what is spelled
  abbrev IsGoodOfTwo : (Span → ℤ → ℤ → Result Term RunFault) → Type 0
  IsGoodOfTwo f = (s : Span) (m n : ℤ) → GivesSpelled (f s m n)

  -- the functions of a row give what is spelled
  abbrev IsGoodRow : Row → Type 0
  IsGoodRow (InTurn f) = Unit {0}
  IsGoodRow (OfTwo f) = IsGoodOfTwo f
  IsGoodRow (OfOne f) = (s : Span) (n : ℤ) → GivesSpelled (f s n)
  IsGoodRow (OfTerms f) = Unit {0}
  IsGoodRow (OfList f) = Unit {0}
  IsGoodRow Unknown = Unit {0}

  -- a choice between good rows is a good row
  either_row : (b : Bool) (x y : Row) → IsGoodRow x → IsGoodRow y → IsGoodRow (cond b x y)
  either_row true x y h k = h
  either_row false x y h k = k

  -- each row of the table is good
  row_good : (name : List ℕ) → IsGoodRow (row name)
  row_good name =
      either_row (bytes_eq name (codes "+")) _ _ tt (
      either_row (bytes_eq name (codes "*")) _ _ tt (
      either_row (bytes_eq name (codes "-")) _ _ (λ s m n. number_spelled s (m -ℤ n)) (
      either_row (bytes_eq name (codes "/")) _ _
      (λ s m n. unless_zero s n (number s (int_div (m *ℤ pos 1000) n)) (number_spelled s (int_div (m *ℤ pos 1000) n))) (
      either_row (bytes_eq name (codes "mod")) _ _
      (λ s m n. unless_zero s n (number s (int_rem m n)) (number_spelled s (int_rem m n))) (
      either_row (bytes_eq name (codes "^")) _ _ power_spelled (
      either_row (bytes_eq name (codes "min")) _ _ (λ s m n. number_spelled s (int_min m n)) (
      either_row (bytes_eq name (codes "max")) _ _ (λ s m n. number_spelled s (int_max m n)) (
      either_row (bytes_eq name (codes "abs")) _ _ (λ s n. number_spelled s (pos (unsigned_abs n))) (
      either_row (bytes_eq name (codes "<")) _ _ (λ s m n. truth_spelled _) (
      either_row (bytes_eq name (codes "<=")) _ _ (λ s m n. truth_spelled _) (
      either_row (bytes_eq name (codes ">=")) _ _ (λ s m n. truth_spelled _) (
      either_row (bytes_eq name (codes ">")) _ _ (λ s m n. truth_spelled _) (
      either_row (bytes_eq name (codes "=")) _ _ tt (
      either_row (bytes_eq name (codes "!=")) _ _ tt (
      either_row (bytes_eq name (codes "member")) _ _ tt tt)))))))))))))))

  -- numbers from the left on give what is spelled
  from_left_spelled : (f : ℤ → ℤ → ℤ) (s : Span) (o : Option (List ℤ)) → IfSome o AllFit
      → GivesSpelled (from_left f s o)
  from_left_spelled f s None h = tt
  from_left_spelled f s (Some []) h = tt
  from_left_spelled f s (Some (n ∷ ns)) h = in_turn_spelled f s n ns h.0

  -- a call of two numbers gives what is spelled
  of_two_spelled : (f : Span → ℤ → ℤ → Result Term RunFault) (s : Span) (o : Option (List ℤ)) → IsGoodOfTwo f
      → GivesSpelled (of_two f s o)
  of_two_spelled f s None h = tt
  of_two_spelled f s (Some []) h = tt
  of_two_spelled f s (Some (m ∷ [])) h = tt
  of_two_spelled f s (Some (m ∷ n ∷ [])) h = h s m n
  of_two_spelled f s (Some (m ∷ n ∷ k ∷ ns)) h = tt

  -- a call of one number gives what is spelled
  of_one_spelled : (f : Span → ℤ → Result Term RunFault) (s : Span) (o : Option (List ℤ))
      → ((s : Span) (n : ℤ) → GivesSpelled (f s n)) → GivesSpelled (of_one f s o)
  of_one_spelled f s None h = tt
  of_one_spelled f s (Some []) h = tt
  of_one_spelled f s (Some (n ∷ [])) h = h s n
  of_one_spelled f s (Some (m ∷ n ∷ ns)) h = tt

  -- a test of two terms gives what is spelled
  of_terms_spelled : (f : Term → Term → Bool) (ts : Terms) → GivesSpelled (of_terms f ts)
  of_terms_spelled f NoTerm = tt
  of_terms_spelled f (More x NoTerm) = tt
  of_terms_spelled f (More x (More y NoTerm)) = truth_spelled (f x y)
  of_terms_spelled f (More x (More y (More z ts))) = tt

  -- a test of a term and a list gives what is spelled
  of_list_spelled : (f : Term → Terms → Bool) (s : Span) (ts : Terms) → GivesSpelled (of_list f s ts)
  of_list_spelled f s NoTerm = tt
  of_list_spelled f s (More x NoTerm) = tt
  of_list_spelled f s (More x (More (Listed ys) NoTerm)) = truth_spelled (f x ys)
  of_list_spelled f s (More x (More (Symbol name) NoTerm)) = tt
  of_list_spelled f s (More x (More (Number n) NoTerm)) = tt
  of_list_spelled f s (More x (More (Listed ys) (More z ts))) = tt
  of_list_spelled f s (More x (More (Symbol name) (More z ts))) = tt
  of_list_spelled f s (More x (More (Number n) (More z ts))) = tt

  -- a good row gives what is spelled of what is spelled
  called_spelled : (r : Row) (ts : Terms) (s : Span) → IsGoodRow r → IsSpelledList free ts
      → GivesSpelled (called r ts s)
  called_spelled (InTurn f) ts s g h = from_left_spelled f s (numbers ts) (numbers_fit ts h)
  called_spelled (OfTwo f) ts s g h = of_two_spelled f s (numbers ts) g
  called_spelled (OfOne f) ts s g h = of_one_spelled f s (numbers ts) g
  called_spelled (OfTerms f) ts s g h = of_terms_spelled f ts
  called_spelled (OfList f) ts s g h = of_list_spelled f s ts
  called_spelled Unknown ts s g h = tt

  -- the value of a call of what is spelled is spelled
  pub call_spelled : (name : List ℕ) (ts : Terms) (s : Span) → IsSpelledList free ts → GivesSpelled (call name ts s)
  unfolding call
  call_spelled name ts s h = called_spelled (row name) ts s (row_good name) h

  -- ---- values

  -- each variable stands for what is spelled, or for nothing
  pub record AreSpelledBindings (e : Bindings) : Type 0 where
    pub each : (v : ℕ) → IfSome (bound e v) (IsSpelledTerm free)

  -- where no variable is bound, none stands for anything
  pub unbound_spelled : (n : ℕ) → AreSpelledBindings (unbound n)
  unbound_spelled n = record { each = none n }
    where
      none : (n v : ℕ) → IfSome (bound (unbound n) v) (IsSpelledTerm free)
      none zero v = tt
      none (suc n) zero = tt
      none (suc n) (suc v) = none n v

  -- the value of a variable is spelled, if it stands for that
  variable_spelled : (s : Span) (o : Option Term) → IfSome o (IsSpelledTerm free) → GivesSpelled (value_of_variable s o)
  variable_spelled s None h = tt
  variable_spelled s (Some t) h = h

  -- the parts of a list that is spelled are spelled
  pub parts_spelled : (s : Span) (t : Term) → IsSpelledTerm free t → IfOk (parts_of s t) (IsSpelledList free)
  parts_spelled s (Listed ts) h = h
  parts_spelled s (Symbol name) h = tt
  parts_spelled s (Number n) h = tt

  -- a list of terms that are spelled is spelled, and nests no deeper than a term may
  record IsList (ts : Terms) (t : Term) : Type 0 where
    same : t ≡ Listed ts
    shallow : term_nesting t ≤ DEEPEST_TERM

  -- a list that is given is that of its parts, and nests no deeper than a term may
  list_shallow : (s : Span) (ts : Terms) → IfOk (list_of s ts) (IsList ts)
  list_shallow s ts =
      cond_both (nat_lt DEEPEST_TERM (term_nesting (Listed ts))) (Err (fault_at TooDeep s)) (Ok (Listed ts))
      (λ r. IfOk r (IsList ts)) (λ e. tt)
      (λ e. record { same = refl; shallow = ltb-false DEEPEST_TERM (term_nesting (Listed ts)) e })

  -- a list that is given of parts that are spelled is spelled
  pub list_spelled : (s : Span) (ts : Terms) → IsSpelledList free ts → GivesSpelled (list_of s ts)
  list_spelled s ts h =
      cond_both (nat_lt DEEPEST_TERM (term_nesting (Listed ts))) (Err (fault_at TooDeep s)) (Ok (Listed ts))
      GivesSpelled
      (λ e. tt) (λ e. h)

  module _ (e : Bindings) (b : AreSpelledBindings e) where
    -- the parts behind those of a list are spelled
    tail_spelled : (tail : Option Tail) → IfOk (tail_value tail e) (IsSpelledList free)
    tail_spelled None = tt
    tail_spelled (Some t) =
        on_ok_if (IsSpelledTerm free) (IsSpelledList free) (value_of_variable t.span (bound e t.var)) (parts_of t.span)
        (variable_spelled t.span (bound e t.var) (b.each t.var)) (parts_spelled t.span)

    mutual
      unfolding value values

      -- the value of a pattern is spelled
      pub value_spelled : (p : syntax.Pattern) → IsSpelledPattern free p → GivesSpelled (value p e)
      value_spelled (syntax.Variable s v) h = variable_spelled s (bound e v) (b.each v)
      value_spelled (syntax.Symbol s name) h = h
      value_spelled (syntax.Number s n) h = h
      value_spelled (syntax.Listing s ps tail) h =
          on_ok_if (IsSpelledList free) (IsSpelledTerm free) (values ps tail e) (list_of s) (values_spelled ps tail h)
          (list_spelled s)
      value_spelled (syntax.Call s name args) h =
          on_ok_if (IsSpelledList free) (IsSpelledTerm free) (values args None e) (λ ts. call name ts s)
          (values_spelled args None h)
          (λ ts. call_spelled name ts s)

      -- the values of patterns and their tail are spelled
      pub values_spelled : (ps : syntax.Patterns) (tail : Option Tail) → AreSpelledPatterns free ps
          → IfOk (values ps tail e) (IsSpelledList free)
      values_spelled syntax.NoPattern tail h = tail_spelled tail
      values_spelled (syntax.Before p ps) tail h =
          on_ok_if (IsSpelledTerm free) (IsSpelledList free) (value p e)
          (λ t. on_ok (values ps tail e) (λ ts. Ok (More t ts)))
          (value_spelled p h.0)
          (λ t k. on_ok_if (IsSpelledList free) (IsSpelledList free) (values ps tail e) (λ ts. Ok (More t ts))
          (values_spelled ps tail h.1)
          (λ ts l. (k, l)))

    -- the value of an atom is a step, whatever its atom is for
    pub atom_spelled : (a : syntax.Atom) → IsSpelledAtom free a → IfOk (atom_value a e) (IsSpelledStep free)
    atom_spelled a h =
        on_ok_if (IsSpelledList free) (IsSpelledStep free) (values a.args a.tail e)
        (λ ts. list_of a.span (More (Symbol a.name) ts))
        (values_spelled a.args a.tail h.args)
        (λ ts k. of_list ts k (list_of a.span (More (Symbol a.name) ts))
        (list_shallow a.span (More (Symbol a.name) ts)))
      where
        of_list : (ts : Terms) → IsSpelledList free ts → (r : Result Term RunFault)
            → IfOk r (IsList (More (Symbol a.name) ts))
            → IfOk r (IsSpelledStep free)
        of_list ts k (Err f) l = tt
        of_list ts k (Ok t) l = record {
          named = ap is_named l.same ∙ h.plain;
          spelled = subst (IsSpelledTerm free) (sym l.same) (h.word, k);
          shallow = let n = l.shallow in omega arith;
        }

  -- ---- matching

  -- a variable that is set to what is spelled stands for that, and others for what they stood for
  set_spelled : (e : Bindings) (v w : ℕ) (t : Term) → IsSpelledTerm free t → IfSome (bound e w) (IsSpelledTerm free)
      → IfSome (bound (slice_set e v (Some t)) w) (IsSpelledTerm free)
  set_spelled [] v w t h k = tt
  set_spelled (y ∷ e) zero zero t h k = h
  set_spelled (y ∷ e) zero (suc w) t h k = k
  set_spelled (y ∷ e) (suc v) zero t h k = k
  set_spelled (y ∷ e) (suc v) (suc w) t h k = set_spelled e v w t h k

  -- bindings that are found, where there are any, are of what is spelled
  abbrev pub FindsSpelled : Option Bindings → Type 0
  FindsSpelled o = IfSome o AreSpelledBindings

  -- a variable that meets what is spelled is bound to that
  met_spelled : (o : Option (Option Term)) (v : ℕ) (t : Term) (e : Bindings) → IsSpelledTerm free t
      → AreSpelledBindings e
      → FindsSpelled (met o v t e)
  met_spelled None v t e h b = tt
  met_spelled (Some None) v t e h b = record { each = λ w. set_spelled e v w t h (b.each w) }
  met_spelled (Some (Some old)) v t e h b = cond_both (same_term old t) (Some e) None FindsSpelled (λ k. b) (λ k. tt)

  -- meeting a variable binds it to what is spelled
  pub meet_spelled : (v : ℕ) (t : Term) (e : Bindings) → IsSpelledTerm free t → AreSpelledBindings e
      → FindsSpelled (meet v t e)
  meet_spelled v t e h b = met_spelled (slice_get e v) v t e h b

  -- a tail is bound to what is spelled
  match_tail_spelled : (tail : Option Tail) (ts : Terms) (e : Bindings) → IsSpelledList free ts → AreSpelledBindings e
      → FindsSpelled (match_tail tail ts e)
  match_tail_spelled (Some t) ts e h b = meet_spelled t.var (Listed ts) e h b
  match_tail_spelled None NoTerm e h b = b
  match_tail_spelled None (More t ts) e h b = tt

  mutual
    unfolding match_pattern match_parts

    -- matching what is spelled binds variables to what is spelled
    pub match_spelled : (p : syntax.Pattern) (t : Term) (e : Bindings) → IsSpelledTerm free t → AreSpelledBindings e
        → FindsSpelled (match_pattern p t e)
    match_spelled (syntax.Variable s v) t e h b = meet_spelled v t e h b
    match_spelled (syntax.Symbol s name) (Symbol x) e h b =
        cond_both (bytes_eq name x) (Some e) None FindsSpelled (λ k. b) (λ k. tt)
    match_spelled (syntax.Symbol s name) (Number n) e h b = tt
    match_spelled (syntax.Symbol s name) (Listed ts) e h b = tt
    match_spelled (syntax.Number s n) (Symbol x) e h b = tt
    match_spelled (syntax.Number s n) (Number m) e h b =
        cond_both (int_eq n m) (Some e) None FindsSpelled (λ k. b) (λ k. tt)
    match_spelled (syntax.Number s n) (Listed ts) e h b = tt
    match_spelled (syntax.Listing s ps tail) (Symbol x) e h b = tt
    match_spelled (syntax.Listing s ps tail) (Number n) e h b = tt
    match_spelled (syntax.Listing s ps tail) (Listed ts) e h b = match_parts_spelled ps tail ts e h b
    match_spelled (syntax.Call s name args) t e h b = tt

    -- matching patterns and their tail binds variables to what is spelled
    match_parts_spelled : (ps : syntax.Patterns) (tail : Option Tail) (ts : Terms) (e : Bindings)
        → IsSpelledList free ts
        → AreSpelledBindings e → FindsSpelled (match_parts ps tail ts e)
    match_parts_spelled syntax.NoPattern tail ts e h b = match_tail_spelled tail ts e h b
    match_parts_spelled (syntax.Before p ps) tail NoTerm e h b = tt
    match_parts_spelled (syntax.Before p ps) tail (More t ts) e h b =
        and_then_if AreSpelledBindings AreSpelledBindings (match_parts ps tail ts) (match_pattern p t e)
        (match_spelled p t e h.0 b) (λ d k. match_parts_spelled ps tail ts d h.1 k)

  -- matching the head of a rule with a task that is spelled binds variables to what is spelled
  pub match_atom_spelled : (a : syntax.Atom) (t : Term) (e : Bindings) → IsSpelledTerm free t → AreSpelledBindings e
      → FindsSpelled (match_atom a t e)
  match_atom_spelled a (Symbol name) e h b = tt
  match_atom_spelled a (Number n) e h b = tt
  match_atom_spelled a (Listed NoTerm) e h b = tt
  match_atom_spelled a (Listed (More (Symbol name) ts)) e h b =
      cond_both (bytes_eq a.name name) (match_parts a.args a.tail ts e) None FindsSpelled
      (λ k. match_parts_spelled a.args a.tail ts e h.1 b) (λ k. tt)
  match_atom_spelled a (Listed (More (Number n) ts)) e h b = tt
  match_atom_spelled a (Listed (More (Listed xs) ts)) e h b = tt
