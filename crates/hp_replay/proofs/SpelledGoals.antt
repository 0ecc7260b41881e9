-- Goals that are filled from terms that are spelled, matched with such, and gone through beside heads.
use Rattle.std.proofs.Common.{ℕ, Option, Some, None, Result, Ok, Err, bytes_eq, Bool}
use Rattle.std.specs.Prelude.{IfSome, IfOk}
use Rattle.std.proofs.lemmas.Bool.{cond_both}
use Rattle.hp_syntax.specs.declared.pattern.Span.{Span}
use Rattle.hp_syntax.specs.declared.pattern.Tail.{Tail}
use Rattle.hp_syntax.specs.declared.fault.RunFault.{RunFault}
use Rattle.hp_syntax.specs.Calls.{call}
use Rattle.hp_syntax.specs.Goals as goals
use Rattle.hp_syntax.specs.Syntax as syntax
use Rattle.hp_syntax.specs.Terms.{Term, Terms, Symbol, Number, Listed, NoTerm, More, same_term}
use Rattle.hp_syntax.specs.Values.{Bindings, bound, on_ok, parts_of, list_of, values}
use Rattle.hp_replay.proofs.SpelledSyntax.{AreSpelledPatterns, IsSpelledAtom, IsSpelledList, IsSpelledPattern, IsSpelledTerm}
use Rattle.hp_replay.proofs.SpelledTerms.{on_ok_if, and_then_if, map_if, parts_spelled, list_spelled, call_spelled, values_spelled, AreSpelledBindings, FindsSpelled, meet_spelled, match_spelled}

module _ (free : Bool) where
  -- each term in a part of a goal is spelled
  abbrev mutual
    pub IsSpelledFilled : goals.Filled → Type 0
    IsSpelledFilled (goals.Known t) = IsSpelledTerm free t
    IsSpelledFilled (goals.Free v) = Unit {0}
    IsSpelledFilled (goals.Partly fs tail) = AreSpelledFillings fs

    -- each term in parts of a goal is spelled
    pub AreSpelledFillings : goals.Fillings → Type 0
    AreSpelledFillings goals.NoFilling = Unit {0}
    AreSpelledFillings (goals.Then f fs) = IsSpelledFilled f × AreSpelledFillings fs

  -- each term in a goal is spelled
  abbrev pub IsSpelledGoal : goals.Goal → Type 0
  IsSpelledGoal q = AreSpelledFillings q.parts

  -- parts, whatever tail stands behind them
  abbrev IsSpelledFilling : goals.Filling → Type 0
  IsSpelledFilling f = AreSpelledFillings f.0

  -- ---- filling

  -- parts that are known terms are spelled where the terms are
  all_known_spelled : (ts : Terms) → IsSpelledList free ts → AreSpelledFillings (goals.all_known ts)
  all_known_spelled NoTerm h = tt
  all_known_spelled (More t ts) h = (h.0, all_known_spelled ts h.1)

  -- the terms that ground parts are, are spelled
  ground_spelled : (fs : goals.Fillings) (tail : Option ℕ) → AreSpelledFillings fs
      → IfSome (goals.ground_parts fs tail) (IsSpelledList free)
  ground_spelled goals.NoFilling None h = tt
  ground_spelled goals.NoFilling (Some v) h = tt
  ground_spelled (goals.Then (goals.Known t) fs) tail h =
      map_if (IsSpelledList free) (IsSpelledList free) (More t) (goals.ground_parts fs tail)
      (ground_spelled fs tail h.1) (λ ts k. (h.0, k))
  ground_spelled (goals.Then (goals.Free v) fs) tail h = tt
  ground_spelled (goals.Then (goals.Partly ps t) fs) tail h = tt

  -- a variable is filled with what is spelled, if it stands for that
  variable_filled : (v : ℕ) (o : Option Term) → IfSome o (IsSpelledTerm free)
      → IsSpelledFilled (goals.fill_variable v o)
  variable_filled v None h = tt
  variable_filled v (Some t) h = h

  -- a tail is filled with what is spelled, if it stands for that
  bound_tail_filled : (t : Tail) (o : Option Term) → IfSome o (IsSpelledTerm free)
      → IfOk (goals.fill_bound_tail t o) IsSpelledFilling
  bound_tail_filled t None h = tt
  bound_tail_filled t (Some x) h =
      on_ok_if (IsSpelledList free) IsSpelledFilling (parts_of t.span x) (λ ts. Ok (goals.all_known ts, None))
      (parts_spelled free t.span x h) all_known_spelled

  -- a list is filled with what is spelled, if its parts are
  list_filled_spelled : (s : Span) (f : goals.Filling) (o : Option Terms) → IsSpelledFilling f
      → IfSome o (IsSpelledList free)
      → IfOk (goals.list_filled s f o) IsSpelledFilled
  list_filled_spelled s f None h k = h
  list_filled_spelled s f (Some ts) h k =
      on_ok_if (IsSpelledTerm free) IsSpelledFilled (list_of s ts) (λ t. Ok (goals.Known t))
      (list_spelled free s ts k) (λ t l. l)

  module _ (e : Bindings) (b : AreSpelledBindings free e) where
    -- a tail is filled with what is spelled
    tail_filled : (tail : Option Tail) → IfOk (goals.fill_tail tail e) IsSpelledFilling
    tail_filled None = tt
    tail_filled (Some t) = bound_tail_filled t (bound e t.var) (b.each t.var)

    mutual
      unfolding goals.fill goals.fill_parts

      -- a pattern is filled with what is spelled
      fill_spelled : (p : syntax.Pattern) → IsSpelledPattern free p → IfOk (goals.fill p e) IsSpelledFilled
      fill_spelled (syntax.Variable s v) h = variable_filled v (bound e v) (b.each v)
      fill_spelled (syntax.Symbol s name) h = h
      fill_spelled (syntax.Number s n) h = h
      fill_spelled (syntax.Listing s ps tail) h =
          on_ok_if IsSpelledFilling IsSpelledFilled (goals.fill_parts ps tail e)
          (λ f. goals.list_filled s f (goals.ground_parts f.0 f.1)) (fill_parts_spelled ps tail h)
          (λ f k. list_filled_spelled s f (goals.ground_parts f.0 f.1) k (ground_spelled f.0 f.1 k))
      fill_spelled (syntax.Call s name args) h =
          on_ok_if (IsSpelledList free) IsSpelledFilled (values args None e)
          (λ ts. on_ok (call name ts s) (λ t. Ok (goals.Known t))) (values_spelled free e b args None h)
          (λ ts k. on_ok_if (IsSpelledTerm free) IsSpelledFilled (call name ts s) (λ t. Ok (goals.Known t))
          (call_spelled free name ts s k) (λ t l. l))

      -- patterns and their tail are filled with what is spelled
      fill_parts_spelled : (ps : syntax.Patterns) (tail : Option Tail) → AreSpelledPatterns free ps
          → IfOk (goals.fill_parts ps tail e) IsSpelledFilling
      fill_parts_spelled syntax.NoPattern tail h = tail_filled tail
      fill_parts_spelled (syntax.Before p ps) tail h =
          on_ok_if IsSpelledFilled IsSpelledFilling (goals.fill p e)
          (λ x. on_ok (goals.fill_parts ps tail e) (λ f. Ok (goals.Then x f.0, f.1))) (fill_spelled p h.0)
          (λ x k. on_ok_if IsSpelledFilling IsSpelledFilling (goals.fill_parts ps tail e)
          (λ f. Ok (goals.Then x f.0, f.1)) (fill_parts_spelled ps tail h.1) (λ f l. (k, l)))

    -- a goal of parts that are spelled is spelled
    goal_of_spelled : (a : syntax.Atom) (f : goals.Filling) (o : Option Terms) → IsSpelledFilling f
        → IfOk (goals.goal_of a f o) IsSpelledGoal
    goal_of_spelled a f None h = h
    goal_of_spelled a f (Some ts) h =
        on_ok_if (λ t. Unit {0}) IsSpelledGoal (list_of a.span (More (Symbol a.name) ts))
        (λ t. Ok (record { name = a.name; parts = f.0; tail = f.1 }))
        (any (list_of a.span (More (Symbol a.name) ts))) (λ t k. h)
      where
        any : (r : Result Term RunFault) → IfOk r (λ t. Unit {0})
        any (Ok t) = tt
        any (Err x) = tt

    -- a goal is filled with what is spelled
    pub goal_spelled : (a : syntax.Atom) → IsSpelledAtom free a → IfOk (goals.fill_goal a e) IsSpelledGoal
    goal_spelled a h =
        on_ok_if IsSpelledFilling IsSpelledGoal (goals.fill_parts a.args a.tail e)
        (λ f. goals.goal_of a f (goals.ground_parts f.0 f.1)) (fill_parts_spelled a.args a.tail h.args)
        (λ f k. goal_of_spelled a f (goals.ground_parts f.0 f.1) k)

  -- ---- matching a goal

  -- a free tail is bound to what is spelled
  free_tail_spelled : (tail : Option ℕ) (ts : Terms) (e : Bindings) → IsSpelledList free ts → AreSpelledBindings free e
      → FindsSpelled free (goals.match_free_tail tail ts e)
  free_tail_spelled (Some v) ts e h b = meet_spelled free v (Listed ts) e h b
  free_tail_spelled None NoTerm e h b = b
  free_tail_spelled None (More t ts) e h b = tt

  mutual
    unfolding goals.match_filled goals.match_fillings

    -- matching a part of a goal binds variables to what is spelled
    match_filled_spelled : (f : goals.Filled) (t : Term) (e : Bindings) → IsSpelledTerm free t
        → AreSpelledBindings free e
        → FindsSpelled free (goals.match_filled f t e)
    match_filled_spelled (goals.Known x) t e h b =
        cond_both (same_term x t) (Some e) None (FindsSpelled free) (λ k. b) (λ k. tt)
    match_filled_spelled (goals.Free v) t e h b = meet_spelled free v t e h b
    match_filled_spelled (goals.Partly fs tail) (Listed ts) e h b = match_fillings_spelled fs tail ts e h b
    match_filled_spelled (goals.Partly fs tail) (Symbol name) e h b = tt
    match_filled_spelled (goals.Partly fs tail) (Number n) e h b = tt

    -- matching parts of a goal binds variables to what is spelled
    match_fillings_spelled : (fs : goals.Fillings) (tail : Option ℕ) (ts : Terms) (e : Bindings) → IsSpelledList free ts
        → AreSpelledBindings free e → FindsSpelled free (goals.match_fillings fs tail ts e)
    match_fillings_spelled goals.NoFilling tail ts e h b = free_tail_spelled tail ts e h b
    match_fillings_spelled (goals.Then f fs) tail NoTerm e h b = tt
    match_fillings_spelled (goals.Then f fs) tail (More t ts) e h b =
        and_then_if (AreSpelledBindings free) (AreSpelledBindings free) (goals.match_fillings fs tail ts)
        (goals.match_filled f t e)
        (match_filled_spelled f t e h.0 b) (λ d k. match_fillings_spelled fs tail ts d h.1 k)

  -- matching a goal with what is spelled binds variables to what is spelled
  pub match_goal_spelled : (q : goals.Goal) (t : Term) (e : Bindings) → IsSpelledTerm free t → AreSpelledBindings free e
      → FindsSpelled free (goals.match_goal q t e)
  match_goal_spelled q (Symbol name) e h b = tt
  match_goal_spelled q (Number n) e h b = tt
  match_goal_spelled q (Listed NoTerm) e h b = tt
  match_goal_spelled q (Listed (More (Symbol name) ts)) e h b =
      cond_both (bytes_eq q.name name) (goals.match_fillings q.parts q.tail ts e) None (FindsSpelled free)
      (λ k. match_fillings_spelled q.parts q.tail ts e h.1 b) (λ k. tt)
  match_goal_spelled q (Listed (More (Number n) ts)) e h b = tt
  match_goal_spelled q (Listed (More (Listed xs) ts)) e h b = tt

  -- ---- starting an axiom

  -- the tail of a head is bound to what is spelled
  start_tail_spelled : (t : Tail) (o : Option Terms) (b : Bindings) → IfSome o (IsSpelledList free)
      → AreSpelledBindings free b
      → FindsSpelled free (goals.start_tail t o b)
  start_tail_spelled t None b h k = k
  start_tail_spelled t (Some ts) b h k = meet_spelled free t.var (Listed ts) b h k

  mutual
    unfolding goals.start goals.start_parts

    -- a pattern of a head, beside a part of a goal, binds variables to what is spelled
    start_spelled : (p : syntax.Pattern) (f : goals.Filled) (b : Bindings) → IsSpelledFilled f
        → AreSpelledBindings free b
        → FindsSpelled free (goals.start p f b)
    start_spelled p (goals.Known t) b h k = match_spelled free p t b h k
    start_spelled p (goals.Free v) b h k = k
    start_spelled (syntax.Variable s v) (goals.Partly fs tail) b h k = k
    start_spelled (syntax.Listing s ps own) (goals.Partly fs tail) b h k = start_parts_spelled ps own fs tail b h k
    start_spelled (syntax.Symbol s name) (goals.Partly fs tail) b h k = tt
    start_spelled (syntax.Number s n) (goals.Partly fs tail) b h k = tt
    start_spelled (syntax.Call s name args) (goals.Partly fs tail) b h k = tt

    -- patterns of a head, beside parts of a goal, bind variables to what is spelled
    start_parts_spelled : (ps : syntax.Patterns) (own : Option Tail) (fs : goals.Fillings) (tail : Option ℕ)
        (b : Bindings) → AreSpelledFillings fs → AreSpelledBindings free b
        → FindsSpelled free (goals.start_parts ps own fs tail b)
    start_parts_spelled ps own goals.NoFilling (Some v) b h k = k
    start_parts_spelled syntax.NoPattern (Some t) goals.NoFilling None b h k =
        start_tail_spelled t (goals.ground_parts goals.NoFilling None) b tt k
    start_parts_spelled syntax.NoPattern (Some t) (goals.Then f fs) tail b h k =
        start_tail_spelled t (goals.ground_parts (goals.Then f fs) tail) b (ground_spelled (goals.Then f fs) tail h) k
    start_parts_spelled syntax.NoPattern None goals.NoFilling None b h k = k
    start_parts_spelled syntax.NoPattern None (goals.Then f fs) tail b h k = tt
    start_parts_spelled (syntax.Before p ps) own goals.NoFilling None b h k = tt
    start_parts_spelled (syntax.Before p ps) own (goals.Then f fs) tail b h k =
        and_then_if (AreSpelledBindings free) (AreSpelledBindings free) (goals.start_parts ps own fs tail)
        (goals.start p f b)
        (start_spelled p f b h.0 k) (λ d l. start_parts_spelled ps own fs tail d h.1 l)

  -- the head of an axiom starts from a goal in bindings to what is spelled
  pub start_goal_spelled : (a : syntax.Atom) (q : goals.Goal) (b : Bindings) → IsSpelledGoal q
      → AreSpelledBindings free b
      → FindsSpelled free (goals.start_goal a q b)
  start_goal_spelled a q b h k =
      cond_both (bytes_eq a.name q.name) (goals.start_parts a.args a.tail q.parts q.tail b) None (FindsSpelled free)
      (λ e. start_parts_spelled a.args a.tail q.parts q.tail b h k) (λ e. tt)
