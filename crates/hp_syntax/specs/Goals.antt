-- Goals: an atom filled with what its variables stand for, matched with an atom of the state, and gone through
-- beside the head of an axiom.
use Rattle.std.specs.Prelude.{ℕ, cond, List, Option, Some, None, option_map, Result, Ok, bytes_eq}
use Rattle.std.specs.Option.{option_and_then}
use Rattle.hp_syntax.specs.declared.pattern.Span.{Span}
use Rattle.hp_syntax.specs.declared.pattern.Tail.{Tail}
use Rattle.hp_syntax.specs.declared.fault.RunFault.{RunFault}
use Rattle.hp_syntax.specs.Syntax.{Pattern, Patterns, Variable, Listing, Call, NoPattern, Before, Atom}
use Rattle.hp_syntax.specs.Syntax as syntax
use Rattle.hp_syntax.specs.Terms.{Term, Terms, Symbol, Number, Listed, NoTerm, More, same_term}
use Rattle.hp_syntax.specs.Calls.{call}
use Rattle.hp_syntax.specs.Values.{Bindings, bound, on_ok, parts_of, list_of, values}
use Rattle.hp_syntax.specs.Matching.{meet, match_pattern}

-- a part of a goal is a term, a free variable, or a list that isn't ground, with a free tail or without one
mutual
  pub data Filled : Type 0 where
    Known : (t : Term) → Filled
    Free : (v : ℕ) → Filled
    Partly : (parts : Fillings) → (tail : Option ℕ) → Filled

  pub data Fillings : Type 0 where
    NoFilling : Fillings
    Then : (first : Filled) → (rest : Fillings) → Fillings

pub record Goal : Type 0 where
  pub name : List ℕ
  pub parts : Fillings
  pub tail : Option ℕ

-- ---- filling

-- parts that are filled, and the free tail behind them
abbrev pub Filling : Type 0
Filling = Fillings × Option ℕ

abbrev pub all_known : Terms → Fillings
all_known NoTerm = NoFilling
all_known (More t ts) = Then (Known t) (all_known ts)

-- the terms that parts are, where all are ground and no tail is free
abbrev pub ground_parts : Fillings → Option ℕ → Option Terms
ground_parts NoFilling None = Some NoTerm
ground_parts NoFilling (Some v) = None
ground_parts (Then (Known t) fs) tail = option_map (More t) (ground_parts fs tail)
ground_parts (Then (Free v) fs) tail = None
ground_parts (Then (Partly ps t) fs) tail = None

abbrev pub fill_variable : ℕ → Option Term → Filled
fill_variable v None = Free v
fill_variable v (Some t) = Known t

-- a tail that stands for no term stays; the parts of the list that another one stands for take its place
abbrev pub fill_bound_tail : Tail → Option Term → Result Filling RunFault
fill_bound_tail t None = Ok (NoFilling, Some t.var)
fill_bound_tail t (Some x) = on_ok (parts_of t.span x) (λ ts. Ok (all_known ts, None))

abbrev pub fill_tail : Option Tail → Bindings → Result Filling RunFault
fill_tail None e = Ok (NoFilling, None)
fill_tail (Some t) e = fill_bound_tail t (bound e t.var)

-- a list is known where its parts are
abbrev pub list_filled : Span → Filling → Option Terms → Result Filled RunFault
list_filled s f None = Ok (Partly f.0 f.1)
list_filled s f (Some ts) = on_ok (list_of s ts) (λ t. Ok (Known t))

-- a pattern with what its variables stand for; outside of calls a variable that stands for nothing stays
unfoldable mutual
  pub fill : Pattern → Bindings → Result Filled RunFault
  fill (Variable s v) e = Ok (fill_variable v (bound e v))
  fill (syntax.Symbol s name) e = Ok (Known (Symbol name))
  fill (syntax.Number s n) e = Ok (Known (Number n))
  fill (Listing s ps tail) e = on_ok (fill_parts ps tail e) (λ f. list_filled s f (ground_parts f.0 f.1))
  fill (Call s name args) e = on_ok (values args None e) (λ ts. on_ok (call name ts s) (λ t. Ok (Known t)))

  pub fill_parts : Patterns → Option Tail → Bindings → Result Filling RunFault
  fill_parts NoPattern tail e = fill_tail tail e
  fill_parts (Before p ps) tail e =
      on_ok (fill p e) (λ x. on_ok (fill_parts ps tail e) (λ f. Ok (Then x f.0, f.1)))

-- a goal that is ground must not nest too deep
abbrev pub goal_of : Atom → Filling → Option Terms → Result Goal RunFault
goal_of a f None = Ok (record { name = a.name; parts = f.0; tail = f.1 })
goal_of a f (Some ts) =
    on_ok (list_of a.span (More (Symbol a.name) ts))
    (λ t. Ok (record { name = a.name; parts = f.0; tail = f.1 }))

abbrev pub fill_goal : Atom → Bindings → Result Goal RunFault
fill_goal a e = on_ok (fill_parts a.args a.tail e) (λ f. goal_of a f (ground_parts f.0 f.1))

-- ---- matching a goal with an atom of the state

abbrev pub match_free_tail : Option ℕ → Terms → Bindings → Option Bindings
match_free_tail (Some v) ts e = meet v (Listed ts) e
match_free_tail None NoTerm e = Some e
match_free_tail None (More t ts) e = None

-- the least extension of the bindings under which the goal equals the term
unfoldable mutual
  pub match_filled : Filled → Term → Bindings → Option Bindings
  match_filled (Known x) t e = cond (same_term x t) (Some e) None
  match_filled (Free v) t e = meet v t e
  match_filled (Partly fs tail) (Listed ts) e = match_fillings fs tail ts e
  match_filled (Partly fs tail) (Symbol name) e = None
  match_filled (Partly fs tail) (Number n) e = None

  pub match_fillings : Fillings → Option ℕ → Terms → Bindings → Option Bindings
  match_fillings NoFilling tail ts e = match_free_tail tail ts e
  match_fillings (Then f fs) tail NoTerm e = None
  match_fillings (Then f fs) tail (More t ts) e =
      option_and_then (match_fillings fs tail ts) (match_filled f t e)

abbrev pub match_goal : Goal → Term → Bindings → Option Bindings
match_goal q (Listed (More (Symbol name) ts)) e =
    cond (bytes_eq q.name name) (match_fillings q.parts q.tail ts e) None
match_goal q _ e = None

-- ---- starting an axiom: its head beside a goal, in bindings of the axiom's own

-- the head's tail takes the goal's remaining parts where they are ground, and is left out otherwise
abbrev pub start_tail : Tail → Option Terms → Bindings → Option Bindings
start_tail t None b = Some b
start_tail t (Some ts) b = meet t.var (Listed ts) b

-- a ground part is matched; a free variable leaves out what stands beside it; a list that isn't ground
-- goes with a variable, part by part with a list, and with nothing else. A free tail of the goal leaves out all that
-- remains of the head
unfoldable mutual
  pub start : Pattern → Filled → Bindings → Option Bindings
  start p (Known t) b = match_pattern p t b
  start p (Free v) b = Some b
  start (Variable s v) (Partly fs tail) b = Some b
  start (Listing s ps own) (Partly fs tail) b = start_parts ps own fs tail b
  start (syntax.Symbol s name) (Partly fs tail) b = None
  start (syntax.Number s n) (Partly fs tail) b = None
  start (Call s name args) (Partly fs tail) b = None

  pub start_parts : Patterns → Option Tail → Fillings → Option ℕ → Bindings → Option Bindings
  start_parts ps own NoFilling (Some v) b = Some b
  start_parts NoPattern (Some t) fs tail b = start_tail t (ground_parts fs tail) b
  start_parts NoPattern None NoFilling None b = Some b
  start_parts NoPattern None (Then f fs) tail b = None
  start_parts (Before p ps) own NoFilling None b = None
  start_parts (Before p ps) own (Then f fs) tail b =
      option_and_then (start_parts ps own fs tail) (start p f b)

abbrev pub start_goal : Atom → Goal → Bindings → Option Bindings
start_goal h q b = cond (bytes_eq h.name q.name) (start_parts h.args h.tail q.parts q.tail b) None
