-- Matching a pattern by its kind, and the parts of a list one after the other.
use Rattle.std.proofs.Common.{◌≡◌, ℕ, ◌+◌, ◌<◌, ◌≤◌, ℤ, Bool, cond, List, ◌∷◌, length, drop, get_or, slice_get, Option, Some, None, refl, sym, ◌∙◌, ap}
use Rattle.std.specs.Option.{option_and_then}
use Rattle.std.specs.Prelude.{bytes_eq}
use Rattle.std.proofs.lemmas.List.{drop_more, drop_all}
use Rattle.hp_syntax.specs.declared.pattern.Span.{Span}
use Rattle.hp_syntax.specs.declared.pattern.Tail.{Tail}
use Rattle.hp_syntax.specs.declared.pattern.Pat.{Pat}
use Rattle.hp_syntax.specs.Syntax.{Pattern, Patterns, Variable, Listing, Call, Atom}
use Rattle.hp_syntax.specs.Syntax as syntax
use Rattle.hp_syntax.specs.Terms.{Term, Terms, Symbol, Number, Listed, NoTerm, More}
use Rattle.hp_syntax.specs.Values.{Bindings}
use Rattle.hp_syntax.specs.Views.{pattern_of, patterns_of}
use Rattle.hp_syntax.specs.Matching.{meet, match_tail, match_pattern, match_parts, match_atom}
use Rattle.hp_cells.specs.Cells.{IsCons}
use Rattle.hp_cells.specs.Compared.{is_symbol, is_number}
use Rattle.hp_cells.specs.Keys.{parts_of}
use Rattle.hp_eval.specs.Attempts.{extended}
use Rattle.hp_eval.specs.FillSteps.{parts_at}
use Rattle.hp_eval.specs.GoalViews.{term_at}
use Rattle.hp_eval.specs.Steps.{is_list}
use Rattle.hp_eval.proofs.AttemptLemmas.{compared_at, whole_at}

-- ---- kinds of patterns

-- a variable is met
pub matches_variable : (p : Pattern) (s : Span) (v : ℕ) (t : Term) (e : Bindings) → p ≡ Variable s v
    → match_pattern p t e ≡ meet v t e
unfolding match_pattern
matches_variable p s v t e h = ap (λ q. match_pattern q t e) h

-- a symbol matches itself
pub matches_symbol : (p : Pattern) (s : Span) (name : List ℕ) (t : Term) (e : Bindings) → p ≡ syntax.Symbol s name
    → match_pattern p t e ≡ extended (is_symbol name t) e
unfolding match_pattern
matches_symbol p s name t e h = ap (λ q. match_pattern q t e) h ∙ by t
  where
    by : (t : Term) → match_pattern (syntax.Symbol s name) t e ≡ extended (is_symbol name t) e
    by (Symbol b) = refl
    by (Number m) = refl
    by (Listed ts) = refl

-- a number matches itself
pub matches_number : (p : Pattern) (s : Span) (n : ℤ) (t : Term) (e : Bindings) → p ≡ syntax.Number s n
    → match_pattern p t e ≡ extended (is_number n t) e
unfolding match_pattern
matches_number p s n t e h = ap (λ q. match_pattern q t e) h ∙ by t
  where
    by : (t : Term) → match_pattern (syntax.Number s n) t e ≡ extended (is_number n t) e
    by (Symbol b) = refl
    by (Number m) = refl
    by (Listed ts) = refl

-- a list matches a list where its parts match
pub matches_list : (p : Pattern) (s : Span) (ps : Patterns) (tail : Option Tail) (t : Term) (e : Bindings)
    → p ≡ Listing s ps tail
    → match_pattern p t e ≡ cond (is_list t) (match_parts ps tail (parts_of t) e) None
unfolding match_pattern match_parts
matches_list p s ps tail t e h = ap (λ q. match_pattern q t e) h ∙ by t
  where
    by : (t : Term) → match_pattern (Listing s ps tail) t e ≡ cond (is_list t) (match_parts ps tail (parts_of t) e) None
    by (Symbol b) = refl
    by (Number m) = refl
    by (Listed ts) = refl

-- a call matches nothing
pub matches_call : (p : Pattern) (s : Span) (name : List ℕ) (args : Patterns) (t : Term) (e : Bindings)
    → p ≡ Call s name args → match_pattern p t e ≡ None
unfolding match_pattern
matches_call p s name args t e h = ap (λ q. match_pattern q t e) h ∙ by t
  where
    by : (t : Term) → match_pattern (Call s name args) t e ≡ None
    by (Symbol b) = refl
    by (Number m) = refl
    by (Listed ts) = refl

-- ---- parts one after the other

-- parts of which there is a first match no empty list
pub parts_missing : (parts : List Pat) (i : ℕ) (p : Pat) (tail : Option Tail) (ts : Terms) (e : Bindings)
    → i < length parts → ts ≡ NoTerm → match_parts (patterns_of (drop i parts)) tail ts e ≡ None
unfolding match_parts
parts_missing parts i p tail ts e l h =
    ap (λ ps. match_parts (patterns_of ps) tail ts e) (drop_more parts i p l)
    ∙ ap (λ us. match_parts (patterns_of (get_or parts i p ∷ drop (i + 1) parts)) tail us e) h

-- the first part matches the first term, and then the others the others
pub parts_step : (parts : List Pat) (i : ℕ) (p : Pat) (tail : Option Tail) (t : Term) (ts us : Terms) (e : Bindings)
    → i < length parts → p ≡ get_or parts i p → us ≡ More t ts
    → match_parts (patterns_of (drop i parts)) tail us e
    ≡ option_and_then (match_parts (patterns_of (drop (i + 1) parts)) tail ts) (match_pattern (pattern_of p) t e)
unfolding match_parts match_pattern
parts_step parts i p tail t ts us e l is h =
    ap (λ ps. match_parts (patterns_of ps) tail us e)
    (drop_more parts i p l ∙ ap (λ q. q ∷ drop (i + 1) parts) (sym is))
    ∙ ap (λ xs. match_parts (patterns_of (p ∷ drop (i + 1) parts)) tail xs e) h

-- behind the last part the tail matches what is left
pub parts_end : (parts : List Pat) (i : ℕ) (tail : Option Tail) (ts : Terms) (e : Bindings) → length parts ≤ i
    → match_parts (patterns_of (drop i parts)) tail ts e ≡ match_tail tail ts e
unfolding match_parts
parts_end parts i tail ts e l = ap (λ ps. match_parts (patterns_of ps) tail ts e) (drop_all i parts l)

-- ---- lists that begin with a name

-- what is found in a list that begins with a name is found in the others, and behind another first term nothing is
pub record IsFoundBehind (name : List ℕ) (found : Term → Option Bindings) (go_on : Terms → Option Bindings)
    : Type 0 where
  pub symbol : (b : List ℕ) (ts : Terms)
      → found (Listed (More (Symbol b) ts)) ≡ cond (bytes_eq name b) (go_on ts) None
  pub number : (n : ℤ) (ts : Terms) → found (Listed (More (Number n) ts)) ≡ None
  pub list : (us ts : Terms) → found (Listed (More (Listed us) ts)) ≡ None

-- an atom is found behind its name
pub atom_behind : (a : Atom) (e : Bindings)
    → IsFoundBehind a.name (λ t. match_atom a t e) (λ ts. match_parts a.args a.tail ts e)
atom_behind a e = record { symbol = λ b ts. refl; number = λ n ts. refl; list = λ us ts. refl }

module _ {name : List ℕ} {found : Term → Option Bindings} {go_on : Terms → Option Bindings}
    (behind : IsFoundBehind name found go_on) where
  -- whether the first term is the symbol of the name tells what is found
  found_first : (first : Term) (others : Terms)
      → found (Listed (More first others)) ≡ cond (is_symbol name first) (go_on others) None
  found_first (Symbol b) others = behind.symbol b others
  found_first (Number n) others = behind.number n others
  found_first (Listed us) others = behind.list us others

  -- so does a comparison of the term of the first cell
  pub found_at : (terms : List Term) (list first others : ℕ) → IsCons terms first others (term_at terms list)
      → (does : Bool) → ((u : Term) → slice_get terms first ≡ Some u → does ≡ is_symbol name u)
      → found (term_at terms list) ≡ cond does (go_on (parts_at terms others)) None
  found_at terms list first others is does test =
      ap found (whole_at terms list first others is)
      ∙ (found_first (term_at terms first) (parts_at terms others)
      ∙ ap (λ b. cond b (go_on (parts_at terms others)) None)
      (sym (compared_at terms first is.first does (is_symbol name) is.head_names test)))
