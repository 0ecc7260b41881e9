-- Matching a pattern by its kind, and patterns one after the other.
use Rattle.std.proofs.Common.{◌≡◌, ◌==◌, ℕ, ℤ, ◌+◌, ◌<◌, ◌≤◌, ◌-◌, take, Bool, true, false, List, [], ◌∷◌, length, drop, get_or, Option, Some, None, refl, sym, ap, ap₂, ◌∙◌, arith}
use Rattle.std.specs.Option.{option_and_then}
use Rattle.std.proofs.lemmas.Bool.Decides.{nat_tests}
use Rattle.std.proofs.lemmas.List.{drop_more, drop_all, length-drop, take_all}
use Rattle.hp_syntax.specs.declared.pattern.Ground.{Ground}
use Rattle.hp_syntax.specs.declared.pattern.Pat.{Pat}
use Rattle.hp_syntax.specs.declared.pattern.Span.{Span}
use Rattle.hp_syntax.specs.declared.pattern.Tail.{Tail}
use Rattle.hp_syntax.specs.GroundViews.{ground_of, grounds_of}
use Rattle.hp_syntax.specs.Matching.{match_parts, match_pattern, match_tail, meet}
use Rattle.hp_syntax.specs.Syntax as syntax
use Rattle.hp_syntax.specs.Syntax.{Pattern, Patterns}
use Rattle.hp_syntax.specs.Terms.{Term, Symbol, Number, Listed, same_term}
use Rattle.hp_syntax.specs.Values.{Bindings}
use Rattle.hp_syntax.specs.Views.{pattern_of, patterns_of}
use Rattle.hp_mismatch.specs.ValueViews.{extended, match_listed}

-- ---- kinds of patterns

-- a variable is met
pub matches_variable : (p : Pattern) (s : Span) (v : ℕ) (t : Term) (e : Bindings) → p ≡ syntax.Variable s v
    → match_pattern p t e ≡ meet v t e
unfolding match_pattern
matches_variable p s v t e h = ap (λ q. match_pattern q t e) h

-- a symbol matches itself
pub matches_symbol : (p : Pattern) (s : Span) (name : List ℕ) (t : Term) (e : Bindings) → p ≡ syntax.Symbol s name
    → match_pattern p t e ≡ extended (same_term (Symbol name) t) e
unfolding match_pattern
matches_symbol p s name t e h = ap (λ q. match_pattern q t e) h ∙ by t
  where
    by : (t : Term) → match_pattern (syntax.Symbol s name) t e ≡ extended (same_term (Symbol name) t) e
    by (Symbol b) = refl
    by (Number m) = refl
    by (Listed ts) = refl

-- a number matches itself
pub matches_number : (p : Pattern) (s : Span) (n : ℤ) (t : Term) (e : Bindings) → p ≡ syntax.Number s n
    → match_pattern p t e ≡ extended (same_term (Number n) t) e
unfolding match_pattern
matches_number p s n t e h = ap (λ q. match_pattern q t e) h ∙ by t
  where
    by : (t : Term) → match_pattern (syntax.Number s n) t e ≡ extended (same_term (Number n) t) e
    by (Symbol b) = refl
    by (Number m) = refl
    by (Listed ts) = refl

-- a list matches a list where its parts match
pub matches_list : (p : Pattern) (s : Span) (ps : Patterns) (tail : Option Tail) (t : Term) (e : Bindings)
    → p ≡ syntax.Listing s ps tail → match_pattern p t e ≡ match_listed ps tail t e
unfolding match_pattern match_parts
matches_list p s ps tail t e h = ap (λ q. match_pattern q t e) h ∙ by t
  where
    by : (t : Term) → match_pattern (syntax.Listing s ps tail) t e ≡ match_listed ps tail t e
    by (Symbol b) = refl
    by (Number m) = refl
    by (Listed ts) = refl

-- a call matches nothing
pub matches_call : (p : Pattern) (s : Span) (name : List ℕ) (args : Patterns) (t : Term) (e : Bindings)
    → p ≡ syntax.Call s name args → match_pattern p t e ≡ None
unfolding match_pattern
matches_call p s name args t e h = ap (λ q. match_pattern q t e) h ∙ by t
  where
    by : (t : Term) → match_pattern (syntax.Call s name args) t e ≡ None
    by (Symbol b) = refl
    by (Number m) = refl
    by (Listed ts) = refl

-- ---- patterns one after the other

-- more patterns than terms don't match
pub too_few : (ps : List Pat) (gs : List Ground) (tail : Option Tail) (e : Bindings) → length gs < length ps
    → match_parts (patterns_of ps) tail (grounds_of gs) e ≡ None
unfolding match_parts match_pattern
too_few [] gs tail e l = absurd (omega (arith, l))
too_few (p ∷ ps) [] tail e l = refl
too_few (p ∷ ps) (g ∷ gs) tail e l =
    by (match_pattern (pattern_of p) (ground_of g) e) (λ f. too_few ps gs tail f (omega (arith, l)))
  where
    by : (o : Option Bindings) → ((f : Bindings) → match_parts (patterns_of ps) tail (grounds_of gs) f ≡ None)
        → option_and_then (match_parts (patterns_of ps) tail (grounds_of gs)) o ≡ None
    by None h = refl
    by (Some f) h = h f

-- what is to be found of the patterns and the terms from a place on
abbrev pub from_on : List Pat → Option Tail → List Ground → ℕ → Bindings → Option Bindings
from_on ps tail gs i e = match_parts (patterns_of (drop i ps)) tail (grounds_of (drop i gs)) e

module _ (ps : List Pat) (tail : Option Tail) (gs : List Ground) (i : ℕ) (p : Pat) (g : Ground) (more : i < length ps)
    (other : i < length gs) (is : p ≡ get_or ps i p) (is_other : g ≡ get_or gs i g) (t : Term) (shown : t ≡ ground_of g)
    (e f : Bindings) (does : Bool) (answers : match_pattern (pattern_of p) t e ≡ extended does f) where
  -- the first pattern is matched with the first term, and then the others with the others
  parts_step : from_on ps tail gs i e ≡ option_and_then (from_on ps tail gs (i + 1)) (extended does f)
  unfolding match_parts match_pattern
  parts_step =
      ap₂ (λ qs hs. match_parts (patterns_of qs) tail (grounds_of hs) e)
      (drop_more ps i p more ∙ ap (λ q. q ∷ drop (i + 1) ps) (sym is))
      (drop_more gs i g other ∙ ap (λ h. h ∷ drop (i + 1) gs) (sym is_other))
      ∙ ap (option_and_then (from_on ps tail gs (i + 1)))
      (ap (λ u. match_pattern (pattern_of p) u e) (sym shown) ∙ answers)

  pub part_differs : does ≡ false → from_on ps tail gs i e ≡ None
  part_differs other_one = parts_step ∙ ap (λ b. option_and_then (from_on ps tail gs (i + 1)) (extended b f)) other_one

  pub part_matches : does ≡ true → from_on ps tail gs (i + 1) f ≡ from_on ps tail gs i e
  part_matches this_one =
      sym (parts_step ∙ ap (λ b. option_and_then (from_on ps tail gs (i + 1)) (extended b f)) this_one)

-- after the last pattern the tail is matched with what is left
pub parts_end : (ps : List Pat) (tail : Option Tail) (gs : List Ground) (i : ℕ) (e : Bindings) → length ps ≤ i
    → from_on ps tail gs i e ≡ match_tail tail (grounds_of (drop i gs)) e
unfolding match_parts
parts_end ps tail gs i e l =
    ap (λ qs. match_parts (patterns_of qs) tail (grounds_of (drop i gs)) e) (drop_all i ps l)

-- what is left from a place on is left as a part of a slice
pub left_slice : (gs : List Ground) (i : ℕ) → take (length gs - i) (drop i gs) ≡ drop i gs
left_slice gs i = take_all (length gs - i) (drop i gs) (omega (arith, length-drop i gs))

-- without a tail no term may be left
pub no_tail : (gs : List Ground) (e : Bindings) (is_empty : Bool) → is_empty ≡ (length gs == 0)
    → match_tail None (grounds_of gs) e ≡ extended is_empty e
no_tail [] e b h = ap (λ c. extended c e) (sym h)
no_tail (g ∷ gs) e b h =
    let more : (length (g ∷ gs) == 0) ≡ false = grind (arith, nat_tests) in ap (λ c. extended c e) (sym (h ∙ more))
