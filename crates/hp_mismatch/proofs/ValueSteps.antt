-- Terms that are compared part by part, and what variables stand for.
use Rattle.std.proofs.Common.{◌≡◌, ℕ, zero, suc, ◌+◌, ◌<◌, ◌≤◌, Bool, true, false, ◌&&◌, List, [], ◌∷◌, length, drop, replicate, get_or, slice_get, slice_set, Option, Some, None, option_map, refl, sym, ap, ap₂, ◌∙◌, arith}
use Rattle.std.proofs.lemmas.List.{drop_more, drop_all, map-set}
use Rattle.std.proofs.lemmas.Option.{slice_get-get_or, slice_get-map, slice_get_past}
use Rattle.hp_syntax.proofs.ListLemmas.{element-smaller}
use Rattle.hp_syntax.specs.declared.pattern.Ground.{Ground}
use Rattle.hp_syntax.specs.GroundViews.{ground_of, grounds_of}
use Rattle.hp_syntax.specs.Matching.{met, meet}
use Rattle.hp_syntax.specs.Terms.{Term, Terms, Symbol, Number, Listed, NoTerm, More, same_term, same_terms}
use Rattle.hp_syntax.specs.Values.{unbound}
use Rattle.hp_mismatch.specs.declared.values.Value.{Value}
use Rattle.hp_mismatch.specs.ValueViews.{bindings_of, extended, value_of}

-- ---- sizes

-- the size of a term counts it and all terms in it
abbrev mutual
  pub term_size : Term → ℕ
  term_size (Symbol name) = 1
  term_size (Number n) = 1
  term_size (Listed ts) = terms_size ts + 2

  pub terms_size : Terms → ℕ
  terms_size NoTerm = 0
  terms_size (More t ts) = term_size t + terms_size ts + 1

-- each term of some is smaller than all of them
pub term_smaller : (gs : List Ground) (i : ℕ) (g : Ground) → i < length gs → g ≡ get_or gs i g
    → term_size (ground_of g) < terms_size (grounds_of gs)
term_smaller =
    element-smaller (λ g. term_size (ground_of g)) (λ gs. terms_size (grounds_of gs)) (λ g gs. refl)

-- ---- lists, term by term

-- the terms from a place on are equal
abbrev pub are_left : List Ground → List Ground → ℕ → Bool
are_left gs hs i = same_terms (grounds_of (drop i gs)) (grounds_of (drop i hs))

-- lists of other lengths differ
pub lengths_differ : (gs hs : List Ground) → (length gs ≡ length hs → ⊥)
    → false ≡ same_terms (grounds_of gs) (grounds_of hs)
lengths_differ [] [] n = absurd (n refl)
lengths_differ [] (h ∷ hs) n = refl
lengths_differ (g ∷ gs) [] n = refl
lengths_differ (g ∷ gs) (h ∷ hs) n =
    by (same_term (ground_of g) (ground_of h)) (lengths_differ gs hs (λ e. n (omega (arith, e))))
  where
    by : (b : Bool) → false ≡ same_terms (grounds_of gs) (grounds_of hs)
        → false ≡ (b && same_terms (grounds_of gs) (grounds_of hs))
    by true e = e
    by false e = refl

module _ (gs hs : List Ground) (i : ℕ) (g h : Ground) (more : i < length gs) (other : i < length hs)
    (is : g ≡ get_or gs i g) (is_other : h ≡ get_or hs i h) (t u : Term) (shown : t ≡ ground_of g)
    (other_shown : u ≡ ground_of h) where
  -- the first of each are compared, and then the others
  terms_step : are_left gs hs i ≡ (same_term t u && are_left gs hs (i + 1))
  terms_step =
      ap₂ (λ xs ys. same_terms (grounds_of xs) (grounds_of ys))
      (drop_more gs i g more ∙ ap (λ x. x ∷ drop (i + 1) gs) (sym is))
      (drop_more hs i h other ∙ ap (λ x. x ∷ drop (i + 1) hs) (sym is_other))
      ∙ ap₂ (λ x y. same_term x y && are_left gs hs (i + 1)) (sym shown) (sym other_shown)

  pub terms_differ : same_term t u ≡ false → false ≡ are_left gs hs i
  terms_differ e = sym (terms_step ∙ ap (λ b. b && are_left gs hs (i + 1)) e)

  pub terms_same : same_term t u ≡ true → are_left gs hs (i + 1) ≡ are_left gs hs i
  terms_same e = sym (terms_step ∙ ap (λ b. b && are_left gs hs (i + 1)) e)

-- after the last no more are left
pub terms_end : (gs hs : List Ground) (i : ℕ) → length gs ≤ i → length hs ≤ i → true ≡ are_left gs hs i
terms_end gs hs i l k =
    sym (ap₂ (λ xs ys. same_terms (grounds_of xs) (grounds_of ys)) (drop_all i gs l) (drop_all i hs k))

-- ---- variables

-- variables that stand for nothing are unbound
pub none_bound : (n : ℕ) → bindings_of (replicate n None) ≡ unbound n
none_bound zero = refl
none_bound (suc n) = ap (λ e. None ∷ e) (none_bound n)

module _ (vs : List (Option Value)) (v : ℕ) (t : Term) where
  -- a number that no variable has meets nothing
  pub meets_nothing : length vs ≤ v → meet v t (bindings_of vs) ≡ None
  meets_nothing l =
      ap (λ o. met o v t (bindings_of vs)) (slice_get-map (option_map value_of) vs v
      ∙ ap (option_map (option_map value_of)) (slice_get_past vs v l))

  module _ (o : Option Value) (l : v < length vs) (is : o ≡ get_or vs v o) where
    here : slice_get (bindings_of vs) v ≡ Some (option_map value_of o)
    here =
        slice_get-map (option_map value_of) vs v
        ∙ ap (option_map (option_map value_of)) (slice_get-get_or vs v o l ∙ ap Some (sym is))

    -- a variable that stands for a value meets what is equal to it
    pub meets_own : (own : Value) → o ≡ Some own
        → meet v t (bindings_of vs) ≡ extended (same_term (value_of own) t) (bindings_of vs)
    meets_own own e = ap (λ p. met p v t (bindings_of vs)) (here ∙ ap (λ q. Some (option_map value_of q)) e)

    -- one that stands for nothing stands for what it meets
    pub meets_new : (new : Value) → o ≡ None → value_of new ≡ t
        → meet v t (bindings_of vs) ≡ extended true (bindings_of (slice_set vs v (Some new)))
    meets_new new e same =
        ap (λ p. met p v t (bindings_of vs)) (here ∙ ap (λ q. Some (option_map value_of q)) e)
        ∙ ap Some (ap (λ u. slice_set (bindings_of vs) v (Some u)) (sym same)
        ∙ sym (map-set (option_map value_of) vs v (Some new)))
