-- Terms of cells and ground terms in memory, compared part by part and step by step.
use Rattle.std.proofs.Common.{◌≡◌, ℕ, ◌+◌, ◌<◌, ◌≤◌, Bool, true, false, ◌&&◌, ℤ, List, [], ◌∷◌, length, map, drop, get_or, Vec, refl, sym, ap, ◌∙◌}
use Rattle.std.specs.Global.{Global}
use Rattle.std.proofs.lemmas.Bool.{false≢true}
use Rattle.std.proofs.lemmas.List.{drop_more, drop_all, length-map}
use Rattle.hp_best.proofs.GroundSteps.{IsShown, cons_parts, end_parts}
use Rattle.hp_cells.specs.Cells.{NamesList, IsCons}
use Rattle.hp_cells.specs.Compared.{is_symbol, is_number}
use Rattle.hp_cells.specs.Keys.{parts_of}
use Rattle.hp_cells.specs.Shows.{Shows}
use Rattle.hp_cells.specs.declared.keys.View.{View}
use Rattle.hp_cells.specs.declared.keys.View.TheVariants.{Nil, Sym, Num, Cons}
use Rattle.hp_eval.specs.GoalViews.{term_at}
use Rattle.hp_eval.specs.Steps.{is_list}
use Rattle.hp_syntax.specs.declared.pattern.Ground.{Ground}
use Rattle.hp_syntax.specs.declared.pattern.Ground.TheVariants as grounds
use Rattle.hp_syntax.specs.GroundViews.{ground_of, grounds_of, ground_of-sym, ground_of-num, ground_of-list}
use Rattle.hp_syntax.specs.Terms.{Term, Symbol, Number, Listed, NoTerm, same_term, same_terms}
use Rattle.hp_world.specs.Stages.{terms_at}
use Rattle.hp_verify.specs.Kept.{steps_begin}

-- ---- one term

-- a symbol is compared by its name
pub symbol_same : (g : Ground) (name : List ℕ) (t : Term) → g ≡ grounds.Sym name
    → is_symbol name t ≡ same_term (ground_of g) t
symbol_same g name t h = by t ∙ ap (λ x. same_term x t) (sym (ap ground_of h ∙ ground_of-sym name))
  where
    by : (u : Term) → is_symbol name u ≡ same_term (Symbol name) u
    by (Symbol own) = refl
    by (Number m) = refl
    by (Listed ts) = refl

-- a number is compared by itself
pub number_same : (g : Ground) (n : ℤ) (t : Term) → g ≡ grounds.Num n → is_number n t ≡ same_term (ground_of g) t
number_same g n t h = by t ∙ ap (λ x. same_term x t) (sym (ap ground_of h ∙ ground_of-num n))
  where
    by : (u : Term) → is_number n u ≡ same_term (Number n) u
    by (Symbol own) = refl
    by (Number m) = refl
    by (Listed ts) = refl

-- a list is compared with a list by their parts
pub listed_same : (g : Ground) (parts : Vec Ground Global) (t : Term) → g ≡ grounds.List parts → is_list t ≡ true
    → same_terms (grounds_of parts.items) (parts_of t) ≡ same_term (ground_of g) t
listed_same g parts t h l = by t l ∙ ap (λ x. same_term x t) (sym (ap ground_of h ∙ ground_of-list parts))
  where
    by : (u : Term) → is_list u ≡ true
        → same_terms (grounds_of parts.items) (parts_of u) ≡ same_term (Listed (grounds_of parts.items)) u
    by (Symbol own) k = absurd (false≢true k)
    by (Number m) k = absurd (false≢true k)
    by (Listed ts) k = refl

-- a list is no other term
pub unlisted_same : (g : Ground) (parts : Vec Ground Global) (t : Term) → g ≡ grounds.List parts → is_list t ≡ false
    → false ≡ same_term (ground_of g) t
unlisted_same g parts t h l = by t l ∙ ap (λ x. same_term x t) (sym (ap ground_of h ∙ ground_of-list parts))
  where
    by : (u : Term) → is_list u ≡ false → false ≡ same_term (Listed (grounds_of parts.items)) u
    by (Symbol own) k = refl
    by (Number m) k = refl
    by (Listed ts) k = absurd (false≢true (sym k))

-- ---- parts

-- a view shows no first part
abbrev pub no_part_seen : View → Bool
no_part_seen Nil = true
no_part_seen (Sym name) = true
no_part_seen (Num n) = true
no_part_seen (Cons head tail) = false

-- a term of which no first part is shown has no parts
pub no_part_shown : (terms : List Term) (v : View) (t : Term) → Shows terms v t
    → no_part_seen v ≡ same_terms NoTerm (parts_of t)
no_part_shown terms Nil t h = sym (ap (λ x. same_terms NoTerm (parts_of x)) h)
no_part_shown terms (Sym name) t h = sym (ap (λ x. same_terms NoTerm (parts_of x)) h)
no_part_shown terms (Num n) t h = sym (ap (λ x. same_terms NoTerm (parts_of x)) h)
no_part_shown terms (Cons head tail) t h = sym (ap (λ x. same_terms NoTerm (parts_of x)) h.whole)

-- the ground terms from a place on are the parts of the list of a cell
abbrev pub are_left : List Ground → ℕ → List Term → ℕ → Bool
are_left gs i terms rest = same_terms (grounds_of (drop i gs)) (parts_of (term_at terms rest))

module _ (gs : List Ground) (i : ℕ) (g : Ground) (terms : List Term) (rest : ℕ) (more : i < length gs) where
  -- where one is left and the list has no more parts, they differ
  pub parts_missing : (v : View) → NamesList terms rest → IsShown terms rest v
      → ((head tail : ℕ) → v ≡ Cons head tail → ⊥) → false ≡ are_left gs i terms rest
  parts_missing v n s other =
      sym (ap (λ hs. same_terms (grounds_of hs) (parts_of (term_at terms rest))) (drop_more gs i g more)
      ∙ ap (same_terms (grounds_of (get_or gs i g ∷ drop (i + 1) gs))) (end_parts terms rest v n s other))

  module _ (head tail : ℕ) (is : g ≡ get_or gs i g) (c : IsCons terms head tail (term_at terms rest)) where
    -- the first is compared with the first part, and then the others with the others
    parts_step : are_left gs i terms rest
        ≡ (same_term (ground_of g) (term_at terms head) && are_left gs (i + 1) terms tail)
    parts_step =
        ap (λ hs. same_terms (grounds_of hs) (parts_of (term_at terms rest)))
        (drop_more gs i g more ∙ ap (λ h. h ∷ drop (i + 1) gs) (sym is))
        ∙ ap (same_terms (grounds_of (g ∷ drop (i + 1) gs))) (cons_parts terms rest head tail c)

    -- where the first differs, all do
    pub part_differs : same_term (ground_of g) (term_at terms head) ≡ false → false ≡ are_left gs i terms rest
    part_differs e = sym (parts_step ∙ ap (λ b. b && are_left gs (i + 1) terms tail) e)

    -- where it doesn't, the others are left
    pub part_same : same_term (ground_of g) (term_at terms head) ≡ true
        → are_left gs (i + 1) terms tail ≡ are_left gs i terms rest
    part_same e = sym (parts_step ∙ ap (λ b. b && are_left gs (i + 1) terms tail) e)

-- behind the last there must be no more parts
pub parts_end : (gs : List Ground) (i : ℕ) (terms : List Term) (rest : ℕ) → length gs ≤ i
    → same_terms NoTerm (parts_of (term_at terms rest)) ≡ are_left gs i terms rest
parts_end gs i terms rest l =
    sym (ap (λ hs. same_terms (grounds_of hs) (parts_of (term_at terms rest))) (drop_all i gs l))

-- ---- steps

-- the steps from a place on begin the plan from there on
abbrev pub begin_left : List Term → List ℕ → List Ground → ℕ → Bool
begin_left terms steps plan i = steps_begin (terms_at terms (drop i steps)) (map ground_of (drop i plan))

module _ (terms : List Term) (steps : List ℕ) (plan : List Ground) (i s : ℕ) (more : i < length steps) where
  -- where a step is left and the plan has no more, they don't begin it
  pub plan_missing : length plan ≤ i → false ≡ begin_left terms steps plan i
  plan_missing l =
      sym (ap (λ gs. steps_begin (terms_at terms (drop i steps)) (map ground_of gs)) (drop_all i plan l)
      ∙ ap (λ ss. steps_begin (terms_at terms ss) []) (drop_more steps i s more))

  module _ (g : Ground) (is : s ≡ get_or steps i s) (has : i < length plan) (at : g ≡ get_or plan i g) where
    -- the first step is compared with the plan's, and then the others with the others
    begin_step : begin_left terms steps plan i
        ≡ (same_term (ground_of g) (term_at terms s) && begin_left terms steps plan (i + 1))
    begin_step =
        ap (λ gs. steps_begin (terms_at terms (drop i steps)) (map ground_of gs))
        (drop_more plan i g has ∙ ap (λ h. h ∷ drop (i + 1) plan) (sym at))
        ∙ ap (λ ss. steps_begin (terms_at terms ss) (map ground_of (g ∷ drop (i + 1) plan)))
        (drop_more steps i s more ∙ ap (λ x. x ∷ drop (i + 1) steps) (sym is))

    -- where it differs, they don't begin the plan
    pub step_differs : same_term (ground_of g) (term_at terms s) ≡ false → false ≡ begin_left terms steps plan i
    step_differs e = sym (begin_step ∙ ap (λ b. b && begin_left terms steps plan (i + 1)) e)

    -- where it doesn't, the others are left
    pub step_same : same_term (ground_of g) (term_at terms s) ≡ true
        → begin_left terms steps plan (i + 1) ≡ begin_left terms steps plan i
    step_same e = sym (begin_step ∙ ap (λ b. b && begin_left terms steps plan (i + 1)) e)

-- behind the last step they begin the plan
pub steps_end : (terms : List Term) (steps : List ℕ) (plan : List Ground) (i : ℕ) → length steps ≤ i
    → true ≡ begin_left terms steps plan i
steps_end terms steps plan i l =
    sym (ap (λ ss. steps_begin (terms_at terms ss) (map ground_of (drop i plan))) (drop_all i steps l))

-- ---- lengths

-- there are as many terms as cells, and as ground terms
pub as_many : (terms : List Term) (steps : List ℕ) (plan : List Ground) → length steps ≡ length plan
    → length (terms_at terms steps) ≡ length (map ground_of plan)
as_many terms steps plan e = length-map steps (term_at terms) ∙ (e ∙ sym (length-map plan ground_of))

pub not_as_many : (terms : List Term) (steps : List ℕ) (plan : List Ground) → (length steps ≡ length plan → ⊥)
    → length (terms_at terms steps) ≡ length (map ground_of plan) → ⊥
not_as_many terms steps plan n e =
    n (sym (length-map steps (term_at terms)) ∙ (e ∙ length-map plan ground_of))
