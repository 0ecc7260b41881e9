-- Starting a head for a goal: by the kinds of its parts, one part after the other, and behind them.
use Rattle.std.proofs.Common.{◌≡◌, ℕ, suc, ◌+◌, ◌<◌, ◌≤◌, true, false, List, [], ◌∷◌, ◌++◌, length, drop, get_or, Option, Some, None, option_map, ℤ, ◌⊎◌, inl, inr, slice_get, refl, sym, ◌∙◌, ap, subst, arith}
use Rattle.std.specs.Prelude.{Vec, is_some, ◌==◌}
use Rattle.std.specs.Global.{Global}
use Rattle.std.specs.Option.{option_and_then}
use Rattle.std.proofs.lemmas.Bool.Decides.{nat_tests}
use Rattle.std.proofs.lemmas.List.{drop_more, drop_all, take_at}
use Rattle.std.proofs.lemmas.List.Elements.{All-contains, All-take, All-drop, Contains-push}
use Rattle.hp_syntax.specs.declared.pattern.Span.{Span}
use Rattle.hp_syntax.specs.declared.pattern.Tail.{Tail}
use Rattle.hp_syntax.specs.declared.pattern.Pat.{Pat}
use Rattle.hp_syntax.specs.declared.pattern.PatKind.TheVariants as pats
use Rattle.hp_syntax.specs.ViewLaws.{pattern_of-sym, pattern_of-num, pattern_of-call}
use Rattle.hp_syntax.specs.Syntax.{Pattern, Patterns, Variable, Listing, Call, NoPattern}
use Rattle.hp_syntax.specs.Syntax as syntax
use Rattle.hp_syntax.specs.Terms.{Term, Terms, NoTerm, More}
use Rattle.hp_syntax.specs.Values.{Bindings}
use Rattle.hp_syntax.specs.Views.{pattern_of, patterns_of}
use Rattle.hp_syntax.specs.Matching.{match_pattern}
use Rattle.hp_syntax.specs.Goals as plain
use Rattle.hp_syntax.specs.Goals.{Fillings, NoFilling, Then, Known, Free, Partly, ground_parts, start_tail, start, start_parts}
use Rattle.hp_eval.specs.declared.goals.Filled.{Filled}
use Rattle.hp_eval.specs.declared.goals.Filled.TheVariants as filled
use Rattle.hp_eval.specs.GoalViews.{term_at, filled_of, fillings_of, is_below}
use Rattle.hp_eval.specs.FillSteps.{AreFilledBelow}
use Rattle.hp_eval.specs.Growth.{Grows}
use Rattle.hp_eval.specs.Attempts.{extended, ground_part}
use Rattle.hp_eval.proofs.CellViews.{named_at}
use Rattle.hp_eval.proofs.GrowthLemmas.{still_names}
use Rattle.hp_eval.proofs.FillStepLemmas.{free_not_ground}
use Rattle.hp_eval.proofs.GoalViewLemmas.{filled_of-known, filled_of-free, filled_of-list, filled_grows, fillings_grow}

-- ---- kinds of parts

-- a pattern starts for a ground part where it matches
pub starts_known : (terms : List Term) (p : Pattern) (f : Filled) (cell : ℕ) (b : Bindings) → f ≡ filled.Known cell
    → start p (filled_of terms f) b ≡ match_pattern p (term_at terms cell) b
unfolding start
starts_known terms p f cell b h = ap (λ g. start p g b) (ap (filled_of terms) h ∙ filled_of-known terms cell) ∙ by p
  where
    by : (q : Pattern) → start q (Known (term_at terms cell)) b ≡ match_pattern q (term_at terms cell) b
    by (Variable s v) = refl
    by (syntax.Symbol s name) = refl
    by (syntax.Number s n) = refl
    by (Listing s ps tail) = refl
    by (Call s name args) = refl

-- a pattern starts for a free variable
pub starts_free : (terms : List Term) (p : Pattern) (f : Filled) (v : ℕ) (b : Bindings) → f ≡ filled.Free v
    → start p (filled_of terms f) b ≡ Some b
unfolding start
starts_free terms p f v b h = ap (λ g. start p g b) (ap (filled_of terms) h ∙ filled_of-free terms v) ∙ by p
  where
    by : (q : Pattern) → start q (Free v) b ≡ Some b
    by (Variable s w) = refl
    by (syntax.Symbol s name) = refl
    by (syntax.Number s n) = refl
    by (Listing s ps tail) = refl
    by (Call s name args) = refl

-- equal patterns start alike for a list that isn't ground
starts_as : (terms : List Term) (p q : Pattern) (f : Filled) (parts : Vec Filled Global) (free : Option ℕ)
    (b : Bindings) → p ≡ q → f ≡ filled.List parts free
    → start p (filled_of terms f) b ≡ start q (Partly (fillings_of terms parts.items) free) b
starts_as terms p q f parts free b e h =
    ap (λ r. start r (filled_of terms f) b) e
    ∙ ap (λ g. start q g b) (ap (filled_of terms) h ∙ filled_of-list terms parts free)

-- a variable starts for a list that isn't ground
pub starts_variable : (terms : List Term) (p : Pattern) (s : Span) (v : ℕ) (f : Filled) (parts : Vec Filled Global)
    (free : Option ℕ) (b : Bindings) → p ≡ Variable s v → f ≡ filled.List parts free
    → start p (filled_of terms f) b ≡ Some b
unfolding start
starts_variable terms p s v f parts free b e h = starts_as terms p (Variable s v) f parts free b e h

-- a list starts for a list that isn't ground part by part
pub starts_list : (terms : List Term) (p : Pattern) (s : Span) (ps : Patterns) (own : Option Tail) (f : Filled)
    (parts : Vec Filled Global) (free : Option ℕ) (b : Bindings) → p ≡ Listing s ps own → f ≡ filled.List parts free
    → start p (filled_of terms f) b ≡ start_parts ps own (fillings_of terms parts.items) free b
unfolding start start_parts
starts_list terms p s ps own f parts free b e h = starts_as terms p (Listing s ps own) f parts free b e h

-- a symbol starts for no list that isn't ground
starts_symbol : (terms : List Term) (p : Pattern) (s : Span) (name : List ℕ) (f : Filled) (parts : Vec Filled Global)
    (free : Option ℕ) (b : Bindings) → p ≡ syntax.Symbol s name → f ≡ filled.List parts free
    → start p (filled_of terms f) b ≡ None
unfolding start
starts_symbol terms p s name f parts free b e h = starts_as terms p (syntax.Symbol s name) f parts free b e h

-- a number starts for no list that isn't ground
starts_number : (terms : List Term) (p : Pattern) (s : Span) (n : ℤ) (f : Filled) (parts : Vec Filled Global)
    (free : Option ℕ) (b : Bindings) → p ≡ syntax.Number s n → f ≡ filled.List parts free
    → start p (filled_of terms f) b ≡ None
unfolding start
starts_number terms p s n f parts free b e h = starts_as terms p (syntax.Number s n) f parts free b e h

-- a call starts for no list that isn't ground
starts_call : (terms : List Term) (p : Pattern) (s : Span) (name : List ℕ) (args : Patterns) (f : Filled)
    (parts : Vec Filled Global) (free : Option ℕ) (b : Bindings) → p ≡ Call s name args → f ≡ filled.List parts free
    → start p (filled_of terms f) b ≡ None
unfolding start
starts_call terms p s name args f parts free b e h = starts_as terms p (Call s name args) f parts free b e h

-- nothing else starts for a list that isn't ground
pub starts_never : (terms : List Term) (p : Pat) (f : Filled) (parts : Vec Filled Global) (free : Option ℕ)
    (b : Bindings) → ((name : List ℕ) × (p.kind ≡ pats.Sym name))
    ⊎ (((n : ℤ) × (p.kind ≡ pats.Num n)) ⊎ ((name : List ℕ) × (args : Vec Pat Global) × (p.kind ≡ pats.Call name args)))
    → f ≡ filled.List parts free → start (pattern_of p) (filled_of terms f) b ≡ None
starts_never terms p f parts free b (inl (name, e)) h =
    starts_symbol terms (pattern_of p) p.span name f parts free b (pattern_of-sym p name e) h
starts_never terms p f parts free b (inr (inl (n, e))) h =
    starts_number terms (pattern_of p) p.span n f parts free b (pattern_of-num p n e) h
starts_never terms p f parts free b (inr (inr (name, args, e))) h =
    starts_call terms (pattern_of p) p.span name (patterns_of args.items) f parts free b
    (pattern_of-call p name args e) h

-- ---- parts one after the other

-- behind the parts of a goal a part of the head starts where the goal has a free tail
pub starts_missing : (terms : List Term) (parts : List Pat) (own : Option Tail) (fs : List Filled) (free : Option ℕ)
    (i : ℕ) (p : Pat) (b : Bindings) → i < length parts → length fs ≤ i
    → start_parts (patterns_of (drop i parts)) own (fillings_of terms (drop i fs)) free b ≡ extended (is_some free) b
unfolding start_parts
starts_missing terms parts own fs free i p b l k =
    ap (λ gs. start_parts (patterns_of (drop i parts)) own (fillings_of terms gs) free b) (drop_all i fs k)
    ∙ (ap (λ ps. start_parts (patterns_of ps) own NoFilling free b) (drop_more parts i p l) ∙ by free)
  where
    by : (o : Option ℕ) → start_parts (patterns_of (get_or parts i p ∷ drop (i + 1) parts)) own NoFilling o b
        ≡ extended (is_some o) b
    by None = refl
    by (Some v) = refl

-- the first part of the head starts for the first of the goal, and then the others for the others
starts_step : (terms : List Term) (parts : List Pat) (own : Option Tail) (fs : List Filled) (free : Option ℕ) (i : ℕ)
    (p : Pat) (f : Filled) (b : Bindings) → i < length parts → p ≡ get_or parts i p → i < length fs → f ≡ get_or fs i f
    → start_parts (patterns_of (drop i parts)) own (fillings_of terms (drop i fs)) free b
    ≡ option_and_then
    (start_parts (patterns_of (drop (i + 1) parts)) own (fillings_of terms (drop (i + 1) fs)) free)
    (start (pattern_of p) (filled_of terms f) b)
unfolding start start_parts
starts_step terms parts own fs free i p f b l is k at =
    ap (λ ps. start_parts (patterns_of ps) own (fillings_of terms (drop i fs)) free b)
    (drop_more parts i p l ∙ ap (λ q. q ∷ drop (i + 1) parts) (sym is))
    ∙ ap (λ gs. start_parts (patterns_of (p ∷ drop (i + 1) parts)) own (fillings_of terms gs) free b)
    (drop_more fs i f k ∙ ap (λ g. g ∷ drop (i + 1) fs) (sym at))

-- the first part of the head starts for the first of the goal also where terms were added
pub starts_next : (old terms : List Term) (parts : List Pat) (own : Option Tail) (fs : List Filled) (free : Option ℕ)
    (i : ℕ) (p : Pat) (f : Filled) (b : Bindings) → Grows old terms → AreFilledBelow (length old) fs
    → i < length parts → p ≡ get_or parts i p → i < length fs → f ≡ get_or fs i f
    → start_parts (patterns_of (drop i parts)) own (fillings_of old (drop i fs)) free b
    ≡ option_and_then
    (start_parts (patterns_of (drop (i + 1) parts)) own (fillings_of old (drop (i + 1) fs)) free)
    (start (pattern_of p) (filled_of terms f) b)
starts_next old terms parts own fs free i p f b g h l is k at =
    let below : is_below (length old) f ≡ true = subst (λ x. is_below (length old) x ≡ true) (sym at) (h i f k) in
    starts_step old parts own fs free i p f b l is k at
    ∙ ap (λ x. option_and_then
    (start_parts (patterns_of (drop (i + 1) parts)) own (fillings_of old (drop (i + 1) fs)) free)
    (start (pattern_of p) x b)) (sym (filled_grows old terms f g below))

-- behind the last part of the head its tail is left
starts_end : (parts : List Pat) (own : Option Tail) (fs : Fillings) (free : Option ℕ) (i : ℕ) (b : Bindings)
    → length parts ≤ i
    → start_parts (patterns_of (drop i parts)) own fs free b ≡ start_parts NoPattern own fs free b
starts_end parts own fs free i b l = ap (λ ps. start_parts (patterns_of ps) own fs free b) (drop_all i parts l)

-- behind the last part of the head its tail is left also where terms were added
pub starts_rest : (old terms : List Term) (parts : List Pat) (own : Option Tail) (fs : List Filled) (free : Option ℕ)
    (i : ℕ) (b : Bindings) → Grows old terms → AreFilledBelow (length old) fs → i ≡ length parts
    → start_parts (patterns_of (drop i parts)) own (fillings_of old (drop i fs)) free b
    ≡ start_parts NoPattern own (fillings_of terms (drop (length parts) fs)) free b
starts_rest old terms parts own fs free i b g h e =
    starts_end parts own (fillings_of old (drop i fs)) free i b (omega arith)
    ∙ (ap (λ n. start_parts NoPattern own (fillings_of old (drop n fs)) free b) e
    ∙ ap (λ gs. start_parts NoPattern own gs free b)
    (sym (fillings_grow old terms (drop (length parts) fs) g
    (All-drop (λ f. is_below (length old) f ≡ true) (length parts) fs h))))

-- ---- behind the parts of the head

-- a number and one isn't none
some_left : (n : ℕ) → (suc n == 0) ≡ false
some_left n = grind (arith, nat_tests)

-- a head without a tail starts where no part of the goal is left
pub starts_bare : (terms : List Term) (fs : List Filled) (free : Option ℕ) (b : Bindings)
    → start_parts NoPattern None (fillings_of terms fs) free b ≡ extended (length fs == 0) b
unfolding start_parts
starts_bare terms [] None b = refl
starts_bare terms [] (Some v) b = refl
starts_bare terms (f ∷ fs) free b = ap (λ does. extended does b) (sym (some_left (length fs)))

-- a tail is left out where the goal has a free tail
pub starts_open : (t : Tail) (fs : Fillings) (v : ℕ) (b : Bindings)
    → start_parts NoPattern (Some t) fs (Some v) b ≡ Some b
unfolding start_parts
starts_open t NoFilling v b = refl
starts_open t (Then f fs) v b = ap (λ o. start_tail t o b) (free_not_ground (Then f fs) v)

-- a tail starts for what is left of a goal without a free tail
pub starts_tail : (t : Tail) (fs : Fillings) (b : Bindings)
    → start_parts NoPattern (Some t) fs None b ≡ start_tail t (ground_parts fs None) b
unfolding start_parts
starts_tail t NoFilling b = refl
starts_tail t (Then f fs) b = refl

-- ---- parts that are ground

-- parts that are ground, in front of further terms
abbrev pub ground_onto : Fillings → Terms → Option Terms
ground_onto NoFilling ts = Some ts
ground_onto (Then f fs) ts = option_and_then (λ t. option_map (More t) (ground_onto fs ts)) (ground_part f)

-- parts are ground where the first is and the others are
pub ground_step : (f : plain.Filled) (fs : Fillings)
    → ground_parts (Then f fs) None ≡ option_and_then (λ t. option_map (More t) (ground_parts fs None)) (ground_part f)
ground_step (Known t) fs = refl
ground_step (Free v) fs = refl
ground_step (Partly gs tail) fs = refl

-- parts are ground where they are in front of no term
pub ground_onto_none : (fs : Fillings) → ground_onto fs NoTerm ≡ ground_parts fs None
ground_onto_none NoFilling = refl
ground_onto_none (Then f fs) =
    ap (λ o. option_and_then (λ t. option_map (More t) o) (ground_part f)) (ground_onto_none fs)
    ∙ sym (ground_step f fs)

-- going on in one option and then in another is the same in either order
through_both : {A B C D : Type 0} (h : A → C → D) (go_on : B → Option C) (o : Option A) (p : Option B)
    → option_and_then (λ a. option_map (h a) (option_and_then go_on p)) o
    ≡ option_and_then (λ b. option_and_then (λ a. option_map (h a) (go_on b)) o) p
through_both h go_on None None = refl
through_both h go_on None (Some b) = refl
through_both h go_on (Some a) None = refl
through_both h go_on (Some a) (Some b) = refl

-- the last part is ground in front of the terms behind it, and those before in front of it
pub ground_last : (terms : List Term) (fs : List Filled) (f : Filled) (ts : Terms)
    → ground_onto (fillings_of terms (fs ++ f ∷ [])) ts
    ≡ option_and_then (λ t. ground_onto (fillings_of terms fs) (More t ts)) (ground_part (filled_of terms f))
ground_last terms [] f ts = refl
ground_last terms (g ∷ fs) f ts =
    ap (λ o. option_and_then (λ u. option_map (More u) o) (ground_part (filled_of terms g))) (ground_last terms fs f ts)
    ∙ through_both More (λ t. ground_onto (fillings_of terms fs) (More t ts)) (ground_part (filled_of terms g))
    (ground_part (filled_of terms f))

-- a part that is known by its cell is the cell's term
pub known_part : (terms : List Term) (f : Filled) (cell : ℕ) → f ≡ filled.Known cell
    → ground_part (filled_of terms f) ≡ Some (term_at terms cell)
known_part terms f cell h = ap ground_part (ap (filled_of terms) h ∙ filled_of-known terms cell)

-- a free variable is no ground part
pub free_part : (terms : List Term) (f : Filled) (v : ℕ) → f ≡ filled.Free v → ground_part (filled_of terms f) ≡ None
free_part terms f v h = ap ground_part (ap (filled_of terms) h ∙ filled_of-free terms v)

-- a list with a free variable is no ground part
pub list_part : (terms : List Term) (f : Filled) (parts : Vec Filled Global) (free : Option ℕ)
    → f ≡ filled.List parts free → ground_part (filled_of terms f) ≡ None
list_part terms f parts free h = ap ground_part (ap (filled_of terms) h ∙ filled_of-list terms parts free)

-- ---- parts from the last one on

-- a cell of the terms before goes on naming its term
pub grows_names : (old new : List Term) (cell : ℕ) → Grows old new → cell < length old
    → slice_get new cell ≡ Some (term_at old cell)
grows_names old new cell g l = still_names old new g cell (term_at old cell) (named_at old cell l)

-- the last part is below a count where all are
pub last_below : (n : ℕ) (fs : List Filled) (f : Filled) (gs : List Filled) → gs ≡ fs ++ f ∷ [] → AreFilledBelow n gs
    → is_below n f ≡ true
last_below n fs f gs e h =
    All-contains (λ g. is_below n g ≡ true) (fs ++ f ∷ []) f (subst (AreFilledBelow n) e h) (Contains-push fs f)

-- those before the last part are below a count where all are
pub prefix_below : (n : ℕ) (fs : List Filled) (f : Filled) (gs : List Filled) → gs ≡ fs ++ f ∷ [] → AreFilledBelow n gs
    → AreFilledBelow n fs
prefix_below n fs f gs e h =
    subst (AreFilledBelow n) (take_at fs (f ∷ []) (length fs) refl)
    (All-take (λ g. is_below n g ≡ true) (length fs) (fs ++ f ∷ []) (subst (AreFilledBelow n) e h))
