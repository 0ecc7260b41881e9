-- The fillings of a goal's parts, variant by variant, and that they stay where terms are added.
use Rattle.std.proofs.Common.{◌≡◌, ℕ, suc, ◌<◌, ◌≤◌, Bool, true, ◌&&◌, List, [], ◌∷◌, length, map, get_or, Option, Some, refl, sym, ◌∙◌, ap, ap₂, subst, arith}
use Rattle.std.specs.Prelude.{nat_lt, slice_get, Vec}
use Rattle.std.specs.Global.{Global}
use Rattle.std.specs.List.{list_all}
use Rattle.std.proofs.lemmas.Bool.{ltb-true, lt-ltb, and_parts}
use Rattle.std.proofs.lemmas.List.Sums.{list_all-from_AllPass}
use Rattle.std.proofs.lemmas.List.Folds.{list_all-map}
use Rattle.std.proofs.lemmas.Option.{slice_get_within, get_or_from_slice_get}
use Rattle.hp_syntax.specs.Terms.{Term}
use Rattle.hp_syntax.specs.Goals as plain
use Rattle.hp_eval.specs.declared.goals.Filled.{Filled, out-Filled, roll-Filled}
use Rattle.hp_eval.specs.declared.goals.Filled.TheVariants as filled
use Rattle.hp_eval.specs.declared.goals.Filled.TheVariants.{outs-Known, outs-Free, outs-List}
use Rattle.hp_eval.specs.declared.goals.Filled.TheOpen.{Filled-F}
use Rattle.hp_eval.specs.declared.goals.Filled.TheOpen as open_filled
use Rattle.hp_eval.specs.declared.goals.Filled.TheFolds.{fold_out-Filled, fold-roll-Filled, map-Filled, ind-Filled}
use Rattle.hp_eval.specs.declared.goals.Goal.{Goal}
use Rattle.hp_eval.specs.Growth.{Grows}
use Rattle.hp_eval.specs.GoalViews.{term_or_nil, term_at, as_fillings, filled_layer, filled_of, fillings_of, goal_of, below_layer, is_below, GoalBelow}
use Rattle.hp_eval.specs.FillSteps.{AreFilledBelow}
use Rattle.hp_eval.proofs.GrowthLemmas as growth
use Rattle.hp_eval.proofs.GrowthLemmas.{grows_length}

-- ---- fillings of parts

filled_stands : List Term → Filled-F Filled → plain.Filled
filled_stands terms x = filled_layer terms (map-Filled Filled plain.Filled (filled_of terms) x)

by_filled : (terms : List Term) (f : Filled) (x : Filled-F Filled) → out-Filled f ≡ x
    → filled_of terms f ≡ filled_stands terms x
unfolding filled_stands filled_of
by_filled terms f x h =
    fold_out-Filled plain.Filled (filled_layer terms) f
    ∙ ap (λ y. filled_layer terms (map-Filled Filled plain.Filled (filled_of terms) y)) h

-- a known part stands for the term that its cell names
pub filled_of-known : (terms : List Term) (cell : ℕ)
    → filled_of terms (filled.Known cell) ≡ plain.Known (term_at terms cell)
unfolding filled_stands
filled_of-known terms cell = by_filled terms (filled.Known cell) _ (outs-Known cell)

-- a free variable stands for itself
pub filled_of-free : (terms : List Term) (v : ℕ) → filled_of terms (filled.Free v) ≡ plain.Free v
unfolding filled_stands
filled_of-free terms v = by_filled terms (filled.Free v) _ (outs-Free v)

-- a list stands for that of what its parts stand for
pub filled_of-list : (terms : List Term) (parts : Vec Filled Global) (tail : Option ℕ)
    → filled_of terms (filled.List parts tail) ≡ plain.Partly (fillings_of terms parts.items) tail
unfolding filled_stands
filled_of-list terms parts tail = by_filled terms (filled.List parts tail) _ (outs-List parts tail)

-- ---- cells below a count

below_stands : ℕ → Filled-F Filled → Bool
below_stands n x = below_layer n (map-Filled Filled Bool (is_below n) x)

by_below : (n : ℕ) (f : Filled) (x : Filled-F Filled) → out-Filled f ≡ x → is_below n f ≡ below_stands n x
unfolding below_stands is_below
by_below n f x h =
    fold_out-Filled Bool (below_layer n) f ∙ ap (λ y. below_layer n (map-Filled Filled Bool (is_below n) y)) h

-- a known part is below a count where its cell is
pub is_below-known : (n cell : ℕ) → is_below n (filled.Known cell) ≡ nat_lt cell n
unfolding below_stands
is_below-known n cell = by_below n (filled.Known cell) _ (outs-Known cell)

-- a free variable has no cell
pub is_below-free : (n v : ℕ) → is_below n (filled.Free v) ≡ true
unfolding below_stands
is_below-free n v = by_below n (filled.Free v) _ (outs-Free v)

-- a list is below a count where its parts are
pub is_below-list : (n : ℕ) (parts : Vec Filled Global) (tail : Option ℕ)
    → is_below n (filled.List parts tail) ≡ list_all (λ b. b) (map (is_below n) parts.items)
unfolding below_stands
is_below-list n parts tail = by_below n (filled.List parts tail) _ (outs-List parts tail)

-- a part whose cell is below a count is below it
pub known_below : (n cell : ℕ) → cell < n → is_below n (filled.Known cell) ≡ true
known_below n cell l = is_below-known n cell ∙ lt-ltb cell n l

-- a list of parts below a count is below it
pub list_below : (n : ℕ) (parts : Vec Filled Global) (tail : Option ℕ) → AreFilledBelow n parts.items
    → is_below n (filled.List parts tail) ≡ true
list_below n parts tail h =
    is_below-list n parts tail
    ∙ (list_all-map (λ b. b) (is_below n) parts.items ∙ list_all-from_AllPass (is_below n) parts.items h)

-- the cell of a known part that is below a count is below it
pub below_cell : (n : ℕ) (f : Filled) (cell : ℕ) → is_below n f ≡ true → f ≡ filled.Known cell → cell < n
below_cell n f cell b h = ltb-true cell n (sym (is_below-known n cell) ∙ (ap (is_below n) (sym h) ∙ b))

-- ---- terms that are added

filled_roll : (terms : List Term) (x : Filled-F Filled) → filled_of terms (roll-Filled x) ≡ filled_stands terms x
unfolding filled_stands filled_of
filled_roll terms x = fold-roll-Filled plain.Filled (filled_layer terms) x

below_roll : (n : ℕ) (x : Filled-F Filled) → is_below n (roll-Filled x) ≡ below_stands n x
unfolding below_stands is_below
below_roll n x = fold-roll-Filled Bool (below_layer n) x

module _ (m n : ℕ) (old new : List Term) (l : m ≤ n) (agree : (i : ℕ) → i < m → term_at new i ≡ term_at old i) where
  -- a part below a count is below a greater one, and stands for the same among terms that agree below the count
  abbrev Stays : Filled → Type 0
  Stays f = is_below m f ≡ true → (is_below n f ≡ true) × (filled_of new f ≡ filled_of old f)

  stays_parts : (es : List ((f : Filled) × Stays f)) → list_all (λ b. b) (map (is_below m) (map (λ e. e.0) es)) ≡ true
      → (list_all (λ b. b) (map (is_below n) (map (λ e. e.0) es)) ≡ true)
      × (as_fillings (map (filled_of new) (map (λ e. e.0) es)) ≡ as_fillings (map (filled_of old) (map (λ e. e.0) es)))
  stays_parts [] h = (refl, refl)
  stays_parts (e ∷ es) h =
      let p = and_parts (is_below m e.0) (list_all (λ b. b) (map (is_below m) (map (λ e. e.0) es))) h in
      let q = e.1 p.0 in
      let r = stays_parts es p.1 in
      (ap₂ (λ a b. a && b) q.0 r.0, ap₂ plain.Then q.1 r.1)

  abbrev bare : Filled-F ((f : Filled) × Stays f) → Filled-F Filled
  bare = map-Filled ((f : Filled) × Stays f) Filled (λ e. e.0)

  stays_layer : (y : Filled-F ((f : Filled) × Stays f)) → below_stands m (bare y) ≡ true
      → (below_stands n (bare y) ≡ true) × (filled_stands new (bare y) ≡ filled_stands old (bare y))
  unfolding below_stands filled_stands
  stays_layer (open_filled.Known cell) h =
      let k : cell < m = ltb-true cell m h in (lt-ltb cell n (omega arith), ap plain.Known (agree cell k))
  stays_layer (open_filled.Free v) h = (refl, refl)
  stays_layer (open_filled.List parts tail) h =
      let r = stays_parts parts.items h in (r.0, ap (λ fs. plain.Partly fs tail) r.1)

  pub stays : (f : Filled) → Stays f
  stays = ind-Filled Stays (λ x y is b.
      let z = stays_layer y (ap (below_stands m) is ∙ (sym (below_roll m x) ∙ b)) in (
        below_roll n x ∙ (ap (below_stands n) (sym is) ∙ z.0),
        filled_roll new x
            ∙ (ap (filled_stands new) (sym is) ∙ (z.1 ∙ (ap (filled_stands old) is ∙ sym (filled_roll old x)))),
      ))

-- a part stays below a count that grows
pub is_below_more : (m n : ℕ) (f : Filled) → m ≤ n → is_below m f ≡ true → is_below n f ≡ true
is_below_more m n f l h = (stays m n [] [] l (λ i k. refl) f h).0

-- a part stands for the same where terms are added
pub filled_grows : (old new : List Term) (f : Filled) → Grows old new → is_below (length old) f ≡ true
    → filled_of new f ≡ filled_of old f
filled_grows old new f g h =
    (stays (length old) (length new) old new (grows_length old new g)
    (λ i k. ap term_or_nil (growth.stays old new g i k)) f h).1

-- parts below a count are so at each place
pub below_place : (n : ℕ) (fs : List Filled) (i : ℕ) (f : Filled) → AreFilledBelow n fs → slice_get fs i ≡ Some f
    → is_below n f ≡ true
below_place n fs i f h k =
    subst (λ g. is_below n g ≡ true) (get_or_from_slice_get fs i f f k) (h i f (slice_get_within fs i f k))

-- parts stay below a count that grows
pub all_below_grow : (m n : ℕ) (fs : List Filled) → m ≤ n → AreFilledBelow m fs → AreFilledBelow n fs
all_below_grow m n fs l h = λ k d i. is_below_more m n (get_or fs k d) l (h k d i)

-- functions that are equal at each place map a list alike
map_places : {X Y : Type 0} (f g : X → Y) (xs : List X) → ((i : ℕ) (x : X) → slice_get xs i ≡ Some x → f x ≡ g x)
    → map f xs ≡ map g xs
map_places f g [] h = refl
map_places f g (x ∷ xs) h = ap₂ (λ y ys. y ∷ ys) (h 0 x refl) (map_places f g xs (λ i y k. h (suc i) y k))

-- parts stand for the same where terms are added
pub fillings_grow : (old new : List Term) (fs : List Filled) → Grows old new → AreFilledBelow (length old) fs
    → fillings_of new fs ≡ fillings_of old fs
fillings_grow old new fs g h =
    ap as_fillings (map_places (filled_of new) (filled_of old) fs
    (λ i f k. filled_grows old new f g (below_place (length old) fs i f h k)))

-- ---- goals

abbrev goal_with : List ℕ → plain.Fillings → Option ℕ → plain.Goal
goal_with name parts tail = record { name = name; parts = parts; tail = tail }

module _ (old new : List Term) (g : Grows old new) where
  -- a goal stays below the number of terms
  pub goal_below_grows : (q : Goal) → GoalBelow (length old) q → GoalBelow (length new) q
  goal_below_grows q h = all_below_grow (length old) (length new) q.args.items (grows_length old new g) h

  -- a goal below the number of terms stands for the same
  pub goal_stays : (q : Goal) → GoalBelow (length old) q → goal_of new q ≡ goal_of old q
  goal_stays q h =
      ap (λ fs. goal_with q.name fs q.tail) (fillings_grow old new q.args.items g h)
