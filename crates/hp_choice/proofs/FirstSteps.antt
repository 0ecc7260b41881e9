-- The values of variables by cells.
use Rattle.std.proofs.Common.{◌≡◌, ℕ, ◌+◌, ◌<◌, List, [], ◌∷◌, ◌++◌, length, map, take, slice_get, Option, Some, None, option_map, ap, sym, ◌∙◌, add-one}
use Rattle.std.proofs.Math.Seq.{take-suc}
use Rattle.std.proofs.lemmas.List.{map-append}
use Rattle.std.proofs.lemmas.Option.{get_or_from_slice_get, slice_get-map, slice_get_within}
use Rattle.hp_syntax.specs.declared.pattern.Ground.{Ground}
use Rattle.hp_syntax.specs.GroundViews.{ground_of}
use Rattle.hp_syntax.specs.Terms.{Term}
use Rattle.hp_syntax.specs.Values.{Bindings}
use Rattle.hp_eval.specs.GoalViews.{term_at}
use Rattle.hp_eval.specs.Slotted.{Slotted, AreBelow, bindings_of, flat, named}
use Rattle.hp_eval.proofs.AttemptLemmas.{place_bound, place_free}
use Rattle.hp_eval.proofs.CellViews.{named_at}
use Rattle.hp_eval.proofs.SlotLemmas.{bindings_some}

-- ---- the values of variables

module _ (terms : List Term) (s : Slotted) (v : ℕ) where
  -- a variable with a cell has the value that the cell names
  pub value_bound : (cell : ℕ) → AreBelow (length terms) s → flat (slice_get s.values v) ≡ Some cell → (value : Ground)
      → ground_of value ≡ term_at terms cell
      → slice_get (bindings_of terms s) v ≡ Some (option_map ground_of (Some value))
  value_bound cell below bound value is =
      let place = place_bound s v cell bound in
      bindings_some terms s v cell (term_at terms cell) place (named_at terms cell (below v cell place))
      ∙ ap (λ t. Some (Some t)) (sym is)

  -- the cell of a variable is one of the cells
  pub cell_below : (cell : ℕ) → AreBelow (length terms) s → flat (slice_get s.values v) ≡ Some cell
      → cell < length terms
  cell_below cell below bound = below v cell (place_bound s v cell bound)

  -- a variable without a cell has no value
  pub value_free : v < length s.values → flat (slice_get s.values v) ≡ None
      → slice_get (bindings_of terms s) v ≡ Some None
  value_free within free =
      slice_get-map (named terms) s.values v ∙ ap (option_map (named terms)) (place_free s v within free)

-- with the element at a place, one more of a list is taken
take_further : {A : Type 0} (xs : List A) (k : ℕ) (x : A) → slice_get xs k ≡ Some x
    → take (k + 1) xs ≡ take k xs ++ x ∷ []
take_further xs k x there =
    ap (λ n. take n xs) (add-one k)
    ∙ take-suc xs k x (slice_get_within xs k x there)
    ∙ ap (λ y. take k xs ++ y ∷ []) (get_or_from_slice_get xs k x x there)

-- with the value of the next variable, the values are those of one variable more
pub value_added : (all : Bindings) (v : ℕ) (old new : List (Option Ground)) (value : Option Ground)
    → map (option_map ground_of) old ≡ take v all → slice_get all v ≡ Some (option_map ground_of value)
    → new ≡ old ++ value ∷ [] → map (option_map ground_of) new ≡ take (v + 1) all
value_added all v old new value so_far there pushed =
    ap (map (option_map ground_of)) pushed
    ∙ map-append (option_map ground_of) old (value ∷ [])
    ∙ ap (λ bs. bs ++ option_map ground_of value ∷ []) so_far
    ∙ sym (take_further all v (option_map ground_of value) there)
