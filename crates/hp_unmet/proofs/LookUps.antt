-- What stands at a place of a list, seen otherwise.
use Rattle.std.proofs.Common.{◌≡◌, ℕ, ◌<◌, ◌≤◌, List, get_or, length, map, Some, None, sym, ap, ◌∙◌}
use Rattle.std.specs.Prelude.{option_map, slice_get}
use Rattle.std.proofs.lemmas.Option.{slice_get-get_or, slice_get-map, slice_get_past}

module _ {A B : Type 0} (view : A → B) (list items : List A) (i : ℕ) (same : list ≡ items) where
  -- at a place of the list there is its element
  pub there : (x : A) → i < length list → x ≡ get_or list i x → slice_get (map view items) i ≡ Some (view x)
  there x l is =
      ap (λ xs. slice_get (map view xs) i) (sym same)
      ∙ (slice_get-map view list i ∙ ap (option_map view) (slice_get-get_or list i x l ∙ ap Some (sym is)))

  -- beyond it there is none
  pub missing : length list ≤ i → slice_get (map view items) i ≡ None
  missing l =
      ap (λ xs. slice_get (map view xs) i) (sym same)
      ∙ (slice_get-map view list i ∙ ap (option_map view) (slice_get_past list i l))
