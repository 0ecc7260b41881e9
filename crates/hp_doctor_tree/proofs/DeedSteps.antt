-- What stands at a place, and steps that are counted.
use Rattle.std.proofs.Common.{◌≡◌, ℕ, ◌+◌, ◌<◌, ◌≤◌, List, [], ◌∷◌, ◌++◌, length, map, drop, get_or, Option, Some, None, option_map, slice_get, ap, sym, ◌∙◌, append_assoc}
use Rattle.std.proofs.lemmas.List.{drop_more}
use Rattle.std.proofs.lemmas.Option.{slice_get-get_or, slice_get-map, slice_get_past}
use Rattle.std.specs.Borrow.{Bor}
use Rattle.std.specs.Slice.{IsItemAt}
use Rattle.hp_syntax.specs.Syntax.{Rule}
use Rattle.hp_way.specs.declared.ways.Deed as made
use Rattle.hp_way.specs.Ways.{deed_of}
use Rattle.hp_doctor_tree.specs.Deeds.{count_on, is_step, steps_from}

module _ {X Y : Type 0} (view : X → Y) (xs : List X) (i : ℕ) where
  -- an item that is lent is the one at its place
  pub item_there : (x : X) → i < length xs → x ≡ get_or xs i x → Some (view x) ≡ slice_get (map view xs) i
  item_there x lt is =
      sym (slice_get-map view xs i ∙ ap (option_map view) (slice_get-get_or xs i x lt ∙ ap Some (sym is)))

  -- past the end there is none
  pub item_missing : length xs ≤ i → None ≡ slice_get (map view xs) i
  item_missing le = sym (slice_get-map view xs i ∙ ap (option_map view) (slice_get_past xs i le))

-- what is lent at a place, if an item is there
pub item_at : {X Y : Type 0} (view : X → Y) (xs : List X) (i : ℕ) (r : Option (Bor X)) → IsItemAt xs i r
    → option_map (λ (b : Bor X). view b.now) r ≡ slice_get (map view xs) i
item_at view xs i None h = item_missing view xs i h.3
item_at view xs i (Some b) h = item_there view xs i b.now h.3.0 h.1

-- the count at one deed more
pub steps_more : (rules : List Rule) (ds : List made.Deed) (i : ℕ) (d : made.Deed) → i < length ds
    → d ≡ get_or ds i d → (n m : ℕ) (old new whole : List ℕ)
    → m ≡ count_on n (is_step (slice_get rules d.rule)) → new ≡ old ++ m ∷ []
    → old ++ steps_from rules n (map deed_of (drop i ds)) ≡ whole
    → new ++ steps_from rules m (map deed_of (drop (i + 1) ds)) ≡ whole
steps_more rules ds i d lt is n m old new whole e grown so_far =
    let others = map deed_of (drop (i + 1) ds) in
    let here : drop i ds ≡ d ∷ drop (i + 1) ds = drop_more ds i d lt ∙ ap (λ x. x ∷ drop (i + 1) ds) (sym is) in
    ap (λ l. l ++ steps_from rules m others) grown
    ∙ (append_assoc old (m ∷ []) (steps_from rules m others)
    ∙ (ap (λ j. old ++ (j ∷ steps_from rules j others)) e
    ∙ (sym (ap (λ q. old ++ steps_from rules n (map deed_of q)) here) ∙ so_far)))
