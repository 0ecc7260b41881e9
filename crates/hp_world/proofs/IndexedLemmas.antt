-- A table that follows its places.
use Rattle.std.proofs.Common.{◌≡◌, ◌≢◌, ℕ, zero, suc, ◌<◌, ◌⊎◌, inl, inr, List, [], ◌∷◌, ◌++◌, Option, Some, None, length, get_or, set, slice_get, replicate, refl, sym, ap, subst, ◌∙◌, arith}
use Rattle.std.proofs.lemmas.List.{get_or-set_same, get_or-set_other, get_or_append_left}
use Rattle.std.proofs.lemmas.Option.{slice_get-get_or, get_or_from_slice_get, same_Some, none-some}
use Rattle.std.proofs.lemmas.Bool.{cases_eq}
use Rattle.std.specs.Option.{MatchOption}
use Rattle.hp_cells.proofs.PlaceLemmas.{before_or_last, stands_last}
use Rattle.hp_world.specs.Indexed.{Row, IsAbsent, IsOnlyAt, IsIndex, row_of, IsIndexed}
use Rattle.hp_world.specs.declared.places.Places.TheInside.{Inside}

-- the place of an element is within the list
some_within : (xs : List (Option ℕ)) (i x : ℕ) → get_or xs i None ≡ Some x → i < length xs
some_within [] i x h = absurd (cc)
some_within (y ∷ xs) zero x h = omega arith
some_within (y ∷ xs) (suc i) x h = let l = some_within xs i x h in omega arith

-- an element that is read at a place stands there
stands_at : (xs : List (Option ℕ)) (i x : ℕ) → get_or xs i None ≡ Some x → slice_get xs i ≡ Some (Some x)
stands_at xs i x h = slice_get-get_or xs i None (some_within xs i x h) ∙ ap Some h

-- an atom at a place has an entry in the table
pub atom_within : (table places : List (Option ℕ)) (i a : ℕ) → IsIndex table places
    → get_or places i None ≡ Some a → a < length table
atom_within table places i a h e = some_within table a i (h.finds a i e)

-- an atom that contracts see at a place has an entry in the table
pub atom_in_row : (p : Inside) (row : Row) (i a : ℕ) → IsIndexed p → row_of p ≡ row
    → get_or row.places i None ≡ Some a → a < length p.table.items
atom_in_row p row i a h view e =
    let here = subst (λ (r : Row). get_or r.places i None ≡ Some a) (sym view) e in
    atom_within p.table.items p.places.items i a h.index here

-- the entry of an atom is its only place, or it stands nowhere
pub place_from : (table places : List (Option ℕ)) (a : ℕ) (r : Option ℕ) → IsIndex table places
    → r ≡ get_or table a None → MatchOption r (IsAbsent a places) (IsOnlyAt a places)
place_from table places a None h e = λ i g. none-some i (e ∙ h.finds a i g)
place_from table places a (Some i) h e =
    let g = h.found a i (sym e) in
    record {
      within = some_within places i a g;
      stands = g;
      only = λ j f. same_Some j i (sym (h.finds a j f) ∙ sym e);
    }

-- in a row longer by one an atom stands where it stood, or last
pushed_at : (ps : List (Option ℕ)) (q : Option ℕ) (i b : ℕ) → get_or (ps ++ q ∷ []) i None ≡ Some b
    → (get_or ps i None ≡ Some b) ⊎ ((i ≡ length ps) × (q ≡ Some b))
pushed_at ps q i b h =
    elim (before_or_last ps q i (Some b) (stands_at (ps ++ q ∷ []) i b h)) [
      | inl e ↦ inl (get_or_from_slice_get ps i (Some b) None e)
      | inr e ↦ inr e
    ]

-- in a row longer by one an atom stands where it stood
stays_at : (ps : List (Option ℕ)) (q : Option ℕ) (i b : ℕ) → get_or ps i None ≡ Some b
    → get_or (ps ++ q ∷ []) i None ≡ Some b
stays_at ps q i b h = get_or_append_left ps (q ∷ []) None i (some_within ps i b h) ∙ h

-- the last element is read behind the others
pub last_at : (ps : List (Option ℕ)) (q : Option ℕ) → get_or (ps ++ q ∷ []) (length ps) None ≡ q
last_at ps q = get_or_from_slice_get (ps ++ q ∷ []) (length ps) q None (stands_last ps q)

-- a written table has at an atom what was written for it, or what stood there
written : (table : List (Option ℕ)) (a b i : ℕ) (q : Option ℕ) → a < length table
    → get_or (set table a q) b None ≡ Some i → ((b ≡ a) × (q ≡ Some i)) ⊎ ((b ≢ a) × (get_or table b None ≡ Some i))
written table a b i q l h =
    elim (cases_eq b a) [
      | inl e ↦
          inl (e, sym (get_or-set_same table a q None l) ∙ ap (λ k. get_or (set table a q) k None) (sym e) ∙ h)
      | inr n ↦ inr (n, sym (get_or-set_other table a b q None n) ∙ h)
    ]

-- where the last place is taken away with its atom, the table forgets the atom
pub index_popped : (table ps : List (Option ℕ)) (a : ℕ) → IsIndex table (ps ++ Some a ∷ [])
    → IsIndex (set table a None) ps
index_popped table ps a h =
    let here : get_or table a None ≡ Some (length ps) = h.finds a (length ps) (last_at ps (Some a)) in
    let within : a < length table = some_within table a (length ps) here in
    record {
      found = λ b i g. elim (written table a b i None within g) [
        | inl w ↦ absurd (none-some i w.1)
        | inr w ↦ elim (pushed_at ps (Some a) i b (h.found b i w.1)) [
          | inl x ↦ x
          | inr x ↦ absurd (w.0 (sym (same_Some a b x.1)))
        ]
      ];
      finds = λ b i g.
          let there : get_or table b None ≡ Some i = h.finds b i (stays_at ps (Some a) i b g) in
          let other : b ≢ a = λ e.
          let same : Some i ≡ Some (length ps) = sym there ∙ ap (λ k. get_or table k None) e ∙ here in
          let it : i ≡ length ps = same_Some i (length ps) same in
          let l = some_within ps i b g in omega arith in
          get_or-set_other table a b None None other ∙ there;
    }

-- where an empty last place is taken away, the table stays
pub index_shrunk : (table ps : List (Option ℕ)) → IsIndex table (ps ++ None ∷ []) → IsIndex table ps
index_shrunk table ps h = record {
  found = λ b i g. elim (pushed_at ps None i b (h.found b i g)) [ inl x ↦ x | inr x ↦ absurd (none-some b x.1) ];
  finds = λ b i g. h.finds b i (stays_at ps None i b g);
}

-- where an atom that stood nowhere comes last, the table has its place
pub index_pushed : (table ps : List (Option ℕ)) (a : ℕ) → IsIndex table ps → IsAbsent a ps → a < length table
    → IsIndex (set table a (Some (length ps))) (ps ++ Some a ∷ [])
index_pushed table ps a h gone within = record {
  found = λ b i g. elim (written table a b i (Some (length ps)) within g) [
    | inl w ↦
        let i_is : length ps ≡ i = same_Some (length ps) i w.1 in
        ap (λ k. get_or (ps ++ Some a ∷ []) k None) (sym i_is) ∙ last_at ps (Some a) ∙ ap Some (sym w.0)
    | inr w ↦ stays_at ps (Some a) i b (h.found b i w.1)
  ];
  finds = λ b i g. elim (pushed_at ps (Some a) i b g) [
    | inl x ↦
        let other : b ≢ a = λ e. gone i (x ∙ ap Some e) in
        get_or-set_other table a b (Some (length ps)) None other ∙ h.finds b i x
    | inr x ↦
        let same : a ≡ b = same_Some a b x.1 in
        ap (λ k. get_or (set table a (Some (length ps))) k None) (sym same)
        ∙ get_or-set_same table a (Some (length ps)) None within ∙ ap Some (sym x.0)
  ];
}

-- a list of empty entries has no other
none_at : (n a : ℕ) (q : Option ℕ) → q ≡ None → get_or (replicate n q) a None ≡ None
none_at zero a q e = refl
none_at (suc n) zero q e = e
none_at (suc n) (suc a) q e = none_at n a q e

-- empty entries behind a table are read as those that it lacks
padded : (table : List (Option ℕ)) (n a : ℕ) (q : Option ℕ) → q ≡ None
    → get_or (table ++ replicate n q) a None ≡ get_or table a None
padded [] n a q e = none_at n a q e
padded (t ∷ table) n zero q e = refl
padded (t ∷ table) n (suc a) q e = padded table n a q e

-- empty entries behind a table keep it
pub index_padded : (table ps : List (Option ℕ)) (n : ℕ) (q : Option ℕ) → q ≡ None → IsIndex table ps
    → IsIndex (table ++ replicate n q) ps
index_padded table ps n q e h = record {
  found = λ a i g. h.found a i (sym (padded table n a q e) ∙ g);
  finds = λ a i g. padded table n a q e ∙ h.finds a i g;
}
