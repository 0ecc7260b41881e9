-- Bindings that are made and undone, and the terms that they name.
use Rattle.std.proofs.Common.{◌≡◌, ◌≢◌, ℕ, zero, suc, ◌+◌, ◌<◌, ◌≤◌, Bool, true, false, List, [], ◌∷◌, ◌++◌, length, map, take, drop, replicate, get_or, Option, Some, None, option_map, refl, sym, ◌∙◌, ap, ap₂, subst, arith, ⊎_elim}
use Rattle.std.specs.Prelude.{slice_get, slice_set}
use Rattle.std.specs.List.{AllPairs, Contains}
use Rattle.std.proofs.lemmas.Bool.{cases_eq}
use Rattle.std.proofs.lemmas.Bool.Decides.{Decides-eqb}
use Rattle.std.proofs.lemmas.List.{length-set, length-map, length-take-le, take_more, take_more_set, take-append-drop, drop-append-le, drop_all, drop_at, take_all, take_at, take-take, set-set, set_comm, set-get_or, map-set, get_or-map, get_or-replicate, length-replicate, get_or_append_left, get_or-append-add, length-append}
use Rattle.std.proofs.lemmas.List.Elements.{Contains-append_left, Contains-append_right, Contains-append_cases, Contains-push, Contains-push_cases, Contains-get_or}
use Rattle.std.proofs.lemmas.List.Quantifiers.{all_pairs_push}
use Rattle.std.proofs.lemmas.Map.Made.{IsDistinct-from_AllPairs}
use Rattle.std.proofs.lemmas.Map.Steps.{length-le_from_distinct_below}
use Rattle.std.proofs.lemmas.Map.Views.{Contains-from_any}
use Rattle.std.proofs.lemmas.Option.{same_Some, slice_get-map, slice_get_within, get_or_from_slice_get}
use Rattle.hp_laws.proofs.BindingLemmas.{slice_get-set_same, slice_get-set_other}
use Rattle.hp_syntax.specs.Terms.{Term}
use Rattle.hp_syntax.specs.Values.{Bindings}
use Rattle.hp_eval.specs.declared.slots.Slot.{Slot}
use Rattle.hp_eval.specs.Slotted.{Slotted, slotted, stored, no_bindings, with_bound, without, undone, AreSlots, Binds, AreBelow, Matched, named, bindings_of}

-- ---- taking bindings back

-- variables are cleared one part of the list after the other
without-append : (us vs : List ℕ) (values : List (Option ℕ))
    → without (us ++ vs) values ≡ without vs (without us values)
without-append [] vs values = refl
without-append (u ∷ us) vs values = without-append us vs (slice_set values u None)

-- clearing variables leaves as many
length-without : (vs : List ℕ) (values : List (Option ℕ)) → length (without vs values) ≡ length values
length-without [] values = refl
length-without (v ∷ vs) values = length-without vs (slice_set values v None) ∙ length-set values v None

-- the order in which two variables are cleared is the same
clear_comm : (values : List (Option ℕ)) (v w : ℕ)
    → slice_set (slice_set values v None) w None ≡ slice_set (slice_set values w None) v None
clear_comm values v w =
    ⊎_elim (λ q. subst (λ u. slice_set (slice_set values v None) u None ≡ slice_set (slice_set values u None) v None) q
    refl)
    (λ n. set_comm values v w None None n) (cases_eq v w)

-- a variable is cleared before others or after them
without-set : (vs : List ℕ) (values : List (Option ℕ)) (v : ℕ)
    → without vs (slice_set values v None) ≡ slice_set (without vs values) v None
without-set [] values v = refl
without-set (w ∷ vs) values v = ap (without vs) (clear_comm values v w) ∙ without-set vs (slice_set values w None) v

-- variables are cleared before others or after them
without_comm : (us vs : List ℕ) (values : List (Option ℕ))
    → without us (without vs values) ≡ without vs (without us values)
without_comm [] vs values = refl
without_comm (u ∷ us) vs values =
    ap (without us) (sym (without-set vs values u)) ∙ without_comm us vs (slice_set values u None)

-- the variables between two marks and those behind the later are those behind the earlier
between_marks : (m n : ℕ) (xs : List ℕ) → m ≤ n → n ≤ length xs → drop m (take n xs) ++ drop n xs ≡ drop m xs
between_marks m n xs l k =
    let here : m ≤ length (take n xs) = subst (λ i. m ≤ i) (sym (length-take-le n xs k)) l in
    sym (drop-append-le m (take n xs) (drop n xs) here) ∙ ap (drop m) (take-append-drop n xs)

-- undoing bindings to a mark and then to an earlier one undoes them to the earlier one
pub undone_twice : (m n : ℕ) (s : Slotted) → m ≤ n → n ≤ length s.trail → undone m (undone n s) ≡ undone m s
undone_twice m n s l k =
    ap₂ slotted
    (without_comm (drop m (take n s.trail)) (drop n s.trail) s.values
    ∙ (sym (without-append (drop m (take n s.trail)) (drop n s.trail) s.values)
    ∙ ap (λ vs. without vs s.values) (between_marks m n s.trail l k)))
    (take-take m n s.trail l)

-- undoing no bindings changes nothing
pub undone_none : (s : Slotted) → undone (length s.trail) s ≡ s
undone_none s =
    ap₂ slotted (ap (λ vs. without vs s.values) (drop_all (length s.trail) s.trail (omega arith)))
    (take_all (length s.trail) s.trail (omega arith))

-- bindings stand above themselves
pub binds_self : (s : Slotted) → Binds s s
binds_self s = record { later = omega arith; undoes = undone_none s }

-- bindings stand above those below which others stand
pub binds_through : (a b c : Slotted) → Binds a b → Binds b c → Binds a c
binds_through a b c f g = record {
  later = omega arith;
  undoes =
      sym (undone_twice (length a.trail) (length b.trail) c f.later g.later)
      ∙ (ap (undone (length a.trail)) g.undoes ∙ f.undoes);
}

-- further bindings are of as many variables
pub binds_vars : (old new : Slotted) → Binds old new → length new.values ≡ length old.values
binds_vars old new b =
    sym (length-without (drop (length old.trail) new.trail) new.values) ∙ ap (λ s. length s.values) b.undoes

-- bindings that stand above those of a mark are undone to these
pub undone_above : (n : ℕ) (e f : Slotted) → n ≤ length e.trail → Binds (undone n e) f → undone n f ≡ undone n e
undone_above n e f h b = ap (λ m. undone m f) (sym (length-take-le n e.trail h)) ∙ b.undoes

-- so are those above the start of satisfiers, which a call leaves as it was
pub undone_start : (old new : ℕ) (e f : Slotted) → new ≡ old → old ≤ length e.trail → Binds (undone old e) f
    → undone new f ≡ undone old e
undone_start old new e f same h b = ap (λ n. undone n f) same ∙ undone_above old e f h b

-- a further binding stands above those before
pub binds_bound : (s : Slotted) (v cell : ℕ) → slice_get s.values v ≡ Some None → Binds s (with_bound v cell s)
binds_bound s v cell h = record {
  later = omega (arith, length-append {A = ℕ});
  undoes =
      ap₂ slotted
      (ap (λ vs. without vs (slice_set s.values v (Some cell))) (drop_at s.trail (v ∷ []) (length s.trail) refl)
      ∙ (set-set s.values v (Some cell) None
      ∙ (ap (slice_set s.values v) (sym (get_or_from_slice_get s.values v None None h))
      ∙ set-get_or s.values v None)))
      (take_at s.trail (v ∷ []) (length s.trail) refl);
}

-- ---- bound variables are listed once

-- a variable that is listed twice is listed at different places
once_only : (us vs : List ℕ) (v : ℕ) → AllPairs (λ x y. x ≢ y) (us ++ vs) → Contains us v → Contains vs v → ⊥
once_only us vs v apart (i, i_in, i_is) (j, j_in, j_is) =
    apart i (length us + j) v (omega arith) (rw length-append (omega arith))
    (get_or_append_left us vs v i i_in ∙ (i_is ∙ (sym j_is ∙ sym (get_or-append-add us vs j v))))

-- a variable that isn't cleared stands for what it stood for
without_other : (vs : List ℕ) (values : List (Option ℕ)) (v : ℕ) → (Contains vs v → ⊥)
    → slice_get (without vs values) v ≡ slice_get values v
without_other [] values v n = refl
without_other (w ∷ vs) values v n =
    without_other vs (slice_set values w None) v (λ k. n (Contains-append_right (w ∷ []) vs v k))
    ∙ slice_get-set_other values w v None (λ q. n (0, omega arith, q))

-- a list of one has no other
only_one : (w v : ℕ) → Contains (w ∷ []) v → w ≡ v
only_one w v (zero, k_in, k_is) = k_is
only_one w v (suc k, k_in, k_is) = absurd (omega arith)

-- a variable that was cleared stands for nothing
cleared : (w v cell : ℕ) (values : List (Option ℕ)) → w ≡ v
    → slice_get (slice_set values w None) v ≡ Some (Some cell) → ⊥
cleared w v cell values q h =
    let k : slice_get (slice_set values w None) w ≡ Some (Some cell) = ap (slice_get (slice_set values w None)) q ∙ h in
    let l = slice_get_within (slice_set values w None) w (Some cell) k in
    let e = slice_get-set_same values w None (subst (λ i. w < i) (length-set values w None) l) in
    cc

-- a variable that stands for a cell when others are cleared stood for it, and is none of them
without_these : (vs : List ℕ) (values : List (Option ℕ)) (v cell : ℕ)
    → slice_get (without vs values) v ≡ Some (Some cell) → (slice_get values v ≡ Some (Some cell)) × (Contains vs v → ⊥)
without_these [] values v cell h = (h, λ (k, k_in, k_is). absurd (omega arith))
without_these (w ∷ vs) values v cell h =
    let rest = without_these vs (slice_set values w None) v cell h in
    let apart : w ≢ v = λ q. cleared w v cell values q rest.0 in (
      sym (slice_get-set_other values w v None apart) ∙ rest.0,
      λ c. ⊎_elim (λ i. apart (only_one w v i)) rest.1 (Contains-append_cases (w ∷ []) vs v c),
    )

-- further bindings keep the cells that variables stood for before
pub binds_keep : (old new : Slotted) → Binds old new → (v cell : ℕ) → slice_get old.values v ≡ Some (Some cell)
    → slice_get new.values v ≡ Some (Some cell)
binds_keep old new b v cell h =
    (without_these (drop (length old.trail) new.trail) new.values v cell
    (ap (λ s. slice_get s.values v) b.undoes ∙ h)).0

-- bindings of no variable list none
pub are_slots_none : (n : ℕ) → AreSlots (no_bindings n)
are_slots_none n = record {
  listed =
      λ v cell h.
      let within = slice_get_within {A = Option ℕ} (replicate n None) v (Some cell) h in
      let long = length-replicate {A = Option ℕ} n None in
      let free = get_or-replicate {A = Option ℕ} n v None None (omega arith) in
      let found = get_or_from_slice_get {X = Option ℕ} (replicate n None) v (Some cell) None h in
      cc;
  bound = λ v (k, k_in, k_is). absurd (omega arith);
  once = λ i j d l k q. absurd (omega arith);
}

-- bindings with a further one list each once
pub are_slots_bound : (s : Slotted) (v cell : ℕ) → AreSlots s → slice_get s.values v ≡ Some None
    → AreSlots (with_bound v cell s)
are_slots_bound s v cell a h = record { listed = listed_each; bound = bound_each; once = once_each }
  where
    absent : Contains s.trail v → ⊥
    absent k = let b = a.bound v k in let q = sym h ∙ b.1 in cc

    listed_each : (w x : ℕ) → slice_get (slice_set s.values v (Some cell)) w ≡ Some (Some x)
        → Contains (s.trail ++ v ∷ []) w
    listed_each w x k =
        ⊎_elim (λ q. subst (Contains (s.trail ++ v ∷ [])) q (Contains-push s.trail v))
        (λ n. Contains-append_left s.trail (v ∷ []) w
        (a.listed w x (sym (slice_get-set_other s.values v w (Some cell) n) ∙ k)))
        (cases_eq v w)

    bound_each : (w : ℕ) → Contains (s.trail ++ v ∷ []) w
        → (x : ℕ) × (slice_get (slice_set s.values v (Some cell)) w ≡ Some (Some x))
    bound_each w k =
        ⊎_elim
        (λ c. let b = a.bound w c in
        (b.0, slice_get-set_other s.values v w (Some cell) (λ q. absent (subst (Contains s.trail) (sym q) c)) ∙ b.1))
        (λ q. (
          cell,
          subst (λ u. slice_get (slice_set s.values v (Some cell)) u ≡ Some (Some cell)) q
              (slice_get-set_same s.values v (Some cell) (slice_get_within s.values v None h)),
        ))
        (Contains-push_cases s.trail v w k)

    once_each : AllPairs (λ x y. x ≢ y) (s.trail ++ v ∷ [])
    once_each =
        all_pairs_push (λ x y. x ≢ y) s.trail v a.once
        (λ k d l q. absent (subst (Contains s.trail) q (Contains-get_or s.trail k d l)))

-- no more variables are listed than there are
trail_fits : (s : Slotted) → AreSlots s → length s.trail ≤ length s.values
trail_fits s a =
    length-le_from_distinct_below s.trail (length s.values) (IsDistinct-from_AllPairs Decides-eqb s.trail a.once)
    (λ q h. let b = a.bound q (Contains-from_any (λ x y k. (Decides-eqb x y).0 k) q s.trail h) in
    slice_get_within s.values q (Some b.0) b.1)

-- where a variable stands for nothing there is room to list it
room_to_bind : (s : Slotted) (v : ℕ) → AreSlots s → slice_get s.values v ≡ Some None
    → length s.trail < length s.values
room_to_bind s v a h =
    let l = trail_fits (with_bound v 0 s) (are_slots_bound s v 0 a h) in
    omega (arith, l, length-append s.trail (v ∷ []), length-set s.values v (Some 0))

-- bindings that are undone to a mark list each once
pub are_slots_undone : (n : ℕ) (s : Slotted) → AreSlots s → AreSlots (undone n s)
are_slots_undone n s a = record { listed = listed_each; bound = bound_each; once = once_each }
  where
    whole : take n s.trail ++ drop n s.trail ≡ s.trail
    whole = take-append-drop n s.trail

    listed_each : (v x : ℕ) → slice_get (without (drop n s.trail) s.values) v ≡ Some (Some x)
        → Contains (take n s.trail) v
    listed_each v x h =
        let k = without_these (drop n s.trail) s.values v x h in
        let c = subst (λ vs. Contains vs v) (sym whole) (a.listed v x k.0) in
        ⊎_elim (λ i. i) (λ i. absurd (k.1 i)) (Contains-append_cases (take n s.trail) (drop n s.trail) v c)

    bound_each : (v : ℕ) → Contains (take n s.trail) v
        → (x : ℕ) × (slice_get (without (drop n s.trail) s.values) v ≡ Some (Some x))
    bound_each v c =
        let k = Contains-append_left (take n s.trail) (drop n s.trail) v c in
        let b = a.bound v (subst (λ vs. Contains vs v) whole k) in (
          b.0,
          without_other (drop n s.trail) s.values v
              (λ i. once_only (take n s.trail) (drop n s.trail) v
              (subst (AllPairs (λ x y. x ≢ y)) (sym whole) a.once) c i)
              ∙ b.1,
        )

    once_each : AllPairs (λ x y. x ≢ y) (take n s.trail)
    once_each i j d l k q =
        let m : length (take n s.trail) ≤ length s.trail
        = omega (arith, length-append (take n s.trail) (drop n s.trail), ap length whole) in
        let j_at = get_or_append_left (take n s.trail) (drop n s.trail) d j k in
        let i_at = get_or_append_left (take n s.trail) (drop n s.trail) d i (omega arith) in
        let e : get_or s.trail i d ≡ get_or s.trail j d
        = ap (λ xs. get_or xs i d) (sym whole)
        ∙ (i_at ∙ (q ∙ (sym j_at ∙ ap (λ xs. get_or xs j d) whole))) in
        a.once i j d l (omega arith) e

-- ---- stored bindings

-- as many bindings are told as are stored
pub length-stored : (slots : List Slot) (bound : ℕ) → bound ≤ length slots → length (stored slots bound).trail ≡ bound
length-stored slots bound h =
    length-take-le bound (map (λ s. s.listed) slots) (omega (arith, length-map slots (λ s. s.listed)))

-- where all parts stand for nothing and none is listed no variable is bound
pub stored-none : (n : ℕ) (free : Slot) → free.value ≡ None → stored (replicate n free) 0 ≡ no_bindings n
stored-none n free h = ap (λ values. slotted values []) (all_free n)
  where
    all_free : (k : ℕ) → map (λ s. s.value) (replicate k free) ≡ replicate k None
    all_free zero = refl
    all_free (suc k) = ap₂ (λ x xs. x ∷ xs) h (all_free k)

-- where a variable stands for nothing it has a place, and there is a place to list it
pub places_to_bind : (slots : List Slot) (bound v : ℕ) → AreSlots (stored slots bound) → bound ≤ length slots
    → slice_get (stored slots bound).values v ≡ Some None → (v < length slots) × (bound < length slots)
places_to_bind slots bound v a l h =
    let as_many = length-map slots (λ s. s.value) in
    let listed = length-stored slots bound l in
    let room = room_to_bind (stored slots bound) v a h in
    let known = slice_get_within (stored slots bound).values v None h in
    (omega arith, omega arith)

-- the parts beside one that changes stay
map-set_same : {Y : Type 0} (part : Slot → Y) (slots : List Slot) (i : ℕ) (old new : Slot) → i < length slots
    → old ≡ get_or slots i old → part new ≡ part old → map part (slice_set slots i new) ≡ map part slots
map-set_same part slots i old new l h e =
    map-set part slots i new
    ∙ (ap (slice_set (map part slots) i) (e ∙ (ap part h ∙ sym (get_or-map part slots i old (part old) l)))
    ∙ set-get_or (map part slots) i (part old))

-- the cell of a variable is stored apart from the listed variables
stored-value : (slots : List Slot) (bound v : ℕ) (old : Slot) (value : Option ℕ) → v < length slots
    → old ≡ get_or slots v old
    → stored (slice_set slots v (record old { value = value })) bound
    ≡ slotted (slice_set (stored slots bound).values v value) (stored slots bound).trail
stored-value slots bound v old value l h =
    ap₂ slotted (map-set (λ s. s.value) slots v (record old { value = value }))
    (ap (take bound) (map-set_same (λ s. s.listed) slots v old (record old { value = value }) l h refl))

-- a further variable is listed behind the others
stored-listed : (slots : List Slot) (bound v : ℕ) (old : Slot) → bound < length slots → old ≡ get_or slots bound old
    → stored (slice_set slots bound (record old { listed = v })) (bound + 1)
    ≡ slotted (stored slots bound).values ((stored slots bound).trail ++ v ∷ [])
stored-listed slots bound v old l h =
    ap₂ slotted (map-set_same (λ s. s.value) slots bound old (record old { listed = v }) l h refl)
    (ap (take (bound + 1)) (map-set (λ s. s.listed) slots bound (record old { listed = v }))
    ∙ take_more_set (map (λ s. s.listed) slots) bound v (omega (arith, length-map slots (λ s. s.listed))))

-- a further binding is stored as its variable's cell and as the variable behind those listed
pub stored-bound : (slots : List Slot) (bound v cell : ℕ) (old turn : Slot) → v < length slots → bound < length slots
    → old ≡ get_or slots v old → turn ≡ get_or (slice_set slots v (record old { value = Some cell })) bound turn
    → stored
    (slice_set (slice_set slots v (record old { value = Some cell })) bound (record turn { listed = v })) (bound + 1)
    ≡ with_bound v cell (stored slots bound)
stored-bound slots bound v cell old turn l m h k =
    let with_cell = slice_set slots v (record old { value = Some cell }) in
    stored-listed with_cell bound v turn (omega (arith, length-set slots v (record old { value = Some cell }))) k
    ∙ ap (λ s. slotted s.values (s.trail ++ v ∷ [])) (stored-value slots bound v old (Some cell) l h)

-- the last of the variables that are listed is the one listed in the last turn
last_listed : (slots : List Slot) (n bound : ℕ) (last : Slot) → n + 1 ≡ bound → bound ≤ length slots
    → last ≡ get_or slots n last → (stored slots bound).trail ≡ (stored slots n).trail ++ last.listed ∷ []
last_listed slots n bound last e l h =
    ap (λ m. (stored slots m).trail) (sym e)
    ∙ (take_more (map (λ s. s.listed) slots) n last.listed (omega (arith, length-map slots (λ s. s.listed)))
    ∙ ap (λ v. (stored slots n).trail ++ v ∷ [])
    (get_or-map (λ s. s.listed) slots n last last.listed (omega arith) ∙ ap (λ s. s.listed) (sym h)))

-- the variable that is listed last is one of those that there are
pub last_within : (slots : List Slot) (n bound : ℕ) (last : Slot) → n + 1 ≡ bound → AreSlots (stored slots bound)
    → bound ≤ length slots → last ≡ get_or slots n last → last.listed < length slots
last_within slots n bound last e a l h =
    let c = subst (λ vs. Contains vs last.listed) (sym (last_listed slots n bound last e l h))
    (Contains-push (stored slots n).trail last.listed) in
    let b = a.bound last.listed c in
    omega (
      arith,
      slice_get_within (stored slots bound).values last.listed (Some b.0) b.1,
      length-map slots (λ s. s.value),
    )

-- the last binding is undone where the variable listed last stands for nothing
pub stored-undone : (slots : List Slot) (n bound : ℕ) (last old : Slot) → n + 1 ≡ bound → bound ≤ length slots
    → last.listed < length slots → last ≡ get_or slots n last → old ≡ get_or slots last.listed old
    → stored (slice_set slots last.listed (record old { value = None })) n ≡ undone n (stored slots bound)
stored-undone slots n bound last old e l m h k =
    let before = (stored slots n).trail in
    let long : length before ≡ n = length-stored slots n (omega arith) in
    let all = last_listed slots n bound last e l h in
    stored-value slots n last.listed old None m k
    ∙ sym (ap₂ slotted
    (ap (λ vs. without vs (stored slots n).values) (ap (drop n) all ∙ drop_at before (last.listed ∷ []) n long))
    (ap (take n) all ∙ take_at before (last.listed ∷ []) n long))

-- ---- the terms that cells name

-- a variable that stands for nothing has a place, and no term
pub bindings_free : (terms : List Term) (s : Slotted) (v : ℕ) → slice_get s.values v ≡ Some None
    → slice_get (bindings_of terms s) v ≡ Some None
bindings_free terms s v h = slice_get-map (named terms) s.values v ∙ ap (option_map (named terms)) h

-- a variable that stands for a cell stands for the cell's term
pub bindings_some : (terms : List Term) (s : Slotted) (v cell : ℕ) (t : Term)
    → slice_get s.values v ≡ Some (Some cell) → slice_get terms cell ≡ Some t
    → slice_get (bindings_of terms s) v ≡ Some (Some t)
bindings_some terms s v cell t h k =
    slice_get-map (named terms) s.values v ∙ (ap (option_map (named terms)) h ∙ ap Some k)

-- a further binding is that of the term that the cell names
pub bindings_bound : (terms : List Term) (s : Slotted) (v cell : ℕ) (t : Term) → slice_get terms cell ≡ Some t
    → bindings_of terms (with_bound v cell s) ≡ slice_set (bindings_of terms s) v (Some t)
bindings_bound terms s v cell t h =
    map-set (named terms) s.values v (Some cell) ∙ ap (slice_set (map (named terms) s.values) v) h

-- cells stay below a count when one below it is bound
pub below_bound : (n : ℕ) (s : Slotted) (v cell : ℕ) → AreBelow n s → cell < n → AreBelow n (with_bound v cell s)
below_bound n s v cell b l w x h =
    ⊎_elim
    (λ q. let k : slice_get (slice_set s.values v (Some cell)) v ≡ Some (Some x)
    = ap (slice_get (slice_set s.values v (Some cell))) q ∙ h in
    let e = sym (slice_get-set_same s.values v (Some cell)
    (subst (λ i. v < i) (length-set s.values v (Some cell))
    (slice_get_within (slice_set s.values v (Some cell)) v (Some x) k))) ∙ k in
    subst (λ i. i < n) (same_Some cell x (same_Some (Some cell) (Some x) e)) l)
    (λ d. b w x (sym (slice_get-set_other s.values v w (Some cell) d) ∙ h)) (cases_eq v w)

-- cells stay below a count when bindings are undone
pub below_undone : (n m : ℕ) (s : Slotted) → AreBelow n s → AreBelow n (undone m s)
below_undone n m s b v x h = b v x (without_these (drop m s.trail) s.values v x h).0

-- ---- matching

-- a match that failed found nothing, and leaves the slots
pub match_failed : (does : Bool) (found : Option Bindings) (terms : List Term) (old new : Slotted) → does ≡ false
    → Matched does found terms old new → (found ≡ None) × (new ≡ old)
match_failed true found terms old new e h = absurd cc
match_failed false found terms old new e h = h

-- a match that ended well found the bindings that it made
pub match_made : (does : Bool) (found : Option Bindings) (terms : List Term) (old new : Slotted) → does ≡ true
    → Matched does found terms old new → (found ≡ Some (bindings_of terms new)) × Binds old new
match_made true found terms old new e h = h
match_made false found terms old new e h = absurd cc
