-- Indexes that follow places through changes, and back.
use Rattle.std.proofs.Common.{◌≡◌, ◌≢◌, ℕ, zero, suc, ◌+◌, ◌-◌, ◌<◌, ◌≤◌, ◌⊎◌, List, [], ◌∷◌, ◌++◌, Option, Some, None, length, get_or, set, take, slice_get, refl, sym, ap, ◌∙◌, subst, inl, inr, arith}
use Rattle.std.proofs.lemmas.List.{get_or-set_same, get_or-set_other, length-set, length_push, get_or-take, length-take-le, set-set, set-get_or}
use Rattle.std.proofs.lemmas.Bool.{cases_eq}
use Rattle.std.proofs.lemmas.Option.{none-some}
use Rattle.hp_cells.proofs.PlaceLemmas.{kept, stands_last, stays}
use Rattle.hp_chains.proofs.NearestLemmas.{nearest_same}
use Rattle.hp_chains.specs.Entries.{Entry, Bare, Standing, Loose, StandsAt, Reversed, IsTakenOut, AreNeighbours, FitsBack, MayReturn, entry_at, standing_again, new_entry}
use Rattle.hp_world.specs.declared.store.Change.{Change}
use Rattle.hp_world.specs.declared.store.Change.TheVariants.{Deleted, Added, Cancelled, Protected}
use Rattle.hp_world.specs.Following.{HasKey, Follows, AreAround, KeepsNeighbours, Rejoins}
use Rattle.hp_world.specs.Keyed.{Keyed}
use Rattle.hp_world.specs.Stages.{Stage}
use Rattle.hp_world.specs.Trails.{unwound, IsUndoable}
use Rattle.hp_world.specs.Undoing.{undone, Fits, IsAny}

-- ---- neighbours

-- the neighbours of a place are the same among what is the same but at the place
pub around_alike : (S T : ℕ → Type 0) (place : ℕ) (p n : Option ℕ) → ((i : ℕ) → i ≢ place → S i → T i)
    → ((i : ℕ) → i ≢ place → T i → S i) → AreAround S place p n → AreAround T place p n
around_alike S T place p n to back h = record {
  before =
      nearest_same (Reversed ◌<◌) (λ i. i < place) S T p (λ i l. to i (omega arith)) (λ i l. back i (omega arith))
      h.before;
  behind =
      nearest_same ◌<◌ (λ i. place + 1 ≤ i) S T n (λ i l. to i (omega arith)) (λ i l. back i (omega arith)) h.behind;
}

-- ---- places and entries at numbers

-- a place that holds an atom is there
pub place_within : (ps : List (Option ℕ)) (i a : ℕ) → get_or ps i None ≡ Some a → i < length ps
place_within [] i a h = absurd (cc)
place_within (p ∷ ps) zero a h = omega arith
place_within (p ∷ ps) (suc i) a h = let l = place_within ps i a h in omega arith

-- an entry with a key is there
entry_within : (es : List Entry) (i key : ℕ) → standing_again (entry_at es i) ≡ Standing key → i < length es
entry_within [] i key h = absurd (cc)
entry_within (e ∷ es) zero key h = omega arith
entry_within (e ∷ es) (suc i) key h = let l = entry_within es i key h in omega arith

-- what holds an atom is not empty
some_or_none : (o : Option ℕ) → ((a : ℕ) × (o ≡ Some a)) ⊎ (o ≡ None)
some_or_none (Some a) = inl (a, refl)
some_or_none None = inr refl

-- to put a place back twice is to put it back once
pub standing_twice : (e : Entry) → standing_again (standing_again e) ≡ standing_again e
standing_twice Bare = refl
standing_twice (Standing key) = refl
standing_twice (Loose key p n) = refl

-- a new entry was not taken out
pub standing_new : (key : Option ℕ) → standing_again (new_entry key) ≡ new_entry key
standing_new None = refl
standing_new (Some key) = refl

-- with one more behind them, entries are as they were, and then comes the new one
entry_pushed : (es : List Entry) (x : Entry) (j : ℕ)
    → (entry_at (es ++ x ∷ []) j ≡ entry_at es j) ⊎ ((j ≡ length es) × (entry_at (es ++ x ∷ []) j ≡ x))
entry_pushed [] x zero = inr (refl, refl)
entry_pushed [] x (suc j) = inl refl
entry_pushed (e ∷ es) x zero = inl refl
entry_pushed (e ∷ es) x (suc j) = elim (entry_pushed es x j) [ inl h ↦ inl h | inr h ↦ inr (ap suc h.0, h.1) ]

-- a new entry comes behind the others
pub last_entry : (es : List Entry) (x : Entry) (j : ℕ) → j ≡ length es → entry_at (es ++ x ∷ []) j ≡ x
last_entry [] x zero e = refl
last_entry [] x (suc j) e = absurd (omega arith)
last_entry (y ∷ es) x zero e = absurd (omega arith)
last_entry (y ∷ es) x (suc j) e = last_entry es x j (omega arith)

-- entries before the end stay where one more is put behind them
pub entry_stays : (es : List Entry) (x : Entry) (j : ℕ) → j < length es → entry_at (es ++ x ∷ []) j ≡ entry_at es j
entry_stays es x j l = elim (entry_pushed es x j) [ inl h ↦ h | inr h ↦ absurd (omega arith) ]

-- with one more behind them, places are as they were, and then comes the new one
place_pushed : (ps : List (Option ℕ)) (x : Option ℕ) (j : ℕ)
    → ((j < length ps) × (get_or (ps ++ x ∷ []) j None ≡ get_or ps j None))
    ⊎ (((j ≡ length ps) × (get_or (ps ++ x ∷ []) j None ≡ x))
    ⊎ ((length ps < j) × (get_or (ps ++ x ∷ []) j None ≡ None)))
place_pushed [] x zero = inr (inl (refl, refl))
place_pushed [] x (suc j) = inr (inr (omega arith, refl))
place_pushed (p ∷ ps) x zero = inl (omega arith, refl)
place_pushed (p ∷ ps) x (suc j) = elim (place_pushed ps x j) [
  | inl h ↦ inl (omega (arith, h.0), h.1)
  | inr h ↦ elim h [
    | inl k ↦ inr (inl (ap suc k.0, k.1))
    | inr k ↦ inr (inr (omega (arith, k.0), k.1))
  ]
]

-- ---- what an index that follows places says

-- an entry that stands is that of a place with an atom
pub stands_has : (p : Keyed) (ps : List (Option ℕ)) (key i : ℕ) → Follows p ps → StandsAt key p.entries i
    → HasKey key ps p.entries i
stands_has p ps key i h stands = elim (some_or_none (get_or ps i None)) [
  | inl x ↦ record { atom = x.0; here = x.1; key_is = ap standing_again stands }
  | inr x ↦ absurd (h.gone i key x stands)
]

-- the entry of a place with an atom stands, where it has a key
pub has_stands : (p : Keyed) (ps : List (Option ℕ)) (key i : ℕ) → Follows p ps → HasKey key ps p.entries i
    → StandsAt key p.entries i
has_stands p ps key i h has = sym (h.here i has.atom has.here).1 ∙ has.key_is

-- ---- a place is taken out

-- a place was taken out from among entries
pub record Taken (i : ℕ) (es fs : List Entry) : Type 0 where
  pub count : length fs ≡ length es
  pub others : (j : ℕ) → j ≢ i → entry_at fs j ≡ entry_at es j
  pub key : standing_again (entry_at fs i) ≡ standing_again (entry_at es i)
  pub gone : (key : ℕ) → StandsAt key fs i → ⊥
  pub near : (key : ℕ) (p n : Option ℕ) → entry_at fs i ≡ Loose key p n
      → (entry_at es i ≡ Loose key p n) ⊎ AreNeighbours key es i p n

-- where no entry stands nothing is taken out
left_out : (i : ℕ) (es fs : List Entry) → fs ≡ es → ((key : ℕ) → StandsAt key es i → ⊥) → Taken i es fs
left_out i es fs e gone = record {
  count = ap length e;
  others = λ j n. ap (λ xs. entry_at xs j) e;
  key = ap (λ xs. standing_again (entry_at xs i)) e;
  gone = λ key h. gone key (sym (ap (λ xs. entry_at xs i) e) ∙ h);
  near = λ key p n h. inl (sym (ap (λ xs. entry_at xs i) e) ∙ h);
}

-- what it means that a place is taken out
taken_by : (i : ℕ) (es fs : List Entry) (e : Entry) → entry_at es i ≡ e → IsTakenOut i es fs → Taken i es fs
taken_by i es fs Bare is h =
    let gone : (key : ℕ) → StandsAt key es i → ⊥ = λ key s. cc in left_out i es fs (h.other gone) gone
taken_by i es fs (Loose k p n) is h =
    let gone : (key : ℕ) → StandsAt key es i → ⊥ = λ key s. cc in left_out i es fs (h.other gone) gone
taken_by i es fs (Standing key) is h =
    let out = h.standing key is in
    let loose = Loose key out.0 out.1 in
    let e : fs ≡ set es i loose = out.3 in
    let within : i < length es = entry_within es i key (ap standing_again is) in
    let here : entry_at fs i ≡ loose = ap (λ xs. entry_at xs i) e ∙ get_or-set_same es i loose Bare within in
    record {
      count = ap length e ∙ length-set es i loose;
      others = λ j n. ap (λ xs. entry_at xs j) e ∙ get_or-set_other es i j loose Bare n;
      key = ap standing_again here ∙ sym (ap standing_again is);
      gone = λ k s. cc;
      near = λ k p n s.
          let same : loose ≡ Loose k p n = sym here ∙ s in
          let key_is : key ≡ k = cc in
          let before_is : out.0 ≡ p = cc in
          let behind_is : out.1 ≡ n = cc in
          inr (subst (λ x. AreNeighbours x es i p n) key_is
          (subst (λ (x : Option ℕ). AreNeighbours key es i x n) before_is
          (subst (λ (x : Option ℕ). AreNeighbours key es i out.0 x) behind_is out.2)));
    }

pub taken : (i : ℕ) (es fs : List Entry) → IsTakenOut i es fs → Taken i es fs
taken i es fs h = taken_by i es fs (entry_at es i) refl h

-- what an index keeps where a place is taken out
abbrev pub Rest : Keyed → List Entry → Keyed
Rest p es = record p { entries = es }

-- an index follows places where one is cleared and taken out
pub followed_out : (p : Keyed) (ps : List (Option ℕ)) (i a : ℕ) (fs : List Entry) → Follows p ps
    → get_or ps i None ≡ Some a → IsTakenOut i p.entries fs → Follows (Rest p fs) (set ps i None)
followed_out p ps i a fs h live out =
    let t = taken i p.entries fs out in
    let within : i < length ps = place_within ps i a live in
    let cleared : get_or (set ps i None) i None ≡ None = get_or-set_same ps i None None within in
    let apart : (j b : ℕ) → get_or (set ps i None) j None ≡ Some b → j ≢ i = λ j b g e.
    none-some b (sym cleared ∙ ap (λ k. get_or (set ps i None) k None) (sym e) ∙ g) in
    record {
      count = t.count ∙ h.count ∙ sym (length-set ps i None);
      aligned = h.aligned ∙ sym (length-set ps i None);
      here = λ j b g.
          let n = apart j b g in
          let was = h.here j b (sym (get_or-set_other ps i j None None n) ∙ g) in
          (was.0, ap standing_again (t.others j n) ∙ was.1 ∙ sym (t.others j n));
      gone = λ j key g s. elim (cases_eq j i) [
        | inl e ↦ t.gone key (ap (λ k. entry_at fs k) (sym e) ∙ s)
        | inr n ↦ h.gone j key (sym (get_or-set_other ps i j None None n) ∙ g) (sym (t.others j n) ∙ s)
      ];
      keys = λ j key g. elim (cases_eq j i) [
        | inl e ↦ h.keys i key (sym t.key ∙ ap (λ k. standing_again (entry_at fs k)) (sym e) ∙ g)
        | inr n ↦ h.keys j key (ap standing_again (sym (t.others j n)) ∙ g)
      ];
    }

-- a place that is taken out can be put back where it was cleared
kept_by : (p : Keyed) (ps : List (Option ℕ)) (i a : ℕ) (fs : List Entry) (e : Entry) → Follows p ps
    → get_or ps i None ≡ Some a → Taken i p.entries fs → entry_at fs i ≡ e
    → KeepsNeighbours (set ps i None) fs i e
kept_by p ps i a fs Bare h live t is = tt
kept_by p ps i a fs (Standing key) h live t is = tt
kept_by p ps i a fs (Loose key pr nx) h live t is =
    elim (t.near key pr nx is) [
      | inl same ↦
          let again : Standing key ≡ Loose key pr nx = sym (ap standing_again same) ∙ (h.here i a live).1 ∙ same in
          absurd (cc)
      | inr near ↦
          around_alike (StandsAt key p.entries) (HasKey key (set ps i None) fs) i pr nx to back
          (record { before = near.before; behind = near.behind })
    ]
  where
    to : (j : ℕ) → j ≢ i → StandsAt key p.entries j → HasKey key (set ps i None) fs j
    to j n s =
        let has = stands_has p ps key j h s in record {
          atom = has.atom;
          here = get_or-set_other ps i j None None n ∙ has.here;
          key_is = ap standing_again (t.others j n) ∙ has.key_is;
        }

    back : (j : ℕ) → j ≢ i → HasKey key (set ps i None) fs j → StandsAt key p.entries j
    back j n has =
        has_stands p ps key j h
        (record {
          atom = has.atom;
          here = sym (get_or-set_other ps i j None None n) ∙ has.here;
          key_is = ap standing_again (sym (t.others j n)) ∙ has.key_is;
        })

-- a place that is taken out keeps what putting it back takes
pub rejoins_out : (p : Keyed) (ps : List (Option ℕ)) (gs : List ℕ) (i a : ℕ) (fs : List Entry) → Follows p ps
    → get_or ps i None ≡ Some a → IsTakenOut i p.entries fs
    → Rejoins (Rest p fs) (Deleted i a) (record { places = set ps i None; guards = gs })
rejoins_out p ps gs i a fs h live out =
    ((h.here i a live).0, kept_by p ps i a fs (entry_at fs i) h live (taken i p.entries fs out) refl)

-- ---- a place is appended, or the last is taken away

-- an index follows places where one more comes with its key
pub followed_pushed : (p : Keyed) (ps : List (Option ℕ)) (a : ℕ) (key : Option ℕ) → Follows p ps
    → ((k : ℕ) → key ≡ Some k → k < p.keys)
    → Follows (record p { atoms = p.atoms ++ a ∷ []; entries = p.entries ++ new_entry key ∷ [] }) (ps ++ Some a ∷ [])
followed_pushed p ps a key h below = record {
  count = length_push p.entries (new_entry key) ∙ ap (λ n. n + 1) h.count ∙ sym (length_push ps (Some a));
  aligned = length_push p.atoms a ∙ ap (λ n. n + 1) h.aligned ∙ sym (length_push ps (Some a));
  here = λ j b g. here j b g (place_pushed ps (Some a) j);
  gone = λ j k g s. elim (entry_pushed p.entries (new_entry key) j) [
    | inl e ↦ elim (place_pushed ps (Some a) j) [
      | inl x ↦ h.gone j k (sym x.1 ∙ g) (sym e ∙ s)
      | inr x ↦
          let l = entry_within p.entries j k (ap standing_again (sym e ∙ s)) in
          elim x [ inl y ↦ absurd (omega (arith, h.count, y.0)) | inr y ↦ absurd (omega (arith, h.count, y.0)) ]
    ]
    | inr e ↦
        let last : get_or (ps ++ Some a ∷ []) j None ≡ Some a = last_place ps (Some a) j (e.0 ∙ h.count) in
        absurd (none-some a (sym g ∙ last))
  ];
  keys = λ j k g. elim (entry_pushed p.entries (new_entry key) j) [
    | inl e ↦ h.keys j k (ap standing_again (sym e) ∙ g)
    | inr e ↦ below k (new_key key k (sym (ap standing_again e.1) ∙ g))
  ];
}
  where
    last_place : (ps : List (Option ℕ)) (x : Option ℕ) (j : ℕ) → j ≡ length ps
        → get_or (ps ++ x ∷ []) j None ≡ x
    last_place ps x j e = elim (place_pushed ps x j) [
      | inl y ↦ absurd (omega (arith, y.0, e))
      | inr y ↦ elim y [ inl z ↦ z.1 | inr z ↦ absurd (omega (arith, z.0, e)) ]
    ]

    new_key : (key : Option ℕ) (k : ℕ) → standing_again (new_entry key) ≡ Standing k → key ≡ Some k
    new_key None k e = absurd (cc)
    new_key (Some x) k e = cc

    here : (j b : ℕ) → get_or (ps ++ Some a ∷ []) j None ≡ Some b
        → ((j < length ps) × (get_or (ps ++ Some a ∷ []) j None ≡ get_or ps j None))
        ⊎ (((j ≡ length ps) × (get_or (ps ++ Some a ∷ []) j None ≡ Some a))
        ⊎ ((length ps < j) × (get_or (ps ++ Some a ∷ []) j None ≡ None)))
        → (slice_get (p.atoms ++ a ∷ []) j ≡ Some b)
        × (standing_again (entry_at (p.entries ++ new_entry key ∷ []) j) ≡ entry_at (p.entries ++ new_entry key ∷ []) j)
    here j b g (inl x) =
        let was = h.here j b (sym x.1 ∙ g) in
        let same = entry_stays p.entries (new_entry key) j (omega (arith, x.0, h.count)) in
        (kept p.atoms (a ∷ []) j b was.0, ap standing_again same ∙ was.1 ∙ sym same)
    here j b g (inr (inl x)) =
        let atom : slice_get (p.atoms ++ a ∷ []) j ≡ Some a =
        ap (λ n. slice_get (p.atoms ++ a ∷ []) n) (x.0 ∙ sym h.aligned) ∙ stands_last p.atoms a in
        let same = last_entry p.entries (new_entry key) j (x.0 ∙ sym h.count) in
        (atom ∙ sym x.1 ∙ g, ap standing_again same ∙ standing_new key ∙ sym same)
    here j b g (inr (inr x)) = absurd (none-some b (sym x.1 ∙ g))

-- all but the last are read as all are, and there is none in the last's place
fewer_places : {A : Type 0} (d : A) (n : ℕ) (xs : List A) (j : ℕ)
    → ((j < n) × (get_or (take n xs) j d ≡ get_or xs j d)) ⊎ (get_or (take n xs) j d ≡ d)
fewer_places d zero xs j = inr refl
fewer_places d (suc n) [] j = inr refl
fewer_places d (suc n) (x ∷ xs) zero = inl (omega arith, refl)
fewer_places d (suc n) (x ∷ xs) (suc j) = elim (fewer_places d n xs j) [
  | inl h ↦ inl (omega (arith, h.0), h.1)
  | inr h ↦ inr h
]

-- an index follows fewer places
pub followed_fewer : (p : Keyed) (ps : List (Option ℕ)) (n : ℕ) → n ≤ length ps → Follows p ps
    → Follows (record p { atoms = take n p.atoms; entries = take n p.entries }) (take n ps)
followed_fewer p ps n l h = record {
  count = length-take-le n p.entries (omega (arith, h.count)) ∙ sym (length-take-le n ps l);
  aligned = length-take-le n p.atoms (omega (arith, h.aligned)) ∙ sym (length-take-le n ps l);
  here = λ j a g. elim (fewer_places None n ps j) [
    | inl x ↦
        let was = h.here j a (sym x.1 ∙ g) in
        let same = get_or-take n p.entries j Bare x.0 in
        (stays n p.atoms j x.0 ∙ was.0, ap standing_again same ∙ was.1 ∙ sym same)
    | inr x ↦ absurd (none-some a (sym x ∙ g))
  ];
  gone = λ j key g s. elim (fewer_places Bare n p.entries j) [
    | inl x ↦ h.gone j key (sym (get_or-take n ps j None x.0) ∙ g) (sym x.1 ∙ s)
    | inr x ↦ let bad : Bare ≡ Standing key = sym x ∙ s in cc
  ];
  keys = λ j key g. elim (fewer_places Bare n p.entries j) [
    | inl x ↦ h.keys j key (ap standing_again (sym x.1) ∙ g)
    | inr x ↦ let bad : Bare ≡ Standing key = sym (ap standing_again x) ∙ g in absurd (cc)
  ];
}

-- ---- a place is put back

-- what follows places fits back at an empty place that keeps its neighbours
fits_by : (p : Keyed) (ps : List (Option ℕ)) (i : ℕ) (e : Entry) → Follows p ps → entry_at p.entries i ≡ e
    → KeepsNeighbours ps p.entries i e → MayReturn p.keys p.entries i e
fits_by p ps i Bare h is keeps = tt
fits_by p ps i (Standing key) h is keeps = tt
fits_by p ps i (Loose key pr nx) h is keeps =
    let around = around_alike (HasKey key ps p.entries) (StandsAt key p.entries) i pr nx
    (λ j n has. has_stands p ps key j h has) (λ j n s. stands_has p ps key j h s) keeps in
    (h.keys i key (ap standing_again is), record { before = around.before; behind = around.behind })

-- a place whose atom was deleted fits back where the deletion is undone
pub fits_back : (p : Keyed) (s : Stage) (i a : ℕ) → Follows p s.places → Rejoins p (Deleted i a) s
    → FitsBack p.keys p.entries i
fits_back p s i a h r = fits_by p s.places i (entry_at p.entries i) h refl r.1

-- an index follows places where an atom is put back
pub followed_back : (p : Keyed) (ps : List (Option ℕ)) (i a : ℕ) → Follows p ps → i < length ps
    → slice_get p.atoms i ≡ Some a
    → Follows (Rest p (set p.entries i (standing_again (entry_at p.entries i)))) (set ps i (Some a))
followed_back p ps i a h l is =
    let e = standing_again (entry_at p.entries i) in
    let es = set p.entries i e in
    let within : i < length p.entries = omega (arith, h.count) in
    let here_is : entry_at es i ≡ e = get_or-set_same p.entries i e Bare within in
    let other : (j : ℕ) → j ≢ i → entry_at es j ≡ entry_at p.entries j = λ j n.
    get_or-set_other p.entries i j e Bare n in
    let back : get_or (set ps i (Some a)) i None ≡ Some a = get_or-set_same ps i (Some a) None l in
    let moved : (j : ℕ) → j ≢ i → get_or (set ps i (Some a)) j None ≡ get_or ps j None = λ j n.
    get_or-set_other ps i j (Some a) None n in
    record {
      count = length-set p.entries i e ∙ h.count ∙ sym (length-set ps i (Some a));
      aligned = h.aligned ∙ sym (length-set ps i (Some a));
      here = λ j b g. elim (cases_eq j i) [
        | inl same ↦
            let at_i : get_or (set ps i (Some a)) i None ≡ Some b =
            ap (λ k. get_or (set ps i (Some a)) k None) (sym same) ∙ g in
            let again : entry_at es j ≡ e = ap (λ k. entry_at es k) same ∙ here_is in (
              ap (λ k. slice_get p.atoms k) same ∙ is ∙ sym back ∙ at_i,
              ap standing_again again ∙ standing_twice (entry_at p.entries i) ∙ sym again,
            )
        | inr n ↦
            let was = h.here j b (sym (moved j n) ∙ g) in
            (was.0, ap standing_again (other j n) ∙ was.1 ∙ sym (other j n))
      ];
      gone = λ j key g s. elim (cases_eq j i) [
        | inl same ↦
            none-some a (sym g ∙ ap (λ k. get_or (set ps i (Some a)) k None) same ∙ back)
        | inr n ↦ h.gone j key (sym (moved j n) ∙ g) (sym (other j n) ∙ s)
      ];
      keys = λ j key g. elim (cases_eq j i) [
        | inl same ↦
            h.keys i key (sym (standing_twice (entry_at p.entries i)) ∙ ap standing_again (sym here_is)
            ∙ ap (λ k. standing_again (entry_at es k)) (sym same) ∙ g)
        | inr n ↦ h.keys j key (ap standing_again (sym (other j n)) ∙ g)
      ];
    }

-- ---- the trail

-- a place that is empty before a change was undone is empty, and there
empty_once : (t : Change) (s : Stage) (i : ℕ) → i < length (undone t s).places
    → get_or (undone t s).places i None ≡ None → (i < length s.places) × (get_or s.places i None ≡ None)
empty_once (Deleted j b) s i l e =
    let within : i < length s.places = omega (arith, l, length-set s.places j (Some b)) in (
      within,
      elim (cases_eq i j) [
        | inl same ↦
            let at_j : get_or (set s.places j (Some b)) j None ≡ Some b =
            get_or-set_same s.places j (Some b) None (omega (arith, within, same)) in
            absurd (none-some b (sym e ∙ ap (λ k. get_or (set s.places j (Some b)) k None) same ∙ at_j))
        | inr n ↦ sym (get_or-set_other s.places j i (Some b) None n) ∙ e
      ],
    )
empty_once Added s i l e =
    let count = length-take-le (length s.places - 1) s.places (omega arith) in
    let within : i < length s.places - 1 = omega (arith, l, count) in
    (omega arith, sym (get_or-take (length s.places - 1) s.places i None within) ∙ e)
empty_once (Cancelled j b) s i l e = (l, e)
empty_once Protected s i l e = (l, e)

-- a place that is empty once changes are undone is empty, and there
pub empty_before : (ts : List Change) (s : Stage) (i : ℕ) → i < length (unwound undone ts s).places
    → get_or (unwound undone ts s).places i None ≡ None
    → (i < length s.places) × (get_or s.places i None ≡ None)
empty_before [] s i l e = (l, e)
empty_before (t ∷ ts) s i l e =
    let h = empty_once t (unwound undone ts s) i l e in empty_before ts s i h.0 h.1

-- undoing adds no place
no_more_once : (t : Change) (s : Stage) → length (undone t s).places ≤ length s.places
no_more_once (Deleted j b) s = omega (arith, length-set s.places j (Some b))
no_more_once Added s = omega (arith, length-take-le (length s.places - 1) s.places (omega arith))
no_more_once (Cancelled j b) s = omega arith
no_more_once Protected s = omega arith

no_more : (ts : List Change) (s : Stage) → length (unwound undone ts s).places ≤ length s.places
no_more [] s = omega arith
no_more (t ∷ ts) s = omega (arith, no_more_once t (unwound undone ts s), no_more ts s)

-- an index with the same keys at places, and the same entries and atoms at empty ones
pub record IsAlike (p q : Keyed) (ps : List (Option ℕ)) : Type 0 where
  pub keys : (i : ℕ) → i < length ps
      → standing_again (entry_at q.entries i) ≡ standing_again (entry_at p.entries i)
  pub empty : (i : ℕ) → i < length ps → get_or ps i None ≡ None → entry_at q.entries i ≡ entry_at p.entries i
  pub atoms : (i a : ℕ) → i < length ps → slice_get p.atoms i ≡ Some a → slice_get q.atoms i ≡ Some a

keeps_alike : (p q : Keyed) (ps us : List (Option ℕ)) (i : ℕ) (e : Entry) → IsAlike p q ps → length us ≤ length ps
    → KeepsNeighbours us p.entries i e → KeepsNeighbours us q.entries i e
keeps_alike p q ps us i Bare alike l h = tt
keeps_alike p q ps us i (Standing key) alike l h = tt
keeps_alike p q ps us i (Loose key pr nx) alike l h =
    around_alike (HasKey key us p.entries) (HasKey key us q.entries) i pr nx
    (λ j n has.
    let within : j < length ps = omega (arith, place_within us j has.atom has.here) in
    record { atom = has.atom; here = has.here; key_is = alike.keys j within ∙ has.key_is })
    (λ j n has.
    let within : j < length ps = omega (arith, place_within us j has.atom has.here) in
    record { atom = has.atom; here = has.here; key_is = sym (alike.keys j within) ∙ has.key_is })
    h

rejoins_once : (p q : Keyed) (s u : Stage) (width room : ℕ) (t : Change) → IsAlike p q s.places
    → length u.places ≤ length s.places
    → ((i : ℕ) → i < length u.places → get_or u.places i None ≡ None
    → (i < length s.places) × (get_or s.places i None ≡ None))
    → Fits width room t u → Rejoins p t u → Rejoins q t u
rejoins_once p q s u width room (Deleted i a) alike l empty f r =
    let there = empty i f.place f.empty in (
      alike.atoms i a there.0 r.0,
      subst (λ e. KeepsNeighbours u.places q.entries i e) (sym (alike.empty i there.0 there.1))
          (keeps_alike p q s.places u.places i (entry_at p.entries i) alike l r.1),
    )
rejoins_once p q s u width room Added alike l empty f r = tt
rejoins_once p q s u width room (Cancelled i a) alike l empty f r = tt
rejoins_once p q s u width room Protected alike l empty f r = tt

-- places of deleted atoms can be put back in an index that is alike
pub rejoins_alike : (p q : Keyed) (s : Stage) (width room : ℕ) (ts : List Change) → IsAlike p q s.places
    → IsUndoable undone (Fits width room) IsAny ts s → IsUndoable undone (Rejoins p) IsAny ts s
    → IsUndoable undone (Rejoins q) IsAny ts s
rejoins_alike p q s width room [] alike f h = h
rejoins_alike p q s width room (t ∷ ts) alike f h = (
  rejoins_once p q s (unwound undone ts s) width room t alike (no_more ts s) (empty_before ts s) f.0 h.0,
  h.1,
  rejoins_alike p q s width room ts alike f.2 h.2,
)

-- an atom that is put on its cleared place makes what was
pub restored : (s : Stage) (i a : ℕ) → get_or s.places i None ≡ Some a
    → undone (Deleted i a) (record { places = set s.places i None; guards = s.guards }) ≡ s
restored s i a live =
    let places : set (set s.places i None) i (Some a) ≡ s.places =
    set-set s.places i None (Some a) ∙ ap (λ (x : Option ℕ). set s.places i x) (sym live) ∙ set-get_or s.places i None
    in ap (λ (ps : List (Option ℕ)). with_places ps s.guards) places
  where
    with_places : List (Option ℕ) → List ℕ → Stage
    with_places ps gs = record { places = ps; guards = gs }
