-- Interned keys, as one is added and as they are cut.
use Rattle.std.proofs.Common.{◌≡◌, ℕ, zero, suc, ◌+◌, ◌<◌, ◌≤◌, ◌^◌, Bool, true, false, not, if◌then◌else◌, List, [], ◌∷◌, ◌++◌, Option, Some, None, ◌⊎◌, inl, inr, max, length, map, take, get_or, slice_get, refl, sym, ap, ap₂, subst, ◌∙◌, arith}
use Rattle.std.specs.List.{list_any}
use Rattle.std.proofs.lemmas.List.{map_push, take-map, length_push, length-take-le}
use Rattle.std.proofs.lemmas.Option.{none-some, same_Some, slice_get_within, slice_get-get_or, slice_get_read}
use Rattle.indexmap.specs.IndexSet.{insert_key}
use Rattle.hp_syntax.specs.Terms.{Term, Terms, Symbol, Listed, NoTerm, More, term_nesting, deepest}
use Rattle.hp_cells.specs.Cells.{AreDistinct, IsAbsent, LooksUp, AreCells, Interns, IsCons}
use Rattle.hp_cells.specs.Keys.{Stands, IsNumbered, KeepsBack, terms_of, IsKeyAt, AreInterned}
use Rattle.hp_cells.specs.declared.keys.Key.{Key}
use Rattle.hp_cells.specs.declared.keys.Key.TheVariants.{Nil, Sym, Num, Cons}
use Rattle.hp_cells.specs.contracts.keys.KeyPartialEq.TheImpl as the_impl
use Rattle.hp_cells.proofs.PlaceLemmas.{kept, stands_last, before_or_last, stays, stood, none_equal}
use Rattle.hp_cells.proofs.CellLemmas.{HasPartsBefore, nesting_bounded, cells_push, cells_take, interned_present, interned_absent}
use Rattle.hp_cells.proofs.KeyLemmas.{same_key, key_self, term_found, one_term, one_key, stands_longer, stands_taken, stands_back, stands_numbered, stands_named, terms_of_push, length_terms_of, terms_of_take, terms_of_named}

-- a key is among others
abbrev pub has_key : List Key → Key → Bool
has_key keys key = list_any (the_impl.ghosts.eq key) keys

-- a key that is equal to this one stands at a place
abbrev pub IsThere : List Key → ℕ → Key → Type 0
IsThere keys place key = (k : Key) × (slice_get keys place ≡ Some k) × (the_impl.ghosts.eq key k ≡ true)

-- a term nests at most one deeper than there are terms before it
pub nesting_of_key : (names : List (List ℕ)) (terms : List Term) (key : Key) (t : Term) → AreCells terms
    → Stands names terms key t → term_nesting t ≤ length terms + 1
nesting_of_key names terms Nil t cells h = let e : term_nesting t ≡ 1 = ap term_nesting h in omega arith
nesting_of_key names terms (Sym number) t cells h =
    let e : term_nesting t ≡ 0 = ap term_nesting h.whole in omega arith
nesting_of_key names terms (Num n) t cells h = let e : term_nesting t ≡ 0 = ap term_nesting h in omega arith
nesting_of_key names terms (Cons head tail) t cells h =
    let e : term_nesting t ≡ 1 + max (term_nesting h.first) (deepest h.rest) = ap term_nesting h.whole in
    let back = stands_back names terms (Cons head tail) t h in
    let first = nesting_bounded terms cells (length terms) head h.first back.0 h.head_names in
    let rest : 1 + deepest h.rest ≤ tail + 1 =
    nesting_bounded terms cells (length terms) tail (Listed h.rest) back.1 h.tail_names in
    omega arith

-- the parts of a term stand where its key says
parts_before : (names : List (List ℕ)) (terms : List Term) (key : Key) (t : Term) → Stands names terms key t
    → HasPartsBefore terms (length terms) t
parts_before names terms (Cons head tail) t h x xs e =
    let first : h.first ≡ x = cc in
    let rest : h.rest ≡ xs = cc in
    let back = stands_back names terms (Cons head tail) t h in
    ((head, back.0, h.head_names ∙ ap Some first), (tail, back.1, h.tail_names ∙ ap (λ ys. Some (Listed ys)) rest))
parts_before _ _ _ t h x xs e = absurd cc

module _ {names : List (List ℕ)} {keys : List Key} {depths : List ℕ} (all : AreInterned names keys depths) where
  -- a term that stands at a place is that of the key there
  key_of : (i : ℕ) (t : Term) → slice_get (terms_of names keys) i ≡ Some t
      → (key : Key) × (slice_get keys i ≡ Some key) × Stands names (terms_of names keys) key t
  key_of i t h =
      let l = length_terms_of names keys in
      let w = slice_get_within (terms_of names keys) i t h in
      let at = slice_get-get_or keys i Nil (omega arith) in
      let s = all.stand i _ at in
      (_, at, subst (Stands names (terms_of names keys) _) (same_Some _ _ (sym s.at ∙ h)) s.stands)

  -- a term stands where its key does
  pub term_looked_up : (key : Key) (t : Term) → Stands names (terms_of names keys) key t → (r : Option ℕ)
      → LooksUp key keys r → LooksUp t (terms_of names keys) r
  term_looked_up key t stands None none = λ i h.
      let k = key_of i t h in
      let same = one_key names (terms_of names keys) key k.0 t all.apart all.cells.distinct stands k.2 in
      none i (k.1 ∙ ap Some (sym same))
  term_looked_up key t stands (Some place) there =
      let here = all.stand place key there in
      here.at ∙ ap Some (one_term names (terms_of names keys) key here.term t here.stands stands)

  -- at the place of the key of a symbol's number stands the symbol of the name that has the number
  pub symbol_at : (i number : ℕ) (name : List ℕ) → slice_get keys i ≡ Some (Sym number)
      → slice_get names number ≡ Some name → slice_get (terms_of names keys) i ≡ Some (Symbol name)
  symbol_at i number name at numbered =
      term_looked_up (Sym number) (Symbol name) (record { name = name; numbered = numbered; whole = refl }) (Some i) at

  -- the symbol of a name that is absent is absent
  pub symbol_absent : (name : List ℕ) → IsAbsent names name → IsAbsent (terms_of names keys) (Symbol name)
  symbol_absent name none i h = let k = key_of i (Symbol name) h in by k.0 k.2
    where
      by : (key : Key) → Stands names (terms_of names keys) key (Symbol name) → ⊥
      by (Sym number) s =
          let same : s.name ≡ name = cc in
          none number (s.numbered ∙ ap Some same)
      by _ s = cc

  -- the first keys are interned
  pub interned_take : (n : ℕ) → 1 ≤ n → n ≤ length keys → AreInterned names (take n keys) (take n depths)
  interned_take n some within =
      let taken = terms_of_take names n keys within in
      record {
        cells = subst AreCells (sym taken) (cells_take n (terms_of names keys) some all.cells);
        stand = λ i key h. subst (λ ts. IsKeyAt names ts i key) (sym taken) (by i key (stood n keys i key h));
        nest = ap (take n) all.nest ∙ take-map term_nesting n (terms_of names keys) ∙ ap (map term_nesting) (sym taken);
        few = (let l = length-take-le n keys within in let f = all.few in omega arith);
        apart = all.apart;
        few_names = all.few_names;
      }
    where
      by : (i : ℕ) (key : Key) → (i < n) × (slice_get keys i ≡ Some key)
          → IsKeyAt names (take n (terms_of names keys)) i key
      by i key p =
          let s = all.stand i key p.1 in
          record {
            term = s.term;
            at = stays n (terms_of names keys) i p.0 ∙ s.at;
            stands = stands_taken names n i (terms_of names keys) key s.term (omega arith) s.back s.stands;
            back = s.back;
          }

  -- keys stand for the same terms among more names
  pub same_terms : (more : List (List ℕ)) → terms_of (names ++ more) keys ≡ terms_of names keys
  same_terms more =
      terms_of_named names more keys (λ i key h.
      let s = all.stand i key h in stands_numbered names (terms_of names keys) key s.term s.stands)

  -- keys are interned among more names, where these are distinct
  pub interned_named : (more : List (List ℕ)) → AreDistinct (names ++ more) → length (names ++ more) < 2 ^ 32
      → AreInterned (names ++ more) keys depths
  interned_named more apart few =
      let same = same_terms more in
      record {
        cells = subst AreCells (sym same) all.cells;
        stand = λ i key h. subst (λ ts. IsKeyAt (names ++ more) ts i key) (sym same) (by i key (all.stand i key h));
        nest = all.nest ∙ ap (map term_nesting) (sym same);
        few = all.few;
        apart = apart;
        few_names = few;
      }
    where
      by : (i : ℕ) (key : Key) → IsKeyAt names (terms_of names keys) i key
          → IsKeyAt (names ++ more) (terms_of names keys) i key
      by i key s = record {
        term = s.term;
        at = s.at;
        stands = stands_named names more (terms_of names keys) key s.term s.stands;
        back = s.back;
      }

module _ {names : List (List ℕ)} {keys : List Key} {depths : List ℕ} (all : AreInterned names keys depths)
    (key : Key) (t : Term) (stands : Stands names (terms_of names keys) key t) where
  -- the keys before, and the further one, stand for the terms before and behind them its own
  longer_stand : (i : ℕ) (k : Key) → (slice_get keys i ≡ Some k) ⊎ ((i ≡ length keys) × (key ≡ k))
      → IsKeyAt names (terms_of names keys ++ t ∷ []) i k
  longer_stand i k (inl h) =
      let s = all.stand i k h in
      record {
        term = s.term;
        at = kept (terms_of names keys) (t ∷ []) i s.term s.at;
        stands = stands_longer names (terms_of names keys) (t ∷ []) k s.term s.stands;
        back = s.back;
      }
  longer_stand i k (inr e) =
      let terms = terms_of names keys in
      let at : length terms ≡ i = length_terms_of names keys ∙ sym e.0 in
      let last = stands_longer names terms (t ∷ []) key t stands in
      record {
        term = t;
        at = subst (λ j. slice_get (terms ++ t ∷ []) j ≡ Some t) at (stands_last terms t);
        stands = subst (λ k. Stands names (terms ++ t ∷ []) k t) e.1 last;
        back = subst (λ j. KeepsBack j k) at (subst (KeepsBack _) e.1 (stands_back names terms key t stands));
      }

  -- a further key's term comes behind the others
  terms_more : terms_of names (keys ++ key ∷ []) ≡ terms_of names keys ++ t ∷ []
  terms_more =
      let found = term_found names (terms_of names keys) key t stands in
      terms_of_push names keys key ∙ ap (λ u. terms_of names keys ++ u ∷ []) found

  -- a key whose term is absent is interned behind the others
  interned_push : IsAbsent (terms_of names keys) t → length keys + 1 < 2 ^ 32
      → AreInterned names (keys ++ key ∷ []) (depths ++ term_nesting t ∷ [])
  interned_push none few =
      let terms = terms_of names keys in
      let cells = cells_push terms t all.cells none (parts_before names terms key t stands) in
      let nest = ap (λ ds. ds ++ term_nesting t ∷ []) all.nest ∙ sym (map_push term_nesting terms t) in
      record {
        cells = subst AreCells (sym terms_more) cells;
        stand = λ i k h.
            subst (λ ts. IsKeyAt names ts i k) (sym terms_more) (longer_stand i k (before_or_last keys key i k h));
        nest = nest ∙ ap (map term_nesting) (sym terms_more);
        few = (let l = length_push keys key in omega arith);
        apart = all.apart;
        few_names = all.few_names;
      }

  -- the keys once one is interned, where it was among the others or not
  abbrev Interned : ℕ → Bool → Type 0
  Interned place was =
      let after : List Key = if was then keys else keys ++ key ∷ [] in
      IsThere after place key
      → AreInterned names after (if not was then depths ++ term_nesting t ∷ [] else depths)
      × Interns t place (terms_of names keys) (terms_of names after)

  -- a key that was inserted is interned, and its place names its term
  interned_with : (place : ℕ) → length keys + 1 < 2 ^ 32 → Interned place (has_key keys key)
  interned_with place few = by (has_key keys key) refl
    where
      by : (was : Bool) → has_key keys key ≡ was → Interned place was
      by true e there =
          let here = there.1 ∙ ap Some (sym (same_key key there.0 there.2)) in
          let at = term_looked_up all key t stands (Some place) here in
          (all, record { names = at; only = sym (interned_present t (terms_of names keys) place at) })
      by false e there =
          let terms = terms_of names keys in
          let none =
          term_looked_up all key t stands None (none_equal the_impl.ghosts.eq key_self key keys e) in
          let more = interned_push none few in
          let stays = subst (λ ts. Stands names ts key t) (sym terms_more)
          (stands_longer names terms (t ∷ []) key t stands) in
          let here = there.1 ∙ ap Some (sym (same_key key there.0 there.2)) in
          let at = term_looked_up more key t stays (Some place) here in
          (more, record { names = at; only = terms_more ∙ sym (interned_absent t terms none) })

-- a key that was inserted is interned, with its depth noted where it was new, and its place names its term
pub after_insert : {names : List (List ℕ)} {before after : List Key} {depths held noted : List ℕ} {added : Bool}
    {depth place : ℕ} (key : Key) (t : Term) → AreInterned names before depths
    → Stands names (terms_of names before) key t → length before + 1 < 2 ^ 32
    → after ≡ insert_key the_impl.ghosts.eq before key → added ≡ not (has_key before key)
    → IsThere after place key → held ≡ depths → depth ≡ term_nesting t
    → noted ≡ (if added then held ++ depth ∷ [] else held)
    → AreInterned names after noted × Interns t place (terms_of names before) (terms_of names after)
after_insert {names} {before} {after} {depths} {held} {noted} {added} {depth} {place} key t
    all stands few inserted new there keeps depth_is notes =
    let p = interned_with all key t stands place few (subst (λ ks. IsThere ks place key) inserted there) in
    let noted_is : noted ≡ (if not (has_key before key) then depths ++ term_nesting t ∷ [] else depths) =
    notes ∙ (λ i. if new i then keeps i ++ depth_is i ∷ [] else keeps i) in
    rw (inserted, noted_is) p

-- what is interned among terms is interned among them as they are seen
pub interns_seen : {t : Term} {cell : ℕ} {old seen new : List Term} → old ≡ seen → Interns t cell old new
    → Interns t cell seen new
interns_seen {t} {cell} {old} {seen} {new} view h = subst (λ ts. Interns t cell ts new) view h

-- two cells that name a first part and a remainder as they are seen are those of the list
pub cons_seen : {terms seen : List Term} → terms ≡ seen → (head tail : ℕ) (x : Term) (xs : Terms)
    → slice_get seen head ≡ Some x → slice_get seen tail ≡ Some (Listed xs)
    → IsCons terms head tail (Listed (More x xs))
cons_seen view head tail x xs e f = record {
  first = x;
  rest = xs;
  head_names = ap (λ ts. slice_get ts head) view ∙ e;
  tail_names = ap (λ ts. slice_get ts tail) view ∙ f;
  whole = refl;
}

-- the key at a place names only cells before it, has the number of one of the names, and stands for the term there
pub read_at : {names : List (List ℕ)} {keys items : List Key} {depths : List ℕ} {terms : List Term} {cell place : ℕ}
    {key : Key} → AreInterned names keys depths → terms_of names keys ≡ terms → items ≡ keys → place ≡ cell
    → cell < length terms → key ≡ get_or items place key
    → KeepsBack cell key × IsNumbered (length names) key
    × ((t : Term) → slice_get terms cell ≡ Some t → Stands names terms key t)
read_at {names} {keys} {items} {depths} {terms} {cell} {place} {key} all view same at within read =
    let few : length terms ≡ length keys = ap length (sym view) ∙ length_terms_of names keys in
    let many = ap length same in
    let stands = slice_get_read items _ place key refl (omega arith) read in
    let s = all.stand cell key (ap₂ slice_get (sym same) (sym at) ∙ stands) in
    let there = ap (λ ts. slice_get ts cell) (sym view) ∙ s.at in
    let here = subst (λ ts. Stands names ts key s.term) view s.stands in (
      s.back,
      stands_numbered names terms key s.term here,
      λ t h. subst (Stands names terms key) (same_Some s.term t (sym there ∙ h)) here,
    )

-- the empty list's key alone is interned
pub interned_first : AreInterned [] (Nil ∷ []) (1 ∷ [])
unfolding terms_of
interned_first = record {
  cells = record { first = refl; distinct = alone; parts = λ i x xs h. absurd (no_parts i x xs h) };
  stand = at;
  nest = refl;
  few = omega arith;
  apart = λ i j name h k. absurd (none-some name h);
  few_names = omega arith;
}
  where
    alone : (i j : ℕ) (t : Term) → slice_get (Listed NoTerm ∷ []) i ≡ Some t
        → slice_get (Listed NoTerm ∷ []) j ≡ Some t → i ≡ j
    alone zero zero t h k = refl
    alone zero (suc j) t h k = absurd (none-some t k)
    alone (suc i) j t h k = absurd (none-some t h)

    no_parts : (i : ℕ) (x : Term) (xs : Terms) → slice_get (Listed NoTerm ∷ []) i ≡ Some (Listed (More x xs)) → ⊥
    no_parts zero x xs h = cc
    no_parts (suc i) x xs h = none-some (Listed (More x xs)) h

    at : (i : ℕ) (key : Key) → slice_get (Nil ∷ []) i ≡ Some key → IsKeyAt [] (Listed NoTerm ∷ []) i key
    at zero key h =
        let first : IsKeyAt [] (Listed NoTerm ∷ []) 0 Nil =
        record { term = Listed NoTerm; at = refl; stands = refl; back = tt } in
        subst (IsKeyAt [] (Listed NoTerm ∷ []) 0) (same_Some Nil key h) first
    at (suc i) key h = absurd (none-some key h)

-- the first key of all stands alone
pub inserted_first : {before after : List Key} (key : Key) → before ≡ []
    → after ≡ insert_key the_impl.ghosts.eq before key → after ≡ key ∷ []
inserted_first {before} {after} key empty inserted =
    inserted ∙ ap (λ (ks : List Key). insert_key the_impl.ghosts.eq ks key) empty
