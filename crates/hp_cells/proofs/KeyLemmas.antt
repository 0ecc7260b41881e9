-- Keys and the terms that they stand for.
use Rattle.std.proofs.Common.{◌≡◌, ℕ, suc, ◌+◌, ◌≤◌, true, List, [], ◌∷◌, ◌++◌, Some, length, take, drop, slice_get, refl, sym, ap, ap₂, ◌∙◌, arith}
use Rattle.std.specs.List.{fold}
use Rattle.std.proofs.Math.Seq.{take-append_seam}
use Rattle.std.proofs.lemmas.Grind.{common_steps}
use Rattle.std.proofs.lemmas.List.{length_push, get_or_append_left, length-take-le, take_all, take-take, take-append-drop}
use Rattle.std.proofs.lemmas.List.Sums.{fold-append}
use Rattle.std.proofs.lemmas.Option.{slice_get_within, get_or_from_slice_get}
use Rattle.std.proofs.lemmas.Bool.Decides.{Decides-int_eq}
use Rattle.hp_syntax.specs.Terms.{Term, Symbol, Listed, NoTerm, More}
use Rattle.hp_cells.specs.Cells.{AreDistinct}
use Rattle.hp_cells.specs.Keys.{Stands, IsNumbered, KeepsBack, parts_of, term_of, terms_of}
use Rattle.hp_cells.specs.declared.keys.Key.{Key}
use Rattle.hp_cells.specs.declared.keys.Key.TheVariants.{Nil, Sym, Num, Cons}
use Rattle.hp_cells.specs.contracts.keys.KeyPartialEq.TheImpl as the_impl
use Rattle.hp_cells.proofs.PlaceLemmas.{kept, stays}

-- keys that compare equal are one key
pub same_key : (a b : Key) → the_impl.ghosts.eq a b ≡ true → a ≡ b
same_key Nil Nil h = refl
same_key (Sym a) (Sym b) h = grind (arith, common_steps)
same_key (Num a) (Num b) h = grind (arith, common_steps)
same_key (Cons a b) (Cons c d) h = grind (arith, common_steps)
same_key _ _ h = cc

-- a key compares equal to itself
pub key_self : (a : Key) → the_impl.ghosts.eq a a ≡ true
key_self Nil = refl
key_self (Sym a) = grind (arith, common_steps)
key_self (Num a) = (Decides-int_eq a a).1 refl
key_self (Cons a b) = grind (arith, common_steps)

module _ (names : List (List ℕ)) where
  -- the term that a key stands for is found from it
  pub term_found : (terms : List Term) (key : Key) (t : Term) → Stands names terms key t → term_of names terms key ≡ t
  term_found terms Nil t h = sym h
  term_found terms (Sym number) t h =
      ap Symbol (get_or_from_slice_get names number h.name [] h.numbered) ∙ sym h.whole
  term_found terms (Num n) t h = sym h
  term_found terms (Cons head tail) t h =
      let first = get_or_from_slice_get terms head h.first (Listed NoTerm) h.head_names in
      let rest = get_or_from_slice_get terms tail (Listed h.rest) (Listed NoTerm) h.tail_names in
      ap₂ (λ x u. Listed (More x (parts_of u))) first rest ∙ sym h.whole

  -- a key stands for one term
  pub one_term : (terms : List Term) (key : Key) (t u : Term) → Stands names terms key t → Stands names terms key u
      → t ≡ u
  one_term terms key t u h k = sym (term_found terms key t h) ∙ term_found terms key u k

  -- keys that stand for one term are one key
  pub one_key : (terms : List Term) (a b : Key) (t : Term) → AreDistinct names → AreDistinct terms
      → Stands names terms a t → Stands names terms b t → a ≡ b
  one_key terms Nil Nil t apart d h k = refl
  one_key terms (Sym a) (Sym b) t apart d h k =
      let name : h.name ≡ k.name = cc in
      ap Sym (apart a b k.name (h.numbered ∙ ap Some name) k.numbered)
  one_key terms (Num a) (Num b) t apart d h k = cc
  one_key terms (Cons a b) (Cons c e) t apart d h k =
      let first : h.first ≡ k.first = cc in
      let rest : h.rest ≡ k.rest = cc in
      ap₂ Cons (d a c k.first (h.head_names ∙ ap Some first) k.head_names)
      (d b e (Listed k.rest) (h.tail_names ∙ ap (λ xs. Some (Listed xs)) rest) k.tail_names)
  one_key _ _ _ t apart d h k = cc

  -- a key stands for its term also among more terms
  pub stands_longer : (terms more : List Term) (key : Key) (t : Term) → Stands names terms key t
      → Stands names (terms ++ more) key t
  stands_longer terms more Nil t h = h
  stands_longer terms more (Sym number) t h = h
  stands_longer terms more (Num n) t h = h
  stands_longer terms more (Cons head tail) t h =
      record {
        first = h.first;
        rest = h.rest;
        head_names = kept terms more head h.first h.head_names;
        tail_names = kept terms more tail (Listed h.rest) h.tail_names;
        whole = h.whole;
      }

  -- a key that names only cells before a cut stands for its term also among the terms before the cut
  pub stands_taken : (n i : ℕ) (terms : List Term) (key : Key) (t : Term) → i ≤ n → KeepsBack i key
      → Stands names terms key t → Stands names (take n terms) key t
  stands_taken n i terms Nil t l b h = h
  stands_taken n i terms (Sym number) t l b h = h
  stands_taken n i terms (Num m) t l b h = h
  stands_taken n i terms (Cons head tail) t l b h =
      record {
        first = h.first;
        rest = h.rest;
        head_names = stays n terms head (omega arith) ∙ h.head_names;
        tail_names = stays n terms tail (omega arith) ∙ h.tail_names;
        whole = h.whole;
      }

  -- a key that stands for a term names only cells that there are
  pub stands_back : (terms : List Term) (key : Key) (t : Term) → Stands names terms key t → KeepsBack (length terms) key
  stands_back terms Nil t h = tt
  stands_back terms (Sym number) t h = tt
  stands_back terms (Num n) t h = tt
  stands_back terms (Cons head tail) t h =
      (slice_get_within terms head h.first h.head_names, slice_get_within terms tail (Listed h.rest) h.tail_names)

  -- a key that stands for a term has the number of one of the names
  pub stands_numbered : (terms : List Term) (key : Key) (t : Term) → Stands names terms key t
      → IsNumbered (length names) key
  stands_numbered terms Nil t h = tt
  stands_numbered terms (Sym number) t h = slice_get_within names number h.name h.numbered
  stands_numbered terms (Num n) t h = tt
  stands_numbered terms (Cons head tail) t h = tt

  -- a key stands for its term also among more names
  pub stands_named : (more : List (List ℕ)) (terms : List Term) (key : Key) (t : Term) → Stands names terms key t
      → Stands (names ++ more) terms key t
  stands_named more terms Nil t h = h
  stands_named more terms (Sym number) t h =
      record { name = h.name; numbered = kept names more number h.name h.numbered; whole = h.whole }
  stands_named more terms (Num n) t h = h
  stands_named more terms (Cons head tail) t h = h

  -- the terms, and behind them that of a further key
  abbrev grown : List Term → Key → List Term
  grown terms key = terms ++ term_of names terms key ∷ []

  -- a further key's term comes behind the others
  pub terms_of_push : (keys : List Key) (key : Key)
      → terms_of names (keys ++ key ∷ []) ≡ terms_of names keys ++ term_of names (terms_of names keys) key ∷ []
  unfolding terms_of
  terms_of_push keys key = fold-append grown [] keys (key ∷ [])

  -- each key gives one term
  length_grown : (terms : List Term) (keys : List Key) → length (fold grown terms keys) ≡ length terms + length keys
  length_grown terms [] = omega arith
  length_grown terms (key ∷ keys) =
      let e = length_grown (grown terms key) keys in
      let l = length_push terms (term_of names terms key) in
      omega arith

  -- there are as many terms as keys
  pub length_terms_of : (keys : List Key) → length (terms_of names keys) ≡ length keys
  unfolding terms_of
  length_terms_of keys = let e = length_grown [] keys in omega arith

  -- further keys keep the terms before
  take_grown : (terms : List Term) (keys : List Key) → take (length terms) (fold grown terms keys) ≡ terms
  take_grown terms [] = take_all (length terms) terms (omega arith)
  take_grown terms (key ∷ keys) =
      let more = grown terms key in
      let l = length_push terms (term_of names terms key) in
      let shorter : length terms ≤ length more = omega arith in
      sym (take-take (length terms) (length more) (fold grown more keys) shorter)
      ∙ ap (take (length terms)) (take_grown more keys) ∙ take-append_seam terms (term_of names terms key ∷ [])

  -- the first keys stand for the first terms
  pub terms_of_take : (n : ℕ) (keys : List Key) → n ≤ length keys
      → terms_of names (take n keys) ≡ take n (terms_of names keys)
  unfolding terms_of
  terms_of_take n keys h =
      let first = terms_of names (take n keys) in
      let whole : terms_of names keys ≡ fold grown first (drop n keys) =
      ap (terms_of names) (sym (take-append-drop n keys)) ∙ fold-append grown [] (take n keys) (drop n keys) in
      let l : length first ≡ n = length_terms_of (take n keys) ∙ length-take-le n keys h in
      sym (take_grown first (drop n keys)) ∙ ap (λ m. take m (fold grown first (drop n keys))) l
      ∙ ap (take n) (sym whole)

  -- a key that has the number of a name stands for the same among more names
  term_named : (more : List (List ℕ)) (terms : List Term) (key : Key) → IsNumbered (length names) key
      → term_of (names ++ more) terms key ≡ term_of names terms key
  term_named more terms Nil h = refl
  term_named more terms (Sym number) h = ap Symbol (get_or_append_left names more [] number h)
  term_named more terms (Num n) h = refl
  term_named more terms (Cons head tail) h = refl

module _ (names more : List (List ℕ)) where
  -- each key has the number of one of the names
  abbrev AreNumbered : List Key → Type 0
  AreNumbered keys = (i : ℕ) (key : Key) → slice_get keys i ≡ Some key → IsNumbered (length names) key

  named_grown : (terms : List Term) (keys : List Key) → AreNumbered keys
      → fold (grown (names ++ more)) terms keys ≡ fold (grown names) terms keys
  named_grown terms [] h = refl
  named_grown terms (key ∷ keys) h =
      ap (λ t. fold (grown (names ++ more)) (terms ++ t ∷ []) keys) (term_named names more terms key (h 0 key refl))
      ∙ named_grown (grown names terms key) keys (λ i k e. h (suc i) k e)

  -- keys that have numbers of names stand for the same among more names
  pub terms_of_named : (keys : List Key) → AreNumbered keys → terms_of (names ++ more) keys ≡ terms_of names keys
  unfolding terms_of
  terms_of_named keys h = named_grown [] keys h
