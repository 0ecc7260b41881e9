-- Applying changes keeps facts of all atoms, and is the same under other names of the atoms.
use Rattle.std.proofs.Common.{◌≡◌, Bool, true, false, cond, not, ◌||◌, List, [], ◌∷◌, ◌++◌, Some, map, filter, option_map, refl, ap, ap₂, ◌∙◌}
use Rattle.std.specs.List.{All}
use Rattle.std.proofs.lemmas.List.{map-append}
use Rattle.std.proofs.lemmas.List.Elements.{All-nil, All-cons, All-head, All-tail, All-push, All-filter}
use Rattle.hp_syntax.specs.Applying.{ChangesOf, is_among, without_first, cancelled, first_guarded, with_added, changed}

module _ {A : Type 0} (same : A → A → Bool) (P : A → Type 0) where
  -- cancelling leaves protections that there were
  without_first_all : (x : A) (ys : List A) → All P ys → All P (without_first same x ys)
  without_first_all x [] h = h
  without_first_all x (y ∷ ys) h = by (same x y) (without_first_all x ys (All-tail P y ys h))
    where
      by : (b : Bool) → All P (without_first same x ys) → All P (cond b ys (y ∷ without_first same x ys))
      by true r = All-tail P y ys h
      by false r = All-cons P y (without_first same x ys) (All-head P y ys h) r

  -- cancelling one after the other leaves protections that there were
  pub cancelled_all : (g us : List A) → All P g → All P (cancelled same g us)
  cancelled_all g [] h = h
  cancelled_all g (u ∷ us) h = cancelled_all (without_first same u g) us (without_first_all u g h)

  -- adding atoms gives atoms that there were or that are added
  with_added_all : (s as' : List A) → All P s → All P as' → All P (with_added same s as')
  with_added_all s [] h k = h
  with_added_all s (a ∷ rest) h k =
      with_added_all (cond (is_among same a s) s (s ++ a ∷ [])) rest (by (is_among same a s)) (All-tail P a rest k)
    where
      by : (b : Bool) → All P (cond b s (s ++ a ∷ []))
      by true = h
      by false = All-push P s a h (All-head P a rest k)

  -- the atoms after changes were there or are added
  pub changed_all : (s : List A) (c : ChangesOf A) → All P s → All P c.add → All P (changed same s c)
  changed_all s c h k =
      with_added_all (filter (λ a. not (is_among same a c.delete)) s) c.add
      (All-filter (λ a. not (is_among same a c.delete)) P s h) k

module _ {A B : Type 0} (same : A → A → Bool) (alike : B → B → Bool) (f : A → B) (P : A → Type 0)
    (tells : (x y : A) → P x → P y → same x y ≡ alike (f x) (f y)) where
  -- an atom is among others where the one that it names is among those that they name
  is_among-map : (x : A) (xs : List A) → P x → All P xs → is_among same x xs ≡ is_among alike (f x) (map f xs)
  is_among-map x [] p h = refl
  is_among-map x (y ∷ ys) p h =
      ap₂ (λ b c. b || c) (tells x y p (All-head P y ys h)) (is_among-map x ys p (All-tail P y ys h))

  -- of two lists the same is taken before and after naming
  cond-map : (b c : Bool) (xs ys : List A) → b ≡ c → map f (cond b xs ys) ≡ cond c (map f xs) (map f ys)
  cond-map true c xs ys e = ap (λ d. cond d (map f xs) (map f ys)) e
  cond-map false c xs ys e = ap (λ d. cond d (map f xs) (map f ys)) e

  -- cancelling commutes with naming
  without_first-map : (x : A) (ys : List A) → P x → All P ys
      → map f (without_first same x ys) ≡ without_first alike (f x) (map f ys)
  without_first-map x [] p h = refl
  without_first-map x (y ∷ ys) p h =
      cond-map (same x y) (alike (f x) (f y)) ys (y ∷ without_first same x ys) (tells x y p (All-head P y ys h))
      ∙ ap (λ zs. cond (alike (f x) (f y)) (map f ys) (f y ∷ zs)) (without_first-map x ys p (All-tail P y ys h))

  -- cancelling one after the other commutes with naming
  pub cancelled-map : (g us : List A) → All P g → All P us
      → map f (cancelled same g us) ≡ cancelled alike (map f g) (map f us)
  cancelled-map g [] h k = refl
  cancelled-map g (u ∷ us) h k =
      cancelled-map (without_first same u g) us (without_first_all same P u g h) (All-tail P u us k)
      ∙ ap (λ zs. cancelled alike zs (map f us)) (without_first-map u g (All-head P u us k) h)

  -- the first protected atom to delete commutes with naming
  pub first_guarded-map : (g ds : List A) → All P g → All P ds
      → option_map f (first_guarded same g ds) ≡ first_guarded alike (map f g) (map f ds)
  first_guarded-map g [] h k = refl
  first_guarded-map g (d ∷ ds) h k =
      by (is_among same d g) (is_among alike (f d) (map f g)) (is_among-map d g (All-head P d ds k) h)
      (first_guarded-map g ds h (All-tail P d ds k))
    where
      by : (b c : Bool) → b ≡ c
          → option_map f (first_guarded same g ds) ≡ first_guarded alike (map f g) (map f ds)
          → option_map f (cond b (Some d) (first_guarded same g ds))
          ≡ cond c (Some (f d)) (first_guarded alike (map f g) (map f ds))
      by true c e r = ap (λ z. cond z (Some (f d)) (first_guarded alike (map f g) (map f ds))) e
      by false c e r = r ∙ ap (λ z. cond z (Some (f d)) (first_guarded alike (map f g) (map f ds))) e

  -- adding atoms commutes with naming
  pub with_added-map : (s as' : List A) → All P s → All P as'
      → map f (with_added same s as') ≡ with_added alike (map f s) (map f as')
  with_added-map s [] h k = refl
  with_added-map s (a ∷ rest) h k =
      with_added-map (cond (is_among same a s) s (s ++ a ∷ [])) rest (with_added_all same P s (a ∷ []) h one)
      (All-tail P a rest k)
      ∙ ap (λ zs. with_added alike zs (map f rest))
      (cond-map (is_among same a s) (is_among alike (f a) (map f s)) s (s ++ a ∷ []) (is_among-map a s p h)
      ∙ ap (λ zs. cond (is_among alike (f a) (map f s)) (map f s) zs) (map-append f s (a ∷ [])))
    where
      p : P a
      p = All-head P a rest k

      one : All P (a ∷ [])
      one = All-cons P a [] p (All-nil P)

  -- deleting atoms commutes with naming
  pub deleted-map : (s ds : List A) → All P s → All P ds
      → map f (filter (λ a. not (is_among same a ds)) s) ≡ filter (λ b. not (is_among alike b (map f ds))) (map f s)
  deleted-map [] ds h k = refl
  deleted-map (a ∷ s) ds h k =
      cond-map (not (is_among same a ds)) (not (is_among alike (f a) (map f ds)))
      (a ∷ filter (λ x. not (is_among same x ds)) s) (filter (λ x. not (is_among same x ds)) s)
      (ap not (is_among-map a ds (All-head P a s h) k))
      ∙ ap (λ zs. cond (not (is_among alike (f a) (map f ds))) (f a ∷ zs) zs)
      (deleted-map s ds (All-tail P a s h) k)
