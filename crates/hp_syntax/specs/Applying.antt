-- Applying changes to what holds and what is protected, where these are lists of atoms of any type with a test of
-- equality.
use Rattle.std.specs.Prelude.{Bool, cond, not, List, [], ◌∷◌, ◌++◌, filter, Option, Some, None}
use Rattle.std.specs.List.{list_any}

-- the atoms that are to be unguarded, deleted, added and guarded
pub record ChangesOf (A : Type 0) : Type 0 where
  pub unguard : List A
  pub delete : List A
  pub add : List A
  pub guard : List A

-- the result of applying changes: the new state and protections, or the protected atom that forbids them
pub data AppliedOf (A : Type 0) : Type 0 where
  Now : (state : List A) → (guards : List A) → AppliedOf A
  Guarded : (atom : A) → AppliedOf A

abbrev pub unless_guarded : {A : Type 0} → Option A → List A → List A → AppliedOf A
unless_guarded None s g = Now s g
unless_guarded (Some d) s g = Guarded d

module _ {A : Type 0} (same : A → A → Bool) where
  abbrev pub is_among : A → List A → Bool
  is_among x xs = list_any (same x) xs

  abbrev pub without_first : A → List A → List A
  without_first x [] = []
  without_first x (y ∷ ys) = cond (same x y) ys (y ∷ without_first x ys)

  -- the protections that are left once each of these has cancelled its first equal entry
  abbrev pub cancelled : List A → List A → List A
  cancelled g [] = g
  cancelled g (u ∷ us) = cancelled (without_first u g) us

  -- the first of these that is protected
  abbrev pub first_guarded : List A → List A → Option A
  first_guarded g [] = None
  first_guarded g (d ∷ ds) = cond (is_among d g) (Some d) (first_guarded g ds)

  -- the state with these atoms appended in turn, where they are absent
  abbrev pub with_added : List A → List A → List A
  with_added s [] = s
  with_added s (a ∷ rest) = with_added (cond (is_among a s) s (s ++ a ∷ [])) rest

  -- the state without the atoms to delete, and then with those to add
  abbrev pub changed : List A → ChangesOf A → List A
  changed s c = with_added (filter (λ a. not (is_among a c.delete)) s) c.add

  abbrev pub applied : List A → List A → ChangesOf A → AppliedOf A
  applied s g c =
      unless_guarded (first_guarded (cancelled g c.unguard) c.delete) (changed s c)
      (cancelled g c.unguard ++ c.guard)
