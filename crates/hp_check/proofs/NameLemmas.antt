-- Names in lists.
use Rattle.std.proofs.Common.{◌≡◌, ℕ, ◌+◌, ◌<◌, ◌≤◌, Bool, true, false, cond, ◌||◌, List, [], ◌∷◌, ◌++◌, length, get_or, take, map, refl, ap, ap₂, sym, subst, ◌∙◌, bytes_eq}
use Rattle.std.specs.List.{list_any, flat_map}
use Rattle.std.proofs.lemmas.List.{take_all}
use Rattle.std.proofs.lemmas.List.Folds.{list_any-append}
use Rattle.std.proofs.lemmas.Slice.Eq.{bytes_eq-Decides}
use Rattle.hp_syntax.specs.Notes.{served, domain_atoms, problem_atoms, note, note_if_unserved, notes}
use Rattle.hp_syntax.specs.Syntax.{Atom, Domain, Problem}
use Rattle.hp_check.specs.NoteViews.{SameNames}
use Rattle.hp_check.proofs.FaultLemmas.{flat_map-more}

-- a test that a list passes already is passed by no more of it
absorbed : (b c : Bool) → (c ≡ true → b ≡ true) → b ≡ (b || (c || false))
absorbed true c h = refl
absorbed false false h = refl
absorbed false true h = h refl

-- a name that is there already adds nothing
known_adds_nothing : (keys : List (List ℕ)) (name : List ℕ) → list_any (bytes_eq name) keys ≡ true
    → (x : List ℕ) → list_any (bytes_eq x) keys ≡ list_any (bytes_eq x) (keys ++ name ∷ [])
known_adds_nothing keys name h x =
    absorbed (list_any (bytes_eq x) keys) (bytes_eq x name)
    (λ e. subst (λ n. list_any (bytes_eq n) keys ≡ true) (sym ((bytes_eq-Decides x name).0 e)) h)
    ∙ sym (list_any-append (bytes_eq x) keys (name ∷ []))

-- a name that is added unless it is there is as good as one that is added
pub added_once : (known : Bool) (keys : List (List ℕ)) (name : List ℕ) → list_any (bytes_eq name) keys ≡ known
    → (x : List ℕ) → list_any (bytes_eq x) (cond known keys (keys ++ name ∷ []))
    ≡ list_any (bytes_eq x) (keys ++ name ∷ [])
added_once true keys name h x = known_adds_nothing keys name h x
added_once false keys name h x = refl

-- lists of the same names leave the same tasks unserved
unserved_by_same : (xs ys : List (List ℕ)) (b : Bool) → SameNames xs ys → (as' : List Atom)
    → flat_map (note_if_unserved xs b) as' ≡ flat_map (note_if_unserved ys b) as'
unserved_by_same xs ys b h [] = refl
unserved_by_same xs ys b h (a ∷ as') =
    ap₂ (λ known more. cond known [] (note b a ∷ []) ++ more) (h a.name) (unserved_by_same xs ys b h as')

-- the same names as those of the tasks that are served give the notes
pub notes_by_same : (names : List (List ℕ)) (d : Domain) (p : Problem) → SameNames names (served d)
    → flat_map (note_if_unserved names false) (domain_atoms d)
    ++ flat_map (note_if_unserved names true) (problem_atoms p)
    ≡ notes d p
unfolding notes
notes_by_same names d p h =
    ap₂ (λ xs ys. xs ++ ys) (unserved_by_same names (served d) false h (domain_atoms d))
    (unserved_by_same names (served d) true h (problem_atoms p))

module _ {X Y : Type 0} (f : Y → List (List ℕ)) (v : X → Y) (xs : List X) (i : ℕ) (old : List (List ℕ))
    (so_far : SameNames old (flat_map f (map v (take i xs)))) where
  -- the names that the first parts of a list have, and those of the next part, are those that one part more has
  pub names_more : (x : X) (new : List (List ℕ)) → i < length xs → x ≡ get_or xs i x → SameNames new (old ++ f (v x))
      → SameNames new (flat_map f (map v (take (i + 1) xs)))
  names_more x new below at added name =
      added name
      ∙ list_any-append (bytes_eq name) old (f (v x))
      ∙ ap (λ b. b || list_any (bytes_eq name) (f (v x))) (so_far name)
      ∙ sym (list_any-append (bytes_eq name) (flat_map f (map v (take i xs))) (f (v x)))
      ∙ ap (list_any (bytes_eq name)) (sym (flat_map-more f v xs i x below at))

  -- the names of all parts of a list are those of the list
  pub names_all : length xs ≤ i → SameNames old (flat_map f (map v xs))
  names_all past name =
      so_far name ∙ ap (λ ys. list_any (bytes_eq name) (flat_map f (map v ys))) (take_all i xs past)
