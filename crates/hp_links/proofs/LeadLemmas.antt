-- The tasks of a numbered tree that may be done first, and those that may be done next.
use Rattle.std.proofs.Common.{◌≡◌, ℕ, suc, Bool, true, false, cond, ◌||◌, List, [], ◌∷◌, ◌++◌, map, Option, Some, None, option_map, refl, sym, ap, ap₂, ◌∙◌, subst}
use Rattle.std.specs.Prelude.{filter}
use Rattle.std.specs.List.{All, Contains, list_any}
use Rattle.std.proofs.lemmas.List.{map-append}
use Rattle.std.proofs.lemmas.List.Elements.{All-nil, All-cons, All-head, All-tail, All-append, All-weaker, Contains-append_left, Contains-append_right}
use Rattle.hp_syntax.specs.Networks as plain
use Rattle.hp_syntax.specs.Networks.{Network, Networks, Place}
use Rattle.hp_syntax.specs.Terms.{Term}
use Rattle.hp_links.specs.declared.entry.Order.{Order}
use Rattle.hp_links.specs.declared.entry.Order.TheVariants.{Ordered, Unordered}
use Rattle.hp_links.specs.Labelled.{Tree, Trees, Gone, Leaf, Branch, NoTree, With, network, networks, numbers, numbers_of_all, AreApart, or_else, place_in, place_among, part_in, part_among, leads, leads_of_all}
use Rattle.hp_links.proofs.NumberLemmas.{apart_left, apart_right, apart_disjoint}
use Rattle.hp_links.proofs.PlaceLemmas.{at_number, off_number, absent_tells, part_tells, part_apart}
use Rattle.hp_links.proofs.MeaningLemmas.{part_at-place, place_below}

-- ---- lists

-- functions that agree on each element give the same list
map_agree : {A B : Type 0} (f g : A → B) (xs : List A) → All (λ x. f x ≡ g x) xs → map f xs ≡ map g xs
map_agree f g [] h = refl
map_agree {A} {B} f g (x ∷ xs) h =
    ap₂ ◌∷◌ (All-head (λ y. f y ≡ g y) x xs h) (map_agree f g xs (All-tail (λ y. f y ≡ g y) x xs h))

-- one function behind another
map-map : {A B C : Type 0} (f : A → B) (g : B → C) (xs : List A) → map g (map f xs) ≡ map (λ x. g (f x)) xs
map-map f g [] = refl
map-map f g (x ∷ xs) = ap (λ ys. g (f x) ∷ ys) (map-map f g xs)

-- a task of a tree by its number
abbrev pub IsLeaf : Tree → ℕ → Type 0
IsLeaf t x = (cell : ℕ) × (immediate : Bool) × (part_in x t ≡ Some (Leaf x cell immediate))

-- ---- first tasks

-- a task among trees is one of a list of them
leaf_below : (k x : ℕ) (order : Order) (ts : Trees) → AreApart (k ∷ numbers_of_all ts) → (cell : ℕ) (immediate : Bool)
    → part_among x ts ≡ Some (Leaf x cell immediate) → Contains (numbers_of_all ts) x
    → IsLeaf (Branch k order ts) x
leaf_below k x order ts a cell immediate e c =
    (cell, immediate, off_number k x _ _ (λ n. a.0 (subst (Contains (numbers_of_all ts)) (sym n) c)) ∙ e)

-- a task among trees by its number
abbrev pub IsLeafAmong : Trees → ℕ → Type 0
IsLeafAmong ts x =
    (cell : ℕ) × (immediate : Bool) × (part_among x ts ≡ Some (Leaf x cell immediate)) × Contains (numbers_of_all ts) x

-- a task of the first of some trees is one among them
leaf_first : (t : Tree) (ts : Trees) (x : ℕ) → IsLeaf t x → IsLeafAmong (With t ts) x
leaf_first t ts x l = (
  l.0,
  l.1,
  ap (λ o. or_else o (part_among x ts)) l.2,
  Contains-append_left (numbers t) (numbers_of_all ts) x (part_tells x t (Leaf x l.0 l.1) l.2).2,
)

-- so is a task among the others, where the numbers are apart
leaf_later : (t : Tree) (ts : Trees) (x : ℕ) → AreApart (numbers t ++ numbers_of_all ts) → IsLeafAmong ts x
    → IsLeafAmong (With t ts) x
leaf_later t ts x a l =
    let n = absent_tells x t (λ c. apart_disjoint (numbers t) (numbers_of_all ts) a x c l.3) in (
      l.0,
      l.1,
      ap (λ o. or_else o (part_among x ts)) n.1 ∙ l.2,
      Contains-append_right (numbers t) (numbers_of_all ts) x l.3,
    )

-- the first tasks of a tree are tasks of it
mutual
  pub leads_there : (t : Tree) → AreApart (numbers t) → All (IsLeaf t) (leads t)
  leads_there Gone a = All-nil (IsLeaf Gone)
  leads_there (Leaf k cell immediate) a =
      All-cons (IsLeaf (Leaf k cell immediate)) k [] (cell, immediate, at_number k k _ _ refl)
      (All-nil (IsLeaf (Leaf k cell immediate)))
  leads_there (Branch k Ordered NoTree) a = All-nil (IsLeaf (Branch k Ordered NoTree))
  leads_there (Branch k Ordered (With t ts)) a =
      All-weaker (IsLeaf t) (IsLeaf (Branch k Ordered (With t ts)))
      (λ x l. let m = leaf_first t ts x l in leaf_below k x Ordered (With t ts) a m.0 m.1 m.2 m.3) (leads t)
      (leads_there t (apart_left (numbers t) (numbers_of_all ts) a.1))
  leads_there (Branch k Unordered ts) a =
      All-weaker (IsLeafAmong ts) (IsLeaf (Branch k Unordered ts))
      (λ x m. leaf_below k x Unordered ts a m.0 m.1 m.2 m.3) (leads_of_all ts) (leads_of_all_there ts a.1)

  pub leads_of_all_there : (ts : Trees) → AreApart (numbers_of_all ts) → All (IsLeafAmong ts) (leads_of_all ts)
  leads_of_all_there NoTree a = All-nil (IsLeafAmong NoTree)
  leads_of_all_there (With t ts) a =
      All-append (IsLeafAmong (With t ts)) (leads t) (leads_of_all ts)
      (All-weaker (IsLeaf t) (IsLeafAmong (With t ts)) (leaf_first t ts) (leads t)
      (leads_there t (apart_left (numbers t) (numbers_of_all ts) a)))
      (All-weaker (IsLeafAmong ts) (IsLeafAmong (With t ts)) (λ x l. leaf_later t ts x a l) (leads_of_all ts)
      (leads_of_all_there ts (apart_right (numbers t) (numbers_of_all ts) a)))

-- the place of a number among trees is that of a list of them
place_of_list : (k x : ℕ) (order : Order) (ts : Trees) → AreApart (k ∷ numbers_of_all ts)
    → Contains (numbers_of_all ts) x → place_in x (Branch k order ts) ≡ place_among x 0 ts
place_of_list k x order ts a c = off_number k x _ _ (λ n. a.0 (subst (Contains (numbers_of_all ts)) (sym n) c))

-- the place of a number in the first of some trees is one among them
place_of_first : (t : Tree) (ts : Trees) (x i : ℕ) → IsLeaf t x
    → place_among x i (With t ts) ≡ option_map (λ p. i ∷ p) (place_in x t)
place_of_first t ts x i l =
    let h = part_tells x t (Leaf x l.0 l.1) l.2 in
    ap (λ o. or_else (option_map (λ p. i ∷ p) o) (place_among x (suc i) ts)) h.1
    ∙ sym (ap (option_map (λ p. i ∷ p)) h.1)

-- a task of a part is a task of the whole
pub leaf_of_part : (t s : Tree) (f : ℕ) (p : Place) → AreApart (numbers t) → place_in f t ≡ Some p
    → part_in f t ≡ Some s → (x : ℕ) → IsLeaf s x → IsLeaf t x
leaf_of_part t s f p a e g x l =
    let h = part_tells x s (Leaf x l.0 l.1) l.2 in
    (l.0, l.1, (place_below f t s p a e g x h.0 (Leaf x l.0 l.1) h.1 l.2).1)

-- the places of tasks of a part are below its place
places_below : (t s : Tree) (f : ℕ) (p : Place) → AreApart (numbers t) → place_in f t ≡ Some p → part_in f t ≡ Some s
    → (xs : List ℕ) (qs : List Place) → All (IsLeaf s) xs → map (λ x. place_in x s) xs ≡ map Some qs
    → map (λ x. place_in x t) xs ≡ map Some (map (λ q. p ++ q) qs)
places_below t s f p a e g [] [] l h = refl
places_below t s f p a e g [] (q ∷ qs) l h = absurd cc
places_below t s f p a e g (x ∷ xs) [] l h = absurd cc
places_below t s f p a e g (x ∷ xs) (q ∷ qs) l h =
    let i : place_in x s ≡ Some q = cc in
    let j : map (λ y. place_in y s) xs ≡ map Some qs = cc in
    let m = All-head (IsLeaf s) x xs l in
    ap₂ ◌∷◌ (place_below f t s p a e g x q (Leaf x m.0 m.1) i m.2).0
    (places_below t s f p a e g xs qs (All-tail (IsLeaf s) x xs l) j)

-- where one of some numbers has a mark, those that have one
abbrev pub marked : (ℕ → Bool) → List ℕ → List ℕ
marked mark xs = cond (list_any mark xs) (filter mark xs) xs

-- the mark of each task of a tree is whether it is immediate
abbrev pub MarksLeaves : Tree → (ℕ → Bool) → Type 0
MarksLeaves t mark =
    (x cell : ℕ) (immediate : Bool) → part_in x t ≡ Some (Leaf x cell immediate) → mark x ≡ immediate

-- a number's task is immediate where its mark says so
abbrev pub TellsMarks : Tree → (ℕ → Bool) → ℕ → Type 0
TellsMarks t mark x = (cell : ℕ) × (part_in x t ≡ Some (Leaf x cell (mark x)))

-- marks tell of each task
marks_tell : (t : Tree) (mark : ℕ → Bool) → MarksLeaves t mark → (x : ℕ) → IsLeaf t x → TellsMarks t mark x
marks_tell t mark m x l = (l.0, l.2 ∙ ap (λ b. Some (Leaf x l.0 b)) (sym (m x l.0 l.1 l.2)))

-- the places of the first tasks are those of the network
module _ (terms : List Term) where
  -- places in a tree, one number further down
  abbrev further : ℕ → List Place → List (Option Place)
  further i ps = map Some (map (λ p. i ∷ p) ps)

  -- a number before places that there are
  option_map-some : (i : ℕ) (ps : List Place) → map (option_map (λ p. i ∷ p)) (map Some ps) ≡ further i ps
  option_map-some i [] = refl
  option_map-some i (p ∷ ps) = ap (λ qs. Some (i ∷ p) ∷ qs) (option_map-some i ps)

  -- the places of tasks of the first of some trees
  places_of_first : (t : Tree) (ts : Trees) (i : ℕ) (xs : List ℕ) (ps : List Place) → All (IsLeaf t) xs
      → map (λ x. place_in x t) xs ≡ map Some ps
      → map (λ x. place_among x i (With t ts)) xs ≡ further i ps
  places_of_first t ts i xs ps a e =
      map_agree (λ x. place_among x i (With t ts)) (λ x. option_map (λ p. i ∷ p) (place_in x t)) xs
      (All-weaker (IsLeaf t) (λ x. place_among x i (With t ts) ≡ option_map (λ p. i ∷ p) (place_in x t))
      (λ x l. place_of_first t ts x i l) xs a)
      ∙ (sym (map-map (λ x. place_in x t) (option_map (λ p. i ∷ p)) xs)
      ∙ (ap (map (option_map (λ p. i ∷ p))) e ∙ option_map-some i ps))

  mutual
    unfolding plain.firsts

    pub leads_places : (t : Tree) → AreApart (numbers t)
        → map (λ x. place_in x t) (leads t) ≡ map Some (plain.firsts (network terms t))
    leads_places Gone a = refl
    leads_places (Leaf k cell immediate) a = ap (λ o. o ∷ []) (at_number k k (Some []) None refl)
    leads_places (Branch k Ordered NoTree) a = refl
    leads_places (Branch k Ordered (With t ts)) a =
        let b = apart_left (numbers t) (numbers_of_all ts) a.1 in
        let there = leads_there t b in
        map_agree (λ x. place_in x (Branch k Ordered (With t ts))) (λ x. place_among x 0 (With t ts)) (leads t)
        (All-weaker (IsLeaf t) (λ x. place_in x (Branch k Ordered (With t ts)) ≡ place_among x 0 (With t ts))
        (λ x l. place_of_list k x Ordered (With t ts) a (leaf_first t ts x l).3) (leads t) there)
        ∙ places_of_first t ts 0 (leads t) (plain.firsts (network terms t)) there (leads_places t b)
    leads_places (Branch k Unordered ts) a =
        map_agree (λ x. place_in x (Branch k Unordered ts)) (λ x. place_among x 0 ts) (leads_of_all ts)
        (All-weaker (IsLeafAmong ts) (λ x. place_in x (Branch k Unordered ts) ≡ place_among x 0 ts)
        (λ x l. place_of_list k x Unordered ts a l.3) (leads_of_all ts) (leads_of_all_there ts a.1))
        ∙ leads_of_all_places 0 ts a.1

    pub leads_of_all_places : (i : ℕ) (ts : Trees) → AreApart (numbers_of_all ts)
        → map (λ x. place_among x i ts) (leads_of_all ts) ≡ map Some (plain.firsts_from i (networks terms ts))
    leads_of_all_places i NoTree a = refl
    leads_of_all_places i (With t ts) a =
        let b = apart_left (numbers t) (numbers_of_all ts) a in
        let c = apart_right (numbers t) (numbers_of_all ts) a in
        let here = map (λ p. i ∷ p) (plain.firsts (network terms t)) in
        let later = plain.firsts_from (suc i) (networks terms ts) in
        map-append (λ x. place_among x i (With t ts)) (leads t) (leads_of_all ts)
        ∙ (ap₂ ◌++◌
        (places_of_first t ts i (leads t) (plain.firsts (network terms t)) (leads_there t b) (leads_places t b))
        (map_agree (λ x. place_among x i (With t ts)) (λ x. place_among x (suc i) ts) (leads_of_all ts)
        (All-weaker (IsLeafAmong ts) (λ x. place_among x i (With t ts) ≡ place_among x (suc i) ts)
        (λ x l.
        ap (λ o. or_else (option_map (λ p. i ∷ p) o) (place_among x (suc i) ts))
        (absent_tells x t (λ d. apart_disjoint (numbers t) (numbers_of_all ts) a x d l.3)).0)
        (leads_of_all ts) (leads_of_all_there ts c))
        ∙ leads_of_all_places (suc i) ts c)
        ∙ sym (map-append (λ (p : Place). Some p) here later))

  -- ---- the tasks that may be done next

  -- a number's mark is that of its place
  mark_of_place : (t : Tree) (mark : ℕ → Bool) (x : ℕ) (p : Place) → TellsMarks t mark x → place_in x t ≡ Some p
      → mark x ≡ plain.is_immediate (plain.part_at (network terms t) p)
  mark_of_place t mark x p h e =
      sym (ap plain.is_immediate (part_at-place terms x t (Leaf x h.0 (mark x)) p e h.1))

  -- whether one is immediate is the same by numbers and by places
  any_mark : (t : Tree) (mark : ℕ → Bool) (xs : List ℕ) (ps : List Place) → All (TellsMarks t mark) xs
      → map (λ x. place_in x t) xs ≡ map Some ps
      → list_any mark xs ≡ list_any (λ p. plain.is_immediate (plain.part_at (network terms t) p)) ps
  any_mark t mark [] [] h e = refl
  any_mark t mark [] (p ∷ ps) h e = absurd cc
  any_mark t mark (x ∷ xs) [] h e = absurd cc
  any_mark t mark (x ∷ xs) (p ∷ ps) h e =
      let f : place_in x t ≡ Some p = cc in
      let g : map (λ y. place_in y t) xs ≡ map Some ps = cc in
      ap₂ ◌||◌ (mark_of_place t mark x p (All-head (TellsMarks t mark) x xs h) f)
      (any_mark t mark xs ps (All-tail (TellsMarks t mark) x xs h) g)

  -- the immediate ones are the same by numbers and by places
  filter_mark : (t : Tree) (mark : ℕ → Bool) (xs : List ℕ) (ps : List Place) → All (TellsMarks t mark) xs
      → map (λ x. place_in x t) xs ≡ map Some ps
      → map (λ x. place_in x t) (filter mark xs)
      ≡ map Some (filter (λ p. plain.is_immediate (plain.part_at (network terms t) p)) ps)
  filter_mark t mark [] [] h e = refl
  filter_mark t mark [] (p ∷ ps) h e = absurd cc
  filter_mark t mark (x ∷ xs) [] h e = absurd cc
  filter_mark t mark (x ∷ xs) (p ∷ ps) h e =
      let f : place_in x t ≡ Some p = cc in
      let g : map (λ y. place_in y t) xs ≡ map Some ps = cc in
      let test = λ (q : Place). plain.is_immediate (plain.part_at (network terms t) q) in
      let rest = filter_mark t mark xs ps (All-tail (TellsMarks t mark) x xs h) g in
      let same : map (λ y. place_in y t) (cond (mark x) (x ∷ filter mark xs) (filter mark xs))
      ≡ map Some (cond (mark x) (p ∷ filter test ps) (filter test ps)) =
      elim (mark x) as
      (λ b. map (λ y. place_in y t) (cond b (x ∷ filter mark xs) (filter mark xs))
      ≡ map Some (cond b (p ∷ filter test ps) (filter test ps))) [ true ↦ ap₂ ◌∷◌ f rest | false ↦ rest ] in
      same
      ∙ ap (λ b. map Some (cond b (p ∷ filter test ps) (filter test ps)))
      (mark_of_place t mark x p (All-head (TellsMarks t mark) x xs h) f)

  -- where one of some tasks is immediate, the immediate ones alone, by numbers and by places
  marked_places : (t : Tree) (mark : ℕ → Bool) (xs : List ℕ) (ps : List Place) → All (TellsMarks t mark) xs
      → map (λ x. place_in x t) xs ≡ map Some ps
      → map (λ x. place_in x t) (marked mark xs) ≡ map Some (plain.immediate_first (network terms t) ps)
  marked_places t mark xs ps h e =
      let test = λ (q : Place). plain.is_immediate (plain.part_at (network terms t) q) in
      let same : map (λ y. place_in y t) (cond (list_any mark xs) (filter mark xs) xs)
      ≡ map Some (cond (list_any mark xs) (filter test ps) ps) =
      elim (list_any mark xs) as
      (λ b. map (λ y. place_in y t) (cond b (filter mark xs) xs) ≡ map Some (cond b (filter test ps) ps)) [
        | true ↦ filter_mark t mark xs ps h e
        | false ↦ e
      ] in
      same ∙ ap (λ b. map Some (cond b (filter test ps) ps)) (any_mark t mark xs ps h e)

  -- the candidates of a whole network are the first tasks of its tree
  pub candidates_of_whole : (t : Tree) (mark : ℕ → Bool) → AreApart (numbers t) → MarksLeaves t mark
      → map (λ x. place_in x t) (marked mark (leads t)) ≡ map Some (plain.candidates (network terms t) None)
  unfolding plain.candidates
  candidates_of_whole t mark a m =
      marked_places t mark (leads t) (plain.firsts (network terms t))
      (All-weaker (IsLeaf t) (TellsMarks t mark) (marks_tell t mark m) (leads t) (leads_there t a)) (leads_places t a)

  -- the candidates below a focus are the first tasks of the part that has it
  pub candidates_of_part : (t s : Tree) (f : ℕ) (p : Place) (mark : ℕ → Bool) → AreApart (numbers t)
      → place_in f t ≡ Some p → part_in f t ≡ Some s → MarksLeaves t mark
      → map (λ x. place_in x t) (marked mark (leads s)) ≡ map Some (plain.candidates (network terms t) (Some p))
  unfolding plain.candidates
  candidates_of_part t s f p mark a e g m =
      let b = part_apart f t s g a in
      let below = places_below t s f p a e g (leads s) (plain.firsts (network terms s)) (leads_there s b)
      (leads_places s b) in
      marked_places t mark (leads s) (map (λ q. p ++ q) (plain.firsts (network terms s)))
      (All-weaker (IsLeaf s) (TellsMarks t mark)
      (λ x l. marks_tell t mark m x (leaf_of_part t s f p a e g x l)) (leads s) (leads_there s b)) below
      ∙ ap (λ ps. map Some (plain.immediate_first (network terms t) ps))
      (sym (ap (plain.firsts_below p) (part_at-place terms f t s p e g)))
