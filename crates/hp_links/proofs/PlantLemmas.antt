-- Networks in reading order become numbered parts.
use Rattle.std.proofs.Common.{◌≡◌, ℕ, zero, suc, ◌+◌, ◌<◌, ◌≤◌, ◌⊎◌, ⊎_elim, inl, inr, List, [], ◌∷◌, ◌++◌, length, set, take, drop, map, Option, Some, None, refl, sym, ap, subst, ◌∙◌, arith, append_assoc}
use Rattle.std.specs.Prelude.{slice_get}
use Rattle.std.specs.List.{Contains}
use Rattle.std.proofs.lemmas.Bool.{cases_eq}
use Rattle.std.proofs.lemmas.List.{take-append-drop, length-set}
use Rattle.std.proofs.lemmas.List.Elements.{Contains-append_left, Contains-append_right}
use Rattle.std.proofs.lemmas.Option.{slice_get_within}
use Rattle.hp_links.specs.declared.entry.Entry.{Entry}
use Rattle.hp_links.specs.declared.entry.Entry.TheVariants as entries
use Rattle.hp_links.specs.Frames.{Frame, top, tops, StandFrom, Stands, AllStand}
use Rattle.hp_links.specs.Labelled.{Tree, Trees, Gone, Leaf, Branch, NoTree, With, numbers, numbers_of_all, AreApart}
use Rattle.hp_links.specs.Linked.{as_trees}
use Rattle.hp_links.specs.Planted.{trees_at, AllAlone, own_all}
use Rattle.hp_links.proofs.HangLemmas.{top_owned}
use Rattle.hp_links.proofs.ListSteps.{read_set, read_other, some_read}
use Rattle.hp_links.proofs.ParentLemmas.{top_there}
use Rattle.hp_links.proofs.NumberLemmas.{contains_nothing, contains_first, contains_later, contains_cases, apart_right, apart_disjoint}

-- ---- owners of many

-- the owners of other numbers stay
pub own_others : (o : Option ℕ) (js : List ℕ) (os : List (Option ℕ)) (x : ℕ) → (Contains js x → ⊥)
    → slice_get (own_all o js os) x ≡ slice_get os x
own_others o [] os x n = refl
own_others o (j ∷ js) os x n =
    own_others o js (set os j o) x (λ c. n (contains_later j x js c))
    ∙ read_other os j x o (λ e. n (subst (Contains (j ∷ js)) (sym e) (contains_first j js)))

-- there are as many owners
pub length-own_all : (o : Option ℕ) (js : List ℕ) (os : List (Option ℕ)) → length (own_all o js os) ≡ length os
length-own_all o [] os = refl
length-own_all o (j ∷ js) os = length-own_all o js (set os j o) ∙ length-set os j o

-- an owner that was given stays
own_again : (o : Option ℕ) (js : List ℕ) (os : List (Option ℕ)) (x : ℕ) → slice_get os x ≡ Some o
    → slice_get (own_all o js os) x ≡ Some o
own_again o [] os x e = e
own_again o (j ∷ js) os x e = own_again o js (set os j o) x (by_case (cases_eq x j))
  where
    by_case : (x ≡ j) ⊎ (x ≡ j → ⊥) → slice_get (set os j o) x ≡ Some o
    by_case (inl f) = ap (slice_get (set os j o)) f ∙ read_set os j o (slice_get_within os j o (ap (slice_get os) (sym f) ∙ e))
    by_case (inr n) = read_other os j x o n ∙ e

-- each of the numbers has the owner
pub own_each : (o : Option ℕ) (js : List ℕ) (os : List (Option ℕ)) (x : ℕ) → Contains js x → x < length os
    → slice_get (own_all o js os) x ≡ Some o
own_each o [] os x c l = absurd (contains_nothing x c)
own_each o (j ∷ js) os x c l =
    ⊎_elim
    (λ e. own_again o js (set os j o) x (ap (slice_get (set os j o)) (sym e) ∙ read_set os j o (omega arith)))
    (λ d. own_each o js (set os j o) x d (omega (arith, length-set os j o)))
    (contains_cases j x js c)

-- ---- trees that stand in another frame too

-- a frame has what another one has of some numbers, but for the owner of the first
pub record Carries (f g : Frame) (ns : List ℕ) (first : ℕ) : Type 0 where
  pub parts : (x : ℕ) → Contains ns x → slice_get g.parts x ≡ slice_get f.parts x
  pub owners : (x : ℕ) → Contains ns x → first < x → slice_get g.owners x ≡ slice_get f.owners x
  pub rows : (i j : ℕ) → slice_get f.rows i ≡ Some j → slice_get g.rows i ≡ Some j

row_carried : (f g : Frame) (start : ℕ) (js : List ℕ)
    → ((i j : ℕ) → slice_get f.rows i ≡ Some j → slice_get g.rows i ≡ Some j) → StandFrom f.rows start js
    → StandFrom g.rows start js
row_carried f g start js rows h = record {
  at = λ i l. let r = some_read js i l in rows (start + i) r.0 (h.at i l ∙ r.1) ∙ sym r.1;
}

-- a tree stands in a frame that has what it has
mutual
  pub carried : (f g : Frame) (p q : Option ℕ) (t : Tree) → Stands f p t → Carries f g (numbers t) (top t)
      → slice_get g.owners (top t) ≡ Some q → Stands g q t
  carried f g p q Gone h c own = absurd h
  carried f g p q (Leaf k cell immediate) h c own =
      record { part = c.parts k (contains_first k []) ∙ h.part; owner = own }
  carried f g p q (Branch k order ts) h c own = (
    h.0,
    record { part = c.parts k (contains_first k (numbers_of_all ts)) ∙ h.1.part; owner = own },
    row_carried f g h.0 (tops ts) c.rows h.2,
    all_carried f g k ts h.3
        (λ x d. c.parts x (contains_later k x (numbers_of_all ts) d))
        (λ x d l. c.owners x (contains_later k x (numbers_of_all ts) d) l) c.rows,
  )

  -- the same holds of the parts of a list
  all_carried : (f g : Frame) (k : ℕ) (ts : Trees) → AllStand f k ts
      → ((x : ℕ) → Contains (numbers_of_all ts) x → slice_get g.parts x ≡ slice_get f.parts x)
      → ((x : ℕ) → Contains (numbers_of_all ts) x → k < x → slice_get g.owners x ≡ slice_get f.owners x)
      → ((i j : ℕ) → slice_get f.rows i ≡ Some j → slice_get g.rows i ≡ Some j) → AllStand g k ts
  all_carried f g k NoTree h parts owners rows = tt
  all_carried f g k (With t ts) h parts owners rows =
      let l : k < top t = h.0 in (
        h.0,
        carried f g (Some k) (Some k) t h.1
            (record {
              parts = λ x c. parts x (Contains-append_left (numbers t) (numbers_of_all ts) x c);
              owners = λ x c m. owners x (Contains-append_left (numbers t) (numbers_of_all ts) x c) (omega arith);
              rows = rows;
            })
            (owners (top t) (Contains-append_left (numbers t) (numbers_of_all ts) (top t) (top_there f (Some k) t h.1)) l
            ∙ top_owned f (Some k) t h.1),
        all_carried f g k ts h.2
            (λ x c. parts x (Contains-append_right (numbers t) (numbers_of_all ts) x c))
            (λ x c m. owners x (Contains-append_right (numbers t) (numbers_of_all ts) x c) m) rows,
      )

-- one more number has the owner
pub own_all-push : (o : Option ℕ) (js : List ℕ) (j : ℕ) (os : List (Option ℕ))
    → own_all o (js ++ j ∷ []) os ≡ set (own_all o js os) j o
own_all-push o [] j os = refl
own_all-push o (i ∷ js) j os = own_all-push o js j (set os i o)

-- ---- the numbers of trees of entries

-- the numbers of all trees
abbrev pub numbers_in : List Tree → List ℕ
numbers_in [] = []
numbers_in (t ∷ ts) = numbers t ++ numbers_in ts

-- the numbers from one on
abbrev pub IsRange : ℕ → List ℕ → Type 0
IsRange k [] = Unit {0}
IsRange k (n ∷ ns) = (n ≡ k) × IsRange (suc k) ns

pub numbers_in-append : (ts us : List Tree) → numbers_in (ts ++ us) ≡ numbers_in ts ++ numbers_in us
numbers_in-append [] us = refl
numbers_in-append (t ∷ ts) us =
    ap (λ ns. numbers t ++ ns) (numbers_in-append ts us)
    ∙ sym (append_assoc (numbers t) (numbers_in ts) (numbers_in us))

numbers-as_trees : (ts : List Tree) → numbers_of_all (as_trees ts) ≡ numbers_in ts
numbers-as_trees [] = refl
numbers-as_trees (t ∷ ts) = ap (λ ns. numbers t ++ ns) (numbers-as_trees ts)

-- the numbers of some of the trees as a list's parts, and of the others, are those of all
numbers_split : (n : ℕ) (ts : List Tree) → numbers_of_all (as_trees (take n ts)) ++ numbers_in (drop n ts) ≡ numbers_in ts
numbers_split n ts =
    ap (λ ns. ns ++ numbers_in (drop n ts)) (numbers-as_trees (take n ts))
    ∙ sym (numbers_in-append (take n ts) (drop n ts)) ∙ ap numbers_in (take-append-drop n ts)

-- the trees of entries have the numbers from the first on
pub trees_range : (k : ℕ) (es : List Entry) → IsRange k (numbers_in (trees_at k es))
trees_range k [] = tt
trees_range k (entries.Task cell immediate ∷ es) = (refl, trees_range (suc k) es)
trees_range k (entries.List order n ∷ es) =
    (refl, subst (IsRange (suc k)) (sym (numbers_split n (trees_at (suc k) es))) (trees_range (suc k) es))

-- they are as many as the entries
pub trees_many : (k : ℕ) (es : List Entry) → length (numbers_in (trees_at k es)) ≡ length es
trees_many k [] = refl
trees_many k (entries.Task cell immediate ∷ es) = ap suc (trees_many (suc k) es)
trees_many k (entries.List order n ∷ es) =
    ap suc (ap length (numbers_split n (trees_at (suc k) es)) ∙ trees_many (suc k) es)

-- numbers from one on are not below it
pub range_above : (k : ℕ) (ns : List ℕ) (x : ℕ) → IsRange k ns → Contains ns x → k ≤ x
range_above k [] x h c = absurd (contains_nothing x c)
range_above k (n ∷ ns) x h c =
    let e = h.0 in
    ⊎_elim (λ g. omega arith) (λ d. let l = range_above (suc k) ns x h.1 d in omega arith) (contains_cases n x ns c)

-- they are below the one behind them
pub range_below : (k : ℕ) (ns : List ℕ) (x : ℕ) → IsRange k ns → Contains ns x → x < k + length ns
range_below k [] x h c = absurd (contains_nothing x c)
range_below k (n ∷ ns) x h c =
    let e = h.0 in
    ⊎_elim (λ g. omega arith) (λ d. let l = range_below (suc k) ns x h.1 d in omega arith) (contains_cases n x ns c)

-- they are apart
pub range_apart : (k : ℕ) (ns : List ℕ) → IsRange k ns → AreApart ns
range_apart k [] h = tt
range_apart k (n ∷ ns) h =
    let e = h.0 in
    (λ c. let l = range_above (suc k) ns n h.1 c in omega arith, range_apart (suc k) ns h.1)

-- ---- a list gets its parts

pub first_alone : (f : Frame) (n : ℕ) (ts : List Tree) → AllAlone f ts → AllAlone f (take n ts)
first_alone f zero ts h = tt
first_alone f (suc n) [] h = tt
first_alone f (suc n) (t ∷ ts) h = (h.0, first_alone f n ts h.1)

pub last_alone : (f : Frame) (n : ℕ) (ts : List Tree) → AllAlone f ts → AllAlone f (drop n ts)
last_alone f zero ts h = h
last_alone f (suc n) [] h = tt
last_alone f (suc n) (t ∷ ts) h = last_alone f n ts h.1

-- trees that a frame keeps stand in it
pub alone_carried : (f g : Frame) (ts : List Tree) → AllAlone f ts
    → ((x : ℕ) → Contains (numbers_in ts) x → slice_get g.parts x ≡ slice_get f.parts x)
    → ((x : ℕ) → Contains (numbers_in ts) x → slice_get g.owners x ≡ slice_get f.owners x)
    → ((i j : ℕ) → slice_get f.rows i ≡ Some j → slice_get g.rows i ≡ Some j) → AllAlone g ts
alone_carried f g [] h parts owners rows = tt
alone_carried f g (t ∷ ts) h parts owners rows = (
  carried f g None None t h.0
      (record {
        parts = λ x c. parts x (Contains-append_left (numbers t) (numbers_in ts) x c);
        owners = λ x c l. owners x (Contains-append_left (numbers t) (numbers_in ts) x c);
        rows = rows;
      })
      (owners (top t) (Contains-append_left (numbers t) (numbers_in ts) (top t) (top_there f None t h.0))
      ∙ top_owned f None t h.0),
  alone_carried f g ts h.1 (λ x c. parts x (Contains-append_right (numbers t) (numbers_in ts) x c))
      (λ x c. owners x (Contains-append_right (numbers t) (numbers_in ts) x c)) rows,
)

-- the numbers of trees' tops are among theirs
pub tops_in : (f : Frame) (ts : List Tree) (x : ℕ) → AllAlone f ts → Contains (map top ts) x → Contains (numbers_in ts) x
tops_in f [] x h c = absurd (contains_nothing x c)
tops_in f (t ∷ ts) x h c =
    ⊎_elim
    (λ e.
    Contains-append_left (numbers t) (numbers_in ts) x
    (subst (Contains (numbers t)) e (top_there f None t h.0)))
    (λ d. Contains-append_right (numbers t) (numbers_in ts) x (tops_in f ts x h.1 d))
    (contains_cases (top t) x (map top ts) c)

-- trees whose tops get an owner stand as parts of it
pub owned_carried : (f g : Frame) (k : ℕ) (js : List ℕ) (ts : List Tree) → AllAlone f ts → AreApart (numbers_in ts)
    → ((x : ℕ) → Contains (numbers_in ts) x → k < x)
    → ((x : ℕ) → Contains (numbers_in ts) x → slice_get g.parts x ≡ slice_get f.parts x)
    → ((x : ℕ) → (Contains js x → ⊥) → slice_get g.owners x ≡ slice_get f.owners x)
    → ((x : ℕ) → Contains (map top ts) x → slice_get g.owners x ≡ Some (Some k))
    → ((x : ℕ) → Contains (numbers_in ts) x → Contains js x → Contains (map top ts) x)
    → ((i j : ℕ) → slice_get f.rows i ≡ Some j → slice_get g.rows i ≡ Some j) → AllStand g k (as_trees ts)
owned_carried f g k js [] h a above parts others owned there rows = tt
owned_carried f g k js (t ∷ ts) h a above parts others owned there rows =
    let in_first = λ (x : ℕ) (c : Contains (numbers t) x). Contains-append_left (numbers t) (numbers_in ts) x c in
    let in_rest = λ (x : ℕ) (c : Contains (numbers_in ts) x). Contains-append_right (numbers t) (numbers_in ts) x c in
    let apart = apart_disjoint (numbers t) (numbers_in ts) a in (
      above (top t) (in_first (top t) (top_there f None t h.0)),
      carried f g None (Some k) t h.0
          (record {
            parts = λ x c. parts x (in_first x c);
            owners = λ x c l.
                others x
                (λ d.
                ⊎_elim (λ e. omega arith) (λ m. apart x c (tops_in f ts x h.1 m))
                (contains_cases (top t) x (map top ts) (there x (in_first x c) d)));
            rows = rows;
          })
          (owned (top t) (contains_first (top t) (map top ts))),
      owned_carried f g k js ts h.1 (apart_right (numbers t) (numbers_in ts) a) (λ x c. above x (in_rest x c))
          (λ x c. parts x (in_rest x c)) others (λ x c. owned x (contains_later (top t) x (map top ts) c))
          (λ x c d.
          ⊎_elim
          (λ e. absurd (apart x (subst (Contains (numbers t)) e (top_there f None t h.0)) c)) (λ m. m)
          (contains_cases (top t) x (map top ts) (there x (in_rest x c) d)))
          rows,
    )
