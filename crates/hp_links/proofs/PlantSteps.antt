-- One entry more is planted.
use Rattle.std.proofs.Common.{◌≡◌, ℕ, zero, suc, ◌+◌, ◌-◌, ◌<◌, ◌≤◌, ⊎_elim, Bool, List, [], ◌∷◌, ◌++◌, length, get_or, set, take, drop, map, Option, Some, None, refl, sym, ap, subst, ◌∙◌, arith}
use Rattle.std.specs.Prelude.{slice_get, reverse, replicate, option_map}
use Rattle.std.specs.List.{All, Contains}
use Rattle.std.proofs.lemmas.Bool.{cases_lt}
use Rattle.std.proofs.lemmas.List.{take-append-drop, take-append-le, take_at, drop_at, take-set-le, take-map, length-set, length-map, length-reverse, length-drop, length-take, length-take-le, length-append, length-replicate, drop_all, drop-map, reverse-append, reverse-reverse}
use Rattle.std.proofs.lemmas.List.Elements.{Contains-append_left, Contains-append_right, Contains-get_or, All-append, All-map, All-set, All-weaker}
use Rattle.std.proofs.lemmas.Option.{same_Some, slice_get_within, slice_get-map}
use Rattle.hp_links.specs.declared.entry.Entry.{Entry}
use Rattle.hp_links.specs.declared.entry.Entry.TheVariants as entries
use Rattle.hp_links.specs.declared.entry.Order.{Order}
use Rattle.hp_links.specs.declared.links.Part.{Part}
use Rattle.hp_links.specs.declared.links.Part.TheVariants.{Row}
use Rattle.hp_links.specs.Entries.{forest, AreClosed, EntryBelow}
use Rattle.hp_links.specs.Frames.{Frame, top, tops}
use Rattle.hp_links.specs.Labelled.{Tree, Leaf, Branch, count, AreApart}
use Rattle.hp_links.specs.Linked.{as_trees, PartBelow}
use Rattle.hp_links.specs.Planted.{trees_at, part_of, AllAlone, own_all, KeepsFirst, Planting, linked, roots_left, HasRoots}
use Rattle.hp_links.proofs.ListSteps.{read_set, read_other}
use Rattle.hp_links.proofs.NumberLemmas.{contains_nothing, contains_first, contains_later, contains_cases, apart_left, apart_disjoint}
use Rattle.hp_links.proofs.PlantLemmas.{own_others, own_each, length-own_all, numbers_in, trees_range, trees_many, range_above, range_below, range_apart, first_alone, last_alone, alone_carried, owned_carried, tops_in, numbers_in-append}
use Rattle.hp_links.proofs.TreeLemmas.{length-tops}

-- behind a place stands what is read there, and the rest
pub drop_read : {A : Type 0} (xs : List A) (n : ℕ) (x : A) → slice_get xs n ≡ Some x → drop n xs ≡ x ∷ drop (suc n) xs
drop_read [] n x e = absurd cc
drop_read (y ∷ xs) zero x e = ap (λ z. z ∷ xs) (same_Some y x e)
drop_read (y ∷ xs) (suc n) x e = drop_read xs n x e

-- what is read in a list is read with more behind it
read_before : {A : Type 0} (xs ys : List A) (i : ℕ) (x : A) → slice_get xs i ≡ Some x → slice_get (xs ++ ys) i ≡ Some x
read_before [] ys i x e = absurd cc
read_before (z ∷ xs) ys zero x e = e
read_before (z ∷ xs) ys (suc i) x e = read_before xs ys i x e

-- behind a list the next one is read
pub read_behind : {A : Type 0} (xs ys : List A) (i : ℕ) → slice_get (xs ++ ys) (length xs + i) ≡ slice_get ys i
read_behind [] ys i = let e : 0 + i ≡ i = omega arith in ap (slice_get ys) e
read_behind (x ∷ xs) ys i =
    let e : length (x ∷ xs) + i ≡ suc (length xs + i) = omega arith in
    ap (slice_get (x ∷ (xs ++ ys))) e ∙ read_behind xs ys i

-- in any order there are the same numbers
in_reverse : (xs : List ℕ) (x : ℕ) → Contains xs x → Contains (reverse xs) x
in_reverse [] x c = absurd (contains_nothing x c)
in_reverse (y ∷ xs) x c =
    subst (λ (zs : List ℕ). Contains zs x) (sym (reverse-append (y ∷ []) xs))
    (⊎_elim
    (λ e. Contains-append_right (reverse xs) (y ∷ []) x (subst (Contains (y ∷ [])) e (contains_first y [])))
    (λ d. Contains-append_left (reverse xs) (y ∷ []) x (in_reverse xs x d)) (contains_cases y x xs c))

from_reverse : (xs : List ℕ) (x : ℕ) → Contains (reverse xs) x → Contains xs x
from_reverse xs x c = subst (λ (zs : List ℕ). Contains zs x) (reverse-reverse xs) (in_reverse (reverse xs) x c)

-- the last of a list in reverse are the first, in reverse
last_reverse : (n : ℕ) (xs : List ℕ) → n ≤ length xs
    → (drop (length (reverse xs) - n) (reverse xs) ≡ reverse (take n xs))
    × (take (length (reverse xs) - n) (reverse xs) ≡ reverse (drop n xs))
last_reverse n xs l =
    let split : reverse xs ≡ reverse (drop n xs) ++ reverse (take n xs) =
    ap (λ (ys : List ℕ). reverse ys) (sym (take-append-drop n xs)) ∙ reverse-append (take n xs) (drop n xs) in
    let m = length (reverse xs) - n in
    let long : length (reverse (drop n xs)) ≡ m =
    omega (arith, length-reverse (drop n xs), length-drop n xs, length-reverse xs) in (
      ap (drop m) split ∙ drop_at (reverse (drop n xs)) (reverse (take n xs)) m long,
      ap (take m) split ∙ take_at (reverse (drop n xs)) (reverse (take n xs)) m long,
    )

-- the first owners stay where others get one
take-own_all : (n : ℕ) (o : Option ℕ) (js : List ℕ) (os : List (Option ℕ)) → ((x : ℕ) → Contains js x → n ≤ x)
    → take n (own_all o js os) ≡ take n os
take-own_all n o [] os h = refl
take-own_all n o (j ∷ js) os h =
    take-own_all n o js (set os j o) (λ x c. h x (contains_later j x js c))
    ∙ take-set-le n os j o (h j (contains_first j js))

tops-as_trees : (ts : List Tree) → tops (as_trees ts) ≡ map top ts
tops-as_trees [] = refl
tops-as_trees (t ∷ ts) = ap (λ js. top t ∷ js) (tops-as_trees ts)

-- how long a list is at least that begins with another one
kept_long : {A : Type 0} (n : ℕ) (xs ys : List A) → take n xs ≡ ys → length ys ≡ n → n ≤ length xs
kept_long n xs ys e l = let m = ap length e in omega (arith, l, m, length-take n xs)

module _ (es : List Entry) (n : ℕ) (js : List ℕ) (old f : Frame) (p : Planting es (suc n) js old f) where
  behind : length old.parts + suc n ≡ suc (length old.parts + n)
  behind = omega arith

  -- a task is planted
  pub task_planted : (cell : ℕ) (immediate : Bool) → slice_get es n ≡ Some (entries.Task cell immediate)
      → Planting es n (js ++ (length old.parts + n) ∷ []) old f
  task_planted cell immediate e =
      let k = length old.parts + n in
      let rest = drop (suc n) es in
      let all : trees_at k (drop n es) ≡ Leaf k cell immediate ∷ trees_at (length old.parts + suc n) rest =
      ap (trees_at k) (drop_read es n (entries.Task cell immediate) e)
      ∙ ap (λ m. Leaf k cell immediate ∷ trees_at m rest) (sym behind) in
      record {
        keeps = p.keeps;
        parts = p.parts;
        owners = p.owners;
        read = λ i l. p.read i (omega arith);
        free = λ i l. p.free i (omega arith);
        roots =
            ap (λ (ks : List ℕ). ks ++ k ∷ []) p.roots
            ∙ sym (reverse-append (k ∷ []) (map top (trees_at (length old.parts + suc n) rest)))
            ∙ sym (ap (λ ts. reverse (map top ts)) all);
        stand =
            subst (AllAlone f) (sym all) (
              record { part = p.read n (omega arith) ∙ ap (option_map part_of) e; owner = p.free n (omega arith) },
              p.stand,
            );
      }

  -- a list is planted
  pub list_planted : (order : Order) (m : ℕ) → slice_get es n ≡ Some (entries.List order m) → 0 < m → m ≤ length js
      → length old.owners ≡ length old.parts
      → Planting es n (roots_left (length old.parts + n) (entries.List order m) js) old
      (linked (length old.parts + n) (entries.List order m) js f)
  list_planted order m e some enough level =
      let k = length old.parts + n in
      let rest = drop (suc n) es in
      let ts : List Tree = trees_at (suc k) rest in
      let all : trees_at k (drop n es) ≡ Branch k order (as_trees (take m ts)) ∷ drop m ts =
      ap (trees_at k) (drop_read es n (entries.List order m) e) in
      let stand : AllAlone f ts = subst (λ q. AllAlone f (trees_at q rest)) behind p.stand in
      let roots : js ≡ reverse (map top ts) = p.roots ∙ ap (λ q. reverse (map top (trees_at q rest))) behind in
      let many : m ≤ length (map top ts) = omega (arith, ap length roots, length-reverse (map top ts)) in
      let cut = last_reverse m (map top ts) many in
      let used : drop (length js - m) js ≡ reverse (take m (map top ts)) =
      ap (λ (ks : List ℕ). drop (length ks - m) ks) roots ∙ cut.0 in
      let firsts : take m (map top ts) ≡ map top (take m ts) = take-map top m ts in
      let own = drop (length js - m) js in
      let within : n < length es = slice_get_within es n _ e in
      let range = trees_range (suc k) rest in
      let apart = range_apart (suc k) (numbers_in ts) range in
      let split : numbers_in (take m ts) ++ numbers_in (drop m ts) ≡ numbers_in ts =
      sym (numbers_in-append (take m ts) (drop m ts)) ∙ ap numbers_in (take-append-drop m ts) in
      let both : AreApart (numbers_in (take m ts) ++ numbers_in (drop m ts)) = subst AreApart (sym split) apart in
      let above = λ (x : ℕ) (c : Contains (numbers_in ts) x). range_above (suc k) (numbers_in ts) x range c in
      let below : (x : ℕ) → Contains (numbers_in ts) x → x < length f.owners = λ x c.
      (let l = range_below (suc k) (numbers_in ts) x range c in
      omega (arith, trees_many (suc k) rest, length-drop (suc n) es, p.parts, p.owners)) in
      let left = λ (x : ℕ) (c : Contains (numbers_in (take m ts)) x).
      subst (λ (ns : List ℕ). Contains ns x) split (Contains-append_left (numbers_in (take m ts)) (numbers_in (drop m ts)) x c) in
      let right = λ (x : ℕ) (c : Contains (numbers_in (drop m ts)) x).
      subst (λ (ns : List ℕ). Contains ns x) split (Contains-append_right (numbers_in (take m ts)) (numbers_in (drop m ts)) x c) in
      let to_top : (x : ℕ) → Contains own x → Contains (map top (take m ts)) x = λ x c.
      subst (λ (ns : List ℕ). Contains ns x) firsts
      (from_reverse (take m (map top ts)) x (subst (λ (ns : List ℕ). Contains ns x) used c)) in
      let from_top : (x : ℕ) → Contains (map top (take m ts)) x → Contains own x = λ x c.
      subst (λ (ns : List ℕ). Contains ns x) (sym used)
      (in_reverse (take m (map top ts)) x (subst (λ (ns : List ℕ). Contains ns x) (sym firsts) c)) in
      let first = first_alone f m ts stand in
      let owned = λ (x : ℕ) (c : Contains own x). left x (tops_in f (take m ts) x first (to_top x c)) in
      let not_own : Contains own k → ⊥ = λ c. (let l = above k (owned k c) in omega arith) in
      let g = linked k (entries.List order m) js f in
      let rows = λ (i j : ℕ) (h : slice_get f.rows i ≡ Some j). read_before f.rows (reverse own) i j h in
      let as_many : count (as_trees (take m ts)) ≡ m =
      sym (length-tops (as_trees (take m ts))) ∙ ap length (tops-as_trees (take m ts) ∙ sym firsts)
      ∙ length-take-le m (map top ts) many in
      let row : reverse own ≡ tops (as_trees (take m ts)) =
      ap (λ (ks : List ℕ). reverse ks) used ∙ reverse-reverse (take m (map top ts)) ∙ firsts
      ∙ sym (tops-as_trees (take m ts)) in
      record {
        keeps = record {
          parts = take-set-le (length old.parts) f.parts k _ (omega arith) ∙ p.keeps.parts;
          owners =
              take-own_all (length old.owners) (Some k) own f.owners
              (λ x c. (let l = above x (owned x c) in omega (arith, level))) ∙ p.keeps.owners;
          rows =
              take-append-le (length old.rows) f.rows (reverse own)
              (kept_long (length old.rows) f.rows old.rows p.keeps.rows refl) ∙ p.keeps.rows;
        };
        parts = length-set f.parts k _ ∙ p.parts;
        owners = length-own_all (Some k) own f.owners ∙ p.owners ∙ sym (length-set f.parts k _);
        read = λ i l. read_other f.parts k (length old.parts + i) _ (λ q. omega arith) ∙ p.read i (omega arith);
        free = λ i l.
            own_others (Some k) own f.owners (length old.parts + i)
            (λ c. (let q = above (length old.parts + i) (owned (length old.parts + i) c) in omega arith))
            ∙ p.free i (omega arith);
        roots =
            ap (λ (ks : List ℕ). take (length ks - m) ks ++ k ∷ []) roots
            ∙ ap (λ (ks : List ℕ). ks ++ k ∷ []) (cut.1 ∙ ap (λ (ks : List ℕ). reverse ks) (drop-map top m ts))
            ∙ sym (reverse-append (k ∷ []) (map top (drop m ts)))
            ∙ sym (ap (λ us. reverse (map top us)) all);
        stand =
            subst (AllAlone g) (sym all) (
              (
                length f.rows,
                record {
                  part =
                      read_set f.parts k _ (omega (arith, p.parts))
                      ∙ ap (λ q. Some (Row order (length f.rows) q)) (sym as_many);
                  owner = own_others (Some k) own f.owners k not_own ∙ p.free n (omega arith);
                },
                record {
                  at = λ i l.
                      read_behind f.rows (reverse own) i ∙ ap (λ (ks : List ℕ). slice_get ks i) row;
                },
                owned_carried f g k own (take m ts) first (apart_left (numbers_in (take m ts)) (numbers_in (drop m ts)) both)
                    (λ x c. (let l = above x (left x c) in omega arith))
                    (λ x c. read_other f.parts k x _ (λ q. (let l = above x (left x c) in omega arith)))
                    (λ x c. own_others (Some k) own f.owners x c)
                    (λ x c. own_each (Some k) own f.owners x (from_top x c)
                    (below x (left x (tops_in f (take m ts) x first c))))
                    (λ x c d. to_top x d) rows,
              ),
              alone_carried f g (drop m ts) (last_alone f m ts stand)
                  (λ x c. read_other f.parts k x _ (λ q. (let l = above x (right x c) in omega arith)))
                  (λ x c. own_others (Some k) own f.owners x
                  (λ d. apart_disjoint (numbers_in (take m ts)) (numbers_in (drop m ts)) both x
                  (tops_in f (take m ts) x first (to_top x d)) c)) rows,
            );
      }

-- ---- the first and the last step

free_read : (n i : ℕ) → i < n → ◌≡◌ {A = Option (Option ℕ)} (slice_get (replicate n None) i) (Some None)
free_read zero i l = absurd (omega arith)
free_read (suc n) zero l = refl
free_read (suc n) (suc i) l = free_read n i (omega arith)

-- entries that are behind a frame without their parts are yet to be planted
pub planting_first : (es : List Entry) (js : List ℕ) (old f : Frame) → js ≡ [] → KeepsFirst old f
    → f.parts ≡ old.parts ++ map part_of es → f.owners ≡ old.owners ++ replicate (length es) None
    → length old.owners ≡ length old.parts → Planting es (length es) js old f
planting_first es js old f none keeps parts owners level =
    let m = length es in
    let gone : drop m es ≡ [] = drop_all m es (omega arith) in
    let empty : length {A = Option ℕ} (replicate m None) ≡ m = length-replicate m None in
    record {
      keeps = keeps;
      parts =
          ap length parts ∙ length-append old.parts (map part_of es)
          ∙ ap (λ n. length old.parts + n) (length-map es part_of);
      owners =
          omega (
            arith,
            ap length parts,
            length-append old.parts (map part_of es),
            length-map es part_of,
            ap length owners,
            length-append old.owners (replicate m None),
            empty,
            level,
          );
      read = λ i l.
          ap (λ (ps : List Part). slice_get ps (length old.parts + i)) parts
          ∙ read_behind old.parts (map part_of es) i ∙ slice_get-map part_of es i;
      free = λ i l.
          ap (λ (os : List (Option ℕ)). slice_get os (length old.parts + i)) owners
          ∙ ap (λ q. slice_get (old.owners ++ replicate m None) (q + i)) (sym level)
          ∙ read_behind old.owners (replicate m None) i ∙ free_read m i l;
      roots = none ∙ sym (ap (λ xs. reverse (map top (trees_at (length old.parts + m) xs))) gone);
      stand = subst (λ xs. AllAlone f (trees_at (length old.parts + m) xs)) (sym gone) tt;
    }

-- there are as many trees as networks
trees_forest : (k : ℕ) (es : List Entry) → length (trees_at k es) ≡ length (forest [] es)
trees_forest k [] = refl
trees_forest k (entries.Task cell immediate ∷ es) = ap suc (trees_forest (suc k) es)
trees_forest k (entries.List order m ∷ es) =
    ap suc
    (length-drop m (trees_at (suc k) es) ∙ ap (λ q. q - m) (trees_forest (suc k) es)
    ∙ sym (length-drop m (forest [] es)))

-- a list of closed entries has two parts or more behind it
closed_at : (es : List Entry) (n m : ℕ) (order : Order) → AreClosed es → slice_get es n ≡ Some (entries.List order m)
    → (2 ≤ m) × (m ≤ length (forest [] (drop (suc n) es)))
closed_at [] n m order h e = absurd cc
closed_at (entries.Task cell immediate ∷ es) zero m order h e = absurd cc
closed_at (entries.Task cell immediate ∷ es) (suc n) m order h e = closed_at es n m order h e
closed_at (entries.List o q ∷ es) zero m order h e =
    let same : q ≡ m = cc in
    subst (λ r. (2 ≤ r) × (r ≤ length (forest [] es))) same (h.0, h.1)
closed_at (entries.List o q ∷ es) (suc n) m order h e = closed_at es n m order h.2 e

module _ (es : List Entry) (n : ℕ) (js : List ℕ) (old f : Frame) (p : Planting es (suc n) js old f)
    (closed : AreClosed es) where
  -- a list that is planted has roots
  pub has_roots : (e : Entry) → slice_get es n ≡ Some e → HasRoots e js
  has_roots (entries.Task cell immediate) read = tt
  has_roots (entries.List order m) read =
      let h = closed_at es n m order closed read in
      let two = h.0 in
      let ts = trees_at (length old.parts + suc n) (drop (suc n) es) in
      let many = trees_forest (length old.parts + suc n) (drop (suc n) es) in
      let most = h.1 in (
        omega arith,
        omega (arith, ap length p.roots, length-reverse (map top ts), length-map ts top),
      )

  -- roots have owners
  pub roots_within : All (λ j. j < length f.owners) js
  roots_within = λ i d l.
      let k = length old.parts + suc n in
      let ts = trees_at k (drop (suc n) es) in
      let c : Contains (numbers_in ts) (get_or js i d) =
      tops_in f ts (get_or js i d) p.stand
      (from_reverse (map top ts) (get_or js i d)
      (subst (λ (ks : List ℕ). Contains ks (get_or js i d)) p.roots (Contains-get_or js i d l))) in
      let below = range_below k (numbers_in ts) (get_or js i d) (trees_range k (drop (suc n) es)) c in
      let some : n < length es = n_within i d l in
      omega (arith, trees_many k (drop (suc n) es), length-drop (suc n) es, p.parts, p.owners)
    where
      n_within : (i d : ℕ) → i < length js → n < length es
      n_within i d l =
          ⊎_elim (λ h. h)
          (λ h.
          let gone : drop (suc n) es ≡ [] = drop_all (suc n) es (omega arith) in
          let none : length js ≡ 0 =
          ap length (p.roots ∙ ap (λ xs. reverse (map top (trees_at (length old.parts + suc n) xs))) gone) in
          absurd (omega arith)) (cases_lt n (length es))

  -- an entry is planted
  pub planted_step : (e : Entry) (k : ℕ) → slice_get es n ≡ Some e → length old.owners ≡ length old.parts
      → k ≡ length old.parts + n → Planting es n (roots_left k e js) old (linked k e js f)
  planted_step (entries.Task cell immediate) k read level is =
      subst (λ q. Planting es n (js ++ q ∷ []) old f) (sym is) (task_planted es n js old f p cell immediate read)
  planted_step (entries.List order m) k read level is =
      let h = has_roots (entries.List order m) read in
      subst
      (λ q. Planting es n (roots_left q (entries.List order m) js) old (linked q (entries.List order m) js f)) (sym is)
      (list_planted es n js old f p order m read h.0 h.1 level)

-- each cell stays below a count where a list gets its parts
pub linked_below : (k n : ℕ) (e : Entry) (js : List ℕ) (f : Frame) → All (PartBelow k) f.parts
    → All (PartBelow k) (linked n e js f).parts
linked_below k n (entries.Task cell immediate) js f h = h
linked_below k n (entries.List order m) js f h = All-set (PartBelow k) f.parts n _ tt h

part_below : (k : ℕ) (e : Entry) → EntryBelow k e → PartBelow k (part_of e)
part_below k (entries.Task cell immediate) h = h
part_below k (entries.List order m) h = tt

-- each cell is below a count behind others
pub entries_below : (k : ℕ) (es : List Entry) (ps : List Part) → All (EntryBelow k) es → All (PartBelow k) ps
    → All (PartBelow k) (ps ++ map part_of es)
entries_below k es ps h g =
    All-append (PartBelow k) ps (map part_of es) g
    (All-map (PartBelow k) part_of es
    (All-weaker (EntryBelow k) (λ e. PartBelow k (part_of e)) (λ e b. part_below k e b) es h))
