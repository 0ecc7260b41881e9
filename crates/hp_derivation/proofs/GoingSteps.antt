-- What deeds make of the network that is gone through, and what they lead to.
use Rattle.std.proofs.Common.{◌≡◌, ℕ, suc, ◌+◌, ◌<◌, ◌≤◌, Bool, true, false, List, [], ◌∷◌, ◌++◌, length, map, replicate, Option, Some, None, option_map, get_or, slice_get, slice_set, refl, sym, ap, ap₂, ◌∙◌, subst, arith, add-one, length-append}
use Rattle.std.specs.Borrow.{Bor}
use Rattle.std.specs.Option.{option_and_then}
use Rattle.std.specs.Slice.{IsItemAt}
use Rattle.std.proofs.lemmas.List.{length-replicate, length-set}
use Rattle.std.proofs.lemmas.Option.{none-some, same_Some, slice_get-get_or, slice_get-map, slice_get_past}
use Rattle.std.proofs.lemmas.List.Elements.{All-get_or}
use Rattle.std.specs.List.{All}
use Rattle.hp_syntax.specs.Networks.{Network, Place, Task, normal, part_at, candidates, finish, expand}
use Rattle.hp_syntax.specs.Syntax.{Rule, Tasks}
use Rattle.hp_syntax.specs.Terms.{Term}
use Rattle.hp_eval.specs.declared.tasks.TaskTree.{TaskTree}
use Rattle.hp_eval.specs.GoalViews.{network_of, term_at}
use Rattle.hp_eval.specs.Growth.{Grows}
use Rattle.hp_eval.proofs.GrowthLemmas.{grows_on, grows_self}
use Rattle.hp_links.specs.Linked.{Linked, focused, place_of, NamesTask}
use Rattle.hp_way.specs.Ways.{Deed}
use Rattle.hp_derivation.specs.declared.going.Going.{Going}
use Rattle.hp_derivation.specs.declared.going.Taken as taken_up
use Rattle.hp_derivation.specs.declared.roll.Roll.{Roll}
use Rattle.hp_derivation.specs.declared.roll.Stood.{Stood}
use Rattle.hp_derivation.specs.Derived.{Fate, Stage, Taken, after, by_rule, come_from, done_by, expanded, fared, finished, first_stage, taken, taken_at}
use Rattle.hp_derivation.specs.Goings.{Fares, IsAt, Stands, Takes}
use Rattle.hp_derivation.specs.Numbering.{number_in, number_of, numbered, task_count}
use Rattle.hp_derivation.specs.Orders.{put_all}
use Rattle.hp_derivation.specs.Rolls.{IsRoll}

-- ---- what stands at a place

-- what is lent at a place, if an item is there
pub item_at : {X Y : Type 0} (view : X → Y) (xs : List X) (i : ℕ) (r : Option (Bor X)) → IsItemAt xs i r
    → option_map (λ (b : Bor X). view b.now) r ≡ slice_get (map view xs) i
item_at view xs i None h = sym (slice_get-map view xs i ∙ ap (option_map view) (slice_get_past xs i h.3))
item_at view xs i (Some b) h =
    sym
    (slice_get-map view xs i
    ∙ ap (option_map view) (slice_get-get_or xs i b.now h.3.0 ∙ ap Some (sym h.1)))

-- ---- candidates

-- a place that two lists have alike
by_place : (q : Option Place) (o : Option Place) → option_map (λ (p : Place). Some p) o ≡ Some q
    → (p : Place) × (q ≡ Some p) × (o ≡ Some p)
by_place q None e = absurd (none-some q e)
by_place q (Some p) e = (p, sym (same_Some (Some p) q e), refl)

module _ (net : Linked) (found : List ℕ) (places : List Place) (i : ℕ)
    (same : map (place_of net) found ≡ map (λ (p : Place). Some p) places) where
  -- what stands in both at a number
  both : option_map (λ (p : Place). Some p) (slice_get places i) ≡ option_map (place_of net) (slice_get found i)
  both =
      sym (slice_get-map (λ (p : Place). Some p) places i)
      ∙ (sym (ap (λ (os : List (Option Place)). slice_get os i) same) ∙ slice_get-map (place_of net) found i)

  -- a candidate that is found is the one of its number
  pub candidate_there : (id : ℕ) → i < length found → id ≡ get_or found i id → All (NamesTask net) found
      → IsAt net (Some id) (slice_get places i)
  candidate_there id lt is names =
      let there : slice_get found i ≡ Some id = slice_get-get_or found i id lt ∙ ap Some (sym is) in
      let p = by_place (place_of net id) (slice_get places i) (both ∙ ap (option_map (place_of net)) there) in
      (subst (NamesTask net) (sym is) (All-get_or (NamesTask net) found i id lt names), p.0, p.1, p.2)

  -- where no more are found, there is none of the number
  pub candidate_missing : length found ≤ i → slice_get places i ≡ None
  candidate_missing le =
      none_by (slice_get places i) (both ∙ ap (option_map (place_of net)) (slice_get_past found i le))
    where
      none_by : (o : Option Place) → option_map (λ (p : Place). Some p) o ≡ None → o ≡ None
      none_by None e = refl
      none_by (Some p) e = absurd (none-some (Some p) (sym e))

-- ---- what a deed takes

-- the number of the task at a place is the one that its cell names
pub number_met : (g : Going) (s : Stage) (p : Place) (cell : ℕ) (o : Option ℕ) → Stands g s
    → (immediate : Bool)
    × (part_at (focused g.cells g.net.now).0 p ≡ Some (Task (term_at g.cells cell) immediate))
    → o ≡ number_of (term_at g.cells cell) → number_in (part_at s.network p) ≡ o
number_met g s p cell o st at e =
    ap (λ (n : Network × Option Place). number_in (part_at n.0 p)) (sym (st.network g.cells (grows_self g.cells)))
    ∙ (ap number_in at.1 ∙ sym e)

module _ (rules : List Rule) (d : Deed) (s : Stage) (p : Place) where
  -- no number stands there
  pub taken_none : number_in (part_at s.network p) ≡ None → taken_at rules d s p ≡ None
  taken_none e = rw e refl

  -- no task has the number
  pub taken_no_task : (n : ℕ) → number_in (part_at s.network p) ≡ Some n → slice_get s.tasks n ≡ None
      → taken_at rules d s p ≡ None
  taken_no_task n e f = rw (e, f) refl

  -- by the fate of the task
  pub taken_fate : (n : ℕ) (t : Stood) (f : Option Fate) → number_in (part_at s.network p) ≡ Some n
      → slice_get s.tasks n ≡ Some t → f ≡ by_rule d.branch (slice_get rules d.rule)
      → taken_at rules d s p
      ≡ option_map (λ x. record { place = p; number = n; task = t; fate = x }) f
  taken_fate n t f e g h = rw (e, g, ← h) refl

-- what is taken at the candidate of a number
pub taken_there : (rules : List Rule) (d : Deed) (s : Stage) (o : Option Place)
    → slice_get (candidates s.network s.focus) d.candidate ≡ o
    → taken rules d s ≡ option_and_then (taken_at rules d s) o
unfolding taken
taken_there rules d s o e = ap (option_and_then (taken_at rules d s)) e

-- the candidates of the network are those of the stage
pub candidates_met : (g : Going) (s : Stage) (number : ℕ) → Stands g s
    → slice_get (candidates (focused g.cells g.net.now).0 (focused g.cells g.net.now).1) number
    ≡ slice_get (candidates s.network s.focus) number
candidates_met g s number st =
    ap (λ (n : Network × Option Place). slice_get (candidates n.0 n.1) number)
    (st.network g.cells (grows_self g.cells))

-- ---- what becomes of the network

module _ (g h : Going) (k : ℕ) (u : taken_up.Taken) (s : Stage) (t : Taken) (st : Stands g s) (tk : Takes g u t) where
  -- an operator
  pub finish_stands : h.cells ≡ g.cells → h.next ≡ g.next
      → ((terms : List Term) (p : Place) → place_of g.net.now u.id ≡ Some p
      → focused terms h.net.now ≡ finish (focused terms g.net.now).0 p)
      → ((ts : List Stood) (xs : List ℕ) → IsRoll g.roll ts xs
      → IsRoll h.roll (slice_set ts u.number (done_by k u.task)) xs)
      → Stands h (finished k t s)
  finish_stands cells next net roll = record {
    network =
        λ terms grows.
        net terms t.place tk.place
        ∙ ap (λ (n : Network × Option Place). finish n.0 t.place)
        (st.network terms (subst (λ c. Grows c terms) cells grows));
    next = next ∙ (st.next ∙ sym (length-set s.tasks t.number (done_by k t.task)));
    roll =
        subst (λ ts. IsRoll h.roll ts s.order)
        (ap₂ (λ n v. slice_set s.tasks n (done_by k v)) tk.number tk.task)
        (roll s.tasks s.order st.roll);
  }

  -- a branch of a method
  pub expand_stands : (ts : Tasks) (tree : TaskTree) (between : Roll) (sub : Stood) (level count : ℕ)
      → Grows g.cells h.cells → h.next ≡ g.next + task_count ts → count ≡ task_count ts
      → level ≡ u.task.level + 1 → sub ≡ come_from (Some u.number) level
      → ((terms : List Term) → Grows h.cells terms → network_of terms tree ≡ numbered g.next ts)
      → ((terms : List Term) (p : Place) → place_of g.net.now u.id ≡ Some p
      → focused terms h.net.now ≡ expand (focused terms g.net.now).0 p (normal (network_of terms tree)))
      → ((us : List Stood) (xs : List ℕ) → IsRoll g.roll us xs
      → IsRoll between (slice_set us u.number (done_by k u.task)) xs)
      → ((us : List Stood) (xs : List ℕ) → IsRoll between us xs
      → IsRoll h.roll (us ++ replicate count sub) (put_all sub.parent (length us) count xs))
      → Stands h (expanded k t ts s)
  expand_stands ts tree between sub level count grown next count_is level_is sub_is trees net note put =
      let x = slice_set s.tasks u.number (done_by k u.task) in
      let y = slice_set s.tasks t.number (done_by k t.task) in
      let m = task_count ts in
      let z = come_from (Some t.number) (suc t.task.level) in
      let deeper : level ≡ suc t.task.level =
      level_is ∙ (add-one u.task.level ∙ ap (λ (v : Stood). suc v.level) tk.task) in
      let tasks_is : x ++ replicate count sub ≡ y ++ replicate m z =
      ap₂ ◌++◌ (ap₂ (λ n v. slice_set s.tasks n (done_by k v)) tk.number tk.task)
      (ap₂ replicate count_is (sub_is ∙ ap₂ (λ n l. come_from (Some n) l) tk.number deeper)) in
      let order_is : put_all sub.parent (length x) count s.order ≡ put_all (Some t.number) (length s.tasks) m s.order =
      ap (λ (v : Stood). put_all v.parent (length x) count s.order) sub_is
      ∙ (ap₂ (λ n j. put_all (Some n) j count s.order) tk.number (length-set s.tasks u.number (done_by k u.task))
      ∙ ap (λ j. put_all (Some t.number) (length s.tasks) j s.order) count_is) in
      record {
        network =
            λ terms grows.
            net terms t.place tk.place
            ∙ (ap (λ (n : Network × Option Place). expand n.0 t.place (normal (network_of terms tree)))
            (st.network terms (grows_on g.cells h.cells terms grown grows))
            ∙ (ap (λ n. expand s.network t.place (normal n)) (trees terms grows)
            ∙ ap (λ j. expand s.network t.place (normal (numbered j ts))) st.next));
        next =
            omega (
              arith,
              next,
              st.next,
              length-append y (replicate m z),
              length-replicate m z,
              length-set s.tasks t.number (done_by k t.task),
            );
        roll =
            subst (λ us. IsRoll h.roll us (put_all (Some t.number) (length s.tasks) m s.order)) tasks_is
            (subst (λ o. IsRoll h.roll (x ++ replicate count sub) o) order_is
            (put x s.order (note s.tasks s.order st.roll)));
      }

-- ---- what deeds lead to

-- so many deeds are done, and the others lead to what all do
pub record IsOnTheWay (g : Going) (rules : List Rule) (k : ℕ) (ds : List Deed) (whole : Option Stage) : Type 0 where
  pub stage : Stage
  pub stands : Stands g stage
  pub left : after rules k ds stage ≡ whole

module _ (g h : Going) (rules : List Rule) (k : ℕ) (d : Deed) (ds : List Deed) (whole : Option Stage) where
  -- one more is done
  pub way_more : IsOnTheWay g rules k (d ∷ ds) whole
      → ((s : Stage) → Stands g s → Fares true h k s (taken rules d s)) → IsOnTheWay h rules (k + 1) ds whole
  way_more w fares =
      let s = w.stage in
      let f = fares s w.stands in
      record {
        stage = fared k f.0 f.0.fate s;
        stands = f.2;
        left =
            ap (λ j. after rules j ds (fared k f.0 f.0.fate s)) (add-one k)
            ∙ (sym (ap (option_and_then (λ t. after rules (suc k) ds (fared k t t.fate s))) f.1) ∙ w.left);
      }

  -- one takes nothing that is there
  pub way_lost : IsOnTheWay g rules k (d ∷ ds) whole
      → ((s : Stage) → Stands g s → Fares false h k s (taken rules d s)) → whole ≡ None
  way_lost w fares =
      let s = w.stage in
      sym w.left ∙ ap (option_and_then (λ t. after rules (suc k) ds (fared k t t.fate s))) (fares s w.stands)

-- what is taken may be said otherwise
pub fares_same : (b : Bool) (g : Going) (k : ℕ) (s : Stage) (u v : Option Taken) → u ≡ v → Fares b g k s u
    → Fares b g k s v
fares_same b g k s u v e h = subst (Fares b g k s) e h

-- ---- the beginning

-- the tasks of a problem
pub begin_stands : (h : Going) (ts : Tasks) (tree : TaskTree) (first : Roll) (task : Stood) (count : ℕ)
    → h.next ≡ task_count ts → count ≡ h.next → task ≡ come_from None 0
    → ((terms : List Term) → Grows h.cells terms → network_of terms tree ≡ numbered 0 ts)
    → ((terms : List Term) → focused terms h.net.now ≡ (normal (network_of terms tree), None))
    → IsRoll first [] []
    → ((us : List Stood) (xs : List ℕ) → IsRoll first us xs
    → IsRoll h.roll (us ++ replicate count task) (put_all task.parent (length us) count xs))
    → Stands h (first_stage ts)
unfolding first_stage
begin_stands h ts tree first task count next count_is task_is trees net empty put =
    let m = task_count ts in
    let z = come_from None 0 in
    let tasks_is : replicate count task ≡ replicate m z = ap₂ replicate (count_is ∙ next) task_is in
    let order_is : put_all task.parent 0 count [] ≡ put_all None 0 m [] =
    ap (λ (v : Stood). put_all v.parent 0 count []) task_is ∙ ap (λ j. put_all None 0 j []) (count_is ∙ next) in
    record {
      network =
          λ terms grows. net terms ∙ ap (λ (n : Network). (normal n, None)) (trees terms grows);
      next = next ∙ sym (length-replicate m z);
      roll =
          subst (λ us. IsRoll h.roll us (put_all None 0 m [])) tasks_is
          (subst (λ o. IsRoll h.roll (replicate count task) o) order_is (put [] [] empty));
    }

-- ---- the end

-- where all deeds are done, what stands is what they lead to
pub way_end : (g : Going) (rules : List Rule) (k : ℕ) (whole : Option Stage) → IsOnTheWay g rules k [] whole
    → (s : Stage) × Stands g s × (whole ≡ Some s)
way_end g rules k whole w = (w.stage, w.stands, sym w.left)
