-- The normal form of a tree of tasks as entries.
use Rattle.std.proofs.Common.{◌≡◌, ℕ, ◌+◌, ◌<◌, ◌≤◌, zero, suc, Bool, true, false, cond, nat_lt, List, [], ◌∷◌, ◌++◌, length, take, drop, set, map, refl, sym, ap, ap₂, subst, ◌∙◌, arith, ⊎_elim, append_assoc, length-append, get_or, Vec}
use Rattle.std.specs.List.{All, list_all, remove}
use Rattle.std.specs.Global.{Global}
use Rattle.std.proofs.lemmas.Bool.{and_parts, cases_Bool, cond_both}
use Rattle.std.proofs.lemmas.Bool.Decides.{nat_tests}
use Rattle.std.proofs.lemmas.List.{take_at, drop_at, set_at, append-nil}
use Rattle.std.proofs.lemmas.List.Elements.{All-append, All-drop, All-set, All-take}
use Rattle.hp_syntax.specs.Networks as plain
use Rattle.hp_syntax.specs.Networks.{Network, Networks, Empty, Task, And, normal, normal_parts, is_empty, unless_empty, as_list}
use Rattle.hp_syntax.specs.Terms.{Term}
use Rattle.hp_eval.specs.declared.tasks.TaskTree.{TaskTree, out-TaskTree}
use Rattle.hp_eval.specs.declared.tasks.TaskTree.TheFolds.{fold_out-TaskTree, map-TaskTree}
use Rattle.hp_eval.specs.declared.tasks.TaskTree.TheOpen.{TaskTree-F}
use Rattle.hp_eval.specs.declared.tasks.TaskTree.TheVariants as trees
use Rattle.hp_eval.specs.declared.tasks.TaskTree.TheVariants.{outs-Task, outs-Ordered, outs-Unordered}
use Rattle.hp_eval.specs.GoalViews.{term_at, as_networks, network_of, networks_of, tree_below_layer, is_tree_below, TreeBelow, TreesBelow}
use Rattle.hp_eval.proofs.TreeViews.{network_of-task, network_of-ordered, network_of-unordered}
use Rattle.hp_links.specs.declared.entry.Order.{Order}
use Rattle.hp_links.specs.declared.entry.Order.TheVariants.{Ordered, Unordered}
use Rattle.hp_links.specs.declared.entry.Entry.{Entry}
use Rattle.hp_links.specs.declared.entry.Entry.TheVariants as entries
use Rattle.hp_links.specs.Labelled.{listed}
use Rattle.hp_links.specs.Entries.{forest, AreClosed, EntryBelow}
use Rattle.hp_links.specs.Pushed.{shown, kept, kept_list, all_kept, Reads, Adds, closed}

-- ---- normal forms of trees

-- a task stays
pub kept-task : (cell : ℕ) (immediate : Bool) (terms : List Term)
    → kept (trees.Task cell immediate) terms ≡ Task (term_at terms cell) immediate ∷ []
unfolding kept normal
kept-task cell immediate terms = ap (λ n. shown (normal n)) (network_of-task terms cell immediate)

-- of an ordered list stays what its parts come to
pub kept-ordered : (parts : Vec TaskTree Global) (terms : List Term)
    → kept (trees.Ordered parts) terms ≡ kept_list Ordered parts.items terms
unfolding kept kept_list
kept-ordered parts terms = ap (λ n. shown (normal n)) (network_of-ordered terms parts)

-- of an unordered list stays what its parts come to
pub kept-unordered : (parts : Vec TaskTree Global) (terms : List Term)
    → kept (trees.Unordered parts) terms ≡ kept_list Unordered parts.items terms
unfolding kept kept_list
kept-unordered parts terms = ap (λ n. shown (normal n)) (network_of-unordered terms parts)

-- a network before others is left out where it is empty
shown_before : (n : Network) (ms : List Network) → as_networks (shown n ++ ms) ≡ unless_empty n (as_networks ms)
shown_before Empty ms = refl
shown_before (Task t i) ms = refl
shown_before (plain.Ordered ns) ms = refl
shown_before (plain.Unordered ns) ms = refl

-- the parts of a normal form are the normal forms of the parts, without the empty ones
normal_parts-kept : (ts : List TaskTree) (terms : List Term)
    → normal_parts (networks_of terms ts) ≡ as_networks (all_kept ts terms)
unfolding normal kept
normal_parts-kept [] terms = refl
normal_parts-kept (t ∷ ts) terms =
    ap (unless_empty (normal (network_of terms t))) (normal_parts-kept ts terms)
    ∙ sym (shown_before (normal (network_of terms t)) (all_kept ts terms))

-- the normal form of a list is the list of its parts' normal form
pub normal-listed : (order : Order) (ns : Networks)
    → normal (listed order ns) ≡ as_list (listed order) (normal_parts ns)
unfolding normal
normal-listed Ordered ns = refl
normal-listed Unordered ns = refl

-- of a list stays what its parts come to
kept_list-parts : (order : Order) (ts : List TaskTree) (terms : List Term)
    → kept_list order ts terms ≡ shown (as_list (listed order) (as_networks (all_kept ts terms)))
unfolding kept_list
kept_list-parts order ts terms =
    ap shown (normal-listed order (networks_of terms ts) ∙ ap (as_list (listed order)) (normal_parts-kept ts terms))

-- none of the networks is empty
abbrev AreSome : List Network → Type 0
AreSome [] = Unit {0}
AreSome (n ∷ ns) = (is_empty n ≡ false) × AreSome ns

-- networks stay none of them empty with one more, left out where it is empty
some_shown : (n : Network) (ms : List Network) → AreSome ms → AreSome (shown n ++ ms)
some_shown Empty ms h = h
some_shown (Task t i) ms h = (refl, h)
some_shown (plain.Ordered ns) ms h = (refl, h)
some_shown (plain.Unordered ns) ms h = (refl, h)

-- kept normal forms are not empty
some_kept : (ts : List TaskTree) (terms : List Term) → AreSome (all_kept ts terms)
unfolding kept
some_kept [] terms = tt
some_kept (t ∷ ts) terms = some_shown (normal (network_of terms t)) (all_kept ts terms) (some_kept ts terms)

-- a list is not empty
listed_some : (order : Order) (ns : Networks) → shown (listed order ns) ≡ listed order ns ∷ []
listed_some Ordered ns = refl
listed_some Unordered ns = refl

-- networks, none of them empty, are a list where they are two or more, and else stay
listed_kept : (order : Order) (ns : List Network) → AreSome ns
    → shown (as_list (listed order) (as_networks ns))
    ≡ cond (nat_lt (length ns) 2) ns (listed order (as_networks ns) ∷ [])
listed_kept order [] h = refl
listed_kept order (n ∷ []) h = ap (λ b. cond b [] (n ∷ [])) h.0
listed_kept order (n ∷ m ∷ ns) h =
    listed_some order (And n (And m (as_networks ns)))
    ∙ ap (λ b. cond b (n ∷ m ∷ ns) (listed order (And n (And m (as_networks ns))) ∷ []))
    (let e : nat_lt (suc (suc (length ns))) 2 ≡ false = grind (arith, nat_tests) in sym e)

-- the normal forms of trees and of one more
pub all_kept-push : (ts : List TaskTree) (t : TaskTree) (terms : List Term)
    → all_kept (ts ++ t ∷ []) terms ≡ all_kept ts terms ++ kept t terms
all_kept-push [] t terms = append-nil (kept t terms)
all_kept-push (u ∷ us) t terms =
    ap (λ ns. kept u terms ++ ns) (all_kept-push us t terms)
    ∙ sym (append_assoc (kept u terms) (all_kept us terms) (kept t terms))

-- ---- entries before others

-- no entries are no network
pub reads_none : Reads (λ _. []) 0 []
reads_none = record { forest = λ terms rest. refl; count = λ _. refl; full = λ rest h. h }

-- entries are what equal networks are
pub reads_same : (ns ms : List Term → List Network) (count : ℕ) (added : List Entry)
    → ((terms : List Term) → ms terms ≡ ns terms) → Reads ns count added → Reads ms count added
reads_same ns ms count added e r = record {
  forest = λ terms rest. r.forest terms rest ∙ ap (λ fs. fs ++ forest terms rest) (sym (e terms));
  count = λ terms. ap length (e terms) ∙ r.count terms;
  full = r.full;
}

-- entries behind others are the networks behind theirs
pub reads_more : (ns ms : List Term → List Network) (count more : ℕ) (added others : List Entry)
    → Reads ns count added → Reads ms more others
    → Reads (λ terms. ns terms ++ ms terms) (count + more) (added ++ others)
reads_more ns ms count more added others r q = record {
  forest = λ terms rest.
      ap (forest terms) (append_assoc added others rest)
      ∙ (r.forest terms (others ++ rest)
      ∙ (ap (λ fs. ns terms ++ fs) (q.forest terms rest)
      ∙ sym (append_assoc (ns terms) (ms terms) (forest terms rest))));
  count = λ terms. length-append (ns terms) (ms terms) ∙ ap₂ ◌+◌ (r.count terms) (q.count terms);
  full = λ rest h. subst AreClosed (sym (append_assoc added others rest)) (r.full (others ++ rest) (q.full rest h));
}

-- a task's entry is that task
pub reads_task : (cell : ℕ) (immediate : Bool)
    → Reads (λ terms. Task (term_at terms cell) immediate ∷ []) 1 (entries.Task cell immediate ∷ [])
reads_task cell immediate = record { forest = λ terms rest. refl; count = λ _. refl; full = λ rest h. h }

-- a list's entry before two parts or more is the list of them
reads_list : (order : Order) (ns : List Term → List Network) (count : ℕ) (added : List Entry) → 2 ≤ count
    → Reads ns count added
    → Reads (λ terms. listed order (as_networks (ns terms)) ∷ []) 1 (entries.List order count ∷ added)
reads_list order ns count added two r = record {
  forest = λ terms rest.
      ap (λ fs. listed order (as_networks (take count fs)) ∷ drop count fs) (r.forest terms rest)
      ∙ ap₂ (λ f g. listed order (as_networks f) ∷ g)
      (take_at (ns terms) (forest terms rest) count (r.count terms))
      (drop_at (ns terms) (forest terms rest) count (r.count terms));
  count = λ _. refl;
  full = λ rest h. (
    two,
    (let e = ap length (r.forest [] rest) ∙ length-append (ns []) (forest [] rest) in
        let c = r.count [] in
        omega arith),
    r.full rest h,
  );
}

-- ---- a closed list

-- behind some entries the next one goes
removed_behind : (es : List Entry) (e : Entry) (others : List Entry) (at : ℕ) → length es ≡ at
    → remove (es ++ e ∷ others) at ≡ es ++ others
removed_behind es e others at l =
    ap₂ ◌++◌ (take_at es (e ∷ others) at l) (ap (λ n. drop (suc n) (es ++ e ∷ others)) (sym l) ∙ from es)
  where
    from : (xs : List Entry) → drop (suc (length xs)) (xs ++ e ∷ others) ≡ others
    from [] = refl
    from (x ∷ xs) = from xs

-- a list closed behind entries goes, or has its number of parts
pub closed_behind : (es : List Entry) (e : Entry) (others : List Entry) (at : ℕ) (order : Order) (count : ℕ)
    → length es ≡ at
    → closed at order count (es ++ e ∷ others)
    ≡ es ++ cond (nat_lt count 2) others (entries.List order count ∷ others)
closed_behind es e others at order count l =
    ⊎_elim (λ c. rw c (removed_behind es e others at l))
    (λ c. rw c (set_at es e others (entries.List order count) at l)) (cases_Bool (nat_lt count 2))

module _ (order : Order) (ts : List TaskTree) (count : ℕ) (added : List Entry)
    (r : Reads (all_kept ts) count added) where
  -- the normal form of the list, by the number of its parts
  kept_list-count : (terms : List Term) → kept_list order ts terms
      ≡ cond (nat_lt count 2) (all_kept ts terms) (listed order (as_networks (all_kept ts terms)) ∷ [])
  kept_list-count terms =
      kept_list-parts order ts terms
      ∙ listed_kept order (all_kept ts terms) (some_kept ts terms)
      ∙ ap (λ n. cond (nat_lt n 2) (all_kept ts terms) (listed order (as_networks (all_kept ts terms)) ∷ []))
      (r.count terms)

  -- where a list goes, its parts stay
  few : nat_lt count 2 ≡ true → Reads (kept_list order ts) count added
  few e =
      reads_same (all_kept ts) (kept_list order ts) count added
      (λ terms. kept_list-count terms
      ∙ ap (λ b. cond b (all_kept ts terms) (listed order (as_networks (all_kept ts terms)) ∷ [])) e) r

  -- a list that stays is what stays of it
  many : nat_lt count 2 ≡ false → Reads (kept_list order ts) 1 (entries.List order count ∷ added)
  many e =
      reads_same (λ terms. listed order (as_networks (all_kept ts terms)) ∷ []) (kept_list order ts) 1
      (entries.List order count ∷ added)
      (λ terms. kept_list-count terms
      ∙ ap (λ b. cond b (all_kept ts terms) (listed order (as_networks (all_kept ts terms)) ∷ [])) e)
      (reads_list order (all_kept ts) count added (grind (arith, nat_tests)) r)

  -- a closed list is what stays of it
  pub adds_closed : (old : List Entry) → Adds (kept_list order ts) (cond (nat_lt count 2) count 1) old
      (closed (length old) order count (old ++ entries.List order 0 ∷ added))
  adds_closed old =
      record {
        added = cond (nat_lt count 2) added (entries.List order count ∷ added);
        is = closed_behind old (entries.List order 0) added (length old) order count refl;
        reads = ⊎_elim (λ e. rw e (few e)) (λ e. rw e (many e)) (cases_Bool (nat_lt count 2));
      }

-- the normal form of one tree is one network or none
pub length-kept : (t : TaskTree) (terms : List Term) → length (kept t terms) ≤ 1
unfolding kept
length-kept t terms =
    let n = normal (network_of terms t) in
    cond_both (is_empty n) [] (n ∷ []) (λ ns. length ns ≤ 1) (λ e. omega arith) (λ e. omega arith)

-- one tree adds one network or none
pub one_or_none : (t : TaskTree) (count : ℕ) (old new : List Entry) → Adds (kept t) count old new → count ≤ 1
one_or_none t count old new a = let c = a.reads.count [] in let l = length-kept t [] in omega arith

-- nothing is added yet behind entries
pub adds_none : (es new : List Entry) → new ≡ es → Adds (λ _. []) 0 es new
adds_none es new e = record { added = []; is = e ∙ sym (append-nil es); reads = reads_none }

-- a task put behind entries adds itself
pub adds_task : (cell : ℕ) (immediate : Bool) (old new : List Entry)
    → new ≡ old ++ entries.Task cell immediate ∷ [] → Adds (kept (trees.Task cell immediate)) 1 old new
adds_task cell immediate old new e = record {
  added = entries.Task cell immediate ∷ [];
  is = e;
  reads =
      reads_same (λ terms. Task (term_at terms cell) immediate ∷ []) (kept (trees.Task cell immediate)) 1
      (entries.Task cell immediate ∷ []) (kept-task cell immediate) (reads_task cell immediate);
}

-- entries that add networks add equal ones
pub adds_same : (ns ms : List Term → List Network) (count : ℕ) (old new : List Entry)
    → ((terms : List Term) → ms terms ≡ ns terms) → Adds ns count old new → Adds ms count old new
adds_same ns ms count old new e a =
    record { added = a.added; is = a.is; reads = reads_same ns ms count a.added e a.reads }

-- entries that add the networks of some trees, and then that of one more, add those of all
pub adds_tree : (ts us : List TaskTree) (t : TaskTree) (count one : ℕ) (old middle new : List Entry)
    → us ≡ ts ++ t ∷ [] → Adds (all_kept ts) count old middle → Adds (kept t) one middle new
    → Adds (all_kept us) (count + one) old new
adds_tree ts us t count one old middle new e a b = record {
  added = a.added ++ b.added;
  is = b.is ∙ ap (λ es. es ++ b.added) a.is ∙ append_assoc old a.added b.added;
  reads =
      reads_same (λ terms. all_kept ts terms ++ kept t terms) (all_kept us) (count + one) (a.added ++ b.added)
      (λ terms. ap (λ xs. all_kept xs terms) e ∙ all_kept-push ts t terms)
      (reads_more (all_kept ts) (kept t) count one a.added b.added a.reads b.reads);
}

-- a closed list adds what stays of it
pub adds_list : (order : Order) (ts us : List TaskTree) (count result : ℕ) (old opened closing new : List Entry)
    → us ≡ ts → opened ≡ old ++ entries.List order 0 ∷ [] → Adds (all_kept us) count opened closing
    → new ≡ closed (length old) order count closing → result ≡ cond (nat_lt count 2) count 1
    → Adds (kept_list order ts) result old new
adds_list order ts us count result old opened closing new e f a n r =
    let before : closing ≡ old ++ entries.List order 0 ∷ a.added =
    a.is ∙ ap (λ es. es ++ a.added) f ∙ append_assoc old (entries.List order 0 ∷ []) a.added in
    let reads =
    reads_same (all_kept us) (all_kept ts) count a.added (λ terms. ap (λ xs. all_kept xs terms) (sym e)) a.reads in
    let end = closed (length old) order count (old ++ entries.List order 0 ∷ a.added) in
    subst (λ es. Adds (kept_list order ts) result old es) (sym (n ∙ ap (closed (length old) order count) before))
    (subst (λ k. Adds (kept_list order ts) k old end) (sym r) (adds_closed order ts count a.added reads old))

-- ---- cells

-- each cell stays below a count as an entry goes
pub below_removed : (k at : ℕ) (es : List Entry) → All (EntryBelow k) es → All (EntryBelow k) (remove es at)
below_removed k at es h =
    All-append (EntryBelow k) (take at es) (drop (suc at) es) (All-take (EntryBelow k) at es h)
    (All-drop (EntryBelow k) (suc at) es h)

-- each cell stays below a count as a list is closed
pub below_closed : (k at : ℕ) (order : Order) (count : ℕ) (es : List Entry) → All (EntryBelow k) es
    → All (EntryBelow k) (closed at order count es)
below_closed k at order count es h =
    cond_both (nat_lt count 2) (remove es at) (set es at (entries.List order count)) (All (EntryBelow k))
    (λ e. below_removed k at es h) (λ e. All-set (EntryBelow k) es at (entries.List order count) tt h)

-- one layer of a tree is below a count
below_by : (k : ℕ) (t : TaskTree) (x : TaskTree-F TaskTree) → out-TaskTree t ≡ x
    → is_tree_below k t ≡ tree_below_layer k (map-TaskTree TaskTree Bool (is_tree_below k) x)
unfolding is_tree_below
below_by k t x h =
    fold_out-TaskTree Bool (tree_below_layer k) t
    ∙ ap (λ y. tree_below_layer k (map-TaskTree TaskTree Bool (is_tree_below k) y)) h

-- a task's cell is below what the task is below
pub task_below : (k cell : ℕ) (immediate : Bool) → TreeBelow k (trees.Task cell immediate) → cell < k
task_below k cell immediate h =
    let e : nat_lt cell k ≡ true = sym (below_by k (trees.Task cell immediate) _ (outs-Task cell immediate)) ∙ h in
    grind (arith, nat_tests)

-- the parts of an ordered list are below what it is below
pub ordered_below : (k : ℕ) (parts : Vec TaskTree Global) → TreeBelow k (trees.Ordered parts)
    → TreesBelow k parts.items
ordered_below k parts h = sym (below_by k (trees.Ordered parts) _ (outs-Ordered parts)) ∙ h

-- the parts of an unordered list are below what it is below
pub unordered_below : (k : ℕ) (parts : Vec TaskTree Global) → TreeBelow k (trees.Unordered parts)
    → TreesBelow k parts.items
unordered_below k parts h = sym (below_by k (trees.Unordered parts) _ (outs-Unordered parts)) ∙ h

-- each of some trees is below what they are below
pub part_below : (k : ℕ) (ts : List TaskTree) (i : ℕ) (d : TaskTree) → i < length ts → TreesBelow k ts
    → TreeBelow k (get_or ts i d)
part_below k [] i d l h = absurd (omega arith)
part_below k (t ∷ ts) zero d l h =
    (and_parts (is_tree_below k t) (list_all (λ b. b) (map (is_tree_below k) ts)) h).0
part_below k (t ∷ ts) (suc i) d l h =
    part_below k ts i d (omega arith) (and_parts (is_tree_below k t) (list_all (λ b. b) (map (is_tree_below k) ts)) h).1
