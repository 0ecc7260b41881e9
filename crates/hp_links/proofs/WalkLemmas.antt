-- The walk to the first tasks.
use Rattle.std.proofs.Common.{◌≡◌, ℕ, ◌+◌, ◌-◌, ◌<◌, ◌≤◌, Bool, List, [], ◌∷◌, ◌++◌, length, take, drop, Some, refl, sym, ap, ap₂, subst, ◌∙◌, arith, append_assoc}
use Rattle.std.specs.Prelude.{slice_get, reverse}
use Rattle.std.specs.List.{All}
use Rattle.std.proofs.lemmas.List.{append-nil, reverse-append, reverse-reverse}
use Rattle.std.proofs.lemmas.List.Elements.{All-append, All-head, All-tail, All-cons, All-pop}
use Rattle.std.proofs.lemmas.Option.{slice_get_within}
use Rattle.hp_links.proofs.ListSteps.{some_read}
use Rattle.hp_links.specs.declared.links.Part.TheVariants.{Task, Row}
use Rattle.hp_links.specs.declared.entry.Order.{Order}
use Rattle.hp_links.specs.declared.entry.Order.TheVariants.{Ordered, Unordered}
use Rattle.hp_links.specs.Frames.{Frame, top, tops, AllStand, tree_at, IsHeld}
use Rattle.hp_links.specs.Labelled.{Tree, Trees, Leaf, Branch, NoTree, With, count, AreFull, leads, leads_of_all}
use Rattle.hp_links.specs.Walked.{to_walk, pending, size, sizes, weight, IsWithinRows}
use Rattle.hp_links.proofs.HeldLemmas.{held_list, held, tree_at-top}
use Rattle.hp_links.proofs.ShortenLemmas.{is_leaf}
use Rattle.hp_links.proofs.TreeLemmas.{row_read, length-tops}

-- the weight of numbers behind others is added
pub weight-append : (f : Frame) (is js : List ℕ) → weight f (is ++ js) ≡ weight f is + weight f js
weight-append f [] js = omega arith
weight-append f (i ∷ is) js = omega (arith, weight-append f is js)

-- the weight doesn't depend on the order
pub weight-reverse : (f : Frame) (js : List ℕ) → weight f (reverse js) ≡ weight f js
weight-reverse f [] = refl
weight-reverse f (j ∷ js) = ap (weight f) (reverse-append (j ∷ []) js) ∙ weight-append f (reverse js) (j ∷ [])
    ∙ omega (arith, weight-reverse f js)

-- first tasks of numbers behind others come behind theirs
pub pending-append : (f : Frame) (is js : List ℕ) → pending f (is ++ js) ≡ pending f is ++ pending f js
pending-append f [] js = refl
pending-append f (i ∷ is) js =
    ap (λ ks. leads (tree_at f i) ++ ks) (pending-append f is js)
    ∙ sym (append_assoc (leads (tree_at f i)) (pending f is) (pending f js))

-- parts that stand have the first tasks of their numbers, and their sizes
all_pending : (f : Frame) (k : ℕ) (ts : Trees) → AllStand f k ts → pending f (tops ts) ≡ leads_of_all ts
all_pending f k NoTree h = refl
all_pending f k (With t ts) h =
    ap₂ ◌++◌ (ap leads (tree_at-top f (Some k) t h.1)) (all_pending f k ts h.2)

all_weight : (f : Frame) (k : ℕ) (ts : Trees) → AllStand f k ts → weight f (tops ts) ≡ sizes ts
all_weight f k NoTree h = refl
all_weight f k (With t ts) h =
    ap₂ ◌+◌ (ap size (tree_at-top f (Some k) t h.1)) (all_weight f k ts h.2)

-- parts that stand are held
all_held : (f : Frame) (k : ℕ) (ts : Trees) → AllStand f k ts → AreFull ts → All (IsHeld f) (tops ts)
all_held f k NoTree h full = λ i d l. absurd (omega arith)
all_held f k (With t ts) h full =
    All-cons (IsHeld f) (top t) (tops ts) (held f (Some k) t (top t) h.1 full.0 refl) (all_held f k ts h.2 full.1)

-- what is walked of a list: its parts to walk are held, have its first tasks, and weigh less
pub record WalksOn (f : Frame) (k : ℕ) (js : List ℕ) : Type 0 where
  pub held : All (IsHeld f) js
  pub pending : pending f js ≡ leads (tree_at f k)
  pub less : weight f js < size (tree_at f k)

-- an ordered list is walked by its first part, another one by all
walks_parts : (f : Frame) (k : ℕ) (order : Order) (ts : Trees) → 2 ≤ count ts → AllStand f k ts → AreFull ts
    → tree_at f k ≡ Branch k order ts → WalksOn f k (to_walk order (tops ts))
walks_parts f k Ordered NoTree two h full is = absurd (omega arith)
walks_parts f k Ordered (With t ts) two h full is =
    let same = tree_at-top f (Some k) t h.1 in
    record {
      held = λ i d l. All-cons (IsHeld f) (top t) [] (held f (Some k) t (top t) h.1 full.0 refl) (λ j e m. absurd (omega arith)) i d l;
      pending = append-nil (leads (tree_at f (top t))) ∙ ap leads same ∙ sym (ap leads is);
      less = omega (arith, ap size same, ap size is);
    }
walks_parts f k Unordered ts two h full is = record {
  held = all_held f k ts h full;
  pending = all_pending f k ts h ∙ sym (ap leads is);
  less = omega (arith, all_weight f k ts h, ap size is);
}

-- the row of what is held
pub held_row : (f : Frame) (k start many : ℕ) (order : Order) → IsHeld f k
    → slice_get f.parts k ≡ Some (Row order start many) → WalksOn f k (to_walk order (take many (drop start f.rows)))
held_row f k start many order h part =
    let r = held_list f h.list (tree_at f k) k start many order h.stands h.full h.top part in
    let row : take many (drop start f.rows) ≡ tops r.parts =
    ap (λ n. take n (drop start f.rows)) (r.as_many ∙ sym (length-tops r.parts)) ∙ row_read f.rows start (tops r.parts) r.row in
    subst (λ (js : List ℕ). WalksOn f k (to_walk order js)) (sym row)
    (walks_parts f k order r.parts r.two r.stand r.full r.is)

-- the tree of a task's number is that task
pub held_task : (f : Frame) (k cell : ℕ) (immediate : Bool) → IsHeld f k
    → slice_get f.parts k ≡ Some (Task cell immediate) → tree_at f k ≡ Leaf k cell immediate
held_task f k cell immediate h part = is_leaf f h.list (tree_at f k) k cell immediate h.stands h.top part

-- numbers that are held stay so in any order
All-reverse : (f : Frame) (js : List ℕ) → All (IsHeld f) js → All (IsHeld f) (reverse js)
All-reverse f [] h = h
All-reverse f (j ∷ js) h =
    subst (All (IsHeld f)) (sym (reverse-append (j ∷ []) js))
    (All-append (IsHeld f) (reverse js) (j ∷ []) (All-reverse f js (All-tail (IsHeld f) j js h))
    (All-cons (IsHeld f) j [] (All-head (IsHeld f) j js h) (λ i d l. absurd (omega arith))))

-- the row of what is held is within the rows
pub row_within : (f : Frame) (k start many : ℕ) (order : Order) → IsHeld f k
    → slice_get f.parts k ≡ Some (Row order start many) → IsWithinRows (length f.rows) start many
row_within f k start many order h part =
    let r = held_list f h.list (tree_at f k) k start many order h.stands h.full h.top part in
    let two = r.two in
    let last = many - 1 in
    let n : last < length (tops r.parts) = omega (arith, r.as_many, length-tops r.parts) in
    let at = some_read (tops r.parts) last n in
    let l = slice_get_within f.rows (start + last) at.0 (r.row.at last n ∙ at.1) in
    record { some = omega (arith, r.as_many); within = omega (arith, r.as_many, l) }

module _ (f : Frame) (stack rest : List ℕ) (k : ℕ) (popped : stack ≡ rest ++ k ∷ []) where
  -- the last of numbers that are held is held, and so are the others
  pub popped_held : All (IsHeld f) stack → IsHeld f k × All (IsHeld f) rest
  popped_held h = let r = All-pop (IsHeld f) stack rest (Some k) popped h in (r.1, r.0)

  popped_first : pending f (reverse stack) ≡ leads (tree_at f k) ++ pending f (reverse rest)
  popped_first = ap (λ (ks : List ℕ). pending f (reverse ks)) popped
      ∙ ap (pending f) (reverse-append rest (k ∷ []))

  popped_weight : weight f stack ≡ weight f rest + size (tree_at f k)
  popped_weight = ap (weight f) popped ∙ weight-append f rest (k ∷ [])
      ∙ omega arith

  -- a task that is walked is found
  pub task_walked : (found more goal : List ℕ) (cell : ℕ) (immediate : Bool) → IsHeld f k
      → slice_get f.parts k ≡ Some (Task cell immediate) → found ++ pending f (reverse stack) ≡ goal
      → more ≡ found ++ k ∷ [] → (more ++ pending f (reverse rest) ≡ goal) × (weight f rest < weight f stack)
  task_walked found more goal cell immediate h part was is =
      let leaf = held_task f k cell immediate h part in (
        ap (λ (ks : List ℕ). ks ++ pending f (reverse rest)) is
            ∙ append_assoc found (k ∷ []) (pending f (reverse rest))
            ∙ sym (ap (λ (ks : List ℕ). found ++ ks)
            (popped_first ∙ ap (λ (t : Tree). leads t ++ pending f (reverse rest)) leaf))
            ∙ was,
        omega (arith, popped_weight, ap size leaf),
      )

  -- in the place of a list its parts are walked
  pub list_walked : (found new goal : List ℕ) (start many : ℕ) (order : Order) → IsHeld f k → All (IsHeld f) rest
      → slice_get f.parts k ≡ Some (Row order start many) → found ++ pending f (reverse stack) ≡ goal
      → new ≡ rest ++ reverse (to_walk order (take many (drop start f.rows)))
      → All (IsHeld f) new × (found ++ pending f (reverse new) ≡ goal) × (weight f new < weight f stack)
  list_walked found new goal start many order h others part was is =
      let js = to_walk order (take many (drop start f.rows)) in
      let w = held_row f k start many order h part in
      let back : reverse new ≡ js ++ reverse rest =
      ap (λ (ks : List ℕ). reverse ks) is ∙ reverse-append rest (reverse js)
      ∙ ap (λ (ks : List ℕ). ks ++ reverse rest) (reverse-reverse js) in (
        subst (All (IsHeld f)) (sym is)
            (All-append (IsHeld f) rest (reverse js) others (All-reverse f js w.held)),
        ap (λ (ks : List ℕ). found ++ ks)
            (ap (pending f) back ∙ pending-append f js (reverse rest)
            ∙ ap (λ (ks : List ℕ). ks ++ pending f (reverse rest)) w.pending ∙ sym popped_first)
            ∙ was,
        (let less = w.less in
            omega (arith, popped_weight, ap (weight f) is, weight-append f rest (reverse js), weight-reverse f js)),
      )
