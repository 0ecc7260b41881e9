-- What is left of a network where a task is done.
use Rattle.std.proofs.Common.{◌≡◌, ℕ, zero, suc, ◌+◌, ◌-◌, ◌<◌, ◌≤◌, ◌==◌, ⊎_elim, inl, inr, Bool, cond, ◌||◌, List, length, Option, Some, None, refl, sym, ap, subst, ◌∙◌, arith, eq-eqb}
use Rattle.std.specs.Prelude.{slice_get}
use Rattle.std.proofs.lemmas.Bool.{ne_eqb, cases_eq}
use Rattle.std.proofs.lemmas.Option.{same_Some, slice_get_within}
use Rattle.hp_links.specs.declared.links.Part.TheVariants.{Task, Row}
use Rattle.hp_links.specs.Changing.{IsFirstFrom, HasRow, other_of, shortened}
use Rattle.hp_links.specs.Fronts.{settled}
use Rattle.hp_links.specs.Frames.{Frame, frame_of, top, tops, StandFrom, Stands, AllStand, IsWhole}
use Rattle.hp_links.specs.Labelled.{Tree, Trees, Gone, Branch, NoTree, With, count, IsFull, front_of, replaced, without, without_among, as_branch}
use Rattle.hp_links.specs.Linked.{Linked, NamesTask, whole}
use Rattle.hp_links.specs.Undoing.{IsStage}
use Rattle.hp_links.proofs.FrontLemmas.{HasLeaf, front_finished, front_full}
use Rattle.hp_links.proofs.HangLemmas.{top_owned, same_part}
use Rattle.hp_links.proofs.HungLemmas.{nth_part, number_top, alone}
use Rattle.hp_links.proofs.JoinLemmas.{joined, own_joined}
use Rattle.hp_links.proofs.ParentLemmas.{Parent, parent_of, parent_row}
use Rattle.hp_links.proofs.ShortenLemmas.{is_leaf, leaf_out, stands_shortened}
use Rattle.hp_links.proofs.StageLemmas.{stage_stands}
use Rattle.hp_links.proofs.TreeLemmas.{length-tops}

-- the first place of a part of a list is that in its row
pub place_is : (f : Frame) (list : ℕ) (js : List ℕ) (r : HasRow f list js) (x n place : ℕ) → slice_get js n ≡ Some x
    → IsFirstFrom f.rows r.span.start x place → place ≡ r.span.start + n
place_is f list js r x n place e first =
    let start = r.span.start in
    let l : n < length js = slice_get_within js n x e in
    let le : place ≤ start + n = first.first (start + n) (omega arith) (r.stand.at n l ∙ e) in
    let later = first.later in
    let back : start + (place - start) ≡ place = omega arith in
    let near : place - start < length js = omega arith in
    let same : place - start ≡ n =
    r.once (place - start) n x
    (sym (r.stand.at (place - start) near) ∙ ap (slice_get f.rows) back ∙ first.there) e in
    omega arith

-- of two parts the other one is read
other_read : (rows : List ℕ) (start n place rest : ℕ) (js : List ℕ) → StandFrom rows start js → length js ≡ 2
    → n < 2 → place ≡ start + n → slice_get rows (other_of start place) ≡ Some rest
    → (m : ℕ) × (slice_get js m ≡ Some rest) × (m ≡ n → ⊥)
other_read rows start zero place rest js h two l e read =
    let same : place ≡ start = omega arith in
    let at : other_of start place ≡ start + 1 =
    ap (λ b. cond b (start + 1) start) (eq-eqb place start same) in
    (1, sym (h.at 1 (omega arith)) ∙ ap (slice_get rows) (sym at) ∙ read, λ g. omega arith)
other_read rows start (suc zero) place rest js h two l e read =
    let other : place ≡ start → ⊥ = λ g. omega arith in
    let at : other_of start place ≡ start + 0 =
    ap (λ b. cond b (start + 1) start) (ne_eqb place start other) ∙ omega arith in
    (0, sym (h.at 0 (omega arith)) ∙ ap (slice_get rows) (sym at) ∙ read, λ g. omega arith)
other_read rows start (suc (suc n)) place rest js h two l e read = absurd (omega arith)

-- a task among parts is one of them
has_leaf : (f : Frame) (k x cell : ℕ) (immediate : Bool) (ts : Trees) (i : ℕ) → AllStand f k ts
    → slice_get (tops ts) i ≡ Some x → slice_get f.parts x ≡ Some (Task cell immediate) → HasLeaf x cell immediate ts
has_leaf f k x cell immediate NoTree i h e task = absurd cc
has_leaf f k x cell immediate (With t ts) zero h e task =
    inl (is_leaf f (Some k) t x cell immediate h.1 (same_Some _ _ e) task)
has_leaf f k x cell immediate (With t ts) (suc i) h e task =
    inr (has_leaf f k x cell immediate ts i h.2 e task)

-- the list of a named task that has one
pub task_parent : (s : Linked) (x list : ℕ) → IsStage s → NamesTask s x → slice_get s.owners x ≡ Some (Some list)
    → (r : Parent (frame_of s) (whole s) x) × (r.list ≡ list)
task_parent s x list h n own =
    let f = frame_of s in
    let w = stage_stands s x h n.among in
    ⊎_elim
    (λ e.
    let no : None ≡ Some list =
    same_Some None (Some list) (sym (top_owned f None (whole s) w.0) ∙ ap (slice_get f.owners) e ∙ own) in
    absurd cc)
    (λ r. (r, same_Some _ _ (same_Some _ _ (sym (parent_row f (whole s) x r).1 ∙ own))))
    (parent_of f None (whole s) x w.0 w.1 h.apart n.among)

-- a named task that belongs to no list is the whole network
pub task_alone : (s : Linked) (x : ℕ) → IsStage s → NamesTask s x → slice_get s.owners x ≡ Some None
    → without x (whole s) ≡ Gone
task_alone s x h n own =
    let f = frame_of s in
    let w = stage_stands s x h n.among in
    ⊎_elim
    (λ e. leaf_out f None (whole s) x n.cell n.immediate w.0 e n.is)
    (λ r.
    let no : Some r.list ≡ None = same_Some (Some r.list) None (sym (parent_row f (whole s) x r).1 ∙ own) in
    absurd cc)
    (parent_of f None (whole s) x w.0 w.1 h.apart n.among)

-- the front after a task of a list is done is looked for where the task or the list was the front
pub settle_is : (w left new : Tree) (x q f : ℕ) → front_of w ≡ Some f
    → (front_of w ≡ Some x → front_of left ≡ front_of new) × (front_of w ≡ Some q → front_of left ≡ front_of new)
    × ((front_of w ≡ Some x → ⊥) → (front_of w ≡ Some q → ⊥) → front_of left ≡ front_of w)
    → settled x q (front_of new) (front_of w) ≡ front_of left
settle_is w left new x q f e facts =
    ap (λ (o : Option ℕ). settled x q (front_of new) o) e
    ∙ ⊎_elim
    (λ g. ap (λ b. cond (b || (f == q)) (front_of new) (Some f)) (eq-eqb f x g) ∙ sym (facts.0 (e ∙ ap Some g)))
    (λ g.
    ap (λ b. cond (b || (f == q)) (front_of new) (Some f)) (ne_eqb f x g)
    ∙ ⊎_elim
    (λ k. ap (λ b. cond b (front_of new) (Some f)) (eq-eqb f q k) ∙ sym (facts.1 (e ∙ ap Some k)))
    (λ k.
    ap (λ b. cond b (front_of new) (Some f)) (ne_eqb f q k) ∙ sym e
    ∙ sym (facts.2 (λ l. g (same_Some f x (sym e ∙ l))) (λ l. k (same_Some f q (sym e ∙ l)))))
    (cases_eq f q))
    (cases_eq f x)

module _ (s : Linked) (x : ℕ) (h : IsStage s) (n : NamesTask s x) (r : Parent (frame_of s) (whole s) x) where
  -- the list of a task isn't the task
  list_other : r.list ≡ x → ⊥
  list_other e =
      let same : Row r.order r.stands.0 (count r.parts) ≡ Task n.cell n.immediate =
      same_part (frame_of s) r.list _ _ r.stands.1.part (ap (slice_get s.parts) e ∙ n.is) in
      absurd cc

  -- the whole network isn't a task that belongs to a list
  top_other : top (whole s) ≡ x → ⊥
  top_other e =
      let no : None ≡ Some r.list =
      same_Some None (Some r.list)
      (sym (top_owned (frame_of s) None (whole s) (stage_stands s x h n.among).0) ∙ ap (slice_get s.owners) e
      ∙ (parent_row (frame_of s) (whole s) x r).1) in
      absurd cc

  -- the list without the task is what is left of its parts
  list_left : without x (Branch r.list r.order r.parts) ≡ as_branch r.list r.order (without_among x r.parts)
  list_left = ap (λ b. cond b Gone (as_branch r.list r.order (without_among x r.parts))) (ne_eqb r.list x list_other)

  -- the front once the task is done is that of what is left of its list, where the task or the list was the front
  pub front_left : (left : Tree) → without x (Branch r.list r.order r.parts) ≡ left
      → settled x r.list (front_of left) s.front ≡ front_of (without x (whole s))
  front_left left is =
      let w = stage_stands s x h n.among in
      let f = front_full (whole s) w.1 in
      let facts =
      front_finished x r.list n.cell n.immediate r.order r.parts (whole s) r.is
      (has_leaf (frame_of s) r.list x n.cell n.immediate r.parts r.place r.stands.3 r.at n.is) w.1 r.full h.apart
      r.apart in
      let e = ap front_of is in
      ap (λ (o : Option ℕ). settled x r.list (front_of left) o) h.front
      ∙ settle_is (whole s) (without x (whole s)) left x r.list f.0 f.1
      (λ a. facts.0 a ∙ e, λ a. facts.1 a ∙ e, facts.2)

  -- where one part is left of the list, the network without the task has it in the list's place
  pub record Joins (rest : ℕ) : Type 0 where
    pub tree : Tree
    pub stands : Stands (frame_of s) (Some r.list) tree
    pub full : IsFull tree
    pub top : top tree ≡ rest
    pub later : r.list < rest
    pub is : without x (whole s) ≡ replaced r.list tree (whole s)
    pub left : without x (Branch r.list r.order r.parts) ≡ tree

  pub joins : (place rest : ℕ) → count r.parts ≡ 2 → IsFirstFrom s.rows r.stands.0 x place
      → slice_get s.rows (other_of r.stands.0 place) ≡ Some rest → Joins rest
  joins place rest two first read =
      let f = frame_of s in
      let row = parent_row f (whole s) x r in
      let as_many : length (tops r.parts) ≡ 2 = length-tops r.parts ∙ two in
      let at : place ≡ r.stands.0 + r.place = place_is f r.list (tops r.parts) row.0 x r.place place r.at first in
      let near : r.place < length (tops r.parts) = slice_get_within (tops r.parts) r.place x r.at in
      let other = other_read s.rows r.stands.0 r.place place rest (tops r.parts) r.stands.2 as_many (omega arith) at read in
      let part = nth_part f r.list r.parts other.0 rest r.stands.3 r.full.1 other.1 in
      let apart : top part.0 ≡ x → ⊥ = λ e.
      other.2 (row.0.once other.0 r.place x (other.1 ∙ ap Some (sym part.3 ∙ e)) r.at) in
      let rest_at : slice_get (tops r.parts) other.0 ≡ Some (top part.0) = other.1 ∙ ap Some (sym part.3) in
      let w = stage_stands s x h n.among in
      record {
        tree = part.0;
        stands = part.1;
        full = part.2;
        top = part.3;
        later = part.4;
        is =
            joined f r.list (tops r.parts) row.0 x n.cell n.immediate n.is row.1 part.0 part.1 as_many
            (r.place, r.at) (other.0, rest_at) apart None (whole s) w.0 w.1 top_other;
        left =
            list_left
            ∙ own_joined f r.list (tops r.parts) row.0 x n.cell n.immediate n.is row.1 part.0 part.1 as_many
            (r.place, r.at) (other.0, rest_at) apart r.below r.list r.order r.parts r.stands r.full.1 refl;
      }

  -- where two parts or more are left of the list, the network without the task stands in the shorter row
  pub record Shortens (f : Frame) : Type 0 where
    pub whole : IsWhole f s.root (without x (whole s))
    pub list : Stands f r.below (without x (Branch r.list r.order r.parts))
    pub top : top (without x (Branch r.list r.order r.parts)) ≡ r.list

  pub shortens : (place : ℕ) → (count r.parts ≡ 2 → ⊥) → IsFirstFrom s.rows r.stands.0 x place
      → Shortens (shortened r.list (record { order = r.order; start = r.stands.0; many = count r.parts }) place (frame_of s))
  shortens place more first =
      let f = frame_of s in
      let row = parent_row f (whole s) x r in
      let at : place ≡ r.stands.0 + r.place = place_is f r.list (tops r.parts) row.0 x r.place place r.at first in
      let two = r.full.0 in
      let three : 3 ≤ length (tops r.parts) = omega (arith, length-tops r.parts, at_least (count r.parts) two more) in
      let w = stage_stands s x h n.among in
      let all = stands_shortened f r.list (tops r.parts) row.0 x r.place n.cell n.immediate r.at n.is three in
      let new = all None (whole s) w.0 w.1 top_other in
      let list = all r.below (Branch r.list r.order r.parts) r.stands r.full list_other in
      subst (λ (q : ℕ). Shortens (shortened r.list (record { order = r.order; start = r.stands.0; many = count r.parts }) q f))
      (sym at)
      (record {
        whole = record {
          is =
              h.stands.is ∙ number_top f None (whole s) w.0 ∙ ap Some (sym new.1)
              ∙ sym (number_top _ None (without x (whole s)) new.0);
          stands = alone _ (without x (whole s)) new.0;
        };
        list = list.0;
        top = list.1;
      })
    where
      at_least : (m : ℕ) → 2 ≤ m → (m ≡ 2 → ⊥) → 3 ≤ m
      at_least zero l o = absurd (omega arith)
      at_least (suc zero) l o = absurd (omega arith)
      at_least (suc (suc zero)) l o = absurd (o refl)
      at_least (suc (suc (suc m))) l o = omega arith
