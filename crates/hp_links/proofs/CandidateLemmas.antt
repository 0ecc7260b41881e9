-- The walk to the first candidates.
use Rattle.std.proofs.Common.{◌≡◌, ℕ, zero, suc, ◌||◌, ◌+◌, ◌-◌, ◌<◌, ◌≤◌, Bool, true, false, List, [], ◌∷◌, ◌++◌, length, take, drop, get_or, Option, Some, None, refl, sym, ap, ap₂, ◌∙◌, arith, append_assoc}
use Rattle.std.specs.Prelude.{slice_get, filter, option_to_list, cond}
use Rattle.std.specs.List.{All, list_any}
use Rattle.std.proofs.lemmas.List.{append-nil, reverse-append, take_all}
use Rattle.std.proofs.lemmas.List.Elements.{All-append, All-head, All-tail, All-cons, All-pop, All-push, All-same, filter-append}
use Rattle.std.proofs.lemmas.List.Folds.{list_any-append}
use Rattle.hp_eval.proofs.Loops.{left_more}
use Rattle.hp_links.specs.declared.candidates.Gathered.{Gathered}
use Rattle.hp_links.specs.declared.candidates.Stretch.{Stretch}
use Rattle.hp_links.specs.declared.entry.Order.{Order}
use Rattle.hp_links.specs.declared.entry.Order.TheVariants.{Ordered, Unordered}
use Rattle.hp_links.specs.declared.links.Part.{Part}
use Rattle.hp_links.specs.declared.links.Part.TheVariants.{Task, Row}
use Rattle.hp_links.specs.Frames.{Frame, tree_at, IsHeld}
use Rattle.hp_links.specs.Labelled.{leads}
use Rattle.hp_links.specs.Placed.{immediate_first, is_immediate}
use Rattle.hp_links.specs.Walked.{Gathers, IsStretch, IsWithinRows, LeadsTo, left_to_walk, numbers_in, pending, size, to_walk, weight}
use Rattle.hp_links.proofs.HeldLemmas.{held_list}
use Rattle.hp_links.proofs.WalkLemmas.{held_row, held_task, pending-append, weight-append}

-- ---- stretches

-- the newest stretch is walked next
newest : (rows : List ℕ) (ss : List Stretch) (s : Stretch)
    → left_to_walk rows (ss ++ s ∷ []) ≡ take s.many (drop s.start rows) ++ left_to_walk rows ss
newest rows ss s = ap (numbers_in rows) (reverse-append ss (s ∷ []))

-- of a list that begins with a value, the first ones are that value and the first ones of the others
take_first : (k : ℕ) (ks : List ℕ) (many : ℕ) → 0 < many → take many (k ∷ ks) ≡ k ∷ take (many - 1) ks
take_first k ks zero some = absurd (omega arith)
take_first k ks (suc m) some = ap (λ n. k ∷ take n ks) (omega arith)

-- the numbers in the rows from a place on are the first one and those behind it
row_split : (rows : List ℕ) (start many first : ℕ) → IsWithinRows (length rows) start many
    → first ≡ get_or rows start first → take many (drop start rows) ≡ first ∷ take (many - 1) (drop (start + 1) rows)
row_split rows start many first h is =
    let some = h.some in
    let within = h.within in
    ap (take many) (left_more rows start first (omega (arith, some, within)) is)
    ∙ take_first first (drop (start + 1) rows) many some

module _ (rows : List ℕ) (start many first : ℕ) (h : IsWithinRows (length rows) start many)
    (is : first ≡ get_or rows start first) where
  -- of a list in order the first part alone is walked
  pub enters_ordered : (order : Order) (ss : List Stretch) → order ≡ Ordered
      → first ∷ left_to_walk rows ss ≡ to_walk order (take many (drop start rows)) ++ left_to_walk rows ss
  enters_ordered order ss o =
      ap₂ (λ r (js : List ℕ). to_walk r js ++ left_to_walk rows ss) (sym o) (sym (row_split rows start many first h is))

  -- of another list the parts behind it come next
  pub enters_unordered : (order : Order) (old new : List Stretch) → order ≡ Unordered
      → new ≡ old ++ (record { start = start + 1; many = many - 1 }) ∷ []
      → first ∷ left_to_walk rows new ≡ to_walk order (take many (drop start rows)) ++ left_to_walk rows old
  enters_unordered order old new o more =
      ap (λ (ss : List Stretch). first ∷ left_to_walk rows ss) more
      ∙ (ap (λ (js : List ℕ). first ∷ js) (newest rows old (record { start = start + 1; many = many - 1 }))
      ∙ ap₂ (λ r (js : List ℕ). to_walk r js ++ left_to_walk rows old) (sym o)
      (sym (row_split rows start many first h is)))

module _ (rows : List ℕ) (old new : List Stretch) (s : Stretch) (part : ℕ) (popped : old ≡ new ++ s ∷ [])
    (within : All (IsStretch (length rows)) old) (is : part ≡ get_or rows s.start part) where
  taken : All (IsStretch (length rows)) new × IsStretch (length rows) s
  taken = All-pop (IsStretch (length rows)) old new (Some s) popped within

  next_of : left_to_walk rows old ≡ part ∷ (take (s.many - 1) (drop (s.start + 1) rows) ++ left_to_walk rows new)
  next_of =
      ap (left_to_walk rows) popped
      ∙ (newest rows new s
      ∙ ap (λ (js : List ℕ). js ++ left_to_walk rows new) (row_split rows s.start s.many part taken.1 is))

  module _ (after : List Stretch) (more : after ≡ new ++ (record { start = s.start + 1; many = s.many - 1 }) ∷ []) where
    -- the first number of a stretch is the next, and those behind it are left
    pub next_more : left_to_walk rows old ≡ part ∷ left_to_walk rows after
    next_more =
        next_of
        ∙ ap (λ (js : List ℕ). part ∷ js)
        (sym (ap (left_to_walk rows) more ∙ newest rows new (record { start = s.start + 1; many = s.many - 1 })))

    pub within_more : 1 < s.many → All (IsStretch (length rows)) after
    within_more several =
        let l = taken.1.within in
        All-same (IsStretch (length rows)) after (new ++ (record { start = s.start + 1; many = s.many - 1 }) ∷ []) more
        (All-push (IsStretch (length rows)) new (record { start = s.start + 1; many = s.many - 1 }) taken.0
        (record { some = omega (arith, several); within = omega (arith, several, l) }))

  -- the only number of a stretch is the next, and the other stretches are left
  pub next_last : s.many ≤ 1 → left_to_walk rows old ≡ part ∷ left_to_walk rows new
  next_last one =
      let none : s.many - 1 ≡ 0 = omega (arith, one) in
      next_of
      ∙ ap (λ n. part ∷ (take n (drop (s.start + 1) rows) ++ left_to_walk rows new)) none

-- ---- the next task

-- in the place of a list its parts to walk come
pub list_entered : (f : Frame) (k start many j : ℕ) (order : Order) (ls ms : List ℕ) → All (IsHeld f) (k ∷ ls)
    → slice_get f.parts k ≡ Some (Row order start many)
    → j ∷ ms ≡ to_walk order (take many (drop start f.rows)) ++ ls
    → All (IsHeld f) (j ∷ ms) × (pending f (j ∷ ms) ≡ pending f (k ∷ ls)) × (weight f (j ∷ ms) < weight f (k ∷ ls))
list_entered f k start many j order ls ms held part is =
    let js = to_walk order (take many (drop start f.rows)) in
    let w = held_row f k start many order (All-head (IsHeld f) k ls held) part in
    let less = w.less in (
      All-same (IsHeld f) (j ∷ ms) (js ++ ls) is
          (All-append (IsHeld f) js ls w.held (All-tail (IsHeld f) k ls held)),
      ap (pending f) is ∙ pending-append f js ls ∙ ap (λ (ks : List ℕ). ks ++ pending f ls) w.pending,
      omega (arith, ap (weight f) is, weight-append f js ls, less),
    )

-- a list that is held has two parts or more
pub list_several : (f : Frame) (k start many : ℕ) (order : Order) → IsHeld f k
    → slice_get f.parts k ≡ Some (Row order start many) → 2 ≤ many
list_several f k start many order h part =
    let r = held_list f h.list (tree_at f k) k start many order h.stands h.full h.top part in
    let two = r.two in
    omega (arith, r.as_many, two)

-- what isn't a list is a task: it is the first, and the others are behind it
pub task_leads : (f : Frame) (k : ℕ) (p : Part) (ks ls : List ℕ) → All (IsHeld f) (k ∷ ls)
    → slice_get f.parts k ≡ Some p → ((order : Order) (start many : ℕ) → p ≡ Row order start many → ⊥) → pending f (k ∷ ls) ≡ pending f ks
    → weight f (k ∷ ls) ≤ weight f ks → LeadsTo f ks k ls
task_leads f k (Row order start many) ks ls held part isnt same less = absurd (isnt order start many refl)
task_leads f k (Task cell immediate) ks ls held part isnt same less =
    let leaf = held_task f k cell immediate (All-head (IsHeld f) k ls held) part in
    record {
      first = sym same ∙ ap (λ t. leads t ++ pending f ls) leaf;
      held = All-tail (IsHeld f) k ls held;
      less = omega (arith, less, ap size leaf);
    }

-- ---- gathering

-- of nothing nothing is first
pub take_nil : (n : ℕ) → take n (let none : List ℕ = [] in none) ≡ []
take_nil n = take_all n [] (omega arith)

-- what none passes keeps nothing
filter_none : (p : ℕ → Bool) (ks : List ℕ) → list_any p ks ≡ false → filter p ks ≡ []
filter_none p [] e = refl
filter_none p (k ∷ ks) e = by (p k) refl e (filter_none p ks)
  where
    by : (b : Bool) → p k ≡ b → list_any p (k ∷ ks) ≡ false → (list_any p ks ≡ false → filter p ks ≡ [])
        → filter p (k ∷ ks) ≡ []
    by true is e rest = absurd (let no : true ≡ false = ap (λ c. c || list_any p ks) (sym is) ∙ e in cc)
    by false is e rest =
        ap (λ c. cond c (k ∷ filter p ks) (filter p ks)) is ∙ rest (ap (λ c. c || list_any p ks) (sym is) ∙ e)

-- the first immediate task is the only candidate among those that were looked at
pub gathers_immediate : (parts : List Part) (ks : List ℕ) (id : ℕ) (g h : Gathered) → Gathers parts ks g
    → g.immediate ≡ false → is_immediate (slice_get parts id) ≡ true → h.immediate ≡ true → h.limit ≡ g.limit
    → h.found.items ≡ take g.limit (id ∷ []) → Gathers parts (ks ++ id ∷ []) h
gathers_immediate parts ks id g h is before now told same found =
    let mark = λ (k : ℕ). is_immediate (slice_get parts k) in
    let none : list_any mark ks ≡ false = sym is.immediate ∙ before in
    let some : list_any mark (ks ++ id ∷ []) ≡ true =
    list_any-append mark ks (id ∷ []) ∙ (ap₂ (λ a b. a || (b || false)) none now) in
    let kept : filter mark (ks ++ id ∷ []) ≡ id ∷ [] =
    filter-append mark ks (id ∷ [])
    ∙ ap₂ (λ (js : List ℕ) b. js ++ cond b (id ∷ []) []) (filter_none mark ks none) now in
    record {
      immediate = told ∙ sym some;
      found =
          found
          ∙ ap₂ (λ n (js : List ℕ). take n js) (sym same)
          (sym (ap₂ (λ b (js : List ℕ). cond b js (ks ++ id ∷ [])) some kept));
    }

-- ---- the walk

-- the first tasks are those that were looked at and those of the numbers that are left: the next one, if there is one,
-- and the stretches
pub record Walks (f : Frame) (goal : List ℕ) (limit : ℕ) (next : Option ℕ) (rest : List Stretch) (g : Gathered) : Type 0
  where
    pub seen : List ℕ
    pub all : seen ++ pending f (option_to_list next ++ left_to_walk f.rows rest) ≡ goal
    pub gathers : Gathers f.parts seen g
    pub most : g.limit ≡ limit
    pub held : All (IsHeld f) (option_to_list next ++ left_to_walk f.rows rest)
    pub within : All (IsStretch (length f.rows)) rest
    pub end : next ≡ None → left_to_walk f.rows rest ≡ []

-- at first the whole tree is left
pub walks_first : (f : Frame) (start limit : ℕ) (g : Gathered) → IsHeld f start → g.limit ≡ limit
    → g.immediate ≡ false → g.found.items ≡ [] → Walks f (leads (tree_at f start)) limit (Some start) [] g
walks_first f start limit g h same none empty = record {
  seen = [];
  all = append-nil (leads (tree_at f start));
  gathers = record { immediate = none; found = empty ∙ sym (take_nil g.limit) };
  most = same;
  held = All-cons (IsHeld f) start [] h (λ i d l. absurd (omega arith));
  within = λ i d l. absurd (omega arith);
  end = λ e. absurd cc;
}

-- one task more was looked at, and the next number was taken
pub walks_on : (f : Frame) (goal : List ℕ) (limit part task : ℕ) (old mid new : List Stretch) (next : Option ℕ)
    (g h : Gathered) → Walks f goal limit (Some part) old g
    → LeadsTo f (part ∷ left_to_walk f.rows old) task (left_to_walk f.rows mid)
    → ((ks : List ℕ) → Gathers f.parts ks g → Gathers f.parts (ks ++ task ∷ []) h) → h.limit ≡ g.limit
    → left_to_walk f.rows mid ≡ option_to_list next ++ left_to_walk f.rows new
    → (next ≡ None → left_to_walk f.rows new ≡ []) → All (IsStretch (length f.rows)) new
    → Walks f goal limit next new h
walks_on f goal limit part task old mid new next g h w leads looked same taken end within = record {
  seen = w.seen ++ task ∷ [];
  all =
      append_assoc w.seen (task ∷ []) (pending f (option_to_list next ++ left_to_walk f.rows new))
      ∙ (ap (λ (ks : List ℕ). w.seen ++ ks)
      (ap (λ (ks : List ℕ). task ∷ pending f ks) (sym taken) ∙ sym leads.first)
      ∙ w.all);
  gathers = looked w.seen w.gathers;
  most = same ∙ w.most;
  held =
      All-same (IsHeld f) (option_to_list next ++ left_to_walk f.rows new) (left_to_walk f.rows mid) (sym taken)
      leads.held;
  within = within;
  end = end;
}

-- at the end the candidates are found
pub walks_end : (f : Frame) (goal : List ℕ) (limit : ℕ) (next : Option ℕ) (rest : List Stretch) (g : Gathered)
    → Walks f goal limit next rest g → next ≡ None → g.found.items ≡ take limit (immediate_first f.parts goal)
walks_end f goal limit next rest g w none =
    let over : w.seen ≡ goal =
    sym (append-nil w.seen)
    ∙ (ap (λ (ks : List ℕ). w.seen ++ pending f ks)
    (sym (ap₂ (λ o (ks : List ℕ). option_to_list o ++ ks) none (w.end none)))
    ∙ w.all) in
    w.gathers.found ∙ ap₂ (λ n (ks : List ℕ). take n (immediate_first f.parts ks)) w.most over
