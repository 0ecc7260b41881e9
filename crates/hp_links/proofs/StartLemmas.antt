-- A network in which nothing was done yet.
use Rattle.std.proofs.Common.{◌≡◌, ℕ, zero, suc, ◌+◌, ◌≤◌, List, [], ◌∷◌, length, Option, Some, None, refl, sym, ap, subst, ◌∙◌, arith}
use Rattle.std.specs.Prelude.{IfSome}
use Rattle.std.proofs.lemmas.List.{append-nil}
use Rattle.hp_syntax.specs.Networks as plain
use Rattle.hp_syntax.specs.Terms.{Term}
use Rattle.hp_eval.specs.declared.tasks.TaskTree.{TaskTree}
use Rattle.hp_eval.specs.GoalViews.{network_of}
use Rattle.hp_links.specs.declared.entry.Entry.{Entry}
use Rattle.hp_links.specs.declared.entry.Entry.TheVariants as entries
use Rattle.hp_links.specs.Entries.{forest, AreClosed}
use Rattle.hp_links.specs.Fronts.{front_at}
use Rattle.hp_links.specs.Frames.{Frame, top, Stands, tree_at, IsHeld}
use Rattle.hp_links.specs.Labelled.{Tree, Gone, numbers, IsFull, front_of, network}
use Rattle.hp_links.specs.Linked.{Linked, whole}
use Rattle.hp_links.specs.Planted.{trees_at, AllAlone, Planting}
use Rattle.hp_links.specs.Pushed.{kept, Adds}
use Rattle.hp_links.specs.Undoing.{Starts, first_of_entries}
use Rattle.hp_links.proofs.ChangeLemmas.{normal_from_full}
use Rattle.hp_links.proofs.EntryLemmas.{kept_many, kept_none, kept_one, one_tree_at, trees_full, AllFull}
use Rattle.hp_links.proofs.GraftLemmas.{first_number}
use Rattle.hp_links.proofs.HeldLemmas.{held, tree_at-top}
use Rattle.hp_links.proofs.HungLemmas.{alone, number_top}
use Rattle.hp_links.proofs.PlantLemmas.{IsRange, numbers_in, range_apart, trees_range}
use Rattle.hp_links.proofs.PushedLemmas.{one_or_none}
use Rattle.hp_links.proofs.StageLemmas.{staged}

-- the tree of the first entry, where the entries are one network
record FirstTree (es : List Entry) (f : Frame) : Type 0 where
  tree : Tree
  is : trees_at 0 es ≡ tree ∷ []
  stands : Stands f None tree
  full : IsFull tree
  range : IsRange 0 (numbers tree)
  top : top tree ≡ 0

first_tree : (es : List Entry) (js : List ℕ) (old f : Frame) → length old.parts ≡ 0 → Planting es 0 js old f
    → AreClosed es → length (forest [] es) ≡ 1 → FirstTree es f
first_tree es js old f empty p closed one =
    let t = one_tree_at 0 es one in
    let e : length old.parts + 0 ≡ 0 = omega arith in
    let stands = (subst (AllAlone f) t.1 (subst (λ q. AllAlone f (trees_at q es)) e p.stand)).0 in
    let range = subst (IsRange 0) (ap numbers_in t.1 ∙ append-nil (numbers t.0)) (trees_range 0 es) in
    record {
      tree = t.0;
      is = t.1;
      stands = stands;
      full = (subst AllFull t.1 (trees_full 0 es closed)).0;
      range = range;
      top = first_number f None t.0 0 stands range;
    }

-- a network of entries has some
one_forest : (e : Entry) (es : List Entry) → length (forest [] (e ∷ es)) ≤ 1 → length (forest [] (e ∷ es)) ≡ 1
one_forest (entries.Task cell immediate) es l = omega arith
one_forest (entries.List order n) es l = omega arith

-- the first entry is held, if there is one
pub first_held : (es : List Entry) (js : List ℕ) (old f : Frame) → length old.parts ≡ 0 → Planting es 0 js old f
    → AreClosed es → length (forest [] es) ≤ 1 → IfSome (first_of_entries es) (λ k. IsHeld f k)
first_held [] js old f empty p closed most = tt
first_held (e ∷ es) js old f empty p closed most =
    let t = first_tree (e ∷ es) js old f empty p closed (one_forest e es most) in
    held f None t.tree 0 t.stands t.full t.top

-- the network of entries that were planted alone
pub starts : (es : List Entry) (js : List ℕ) (old f : Frame) (root front : Option ℕ) → length old.parts ≡ 0
    → Planting es 0 js old f → AreClosed es → length (forest [] es) ≤ 1 → root ≡ first_of_entries es
    → front ≡ front_at f root
    → Starts es (record { parts = f.parts; owners = f.owners; rows = f.rows; root = root; focus = None; front = front })
starts [] js old f root front empty p closed most is at =
    let s : Linked = record {
      parts = f.parts;
      owners = f.owners;
      rows = f.rows;
      root = root;
      focus = None;
      front = front;
    } in
    let stage = staged s Gone (record { is = is; stands = tt }) p.owners tt tt tt (at ∙ ap (front_at f) is) in
    record { stage = stage.0; none = λ e. stage.1; one = λ t e. absurd cc; focus = refl }
starts (e ∷ es) js old f root front empty p closed most is at =
    let s : Linked = record {
      parts = f.parts;
      owners = f.owners;
      rows = f.rows;
      root = root;
      focus = None;
      front = front;
    } in
    let t = first_tree (e ∷ es) js old f empty p closed (one_forest e es most) in
    let tree : tree_at f 0 ≡ t.tree = ap (tree_at f) (sym t.top) ∙ tree_at-top f None t.tree t.stands in
    let stage =
    staged s t.tree
    (record {
      is = is ∙ ap Some (sym t.top) ∙ sym (number_top f None t.tree t.stands);
      stands = alone f t.tree t.stands;
    }) p.owners
    (normal_from_full t.tree t.full) (range_apart 0 (numbers t.tree) t.range) tt
    (at ∙ ap (front_at f) is ∙ ap front_of tree) in
    record {
      stage = stage.0;
      none = λ g. absurd cc;
      one = λ u g.
          stage.1 ∙ (let same : t.tree ∷ [] ≡ u ∷ [] = sym t.is ∙ g in cc);
      focus = refl;
    }

-- where there is no network there is no entry
none_entries : (es : List Entry) → length (forest [] es) ≡ 0 → es ≡ []
none_entries [] e = refl
none_entries (entries.Task cell immediate ∷ es) e = absurd (omega arith)
none_entries (entries.List order n ∷ es) e = absurd (omega arith)

-- the network of a tree's entries is its normal form
pub start_net : (tree : TaskTree) (many : ℕ) (es : List Entry) → Adds (kept tree) many [] es → (s : Linked)
    → Starts es s → (terms : List Term) → network terms (whole s) ≡ plain.normal (network_of terms tree)
start_net tree zero es a s h terms =
    ap (network terms) (h.none (none_entries es (kept_many tree zero es a [])))
    ∙ sym (kept_none tree zero es a refl terms)
start_net tree (suc zero) es a s h terms =
    let t = one_tree_at 0 es (kept_many tree 1 es a []) in
    ap (network terms) (h.one t.0 t.1) ∙ kept_one tree 1 es a 0 t.0 t.1 terms
start_net tree (suc (suc m)) es a s h terms =
    let few = one_or_none tree (suc (suc m)) [] es a in absurd (omega arith)
