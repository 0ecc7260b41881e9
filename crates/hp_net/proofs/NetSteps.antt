-- Networks in place, and what their tasks and changes are in the definition.
use Rattle.std.proofs.Common.{◌≡◌, ℕ, Bool, true, false, cond, List, map, Option, Some, None, refl, sym, ap, ap₂, ◌∙◌, ⊎_elim}
use Rattle.std.specs.Prelude.{filter, slice_get}
use Rattle.std.specs.List.{All, Contains, list_any}
use Rattle.std.specs.Option.{option_and_then}
use Rattle.std.proofs.lemmas.Bool.{cond_both}
use Rattle.std.proofs.lemmas.List.Elements.{All-filter, All-weaker}
use Rattle.hp_syntax.specs.Networks as plain
use Rattle.hp_syntax.specs.Networks.{Network, Place}
use Rattle.hp_syntax.specs.Terms.{Term}
use Rattle.hp_eval.specs.declared.tasks.TaskTree.{TaskTree}
use Rattle.hp_eval.specs.GoalViews.{term_at, network_of}
use Rattle.hp_links.specs.Labelled.{Leaf, network, number_of, numbers, place_in, part_in, leads}
use Rattle.hp_links.specs.Linked.{Linked, tree_of, whole, place_of, focused, NamesTask}
use Rattle.hp_links.specs.Placed.{IsPlaced, Finishes, Expands, is_immediate, immediate_first, scope_of, candidates_in}
use Rattle.hp_links.proofs.ChangeLemmas.{replaced_part}
use Rattle.hp_links.proofs.LeadLemmas.{IsLeaf, MarksLeaves, candidates_of_whole, candidates_of_part, leads_there, leaf_of_part}
use Rattle.hp_links.proofs.MeaningLemmas.{network-replaced, network-without, is_empty-gone, is_empty-some, part_at-place}
use Rattle.hp_links.proofs.PlaceLemmas.{number_tells, part_of_number, part_apart, part_tells, place_tells, places_apart, option_cases}

-- ---- places

-- a task has a place
pub task_has_place : (s : Linked) (id : ℕ) → NamesTask s id → (p : Place) × (place_of s id ≡ Some p)
unfolding place_of
task_has_place s id n = let t = number_tells id (whole s) n.among in (t.0, t.2)

-- no two parts have the same place
pub same_place : (s : Linked) (i j : ℕ) (p : Place) → place_of s i ≡ Some p → place_of s j ≡ Some p → i ≡ j
unfolding place_of
same_place s i j p e f = places_apart i j (whole s) p e f

-- at the place of a task stands the task
pub task_at_place : (terms : List Term) (s : Linked) (id cell : ℕ) (immediate : Bool) (p : Place)
    → part_in id (whole s) ≡ Some (Leaf id cell immediate) → place_of s id ≡ Some p
    → plain.part_at (network terms (whole s)) p ≡ Some (plain.Task (term_at terms cell) immediate)
unfolding place_of
task_at_place terms s id cell immediate p e f = part_at-place terms id (whole s) (Leaf id cell immediate) p f e

-- ---- candidates

module _ (s : Linked) (placed : IsPlaced s) where
  -- a task of the network is named by its number
  names_leaf : (x : ℕ) → IsLeaf (whole s) x → NamesTask s x
  names_leaf x l = record {
    cell = l.0;
    immediate = l.1;
    is = placed.tasks x l.0 l.1 l.2;
    among = (part_tells x (whole s) (Leaf x l.0 l.1) l.2).2;
  }

  -- the mark of each part is whether it is an immediate task
  abbrev mark : ℕ → Bool
  mark k = is_immediate (slice_get s.parts k)

  -- so it is that of each task of the network
  marks_leaves : MarksLeaves (whole s) mark
  marks_leaves x cell immediate e = ap is_immediate (placed.tasks x cell immediate e)

  -- the first tasks below the focus are tasks of the network
  scope_leaves : (o : Option ℕ) → s.focus ≡ o → All (IsLeaf (whole s)) (leads (scope_of s o))
  scope_leaves None e = leads_there (whole s) placed.apart
  scope_leaves (Some f) e =
      let g = placed.focus f e in
      let p = part_tells f (whole s) (tree_of s f) g in
      All-weaker (IsLeaf (tree_of s f)) (IsLeaf (whole s))
      (λ x l. leaf_of_part (whole s) (tree_of s f) f p.0 placed.apart p.1 g x l) (leads (tree_of s f))
      (leads_there (tree_of s f) (part_apart f (whole s) (tree_of s f) g placed.apart))

  -- the candidates name tasks
  pub candidates_name : All (NamesTask s) (candidates_in s)
  unfolding candidates_in
  candidates_name =
      let ks = leads (scope_of s s.focus) in
      let all = All-weaker (IsLeaf (whole s)) (NamesTask s) names_leaf ks (scope_leaves s.focus refl) in
      cond_both (list_any mark ks) (filter mark ks) ks (All (NamesTask s))
      (λ e. All-filter mark (NamesTask s) ks all) (λ e. all)

  -- they stand where the definition has its candidates
  scope_places : (terms : List Term) (o : Option ℕ) → s.focus ≡ o
      → map (place_of s) (immediate_first s.parts (leads (scope_of s o)))
      ≡ map Some (plain.candidates (network terms (whole s)) (option_and_then (place_of s) o))
  unfolding place_of
  scope_places terms None e = candidates_of_whole terms (whole s) mark placed.apart marks_leaves
  scope_places terms (Some f) e =
      let g = placed.focus f e in
      let p = part_tells f (whole s) (tree_of s f) g in
      candidates_of_part terms (whole s) (tree_of s f) f p.0 mark placed.apart p.1 g marks_leaves
      ∙ ap (λ o. map Some (plain.candidates (network terms (whole s)) o)) (sym p.1)

  pub candidates_places : (terms : List Term)
      → map (place_of s) (candidates_in s)
      ≡ map Some (plain.candidates (focused terms s).0 (focused terms s).1)
  unfolding candidates_in
  candidates_places terms = scope_places terms s.focus refl

-- ---- changes

module _ (old new : Linked) (id : ℕ) (terms : List Term) (placed : IsPlaced old) (p : Place)
    (there : place_of old id ≡ Some p) where
  -- a task that went is done in the definition
  pub finishes : Finishes old new id → focused terms new ≡ plain.finish (focused terms old).0 p
  unfolding place_of plain.finish
  finishes h =
      ap₂ (λ n f. (n, option_and_then (place_of new) f))
      (ap (network terms) h.is ∙ network-without terms id (whole old) p placed.normal placed.apart there) h.focus

  -- an empty decomposition is that the task is done
  expand-empty : (net sub : Network) → plain.is_empty sub ≡ true → plain.expand net p sub ≡ plain.finish net p
  unfolding plain.expand
  expand-empty net sub e =
      ap (λ b. cond b (plain.finish net p) (plain.with_part net p sub, Some p)) e

  -- another stands in the place of the task
  expand-some : (net sub : Network) → plain.is_empty sub ≡ false
      → plain.expand net p sub ≡ (plain.with_part net p sub, Some p)
  unfolding plain.expand
  expand-some net sub e =
      ap (λ b. cond b (plain.finish net p) (plain.with_part net p sub, Some p)) e

  -- a task that was decomposed is decomposed in the definition
  pub expands : (tree : TaskTree) → Expands old new id tree
      → focused terms new ≡ plain.expand (focused terms old).0 p (plain.normal (network_of terms tree))
  unfolding place_of
  expands tree h =
      let net = network terms (whole old) in
      let sub = network terms h.subtasks in
      ⊎_elim
      (λ e.
      finishes (h.gone e)
      ∙ (sym (expand-empty net sub (is_empty-gone terms h.subtasks e)) ∙ ap (plain.expand net p) (h.network terms)))
      (λ e.
      let f = e.0 in
      let g = h.some f e.1 in
      let t = place_tells id (whole old) p there in
      let fresh : Contains (numbers (whole old)) f → ⊥ =
      λ c. h.fresh f c (part_tells f h.subtasks h.subtasks (part_of_number f h.subtasks e.1)).2 in
      let r = replaced_part id h.subtasks f e.1 (whole old) t.0 fresh t.1 in
      ap₂ (λ n o. (n, option_and_then (place_of new) o))
      (ap (network terms) g.0 ∙ network-replaced terms id h.subtasks (whole old) p placed.apart there) g.1
      ∙ (ap (λ o. (plain.with_part net p sub, o)) (ap (place_in f) g.0 ∙ (r.1 ∙ there))
      ∙ (sym (expand-some net sub (is_empty-some terms h.subtasks f e.1))
      ∙ ap (plain.expand net p) (h.network terms))))
      (option_cases (number_of h.subtasks))
