-- A search for the least depth, one depth at a time.
use Rattle.std.proofs.Common.{◌≡◌, ℕ, suc, ◌+◌, ◌-◌, ◌^◌, ◌<◌, ◌≤◌, min, Bool, true, false, List, [], refl, sym, ap, ◌∙◌, subst, add-one, inl, inr, arith}
use Rattle.std.specs.Prelude.{pos}
use Rattle.std.specs.List.{All}
use Rattle.std.proofs.lemmas.Bool.{cases_lt}
use Rattle.hp_net.specs.Standings.{Tree, Standing, standing, IsAtItsNode}
use Rattle.hp_search.specs.Planned.{tree_planned, with_depth}
use Rattle.hp_syntax.specs.Report.{Ending, Stopped, AtFault, AtCut, AtEnd}
use Rattle.hp_syntax.specs.Syntax.{Rule, Pair}
use Rattle.hp_syntax.specs.Walk.{Node, Visit, count_told, root, visits}
use Rattle.hp_shallow.specs.declared.deepening.Least.{Least}
use Rattle.hp_shallow.specs.declared.walking.ShallowEnd.{ShallowEnd}
use Rattle.hp_shallow.specs.declared.walking.ShallowEnd.TheVariants as ends
use Rattle.hp_shallow.proofs.DepthLemmas.{cut_at, decides, passed_by}
use Rattle.hp_shallow.specs.Deepening.{HasWalked, IsAtDepth, IsLeast, is_cut}
use Rattle.hp_shallow.specs.LeastDepth.{IsWalkedAt, deciding, expansions_below, first_end, is_cut_short, least_depth}
use Rattle.hp_shallow.specs.LeastDepth.{shallow_end}

-- ---- answers

-- a walk that is answered as cut short is
cut_told : (x : Ending) → is_cut (shallow_end x) ≡ is_cut_short x
cut_told Stopped = refl
cut_told (AtFault f) = refl
cut_told AtCut = refl
cut_told AtEnd = refl

cut_as_told : (a : ShallowEnd) (x : Ending) (b : Bool) → a ≡ shallow_end x → is_cut a ≡ b → is_cut_short x ≡ b
cut_as_told a x b e h = sym (cut_told x) ∙ (ap is_cut (sym e) ∙ h)

-- a plan is answered where the walk stopped at it
pub plan_told : (x : Ending) → shallow_end x ≡ ends.Plan → x ≡ Stopped
plan_told Stopped e = refl
plan_told (AtFault f) e = let never : ends.Fault f ≡ ends.Plan = e in absurd (cc)
plan_told AtCut e = let never : ends.Cut ≡ ends.Plan = e in absurd (cc)
plan_told AtEnd e = let never : ends.End ≡ ends.Plan = e in absurd (cc)

-- the end is answered where the walk came to it
pub end_told : (x : Ending) → shallow_end x ≡ ends.End → x ≡ AtEnd
end_told Stopped e = let never : ends.Plan ≡ ends.End = e in absurd (cc)
end_told (AtFault f) e = let never : ends.Fault f ≡ ends.End = e in absurd (cc)
end_told AtCut e = let never : ends.Cut ≡ ends.End = e in absurd (cc)
end_told AtEnd e = refl

-- a cut is answered where the walk ended at one
pub at_cut_told : (x : Ending) → shallow_end x ≡ ends.Cut → x ≡ AtCut
at_cut_told Stopped e = let never : ends.Plan ≡ ends.Cut = e in absurd (cc)
at_cut_told (AtFault f) e = let never : ends.Fault f ≡ ends.Cut = e in absurd (cc)
at_cut_told AtCut e = refl
at_cut_told AtEnd e = let never : ends.End ≡ ends.Cut = e in absurd (cc)

-- the walk of the least depth ends as the answer says
pub least_ends : (l : Least) (at : ℕ → List Visit) (limit : ℕ) (x : Ending) → IsLeast l at limit
    → ((y : Ending) → shallow_end y ≡ l.answer → y ≡ x) → (first_end (at (least_depth at limit))).ending ≡ x
least_ends l at limit x h told =
    ap (λ d. (first_end (at d)).ending) (sym h.depth)
    ∙ told (first_end (at l.depth)).ending (sym h.answer)

-- ---- one depth more

-- a search begins at depth 0
at_first : (at : ℕ → List Visit) (limit : ℕ) → IsAtDepth at limit 0 0
at_first at limit = record { least = ap (deciding at 0) (omega arith); expansions = refl }

-- what is counted of one depth more
counted_on : (m n a b : ℕ) → n ≡ count_told a → m ≡ count_told (n + b) → m ≡ count_told (a + b)
counted_on m n a b e h = omega arith

-- the walk of this depth visits these, and its decompositions are counted with those before
module _ (at : ℕ → List Visit) (limit depth n m : ℕ) (h : IsAtDepth at limit depth n) (vs : List Visit)
    (here : at depth ≡ vs) (counted : m ≡ count_told (n + (first_end vs).tally.expansions)) where
  counted_here : m ≡ count_told (expansions_below at (suc depth))
  counted_here =
      counted_on m n (expansions_below at depth) (first_end (at depth)).tally.expansions h.expansions
      (counted ∙ ap (λ us. count_told (n + (first_end us).tally.expansions)) (sym here))

  cut_here : (b : Bool) → is_cut_short (first_end vs).ending ≡ b → cut_at at depth ≡ b
  cut_here b e = ap (λ us. is_cut_short (first_end us).ending) here ∙ e

  -- where it's cut short, the search goes on
  deeper : depth < limit → is_cut_short (first_end vs).ending ≡ true → IsAtDepth at limit (depth + 1) m
  deeper below cut =
      let more = limit - (depth + 1) in
      let left : limit - depth ≡ suc more = omega arith in
      record {
        least = sym (passed_by at depth more (cut_here true cut)) ∙ (ap (deciding at depth) (sym left) ∙ h.least);
        expansions = counted_here ∙ ap (λ d. count_told (expansions_below at d)) (sym (add-one depth));
      }

  -- where it isn't, this depth decides; at the limit it does in any case
  decides_here : depth ≤ limit → (depth < limit → is_cut_short (first_end vs).ending ≡ false)
      → depth ≡ least_depth at limit
  decides_here within whole = elim (cases_lt depth limit) [
    | inl below ↦
        let more = limit - (depth + 1) in
        let left : limit - depth ≡ suc more = omega arith in
        sym (decides at depth more (cut_here false (whole below))) ∙ (ap (deciding at depth) (sym left) ∙ h.least)
    | inr l ↦ let left : limit - depth ≡ 0 = omega arith in ap (deciding at depth) (sym left) ∙ h.least
  ]

  -- so the search has come to the least depth
  found_here : (l : Least) → l.depth ≡ depth → l.answer ≡ shallow_end (first_end vs).ending
      → l.expansions ≡ m → depth ≤ limit → (depth < limit → is_cut l.answer ≡ false) → IsLeast l at limit
  found_here l e answer expansions within whole = record {
    depth = e ∙ decides_here within (λ below. cut_as_told l.answer (first_end vs).ending false answer (whole below));
    answer =
        answer
        ∙ (ap (λ us. shallow_end (first_end us).ending) (sym here)
        ∙ ap (λ d. shallow_end (first_end (at d)).ending) (sym e));
    expansions = expansions ∙ (counted_here ∙ ap (λ d. count_told (expansions_below at (suc d))) (sym e));
  }

-- ---- the walk of a depth

-- the visits of a new walk are at their nodes
pub at_root : (rules : List Rule) (nest : ℕ) (root : Node) (t : Tree) (s : Standing)
    → All (IsAtItsNode (record { rules = rules; nest = nest; root = root })) (visits rules nest root [])
    → t ≡ record { rules = rules; nest = nest; root = root }
    → s ≡ standing [] (visits rules nest root []) false → All (IsAtItsNode t) s.rest
at_root rules nest root t s all same new =
    subst (λ u. All (IsAtItsNode u) s.rest) (sym same)
    (subst (λ z. All (IsAtItsNode (record { rules = rules; nest = nest; root = root })) z.rest) (sym new) all)

-- what is counted with those before
pub counted_with : (m before n a : ℕ) → m ≡ min (before + n) (2 ^ 64 - 1) → n ≡ count_told a
    → m ≡ count_told (before + a)
counted_with m before n a e h = omega arith

-- ---- the walks of a pair

module _ (rules : List Rule) (nest : ℕ) (pair : Pair) where
  -- the tree of the pair at a depth
  abbrev pub tree_at : ℕ → Tree
  tree_at depth = record { rules = rules; nest = nest; root = root pair depth }

  -- nothing has cost anything at its root
  pub root_free : (t : Tree) (depth : ℕ) → t ≡ tree_at depth → t.root.cost ≡ pos 0
  unfolding root
  root_free t depth e = ap (λ (u : Tree). u.root.cost) e

  -- with another depth at its root it is the tree at that depth
  pub tree_deeper : (t : Tree) (depth more : ℕ) → t ≡ tree_at depth → with_depth more t ≡ tree_at more
  unfolding root
  tree_deeper t depth more e = ap (with_depth more) e

  -- a search has walked down to this depth, and has counted so many decompositions before
  pub record IsDown (limit : ℕ) (l : Least) : Type 0 where
    pub before : ℕ
    pub walked : HasWalked l (tree_at l.depth) before
    pub at_depth : (at : ℕ → List Visit) → IsWalkedAt rules nest pair at → IsAtDepth at limit l.depth before
    pub within : l.depth ≤ limit

  -- at first it has walked down to depth 0
  pub down_first : (limit : ℕ) (l : Least) → l.depth ≡ 0 → HasWalked l (tree_at 0) 0 → IsDown limit l
  down_first limit l e h = record {
    before = 0;
    walked = subst (λ d. HasWalked l (tree_at d) 0) (sym e) h;
    at_depth = λ at walked. subst (λ d. IsAtDepth at limit d 0) (sym e) (at_first at limit);
    within = omega (arith, e);
  }

  module _ (limit : ℕ) (l : Least) (h : IsDown limit l) where
    -- where the walk was cut short above the limit, it goes one depth further down
    pub down_next : (m : Least) → l.depth < limit → is_cut l.answer ≡ true → m.depth ≡ l.depth + 1
        → HasWalked m (with_depth (l.depth + 1) (tree_planned l.walk)) l.expansions → IsDown limit m
    down_next m below cut e w = record {
      before = l.expansions;
      walked =
          subst (λ d. HasWalked m (tree_at d) l.expansions) (sym e)
          (subst (λ t. HasWalked m t l.expansions)
          (tree_deeper (tree_planned l.walk) l.depth (l.depth + 1) h.walked.tree) w);
      at_depth =
          λ at walked.
          subst (λ d. IsAtDepth at limit d l.expansions) (sym e)
          (deeper at limit l.depth h.before l.expansions (h.at_depth at walked) _ (walked l.depth)
          h.walked.expansions below (cut_as_told l.answer _ true h.walked.answer cut));
      within = omega (arith, below, e);
    }

    -- where it wasn't, or at the limit, it has come to the least depth
    pub down_last : (l.depth < limit → is_cut l.answer ≡ false) → (at : ℕ → List Visit)
        → IsWalkedAt rules nest pair at → IsLeast l at limit
    down_last whole at walked =
        found_here at limit l.depth h.before l.expansions (h.at_depth at walked) _ (walked l.depth)
        h.walked.expansions l refl h.walked.answer refl h.within whole
