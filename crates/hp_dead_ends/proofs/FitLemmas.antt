-- The visits of a tree step on from the last decomposition, and each is at the depth that its path leaves.
use Rattle.std.proofs.Common.{◌≡◌, ℕ, ◌+◌, Bool, true, false, ◌||◌, cond, List, [], ◌∷◌, ◌++◌, length, length-append, refl, sym, ap, ◌∙◌, subst, arith, ⊎_elim}
use Rattle.std.specs.List.{All, AllPairs}
use Rattle.std.proofs.lemmas.List.{append-nil}
use Rattle.std.proofs.lemmas.List.Elements.{All-nil, All-cons, All-head, All-tail, All-weaker}
use Rattle.hp_after.specs.Stepping.{AllFollow, Follows, IsBeginning}
use Rattle.hp_after.proofs.SteppingLemmas.{all_follow_on, tree_follows}
use Rattle.hp_laws.specs.TreeLaws.{IsBefore, IsReached, IsPlanOf, PlanOf, ComesBefore}
use Rattle.hp_laws.proofs.JoinLemmas.{pairs_head, pairs_tail}
use Rattle.hp_laws.proofs.OrderLemmas.{visits_in_order}
use Rattle.hp_laws.proofs.VisitLemmas.{all_visits_of_tree}
use Rattle.hp_net.specs.Standings.{Tree, tree_visits}
use Rattle.hp_syntax.specs.Syntax.{Rule}
use Rattle.hp_syntax.specs.Walk.{Node, Sight, Did, Plan, CutHere, FaultHere, Visit, is_did, is_plan, visits}
use Rattle.hp_dead_ends.specs.Searching.{StepsOn}

-- visits step on from one decomposition to the next, the last of which stands at a path, in a tree of a depth
abbrev pub AllFit : ℕ → List ℕ → List Visit → Type 0
AllFit d p [] = Unit {0}
AllFit d p (v ∷ vs) =
    StepsOn p v × (v.node.depth + length v.path ≡ d) × AllFit d (cond (is_did v.sight) v.path p) vs

-- no path comes before itself
not_before : (p : List ℕ) → IsBefore p p → ⊥
not_before [] h = h
not_before (i ∷ p) h = ⊎_elim (λ l. omega arith) (λ e. not_before p e.1) h

-- another decomposition isn't at the path
abbrev IsOther : List ℕ → Visit → Type 0
IsOther p w = w.sight ≡ Did → w.path ≡ p → ⊥

abbrev InOrder : Visit → Visit → Type 0
InOrder v w = IsReached v.sight → IsReached w.sight → ComesBefore v w

-- no plan stands behind a decomposition where this stands
no_did_of : (x y : Sight) → IsPlanOf x y → y ≡ Did → ⊥
no_did_of _ _ PlanOf e = cc

is_reached : (x : Sight) → x ≡ Did → IsReached x
is_reached x e = ap (λ y. is_did y || is_plan y) e

other_later : (v : Visit) → v.sight ≡ Did → (w : Visit) → InOrder v w → IsOther v.path w
other_later v e w order f same =
    ⊎_elim (λ b. not_before v.path (subst (IsBefore v.path) same b)) (λ k. no_did_of v.sight w.sight k.1 f)
    (order (is_reached v.sight e) (is_reached w.sight f))

-- a path is a beginning of itself
pub whole_beginning : (p : List ℕ) → IsBeginning p p
whole_beginning p = record { behind = []; whole = sym (append-nil p) }

beginning_of : (x : Sight) (q p : List ℕ) → is_did x ≡ false → Follows x q p → IsBeginning q p
beginning_of Did q p e f = absurd (cc)
beginning_of Plan q p e f = f
beginning_of CutHere q p e f = f
beginning_of (FaultHere g) q p e f = f

did_by : (x : Sight) → is_did x ≡ true → x ≡ Did
did_by Did e = refl
did_by Plan e = absurd (cc)
did_by CutHere e = absurd (cc)
did_by (FaultHere g) e = absurd (cc)

module _ (d : ℕ) where
  abbrev IsDeep : Visit → Type 0
  IsDeep v = v.node.depth + length v.path ≡ d

  all_fit : (vs : List Visit) (r p : List ℕ) → IsBeginning r p → AllFollow r vs → All (IsOther p) vs
      → AllPairs InOrder vs → All IsDeep vs → AllFit d p vs
  all_fit [] r p b f o a h = tt
  all_fit (v ∷ vs) r p b f o a h =
      let here : AllFollow p (v ∷ vs) =
      subst (λ q. AllFollow q (v ∷ vs)) (sym b.whole) (all_follow_on r b.behind (v ∷ vs) f) in (
        record { follows = here.0; other = All-head (IsOther p) v vs o },
        All-head IsDeep v vs h,
        by (is_did v.sight) refl here.0
            (λ q c k. all_fit vs v.path q c f.1 k (pairs_tail InOrder v vs a) (All-tail IsDeep v vs h)),
      )
    where
      by : (x : Bool) → is_did v.sight ≡ x → Follows v.sight v.path p
          → ((q : List ℕ) → IsBeginning v.path q → All (IsOther q) vs → AllFit d q vs)
          → AllFit d (cond x v.path p) vs
      by true e g deep =
          deep v.path (whole_beginning v.path)
          (All-weaker (InOrder v) (IsOther v.path) (λ w k. other_later v (did_by v.sight e) w k) vs
          (pairs_head InOrder v vs a))
      by false e g deep = deep p (beginning_of v.sight v.path p e g) (All-tail (IsOther p) v vs o)

-- each visit of a tree is at the depth that its path leaves
deep_visits : (rules : List Rule) (nest : ℕ) (root : Node)
    → All (λ v. v.node.depth + length v.path ≡ root.depth) (visits rules nest root [])
deep_visits rules nest root =
    All-weaker (λ v. v.node.depth + length v.path ≡ root.depth + length {A = ℕ} [])
    (λ v. v.node.depth + length v.path ≡ root.depth) (λ v h. omega arith) (visits rules nest root [])
    (all_visits_of_tree rules nest (λ n p v. v.node.depth + length v.path ≡ n.depth + length p)
    (λ n p x. refl)
    (λ d n m p i v c e f g h. omega (arith, length-append p (i ∷ []))) root [])

-- no decomposition that follows a path is at that of the root
not_empty : (a : List ℕ) (i : ℕ) → a ++ i ∷ [] ≡ [] → ⊥
not_empty a i e = omega (arith, ap length e, length-append a (i ∷ []))

below_root : (x : Sight) (q p : List ℕ) → Follows x q p → x ≡ Did → q ≡ [] → ⊥
below_root Did q p f e same = not_empty f.above f.number (sym f.path ∙ same)
below_root Plan q p f e same = cc
below_root CutHere q p f e same = cc
below_root (FaultHere g) q p f e same = cc

not_root : (vs : List Visit) (p : List ℕ) → AllFollow p vs → All (IsOther []) vs
not_root [] p f = All-nil (IsOther [])
not_root (v ∷ vs) p f = All-cons (IsOther []) v vs (below_root v.sight v.path p f.0) (not_root vs v.path f.1)

pub tree_fits : (t : Tree) → AllFit t.root.depth [] (tree_visits t)
tree_fits t =
    all_fit t.root.depth (tree_visits t) [] [] (whole_beginning []) (tree_follows t [])
    (not_root (tree_visits t) [] (tree_follows t [])) (visits_in_order t.rules t.nest t.root)
    (deep_visits t.rules t.nest t.root)
