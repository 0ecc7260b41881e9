-- The paths of visits follow from one another.
use Rattle.std.proofs.Common.{◌≡◌, ◌⊎◌, ℕ, zero, suc, Bool, true, false, ◌&&◌, ◌==◌, cond, List, [], ◌∷◌, ◌++◌, refl, sym, ap, ap₂, ◌∙◌, subst, inl, inr, ⊎_elim, append_assoc, arith}
use Rattle.std.specs.Prelude.{flat_map}
use Rattle.std.proofs.lemmas.Bool.{cond_both, eq-eqb}
use Rattle.std.proofs.lemmas.List.{append-nil}
use Rattle.hp_syntax.specs.Syntax.{Rule}
use Rattle.hp_syntax.specs.Networks.{is_empty}
use Rattle.hp_syntax.specs.Walk.{Node, Child, DidChild, CutChild, FaultChild, children, numbered_children, child_visits, Sight, Did, Plan, CutHere, FaultHere, Visit, visit, visits, visits_within, begins, skip}
use Rattle.hp_net.specs.Standings.{Tree, tree_visits}
use Rattle.hp_after.specs.Stepping.{IsBeginning, Follows, AllFollow}

-- ---- beginnings

-- a path is a beginning of what goes on from it
beginning_of : (q r : List ℕ) → IsBeginning q (q ++ r)
beginning_of q r = record { behind = r; whole = refl }

-- a beginning of a path is one of what goes on from it
beginning_on : (q p r : List ℕ) → IsBeginning q p → IsBeginning q (p ++ r)
beginning_on q p r b = record {
  behind = b.behind ++ r;
  whole = ap (λ l. l ++ r) b.whole ∙ append_assoc q b.behind r;
}

-- a path begins what goes on from it
begins_on : (q r : List ℕ) → begins q (q ++ r) ≡ true
begins_on [] r = refl
begins_on (i ∷ q) r = ap₂ ◌&&◌ (eq-eqb i i refl) (begins_on q r)

-- what a path begins goes on from it
rest_of : (q p : List ℕ) → begins q p ≡ true → (r : List ℕ) × (p ≡ q ++ r)
rest_of [] p h = (p, refl)
rest_of (i ∷ q) [] h = absurd cc
rest_of (i ∷ q) (j ∷ p) h = by (rest_of q p) (i == j) refl h
  where
    by : (begins q p ≡ true → (r : List ℕ) × (p ≡ q ++ r)) → (b : Bool) → (i == j) ≡ b → (b && begins q p) ≡ true
        → (r : List ℕ) × (j ∷ p ≡ (i ∷ q) ++ r)
    by rest true e k =
        let same : i ≡ j = grind arith in
        let r = rest k in
        (r.0, ap (λ x. x ∷ p) (sym same) ∙ ap (λ l. i ∷ l) r.1)
    by rest false e k = absurd cc

-- a beginning of a path that goes on below a number is one of what is above that number, or goes on below it too
parted : (a : List ℕ) (i : ℕ) (r b c : List ℕ) → (a ++ i ∷ []) ++ r ≡ b ++ c
    → IsBeginning b a ⊎ IsBeginning (a ++ i ∷ []) b
parted a i r [] c e = inl (record { behind = a; whole = refl })
parted [] i r (k ∷ b) c e =
    let same : i ≡ k = cc in
    inr (record { behind = b; whole = ap (λ n. n ∷ b) (sym same) })
parted (j ∷ a) i r (k ∷ b) c e =
    let same : j ≡ k = cc in
    let rest : (a ++ i ∷ []) ++ r ≡ b ++ c = cc in
    ⊎_elim (λ h. inl (record { behind = h.behind; whole = ap₂ (λ n l. n ∷ l) same h.whole }))
    (λ h. inr (record { behind = h.behind; whole = ap₂ (λ n l. n ∷ l) (sym same) h.whole }))
    (parted a i r b c rest)

-- ---- visits that follow a path

-- what follows a path follows what goes on from it
follows_on : (s : Sight) (q p r : List ℕ) → Follows s q p → Follows s q (p ++ r)
follows_on Did q p r f = record {
  above = f.above;
  number = f.number;
  path = f.path;
  beginning = beginning_on f.above p r f.beginning;
}
follows_on Plan q p r f = beginning_on q p r f
follows_on CutHere q p r f = beginning_on q p r f
follows_on (FaultHere g) q p r f = beginning_on q p r f

-- so visits that follow a path follow what goes on from it
pub all_follow_on : (p r : List ℕ) (vs : List Visit) → AllFollow p vs → AllFollow (p ++ r) vs
all_follow_on p r [] a = tt
all_follow_on p r (v ∷ vs) a = (follows_on v.sight v.path p r a.0, a.1)

module _ (a : List ℕ) (i : ℕ) where
  -- the path that is left out, with all below it
  abbrev out : List ℕ
  out = a ++ i ∷ []

  -- what goes on from a path that it begins is begun by it
  begins_further : (q b r : List ℕ) → q ≡ b ++ r → IsBeginning out b → begins out q ≡ true
  begins_further q b r e k =
      ap (begins out) (e ∙ (ap (λ l. l ++ r) k.whole ∙ append_assoc out k.behind r)) ∙ begins_on out (k.behind ++ r)

  -- where a path that isn't left out goes on from a beginning of one that is, this is a beginning of the parent
  beginning_left : (q b r p : List ℕ) → q ≡ b ++ r → begins out q ≡ false → IsBeginning out p → IsBeginning b p
      → IsBeginning b a
  beginning_left q b r p e h o f =
      ⊎_elim (λ k. k) (λ k. let g : true ≡ false = sym (begins_further q b r e k) ∙ h in absurd (cc))
      (parted a i o.behind b f.behind (sym o.whole ∙ f.whole))

  -- so a visit that isn't left out, and follows a path that is, follows the parent
  follows_left : (s : Sight) (q p : List ℕ) → begins out q ≡ false → IsBeginning out p → Follows s q p → Follows s q a
  follows_left Did q p h o f = record {
    above = f.above;
    number = f.number;
    path = f.path;
    beginning = beginning_left q f.above (f.number ∷ []) p f.path h o f.beginning;
  }
  follows_left Plan q p h o f = beginning_left q q [] p (sym (append-nil q)) h o f
  follows_left CutHere q p h o f = beginning_left q q [] p (sym (append-nil q)) h o f
  follows_left (FaultHere g) q p h o f = beginning_left q q [] p (sym (append-nil q)) h o f

  -- so do all visits behind those that are left out
  left_by : (v : Visit) (vs : List Visit) (p : List ℕ)
      → ((q : List ℕ) → IsBeginning out q → AllFollow q vs → AllFollow a (skip out vs)) → IsBeginning out p
      → AllFollow p (v ∷ vs) → (b : Bool) → begins out v.path ≡ b → AllFollow a (cond b (skip out vs) (v ∷ vs))
  left_by v vs p deep o f true h =
      let r = rest_of out v.path h in deep v.path (record { behind = r.0; whole = r.1 }) f.1
  left_by v vs p deep o f false h = (follows_left v.sight v.path p h o f.0, f.1)

  pub all_follow_left : (vs : List Visit) (p : List ℕ) → IsBeginning out p → AllFollow p vs → AllFollow a (skip out vs)
  all_follow_left [] p o f = tt
  all_follow_left (v ∷ vs) p o f = left_by v vs p (all_follow_left vs) o f (begins out v.path) refl

-- ---- the visits of a tree

-- visits follow each path at or below this one
abbrev FollowBelow : List ℕ → List Visit → Type 0
FollowBelow p vs = (r : List ℕ) → AllFollow (p ++ r) vs

-- so they follow the path itself
follow_here : (p : List ℕ) (vs : List Visit) → FollowBelow p vs → AllFollow p vs
follow_here p vs f = subst (λ q. AllFollow q vs) (append-nil p) (f [])

-- and each path at or below one with a number more
follow_further : (p : List ℕ) (i : ℕ) (vs : List Visit) → FollowBelow p vs → FollowBelow (p ++ i ∷ []) vs
follow_further p i vs f = λ r. subst (λ q. AllFollow q vs) (sym (append_assoc p (i ∷ []) r)) (f (i ∷ r))

-- so do a plan or a cut at the path and such visits behind it
follow_one : (b : Bool) (p : List ℕ) (n : Node) (vs : List Visit) → FollowBelow p vs
    → FollowBelow p (visit p n (cond b Plan CutHere) ∷ vs)
follow_one true p n vs f = λ r. (beginning_of p r, follow_here p vs f)
follow_one false p n vs f = λ r. (beginning_of p r, follow_here p vs f)

module _ (below : Node → List ℕ → List Visit) (n : Node) (p : List ℕ)
    (deep : (m : Node) (q : List ℕ) (vs : List Visit) → FollowBelow q vs → FollowBelow q (below m q ++ vs)) where
  -- so do the visits of a child of a node at the path and such visits behind them
  follow_child : (i : ℕ) (c : Child) (vs : List Visit) → FollowBelow p vs
      → FollowBelow p (child_visits below n p (i, c) ++ vs)
  follow_child i (DidChild m) vs f = λ r. (
    record { above = p; number = i; path = refl; beginning = beginning_of p r },
    follow_here (p ++ i ∷ []) (below m (p ++ i ∷ []) ++ vs)
        (deep m (p ++ i ∷ []) vs (follow_further p i vs f)),
  )
  follow_child i CutChild vs f = λ r. (beginning_of p r, follow_here p vs f)
  follow_child i (FaultChild g) vs f = λ r. (beginning_of p r, follow_here p vs f)

  -- so do those of several children
  follow_children : (cs : List (ℕ × Child)) (vs : List Visit) → FollowBelow p vs
      → FollowBelow p (flat_map (child_visits below n p) cs ++ vs)
  follow_children [] vs f = f
  follow_children (c ∷ cs) vs f =
      let rest = flat_map (child_visits below n p) cs in
      subst (FollowBelow p) (sym (append_assoc (child_visits below n p c) rest vs))
      (follow_child c.0 c.1 (rest ++ vs) (follow_children cs vs f))

module _ (rules : List Rule) (nest : ℕ) where
  -- so do all visits at and below a node
  follow_within : (d : ℕ) (n : Node) (p : List ℕ) (vs : List Visit) → FollowBelow p vs
      → FollowBelow p (visits_within rules nest d n p ++ vs)
  unfolding visits_within
  follow_within zero n p vs f = follow_one (is_empty n.network) p n vs f
  follow_within (suc d) n p vs f =
      cond_both (is_empty n.network) (visit p n Plan ∷ [])
      (flat_map (child_visits (visits_within rules nest d) n p) (numbered_children 0 (children rules nest n)))
      (λ l. FollowBelow p (l ++ vs)) (λ e. follow_one true p n vs f)
      (λ e. follow_children (visits_within rules nest d) n p (follow_within d)
      (numbered_children 0 (children rules nest n)) vs f)

  -- so the visits of a tree follow each path, since each is at or below that of the root
  all_follow : (root : Node) (p : List ℕ) → AllFollow p (visits rules nest root [])
  unfolding visits
  all_follow root p =
      subst (AllFollow p) (append-nil (visits_within rules nest root.depth root []))
      (follow_within root.depth root [] [] (λ r. tt) p)

pub tree_follows : (t : Tree) (p : List ℕ) → AllFollow p (tree_visits t)
tree_follows t p = all_follow t.rules t.nest t.root p
