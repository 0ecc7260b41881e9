-- In the visits of a tree nothing comes next at or below a decomposition exactly where its node is a dead end.
use Rattle.std.proofs.Common.{◌≡◌, ◌≢◌, ℕ, zero, suc, ◌-◌, ◌<◌, Bool, true, false, ◌&&◌, ◌||◌, ◌==◌, cond, List, [], ◌∷◌, ◌++◌, refl, sym, ap, ap₂, ◌∙◌, subst, arith, append_assoc, ⊎_elim}
use Rattle.std.specs.Prelude.{Contains, flat_map, not}
use Rattle.std.specs.List.{All}
use Rattle.std.proofs.lemmas.Bool.{cond_both, eq-eqb, ne_eqb}
use Rattle.std.proofs.lemmas.List.{append-nil}
use Rattle.std.proofs.lemmas.List.Elements.{All-nil, All-cons, All-head, All-tail}
use Rattle.hp_laws.proofs.DepthLemmas.{HasDepth, children_have_depth}
use Rattle.hp_laws.proofs.JoinLemmas.{contains_cases, contains_first, contains_later, contains_none}
use Rattle.hp_syntax.specs.Networks.{is_empty}
use Rattle.hp_syntax.specs.Syntax.{Rule}
use Rattle.hp_syntax.specs.Walk.{Node, Child, DidChild, CutChild, FaultChild, Sight, Did, Plan, CutHere, FaultHere, Visit, begins, child_visits, children, is_did, is_plan, is_fault_here, numbered_children, visit, visits, visits_within}
use Rattle.hp_dead_ends.specs.DeadEnds.{IsDeadEnd, dead_ends, ends_at, until_plan, with_root}

-- ---- paths

-- a path begins itself, and what goes on from it
pub begins_on : (p r : List ℕ) → begins p (p ++ r) ≡ true
begins_on [] r = refl
begins_on (i ∷ p) r = ap₂ ◌&&◌ (eq-eqb i i refl) (begins_on p r)

pub begins_itself : (p : List ℕ) → begins p p ≡ true
begins_itself p = subst (λ q. begins p q ≡ true) (append-nil p) (begins_on p [])

-- what a path doesn't begin, no path that goes on from it begins
begins_less : (p r q : List ℕ) → begins p q ≡ false → begins (p ++ r) q ≡ false
begins_less [] r q e = absurd (cc)
begins_less (i ∷ p) r [] e = refl
begins_less (i ∷ p) r (j ∷ q) e = by (i == j) e (λ h. begins_less p r q h)
  where
    by : (b : Bool) → (b && begins p q) ≡ false → (begins p q ≡ false → begins (p ++ r) q ≡ false)
        → (b && begins (p ++ r) q) ≡ false
    by true h deep = deep h
    by false h deep = refl

-- a path with one number more begins neither the path nor it with another number
begins_none : (p : List ℕ) (i : ℕ) → begins (p ++ i ∷ []) p ≡ false
begins_none [] i = refl
begins_none (j ∷ p) i = ap₂ ◌&&◌ (eq-eqb j j refl) (begins_none p i)

begins_other : (p : List ℕ) (i j : ℕ) → i ≢ j → begins (p ++ i ∷ []) (p ++ j ∷ []) ≡ false
begins_other [] i j n = ap (λ b. b && true) (ne_eqb i j n)
begins_other (k ∷ p) i j n = ap₂ ◌&&◌ (eq-eqb k k refl) (begins_other p i j n)

-- where nothing is next at or below a path, nothing is at or below what goes on from it
ends_less : (p r : List ℕ) (vs : List Visit) → ends_at p vs ≡ true → ends_at (p ++ r) vs ≡ true
ends_less p r [] e = refl
ends_less p r (v ∷ vs) e = by (begins p v.path) refl e
  where
    by : (b : Bool) → begins p v.path ≡ b → not b ≡ true → not (begins (p ++ r) v.path) ≡ true
    by true h k = absurd (cc)
    by false h k = ap not (begins_less p r v.path h)

-- ---- lists of visits

module _ (rules : List Rule) (nest : ℕ) where
  -- nothing comes next at or below a decomposition exactly where its node is a dead end
  pub record TellsEnd (v : Visit) (vs : List Visit) : Type 0 where
    pub dead : ends_at v.path vs ≡ true → IsDeadEnd rules nest v.node
    pub over : IsDeadEnd rules nest v.node → ends_at v.path vs ≡ true

  abbrev pub AllTell : List Visit → Type 0
  AllTell [] = Unit {0}
  AllTell (v ∷ vs) = (is_did v.sight ≡ true → TellsEnd v vs) × AllTell vs

  -- then the dead ends are at nodes that are dead ends
  pub all_dead : (vs : List Visit) → AllTell vs → All (λ v. IsDeadEnd rules nest v.node) (dead_ends vs)
  all_dead [] a = All-nil (λ v. IsDeadEnd rules nest v.node)
  all_dead (v ∷ vs) a = by (is_did v.sight) (ends_at v.path vs) a.0 refl (all_dead vs a.1)
    where
      by : (b e : Bool) → (b ≡ true → TellsEnd v vs) → ends_at v.path vs ≡ e
          → All (λ w. IsDeadEnd rules nest w.node) (dead_ends vs)
          → All (λ w. IsDeadEnd rules nest w.node) (cond (b && e) (v ∷ dead_ends vs) (dead_ends vs))
      by true true h k r = All-cons (λ w. IsDeadEnd rules nest w.node) v (dead_ends vs) ((h refl).dead k) r
      by true false h k r = r
      by false e h k r = r

  -- and each decomposition at such a node is one of them
  pub all_found : (vs : List Visit) → AllTell vs → (v : Visit) → Contains vs v → v.sight ≡ Did
      → IsDeadEnd rules nest v.node → Contains (dead_ends vs) v
  all_found [] a v c s d = absurd (contains_none v c)
  all_found (w ∷ vs) a v c s d =
      ⊎_elim (λ e. subst (Contains (cond (is_did w.sight && ends_at w.path vs) (w ∷ dead_ends vs) (dead_ends vs))) e
      (here (is_did w.sight) (ends_at w.path vs) (ap is_did (ap (λ x. x.sight) e ∙ s))
      ((a.0 (ap is_did (ap (λ x. x.sight) e ∙ s))).over (subst (λ x. IsDeadEnd rules nest x.node) (sym e) d))))
      (λ k. later (is_did w.sight && ends_at w.path vs) (all_found vs a.1 v k s d)) (contains_cases w v vs c)
    where
      here : (b e : Bool) → b ≡ true → e ≡ true → Contains (cond (b && e) (w ∷ dead_ends vs) (dead_ends vs)) w
      here true true h k = contains_first w (dead_ends vs)
      here true false h k = absurd (cc)
      here false e h k = absurd (cc)

      later : (b : Bool) → Contains (dead_ends vs) v → Contains (cond b (w ∷ dead_ends vs) (dead_ends vs)) v
      later true h = contains_later w v (dead_ends vs) h
      later false h = h

  -- ---- the visits of a tree

  module _ (below : Node → List ℕ → List Visit) (n : Node) (p : List ℕ) where
    -- the visits of children from a number on
    abbrev from : ℕ → List Child → List Visit
    from i cs = flat_map (child_visits below n p) (numbered_children i cs)

    -- nothing of later children is at or below an earlier one
    later_apart : (k i : ℕ) (cs : List Child) (tail : List Visit) → k < i → ends_at p tail ≡ true
        → ends_at (p ++ k ∷ []) (from i cs ++ tail) ≡ true
    later_apart k i [] tail l e = ends_less p (k ∷ []) tail e
    later_apart k i (DidChild m ∷ cs) tail l e = ap not (begins_other p k i (λ h. omega arith))
    later_apart k i (CutChild ∷ cs) tail l e = ap not (begins_none p k)
    later_apart k i (FaultChild f ∷ cs) tail l e = ap not (begins_none p k)

    -- what comes of a child is at or below the node
    own_next : (i : ℕ) (c : Child) (cs : List Child) (tail : List Visit) → ends_at p (from i (c ∷ cs) ++ tail) ≡ false
    own_next i (DidChild m) cs tail = ap not (begins_on p (i ∷ []))
    own_next i CutChild cs tail = ap not (begins_itself p)
    own_next i (FaultChild f) cs tail = ap not (begins_itself p)

  -- at the decomposition that reached a node, before the visits at and below the node
  module _ (d : ℕ) (m : Node) (q : List ℕ) (tail : List Visit) (depth : m.depth ≡ suc d)
      (apart : ends_at q tail ≡ true) where
    head_by : (b : Bool) → is_empty m.network ≡ b → (cs : List Child) → children rules nest m ≡ cs
        → TellsEnd (visit q m Did) (cond b (visit q m Plan ∷ [])
        (flat_map (child_visits (visits_within rules nest d) m q) (numbered_children 0 cs)) ++ tail)
    head_by true e cs f = record {
      dead = λ h. let k : false ≡ true = sym (ap not (begins_itself q)) ∙ h in absurd (cc);
      over = λ k. let h : true ≡ false = sym e ∙ k.tasks in absurd (cc);
    }
    head_by false e [] f = record {
      dead = λ h. record { tasks = e; depth = λ z. omega arith; none = f };
      over = λ k. apart;
    }
    head_by false e (c ∷ cs) f = record {
      dead =
          λ h.
          let k : false ≡ true = sym (own_next (visits_within rules nest d) m q 0 c cs tail) ∙ h in absurd (cc);
      over = λ k. let h : c ∷ cs ≡ [] = sym f ∙ k.none in absurd (cc);
    }

  head_tells : (d : ℕ) (m : Node) (q : List ℕ) (tail : List Visit) → m.depth ≡ d → ends_at q tail ≡ true
      → TellsEnd (visit q m Did) (visits_within rules nest d m q ++ tail)
  unfolding visits_within
  head_tells zero m q tail e apart = record {
    dead = λ h. let k : false ≡ true = sym (ap not (begins_itself q)) ∙ h in absurd (cc);
    over = λ k. absurd (k.depth e);
  }
  head_tells (suc d) m q tail e apart =
      head_by d m q tail e apart (is_empty m.network) refl (children rules nest m) refl

  -- a visit that is no decomposition
  past : (p : List ℕ) (n : Node) (x : Sight) (vs : List Visit) → is_did x ≡ false → AllTell vs
      → AllTell (visit p n x ∷ vs)
  past p n x vs e a = ((λ h. let k : true ≡ false = sym h ∙ e in absurd (cc)), a)

  module _ (d : ℕ) (n : Node) (p : List ℕ)
      (deep : (m : Node) (q : List ℕ) (vs : List Visit) → m.depth ≡ d → ends_at q vs ≡ true → AllTell vs
      → AllTell (visits_within rules nest d m q ++ vs)) where
    tell_children : (i : ℕ) (cs : List Child) (vs : List Visit) → All (HasDepth d) cs → ends_at p vs ≡ true
        → AllTell vs → AllTell (from (visits_within rules nest d) n p i cs ++ vs)
    tell_children i [] vs h e a = a
    tell_children i (DidChild m ∷ cs) vs h e a =
        let below = visits_within rules nest d in
        let q = p ++ i ∷ [] in
        let rest = from below n p (suc i) cs in
        let deeper : m.depth ≡ d = All-head (HasDepth d) (DidChild m) cs h in
        let apart = later_apart below n p i (suc i) cs vs (omega arith) e in
        let told = tell_children (suc i) cs vs (All-tail (HasDepth d) (DidChild m) cs h) e a in
        subst (λ l. AllTell (visit q m Did ∷ l)) (sym (append_assoc (below m q) rest vs))
        ((λ k. head_tells d m q (rest ++ vs) deeper apart), deep m q (rest ++ vs) deeper apart told)
    tell_children i (CutChild ∷ cs) vs h e a =
        past p n CutHere (from (visits_within rules nest d) n p i cs ++ vs) refl
        (tell_children i cs vs (All-tail (HasDepth d) CutChild cs h) e a)
    tell_children i (FaultChild f ∷ cs) vs h e a =
        past p n (FaultHere f) (from (visits_within rules nest d) n p i cs ++ vs) refl
        (tell_children i cs vs (All-tail (HasDepth d) (FaultChild f) cs h) e a)

  tell_within : (d : ℕ) (n : Node) (p : List ℕ) (vs : List Visit) → n.depth ≡ d → ends_at p vs ≡ true → AllTell vs
      → AllTell (visits_within rules nest d n p ++ vs)
  unfolding visits_within
  tell_within zero n p vs e apart a =
      past p n (cond (is_empty n.network) Plan CutHere) vs
      (cond_both (is_empty n.network) Plan CutHere (λ x. is_did x ≡ false) (λ k. refl) (λ k. refl)) a
  tell_within (suc d) n p vs e apart a =
      cond_both (is_empty n.network) (visit p n Plan ∷ [])
      (flat_map (child_visits (visits_within rules nest d) n p) (numbered_children 0 (children rules nest n)))
      (λ l. AllTell (l ++ vs)) (λ k. past p n Plan vs refl a)
      (λ k. let less : n.depth - 1 ≡ d = omega arith in
      tell_children d n p (tell_within d) 0 (children rules nest n) vs
      (subst (λ x. All (HasDepth x) (children rules nest n)) less (children_have_depth rules nest n)) apart a)

  -- so it is in all visits of a tree, the root among them
  pub tree_tells : (root : Node) → AllTell (with_root root (visits rules nest root []))
  unfolding visits
  tree_tells root =
      subst (λ l. AllTell (with_root root l)) (append-nil (visits_within rules nest root.depth root []))
      ((λ h. head_tells root.depth root [] [] refl refl), tell_within root.depth root [] [] refl refl tt)

  -- ---- up to the first plan or fault

  ends_until : (p : List ℕ) (vs : List Visit) → ends_at p (until_plan vs) ≡ ends_at p vs
  ends_until p [] = refl
  ends_until p (v ∷ vs) = refl

  until_same : (v : Visit) (vs : List Visit) → TellsEnd v vs → TellsEnd v (until_plan vs)
  until_same v vs t = record {
    dead = λ h. t.dead (sym (ends_until v.path vs) ∙ h);
    over = λ k. ends_until v.path vs ∙ t.over k;
  }

  no_did : (x : Sight) → (is_plan x || is_fault_here x) ≡ true → is_did x ≡ false
  no_did Did e = absurd (cc)
  no_did Plan e = refl
  no_did CutHere e = refl
  no_did (FaultHere f) e = refl

  pub until_tells : (vs : List Visit) → AllTell vs → AllTell (until_plan vs)
  until_tells [] a = tt
  until_tells (v ∷ vs) a =
      by (is_plan v.sight || is_fault_here v.sight) (no_did v.sight) a.0 (until_tells vs a.1)
    where
      by : (b : Bool) → (b ≡ true → is_did v.sight ≡ false) → (is_did v.sight ≡ true → TellsEnd v vs)
          → AllTell (until_plan vs) → AllTell (v ∷ cond b [] (until_plan vs))
      by true n t r = ((λ h. let k : true ≡ false = sym h ∙ n refl in absurd (cc)), tt)
      by false n t r = ((λ h. until_same v vs (t h)), r)

  pub tree_tells_until : (root : Node) → AllTell (with_root root (until_plan (visits rules nest root [])))
  tree_tells_until root =
      let t = tree_tells root in
      let vs = visits rules nest root [] in
      ((λ h. until_same (visit [] root Did) vs (t.0 h)), until_tells vs t.1)
