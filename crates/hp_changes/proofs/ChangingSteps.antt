-- One visit of a walk to a path, and the whole of it.
use Rattle.std.proofs.Common.{◌≡◌, ◌≢◌, ◌⊎◌, ℕ, Bool, true, false, ◌&&◌, ◌==◌, cond, List, [], ◌∷◌, ◌++◌, length, map, Option, Some, None, refl, sym, ap, ap₂, ◌∙◌, subst, ⊎_elim, arith, ◌<◌, append_assoc, append-nil, inl, inr}
use Rattle.std.specs.Prelude.{Contains, MatchOption, nat_lt, not}
use Rattle.std.proofs.lemmas.Bool.{eq-eqb, ltb-true, ne_eqb}
use Rattle.std.proofs.lemmas.Bool.Decides.{nat_tests}
use Rattle.std.proofs.lemmas.List.Elements.{All-contains}
use Rattle.hp_after.specs.Reach.{Coming, did_turn as reach_did, nothing_met, plan_turn, reach_turn, side_of, with_did}
use Rattle.hp_after.specs.declared.reaching.Reached.TheVariants as reached
use Rattle.hp_dead_ends.proofs.FindSteps.{reached_root}
use Rattle.hp_laws.proofs.JoinLemmas.{contains_cases, contains_first, contains_later, contains_none}
use Rattle.hp_laws.proofs.PathLemmas.{visits_in_tree}
use Rattle.hp_net.specs.Standings.{IsAtItsNode, Tree, Standing, node_reached, tree_visits}
use Rattle.hp_passes.specs.Passing.{Passes, AtEnd, GoesOn, LeavesOut, Ends}
use Rattle.hp_passes.specs.Passes as passes
use Rattle.hp_passes.specs.Passes.{Passed, is_out, pass, passed_all, with_made}
use Rattle.hp_passes.specs.declared.passing.Turn as passing
use Rattle.hp_passes.specs.declared.passing.Turn.TheVariants as turns
use Rattle.hp_syntax.specs.Walk.{Node, Sight, Did, Plan, CutHere, FaultHere, Visit, begins, heard_visits, is_did, is_fault_here, node_at, skip, visit, visits}
use Rattle.hp_dead_ends.specs.Arriving.{did_turn, is_small, turn_to}
use Rattle.hp_changes.specs.Changes.{between, changed_of, changes_along, changes_over, nodes_on}
use Rattle.hp_changes.specs.Changing.{AreAlong, GoesBy, Holds, IsMet, Heard, Reached, Known, MeetsChanging, Tells, after, at_root, with_step}
use Rattle.hp_changes.specs.declared.changing.Changing.{Changing}
use Rattle.hp_changes.specs.declared.comparing.Holding.{Holding}
use Rattle.hp_changes.proofs.WayLemmas.{Comes, IsApart, Leads, apart_left, begins_itself, cases, is_on, lead_from, leads_left, left_out}

-- ---- one visit

-- a step is noted for a decomposition on the way, and for no other
noted_by : (p q : List ℕ) (n : Node) (s t : Changing) → (a : Bool) → begins q p ≡ a → (b : Bool)
    → GoesBy (cond a (cond b turns.Last turns.On) turns.Past) n s t
    → (k : Known) → Tells s k → Tells t (cond (begins q p) (with_step n k) k)
noted_by p q n s t true e true g k h = rw e (g.tells k h)
noted_by p q n s t true e false g k h = rw e (g.tells k h)
noted_by p q n s t false e b g k h = rw (e, g) h

target_by : (x : passing.Turn) (n : Node) (s t : Changing) → GoesBy x n s t → t.target.now ≡ s.target.now
target_by turns.On n s t g = g.target
target_by turns.Past n s t g = ap (λ u. u.target.now) g
target_by turns.Last n s t g = g.target

pub meets_did : (s t : Changing) (q : List ℕ) (n : Node) (x : Sight) (turn : passing.Turn) (c d : Unit {0}) → x ≡ Did
    → (is_small s.target.now ≡ true → turn ≡ did_turn s.target.now q) → GoesBy turn n s t
    → MeetsChanging s c (visit q n x) turn t d
meets_did s t q n x turn c d e turned g = record {
  target = target_by turn n s t g;
  turn = λ small. turned small ∙ sym (ap (λ y. turn_to s.target.now (visit q n y)) e);
  tells =
      λ small k h.
      subst (λ y. Tells t (after s.target.now (visit q n y) k)) (sym e)
      (noted_by s.target.now q n s t (begins q s.target.now) refl (length q == length s.target.now)
      (subst (λ y. GoesBy y n s t) (turned small) g) k h);
}

-- ---- the turn at a visit

module _ (p : List ℕ) (v : Visit) where
  turn_on : v.sight ≡ Did → begins v.path p ≡ true
      → turn_to p v ≡ cond (length v.path == length p) turns.Last turns.On
  turn_on e b = rw (e, b) refl

  -- at the path a walk ends, above it it goes on
  turn_there : v.sight ≡ Did → v.path ≡ p → turn_to p v ≡ turns.Last
  turn_there e h =
      turn_on e (ap (λ q. begins q p) h ∙ begins_itself p)
      ∙ ap (λ b. cond b turns.Last turns.On) (eq-eqb (length v.path) (length p) (ap length h))

  turn_onward : v.sight ≡ Did → begins v.path p ≡ true → (length v.path == length p) ≡ false
      → turn_to p v ≡ turns.On
  turn_onward e b l = turn_on e b ∙ ap (λ c. cond c turns.Last turns.On) l

  -- at any other visit but a fault it goes on, and beside the way it leaves out what lies below
  turn_aside : (x : Sight) → v.sight ≡ x → is_fault_here v.sight ≡ false → is_on p v ≡ false
      → turn_to p v ≡ cond (is_did x) turns.Past turns.On
  turn_aside Did e f o =
      let off : begins v.path p ≡ false = sym (ap (λ y. is_did y && begins v.path p) e) ∙ o in rw (e, off) refl
  turn_aside Plan e f o = rw e refl
  turn_aside CutHere e f o = rw e refl
  turn_aside (FaultHere g) e f o = let h : true ≡ false = sym (ap is_fault_here e) ∙ f in absurd (cc)

  aside_last : is_fault_here v.sight ≡ false → is_on p v ≡ false → turns.Last ≡ turn_to p v → ⊥
  aside_last f o h = by (is_did v.sight) (h ∙ turn_aside v.sight refl f o)
    where
      by : (b : Bool) → turns.Last ≡ cond b turns.Past turns.On → ⊥
      by true k = cc
      by false k = cc

  aside_past : is_fault_here v.sight ≡ false → is_on p v ≡ false → turns.Past ≡ turn_to p v
      → (is_did v.sight ≡ true) × (begins v.path p ≡ false)
  aside_past f o h = by (is_did v.sight) refl (h ∙ turn_aside v.sight refl f o)
    where
      by : (b : Bool) → is_did v.sight ≡ b → turns.Past ≡ cond b turns.Past turns.On
          → (b ≡ true) × (begins v.path p ≡ false)
      by true e k = (refl, sym (ap (λ y. y && begins v.path p) e) ∙ o)
      by false e k = absurd (cc)

  aside_on : is_fault_here v.sight ≡ false → is_on p v ≡ false → turns.On ≡ turn_to p v → is_did v.sight ≡ false
  aside_on f o h = by (is_did v.sight) (h ∙ turn_aside v.sight refl f o)
    where
      by : (b : Bool) → turns.On ≡ cond b turns.Past turns.On → b ≡ false
      by true k = absurd (cc)
      by false k = refl

  none_left : is_did v.sight ≡ false → left_out p v ≡ None
  none_left e = ap (λ y. cond (y && not (begins v.path p)) (Some v.path) None) e

  all_left : is_did v.sight ≡ true → begins v.path p ≡ false → left_out p v ≡ Some v.path
  all_left e b = ap₂ (λ y z. cond (y && not z) (Some v.path) None) e b

  after_on : (k : Known) → v.sight ≡ Did → begins v.path p ≡ true → after p v k ≡ with_step v.node k
  after_on k e b = rw (e, b) refl

  after_off : (k : Known) → is_on p v ≡ false → after p v k ≡ k
  after_off k o = ap (λ y. cond y (with_step v.node k) k) o

-- ---- a whole walk

-- what is known after steps to these nodes
abbrev along : Known → List Node → Known
along k [] = k
along k (m ∷ ms) = along (with_step m k) ms

module _ (p : List ℕ) (small : is_small p ≡ true) where
  record Met (s t : Changing) (v : Visit) (x : passing.Turn) : Type 0 where
    target : t.target.now ≡ p
    turn : x ≡ turn_to p v
    tells : (k : Known) → Tells s k → Tells t (after p v k)

  met : (s t : Changing) (c d : Unit {0}) (v : Visit) (x : passing.Turn) → s.target.now ≡ p → MeetsChanging s c v x t d
      → Met s t v x
  met s t c d v x e m = record {
    target = m.target ∙ e;
    turn = subst (λ q. is_small q ≡ true → x ≡ turn_to q v) e m.turn small;
    tells = subst (λ q. is_small q ≡ true → (k : Known) → Tells s k → Tells t (after q v k)) e m.tells small;
  }

  tells_then : (s u : Changing) (c e : Unit {0}) (vs : List Visit) (there : Standing) (k : Known) (ns : List Node)
      → Passes MeetsChanging s c vs u e there → s.target.now ≡ p → Leads p None ns vs → Tells s k
      → Tells u (along k ns)
  tells_then _ _ _ _ _ _ k ns (AtEnd s c) at h told = absurd (cases p None ns [] h)
  tells_then _ _ _ _ _ _ k ns (GoesOn s t u c d e v vs there m rest) at h told =
      let n = met s t c d v turns.On at m in
      ⊎_elim (λ y. let f : turns.On ≡ turns.Last = n.turn ∙ turn_there p v y.did y.at in absurd (cc))
      (⊎_elim
      (λ y. subst (λ ms. Tells u (along k ms)) (sym y.nodes)
      (tells_then t u d e vs there (with_step v.node k) y.others rest n.target y.rest
      (subst (Tells t) (after_on p v k y.did y.begun) (n.tells k told))))
      (⊎_elim (λ y. let f : false ≡ true = y.0 in absurd (cc))
      (λ y. tells_then t u d e vs there k ns rest n.target
      (subst (λ o. Leads p o ns vs) (none_left p v (aside_on p v y.fault y.off n.turn)) y.rest)
      (subst (Tells t) (after_off p v k y.off) (n.tells k told)))))
      (cases p None ns (v ∷ vs) h)
  tells_then _ _ _ _ _ _ k ns (LeavesOut s t u c d e v vs there m rest) at h told =
      let n = met s t c d v turns.Past at m in
      ⊎_elim (λ y. let f : turns.Past ≡ turns.Last = n.turn ∙ turn_there p v y.did y.at in absurd (cc))
      (⊎_elim
      (λ y. let f : turns.Past ≡ turns.On = n.turn ∙ turn_onward p v y.did y.begun y.above in absurd (cc))
      (⊎_elim (λ y. let f : false ≡ true = y.0 in absurd (cc))
      (λ y. let past = aside_past p v y.fault y.off n.turn in
      tells_then t u d e (skip v.path vs) there k ns rest n.target
      (leads_left p v.path past.1 vs ns (subst (λ o. Leads p o ns vs) (all_left p v past.0 past.1) y.rest))
      (subst (Tells t) (after_off p v k y.off) (n.tells k told)))))
      (cases p None ns (v ∷ vs) h)
  tells_then _ _ _ _ _ _ k ns (Ends s t c d v vs m) at h told =
      let n = met s t c d v turns.Last at m in
      ⊎_elim
      (λ y. subst (λ ms. Tells t (along k ms)) (sym y.nodes)
      (subst (Tells t) (after_on p v k y.did (ap (λ q. begins q p) y.at ∙ begins_itself p)) (n.tells k told)))
      (⊎_elim
      (λ y. let f : turns.Last ≡ turns.On = n.turn ∙ turn_onward p v y.did y.begun y.above in absurd (cc))
      (⊎_elim (λ y. let f : false ≡ true = y.0 in absurd (cc))
      (λ y. absurd (aside_last p v y.fault y.off n.turn))))
      (cases p None ns (v ∷ vs) h)

-- the changes that are known then are those before and those over the nodes
changes_then : (k : Known) (ns : List Node) → (along k ns).changes ≡ k.changes ++ changes_over k.last ns
changes_then k [] = sym (append-nil k.changes)
changes_then k (m ∷ ms) =
    changes_then (with_step m k) ms ∙ append_assoc k.changes (between k.last m ∷ []) (changes_over m ms)

-- ---- a whole tree

-- where a visit that is heard is at a path, visits come to it
comes_by : (p : List ℕ) (w : Visit) → w.path ≡ p → (vs : List Visit) → Contains (heard_visits vs) w
    → (out : Option (List ℕ)) → IsApart p out → Comes p out vs
comes_by p w at [] h out a = absurd (contains_none w h)
comes_by p w at (v ∷ vs) h out a =
    ⊎_elim (λ e. inl (ap (λ x. x.path) e ∙ at))
    (λ l. let k = by (comes_by p w at vs) (is_fault_here v.sight) refl l in
    inr (whether (is_out out v) refl k.0 k.1))
    (contains_cases v w (cond (is_fault_here v.sight) [] (heard_visits vs)) h)
  where
    by : (Contains (heard_visits vs) w → (o : Option (List ℕ)) → IsApart p o → Comes p o vs) → (b : Bool)
        → is_fault_here v.sight ≡ b → Contains (cond b [] (heard_visits vs)) w
        → (is_fault_here v.sight ≡ false) × ((o : Option (List ℕ)) → IsApart p o → Comes p o vs)
    by deep true e l = absurd (contains_none w l)
    by deep false e l = (e, deep l)

    whether : (b : Bool) → is_out out v ≡ b → is_fault_here v.sight ≡ false
        → ((o : Option (List ℕ)) → IsApart p o → Comes p o vs)
        → ((is_out out v ≡ true) × Comes p out vs)
        ⊎ ((is_out out v ≡ false) × (is_fault_here v.sight ≡ false) × Comes p (left_out p v) vs)
    whether true e f deep = inl (e, deep out a)
    whether false e f deep = inr (e, f, deep (left_out p v) (apart_left p v))

-- where visits come to a path, one of them is at it
record IsAmong (p : List ℕ) (vs : List Visit) : Type 0 where
  visit : Visit
  within : Contains vs visit
  at : visit.path ≡ p

comes_among : (p : List ℕ) (out : Option (List ℕ)) (vs : List Visit) → Comes p out vs → IsAmong p vs
comes_among p out [] c = absurd c
comes_among p out (v ∷ vs) c =
    ⊎_elim (λ e. record { visit = v; within = contains_first v vs; at = e })
    (⊎_elim (λ k. later (comes_among p out vs k.1)) (λ k. later (comes_among p (left_out p v) vs k.2))) c
  where
    later : IsAmong p vs → IsAmong p (v ∷ vs)
    later m = record { visit = m.visit; within = contains_later v m.visit vs m.within; at = m.at }

-- ---- a walk that comes to a plan at a path comes to a visit there

same_numbers : (i j : ℕ) → nat_lt i j ≡ false → nat_lt j i ≡ false → i ≡ j
same_numbers i j e f = grind (arith, nat_tests)

-- what a turn at a decomposition tells of its path
abbrev DidTells : List ℕ → List ℕ → Coming → passes.Turn Coming → Type 0
DidTells q p k (passes.On t) = (t.answer ≡ k.answer) × (begins q p ≡ true)
DidTells q p k (passes.Past t) = (t.answer ≡ k.answer) × (begins q p ≡ false)
DidTells q p k (passes.Last t) = t.answer ≡ k.answer

-- and at a plan
abbrev PlanTells : List ℕ → List ℕ → Coming → passes.Turn Coming → Type 0
PlanTells q p k (passes.On t) = t ≡ k
PlanTells q p k (passes.Past t) = ⊥
PlanTells q p k (passes.Last t) = q ≡ p

did_deeper : (i j : ℕ) (q p : List ℕ) (k : Coming) → i ≡ j → (x : passes.Turn Coming) → DidTells q p k x
    → DidTells (i ∷ q) (j ∷ p) k x
did_deeper i j q p k e (passes.On t) h = (h.0, ap (λ b. b && begins q p) (eq-eqb i j e) ∙ h.1)
did_deeper i j q p k e (passes.Past t) h = (h.0, ap (λ b. b && begins q p) (eq-eqb i j e) ∙ h.1)
did_deeper i j q p k e (passes.Last t) h = h

plan_deeper : (i j : ℕ) (q p : List ℕ) (k : Coming) → i ≡ j → (x : passes.Turn Coming) → PlanTells q p k x
    → PlanTells (i ∷ q) (j ∷ p) k x
plan_deeper i j q p k e (passes.On t) h = h
plan_deeper i j q p k e (passes.Past t) h = h
plan_deeper i j q p k e (passes.Last t) h = ap₂ (λ n l. n ∷ l) e h

did_tells : (q p : List ℕ) (k : Coming) → DidTells q p k (reach_did (side_of q p) k)
did_tells [] [] k = (refl, refl)
did_tells [] (j ∷ p) k = (refl, refl)
did_tells (i ∷ q) [] k = refl
did_tells (i ∷ q) (j ∷ p) k = by (nat_lt i j) refl (nat_lt j i) refl (did_tells q p k)
  where
    by : (a : Bool) → nat_lt i j ≡ a → (b : Bool) → nat_lt j i ≡ b → DidTells q p k (reach_did (side_of q p) k)
        → DidTells (i ∷ q) (j ∷ p) k (reach_did (side_of (i ∷ q) (j ∷ p)) k)
    by true e b f h =
        let less : i < j = ltb-true i j e in
        rw e (refl, ap (λ c. c && begins q p) (ne_eqb i j (λ x. omega (arith, x, less))))
    by false e true f h = rw (e, f) refl
    by false e false f h =
        rw (e, f) (did_deeper i j q p k (same_numbers i j e f) (reach_did (side_of q p) k) h)

plan_tells : (q p : List ℕ) (k : Coming) → PlanTells q p k (plan_turn (side_of q p) k)
plan_tells [] [] k = refl
plan_tells [] (j ∷ p) k = refl
plan_tells (i ∷ q) [] k = refl
plan_tells (i ∷ q) (j ∷ p) k = by (nat_lt i j) refl (nat_lt j i) refl (plan_tells q p k)
  where
    by : (a : Bool) → nat_lt i j ≡ a → (b : Bool) → nat_lt j i ≡ b → PlanTells q p k (plan_turn (side_of q p) k)
        → PlanTells (i ∷ q) (j ∷ p) k (plan_turn (side_of (i ∷ q) (j ∷ p)) k)
    by true e b f h = rw e refl
    by false e true f h = rw (e, f) refl
    by false e false f h =
        rw (e, f) (plan_deeper i j q p k (same_numbers i j e f) (plan_turn (side_of q p) k) h)

module _ (p : List ℕ) (v : Visit) (vs : List Visit) where
  -- what is known after a visit and those behind it, by the turn there
  abbrev behind : passes.Turn Coming → Coming
  behind (passes.On t) = (pass (reach_turn p) None t vs).knows
  behind (passes.Past t) = (pass (reach_turn p) (Some v.path) t vs).knows
  behind (passes.Last t) = t

  abbrev ComesBehind : Type 0
  ComesBehind =
      (o : Option (List ℕ)) (k : Coming) → k.answer ≢ reached.At → (pass (reach_turn p) o k vs).knows.answer ≡ reached.At
      → Comes p o vs

  -- the visit is at the path, or visits behind it come to the path
  abbrev ComesHere : Type 0
  ComesHere = (v.path ≡ p) ⊎ ((is_fault_here v.sight ≡ false) × Comes p (left_out p v) vs)

  on_left : begins v.path p ≡ true → left_out p v ≡ None
  on_left b = ap (λ y. cond (is_did v.sight && not y) (Some v.path) None) b ∙ by (is_did v.sight)
    where
      by : (a : Bool) → cond (a && not true) (Some v.path) None ≡ None
      by true = refl
      by false = refl

  abbrev turn_by : Coming → Sight → passes.Turn Coming
  turn_by k x = reach_turn p k (visit v.path v.node x)

  module _ (deep : ComesBehind) (k : Coming) (n : k.answer ≢ reached.At) where
    of_did : v.sight ≡ Did → (x : passes.Turn Coming) → DidTells v.path p (with_did k) x
        → (behind x).answer ≡ reached.At → ComesHere
    of_did e (passes.Past t) s g =
        let past = all_left p v (ap is_did e) s.1 in
        inr (
          ap is_fault_here e,
          subst (λ o. Comes p o vs) (sym past)
              (deep (Some v.path) t (λ h. n (sym s.0 ∙ h)) g),
        )
    of_did e (passes.On t) s g =
        inr (ap is_fault_here e, subst (λ o. Comes p o vs) (sym (on_left s.1)) (deep None t (λ h. n (sym s.0 ∙ h)) g))
    of_did e (passes.Last t) s g = absurd (n (sym s ∙ g))

    onward : is_fault_here v.sight ≡ false → is_did v.sight ≡ false
        → (pass (reach_turn p) None k vs).knows.answer ≡ reached.At → ComesHere
    onward f d g = inr (f, subst (λ o. Comes p o vs) (sym (none_left p v d)) (deep None k n g))

    of_plan : v.sight ≡ Plan → (x : passes.Turn Coming) → PlanTells v.path p k x → (behind x).answer ≡ reached.At
        → ComesHere
    of_plan e (passes.Past t) s g = absurd s
    of_plan e (passes.On t) s g =
        onward (ap is_fault_here e) (ap is_did e)
        (subst (λ y. (pass (reach_turn p) None y vs).knows.answer ≡ reached.At) s g)
    of_plan e (passes.Last t) s g = inl s

    of_visit : (x : Sight) → v.sight ≡ x → (behind (reach_turn p k v)).answer ≡ reached.At → ComesHere
    of_visit Did e g =
        of_did e (reach_did (side_of v.path p) (with_did k)) (did_tells v.path p (with_did k)) (subst (λ y. (behind (turn_by k y)).answer ≡ reached.At) e g)
    of_visit Plan e g =
        of_plan e (plan_turn (side_of v.path p) k) (plan_tells v.path p k) (subst (λ y. (behind (turn_by k y)).answer ≡ reached.At) e g)
    of_visit CutHere e g =
        onward (ap is_fault_here e) (ap is_did e) (subst (λ y. (behind (turn_by k y)).answer ≡ reached.At) e g)
    of_visit (FaultHere f) e g =
        let h : reached.Fault f ≡ reached.At = subst (λ y. (behind (turn_by k y)).answer ≡ reached.At) e g in absurd (cc)

reaches : (p : List ℕ) (vs : List Visit) (out : Option (List ℕ)) (k : Coming) → k.answer ≢ reached.At
    → (pass (reach_turn p) out k vs).knows.answer ≡ reached.At → Comes p out vs
reaches p [] out k n h = absurd (n h)
reaches p (v ∷ vs) out k n h = by (is_out out v) refl (reaches p vs) h
  where
    made : (x : passes.Turn Coming) → (with_made v (elim x [
      | passes.On t ↦ pass (reach_turn p) None t vs
      | passes.Past t ↦ pass (reach_turn p) (Some v.path) t vs
      | passes.Last t ↦ passed_all t vs
    ])).knows ≡ behind p v vs x
    made (passes.On t) = refl
    made (passes.Past t) = refl
    made (passes.Last t) = refl

    by : (b : Bool) → is_out out v ≡ b → ComesBehind p v vs
        → (cond b (pass (reach_turn p) out k vs) (with_made v (elim (reach_turn p k v) [
          | passes.On t ↦ pass (reach_turn p) None t vs
          | passes.Past t ↦ pass (reach_turn p) (Some v.path) t vs
          | passes.Last t ↦ passed_all t vs
        ]))).knows.answer ≡ reached.At
        → Comes p out (v ∷ vs)
    by true e deep g = inr (inl (e, deep out k n g))
    by false e deep g =
        ⊎_elim (λ y. inl y) (λ y. inr (inr (e, y.0, y.1)))
        (of_visit p v vs deep k n v.sight refl (sym (ap (λ c. c.answer) (made (reach_turn p k v))) ∙ g))

-- ---- a whole tree

module _ (t : Tree) (p : List ℕ) where
  comes_to : IsMet t p → Comes p None (tree_visits t)
  comes_to (Heard v h at) = comes_by p v at (tree_visits t) h None tt
  comes_to (Reached h) = reaches p (tree_visits t) None nothing_met (λ e. cc) h

  -- so the visits of a tree lead along the path
  tree_leads : (i : ℕ) (q : List ℕ) → p ≡ i ∷ q → IsMet t p
      → Leads p None (nodes_on t.rules t.nest t.root p) (tree_visits t)
  unfolding visits
  tree_leads i q e h =
      let vs = tree_visits t in
      let come : Comes (i ∷ q) None vs = subst (λ r. Comes r None vs) e (comes_to h) in
      let among = comes_among (i ∷ q) None vs come in
      let at : node_at t.rules t.nest t.root (i ∷ q) ≡ Some among.visit.node =
      ap (node_at t.rules t.nest t.root) (sym among.at)
      ∙ All-contains (IsAtItsNode t) vs among.visit (visits_in_tree t.rules t.nest t.root) among.within in
      subst (λ r. Leads r None (nodes_on t.rules t.nest t.root r) vs) (sym e)
      (subst (Leads (i ∷ q) None (nodes_on t.rules t.nest t.root (i ∷ q))) (append-nil vs)
      (lead_from t.rules t.nest t.root.depth t.root [] i q among.visit.node [] refl at None tt
      (subst (Comes (i ∷ q) None) (sym (append-nil vs)) come)))

  pub are_along : (s u : Changing) (c e : Unit {0}) (vs : List Visit) (there : Standing) → is_small p ≡ true
      → s.target.now ≡ p → s.changes.items ≡ [] → Holds s.before t.root → vs ≡ tree_visits t
      → (length p == 0) ≡ false → Passes MeetsChanging s c vs u e there → AreAlong t p u.changes.items
  are_along s u c e vs there small at none holds new some made = record {
    small = small;
    are = λ h. by p refl h;
  }
    where
      by : (q : List ℕ) → p ≡ q → IsMet t p → map changed_of u.changes.items ≡ changes_along t.rules t.nest t.root p
      by [] f h = let k : true ≡ false = sym (ap (λ l. length l == 0) f) ∙ some in absurd (cc)
      by (i ∷ q) f h =
          (tells_then p small s u c e (tree_visits t) there (at_root t.root) (nodes_on t.rules t.nest t.root p)
          (subst (λ ws. Passes MeetsChanging s c ws u e there) new made) at (tree_leads i q f h)
          (record { before = holds; changes = ap (map changed_of) none })).changes
          ∙ changes_then (at_root t.root) (nodes_on t.rules t.nest t.root p)

-- what is held before the first visit is that of the root
pub root_held : (t : Tree) (s : Standing) (h : Holding) → s.path ≡ [] → MatchOption (node_reached t s) ⊥ (Holds h)
    → Holds h t.root
root_held t s h e k = subst (λ o. MatchOption o ⊥ (Holds h)) (reached_root t s e) k
