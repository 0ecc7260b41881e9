-- In a trace a decomposition is reported as a dead end exactly where its node is one.
use Rattle.std.proofs.Common.{append_assoc, ◌≡◌, ◌<◌, ◌≤◌, ℕ, zero, suc, ◌+◌, ◌-◌, Bool, true, false, ◌&&◌, ◌||◌, ◌==◌, cond, List, [], ◌∷◌, ◌++◌, length, length-append, take, Option, Some, None, refl, sym, ap, ap₂, ◌∙◌, subst, arith, ⊎_elim}
use Rattle.std.specs.Prelude.{filter, nat_le, nat_lt, not, slice_get}
use Rattle.std.specs.List.{All, AllPairs}
use Rattle.std.proofs.lemmas.Bool.Decides.{nat_tests}
use Rattle.std.proofs.lemmas.List.Elements.{All-nil, All-cons, All-head, All-tail, All-weaker}
use Rattle.std.proofs.lemmas.Option.{same_Some}
use Rattle.hp_after.specs.Stepping.{AllFollow, Follows, IsBeginning}
use Rattle.hp_after.proofs.SteppingLemmas.{tree_follows}
use Rattle.hp_dead_ends.proofs.DeadLemmas.{AllTell, TellsEnd, begins_on, tree_tells}
use Rattle.hp_dead_ends.proofs.FitLemmas.{AllFit, tree_fits}
use Rattle.hp_dead_ends.proofs.MeetSteps.{over_by, rest_of}
use Rattle.hp_dead_ends.specs.DeadEnds.{IsDeadEnd, ends_at}
use Rattle.hp_dead_ends.specs.Searching as searching
use Rattle.hp_dead_ends.specs.Searching.{StepsOn}
use Rattle.hp_laws.proofs.JoinLemmas.{pairs_head, pairs_tail}
use Rattle.hp_laws.proofs.OrderLemmas.{visits_in_order}
use Rattle.hp_laws.specs.TreeLaws.{ComesBefore, IsBefore, IsPlanOf, IsReached, PlanOf}
use Rattle.hp_net.specs.Standings.{Tree, tree_visits}
use Rattle.hp_passes.specs.Passes as passes
use Rattle.hp_passes.specs.declared.passing.Turn.{Turn}
use Rattle.hp_passes.specs.declared.passing.Turn.TheVariants as turns
use Rattle.hp_syntax.specs.Syntax.{Rule}
use Rattle.hp_syntax.specs.Walk.{Sight, Did, Plan, CutHere, FaultHere, Visit, begins, is_did, is_plan}
use Rattle.hp_trace.specs.declared.tracing.Seen.{Seen}
use Rattle.hp_trace.specs.declared.tracing.Seen.TheVariants as seen
use Rattle.hp_trace.specs.declared.tracing.TracedVisit.{TracedVisit}
use Rattle.hp_trace.specs.Traces.{AreTraced, IsSeen, IsTrace, IsTraced, is_dead_end, is_over, known, turn_by, turn_to, visits_from}
use Rattle.hp_trace.proofs.TraceSteps.{is_first, turn_faultless}

-- ---- paths at or below another one

-- what begins a path begins what goes on from that
pub begins_through : (p q r : List ℕ) → begins p q ≡ true → begins q r ≡ true → begins p r ≡ true
begins_through p q r a b =
    let x = rest_of p q a in
    let y = rest_of q r b in
    subst (λ l. begins p l ≡ true)
    (sym (y.1 ∙ (ap (λ l. l ++ y.0) x.1 ∙ append_assoc p x.0 y.0))) (begins_on p (x.0 ++ y.0))

-- a path that doesn't begin the first of two doesn't begin a beginning of it
above_out : (p q r : List ℕ) → IsBeginning r q → begins p q ≡ false → begins p r ≡ false
above_out p q r b out = by (begins p r) refl
  where
    by : (x : Bool) → begins p r ≡ x → x ≡ false
    by true e =
        let whole : begins r q ≡ true = ap (begins r) b.whole ∙ begins_on r b.behind in
        let k : true ≡ false = sym (begins_through p r q e whole) ∙ out in absurd (cc)
    by false e = refl

-- nor one number more below that, unless it is the path itself
below_out : (p a : List ℕ) (i : ℕ) → begins p a ≡ false → (a ++ i ∷ [] ≡ p → ⊥) → begins p (a ++ i ∷ []) ≡ false
below_out [] a i out n = absurd (cc)
below_out (j ∷ []) [] i out n = by (j == i) refl
  where
    by : (b : Bool) → (j == i) ≡ b → (b && true) ≡ false
    by true e = let same : j ≡ i = grind arith in absurd (n (ap (λ k. k ∷ []) (sym same)))
    by false e = refl
below_out (j ∷ k ∷ p) [] i out n = by (j == i)
  where
    by : (b : Bool) → (b && false) ≡ false
    by true = refl
    by false = refl
below_out (j ∷ p) (k ∷ a) i out n = by (j == k) refl out (below_out p a i)
  where
    by : (b : Bool) → (j == k) ≡ b → (b && begins p a) ≡ false
        → (begins p a ≡ false → (a ++ i ∷ [] ≡ p → ⊥) → begins p (a ++ i ∷ []) ≡ false)
        → (b && begins p (a ++ i ∷ [])) ≡ false
    by true e o deep = let same : j ≡ k = grind arith in deep o (λ x. n (ap₂ (λ h t. h ∷ t) (sym same) x))
    by false e o deep = refl

-- a path at or below another one doesn't come before it
not_above : (p q : List ℕ) → begins p q ≡ true → IsBefore q p → ⊥
not_above [] q e h = h
not_above (i ∷ p) [] e h = absurd (cc)
not_above (i ∷ p) (j ∷ q) e h = by (i == j) refl e (λ k. not_above p q k)
  where
    by : (b : Bool) → (i == j) ≡ b → (b && begins p q) ≡ true → (begins p q ≡ true → IsBefore q p → ⊥) → ⊥
    by true s k deep = let same : i ≡ j = grind arith in ⊎_elim (λ l. omega (arith, l, same)) (λ r. deep k r.1) h
    by false s k deep = absurd (cc)

-- ---- after the visits at or below a path

-- another decomposition isn't at the path
abbrev IsElse : List ℕ → Visit → Type 0
IsElse p w = w.sight ≡ Did → w.path ≡ p → ⊥

abbrev IsOut : List ℕ → Visit → Type 0
IsOut p w = begins p w.path ≡ false

abbrev InOrder : Visit → Visit → Type 0
InOrder v w = IsReached v.sight → IsReached w.sight → ComesBefore v w

one_out : (p q r : List ℕ) (x : Sight) → Follows x r q → begins p q ≡ false → (x ≡ Did → r ≡ p → ⊥) → begins p r ≡ false
one_out p q r Did f out n =
    subst (λ l. begins p l ≡ false) (sym f.path)
    (below_out p f.above f.number (above_out p q f.above f.beginning out) (λ e. n refl (f.path ∙ e)))
one_out p q r Plan f out n = above_out p q r f out
one_out p q r CutHere f out n = above_out p q r f out
one_out p q r (FaultHere g) f out n = above_out p q r f out

-- once a visit isn't at or below the path, no later one is
all_out : (p q : List ℕ) (vs : List Visit) → AllFollow q vs → begins p q ≡ false → All (IsElse p) vs → All (IsOut p) vs
all_out p q [] f out n = All-nil (IsOut p)
all_out p q (v ∷ vs) f out n =
    let here = one_out p q v.path v.sight f.0 out (All-head (IsElse p) v vs n) in
    All-cons (IsOut p) v vs here (all_out p v.path vs f.1 here (All-tail (IsElse p) v vs n))

no_did_of : (x y : Sight) → IsPlanOf x y → y ≡ Did → ⊥
no_did_of _ _ PlanOf e = cc

is_reached : (x : Sight) → x ≡ Did → IsReached x
is_reached x e = ap (λ y. is_did y || is_plan y) e

-- a decomposition after one at or below the path isn't at the path
else_later : (p : List ℕ) (v : Visit) → v.sight ≡ Did → begins p v.path ≡ true → (w : Visit) → InOrder v w → IsElse p w
else_later p v s e w order did same =
    ⊎_elim (λ b. not_above p v.path e (subst (IsBefore v.path) same b)) (λ k. no_did_of v.sight w.sight k.1 did)
    (order (is_reached v.sight s) (is_reached w.sight did))

-- ---- the visits at or below a path

module _ (p : List ℕ) where
  abbrev kept : passes.Passed (Unit {0}) → List Visit
  kept k = filter (λ w. begins p w.path) k.made

  abbrev after : Visit → List Visit → passes.Turn (Unit {0}) → passes.Passed (Unit {0})
  after v vs (passes.On t) = passes.pass (turn_to p) None t vs
  after v vs (passes.Past t) = passes.pass (turn_to p) (Some v.path) t vs
  after v vs (passes.Last t) = passes.passed_all t vs

  -- where no visit is at or below it, none is kept
  none_by : (v : Visit) (vs ws : List Visit) → begins p v.path ≡ false → ws ≡ []
      → cond (begins p v.path) (v ∷ ws) ws ≡ []
  none_by v vs ws e n = ap (λ b. cond b (v ∷ ws) ws) e ∙ n

  none_after : (v : Visit) (vs : List Visit)
      → ((out : Option (List ℕ)) → kept (passes.pass (turn_to p) out tt vs) ≡ [])
      → (x : Turn) → kept (after v vs (known x)) ≡ []
  none_after v vs h turns.On = h None
  none_after v vs h turns.Past = h (Some v.path)
  none_after v vs h turns.Last = refl

  none_kept : (vs : List Visit) → All (IsOut p) vs → (out : Option (List ℕ))
      → kept (passes.pass (turn_to p) out tt vs) ≡ []
  none_kept [] a out = refl
  none_kept (v ∷ vs) a out =
      by (passes.is_out out v) (λ o. none_kept vs (All-tail (IsOut p) v vs a) o)
    where
      by : (b : Bool) → ((o : Option (List ℕ)) → kept (passes.pass (turn_to p) o tt vs) ≡ [])
          → kept (cond b (passes.pass (turn_to p) out tt vs)
          (passes.with_made v (after v vs (known (turn_by p v.path v.sight))))) ≡ []
      by true h = h out
      by false h =
          none_by v vs (kept (after v vs (known (turn_by p v.path v.sight)))) (All-head (IsOut p) v vs a)
          (none_after v vs h (turn_by p v.path v.sight))

  -- nothing comes after a decomposition, or nothing at or below it, by the lengths of their paths
  abbrev over_next : Visit → List Visit → Bool
  over_next v [] = true
  over_next v (w ∷ ws) = searching.is_over w.sight (length w.path) (length v.path)

  abbrev IsKnown : Visit → List Visit → Type 0
  IsKnown v vs = v.sight ≡ Did → begins p v.path ≡ true → over_next v (visits_from p vs) ≡ ends_at v.path vs

  abbrev AllKnown : List Visit → Type 0
  AllKnown [] = Unit {0}
  AllKnown (v ∷ vs) = IsKnown v vs × AllKnown vs

  -- so it is by those at or below the path
  known_inside : (v w : Visit) (ws : List Visit) → StepsOn v.path w → begins p w.path ≡ true
      → over_next v (visits_from p (w ∷ ws)) ≡ ends_at v.path (w ∷ ws)
  known_inside v w ws s e =
      ap (over_next v) (is_first p w ws e).is ∙ over_by v.path w.path w.sight s.follows s.other

  known_outside : (v w : Visit) (ws : List Visit) → v.sight ≡ Did → begins p v.path ≡ true
      → AllFollow v.path (w ∷ ws) → All (InOrder v) (w ∷ ws) → begins p w.path ≡ false
      → over_next v (visits_from p (w ∷ ws)) ≡ ends_at v.path (w ∷ ws)
  known_outside v w ws did e f order out =
      let others = All-weaker (InOrder v) (IsElse p) (else_later p v did e) ws (All-tail (InOrder v) w ws order) in
      let all = All-cons (IsOut p) w ws out (all_out p w.path ws f.1 out others) in
      ap (over_next v) (none_kept (w ∷ ws) all None) ∙ sym (ap not (apart (begins v.path w.path) refl))
    where
      apart : (b : Bool) → begins v.path w.path ≡ b → b ≡ false
      apart true k = let c : true ≡ false = sym (begins_through p v.path w.path e k) ∙ out in absurd (cc)
      apart false k = refl

  is_known : (d : ℕ) (v : Visit) (vs : List Visit) → v.sight ≡ Did → begins p v.path ≡ true → AllFit d v.path vs
      → AllFollow v.path vs → All (InOrder v) vs → over_next v (visits_from p vs) ≡ ends_at v.path vs
  is_known d v [] did e fit f order = refl
  is_known d v (w ∷ ws) did e fit f order = by (begins p w.path) refl
    where
      by : (b : Bool) → begins p w.path ≡ b → over_next v (visits_from p (w ∷ ws)) ≡ ends_at v.path (w ∷ ws)
      by true k = known_inside v w ws fit.0 k
      by false k = known_outside v w ws did e f order k

  all_known : (d : ℕ) (q r : List ℕ) (vs : List Visit) → AllFit d q vs → AllFollow r vs → AllPairs InOrder vs
      → AllKnown vs
  all_known d q r [] fit f order = tt
  all_known d q r (v ∷ vs) fit f order = (
    λ did e. is_known d v vs did e (subst (λ x. AllFit d (cond (is_did x) v.path q) vs) did fit.2) f.1
        (pairs_head InOrder v vs order),
    all_known d (cond (is_did v.sight) v.path q) v.path vs fit.2 f.1 (pairs_tail InOrder v vs order),
  )

  -- ---- dead ends among them

  module _ (rules : List Rule) (nest : ℕ) where
    record Shows (v : Visit) (ws : List Visit) : Type 0 where
      dead : over_next v ws ≡ true → IsDeadEnd rules nest v.node
      over : IsDeadEnd rules nest v.node → over_next v ws ≡ true

    record IsShown (v : Visit) (ws : List Visit) : Type 0 where
      here : begins p v.path ≡ true
      shows : v.sight ≡ Did → Shows v ws

    abbrev AllShown : List Visit → Type 0
    AllShown [] = Unit {0}
    AllShown (v ∷ ws) = IsShown v ws × AllShown ws

    shown_after : (v : Visit) (vs : List Visit)
        → ((out : Option (List ℕ)) → AllShown (kept (passes.pass (turn_to p) out tt vs)))
        → (x : Turn) → AllShown (kept (after v vs (known x)))
    shown_after v vs h turns.On = h None
    shown_after v vs h turns.Past = h (Some v.path)
    shown_after v vs h turns.Last = tt

    -- at a decomposition at or below the path the pass goes on
    on_after : (v : Visit) (vs : List Visit) → v.sight ≡ Did → begins p v.path ≡ true
        → kept (after v vs (known (turn_by p v.path v.sight))) ≡ visits_from p vs
    on_after v vs did e =
        sym (ap (λ x. kept (after v vs (known x))) (turn_faultless p v.path Did e refl
        ∙ ap (turn_by p v.path) (sym did)))

    shows_here : (v : Visit) (vs : List Visit) → (is_did v.sight ≡ true → TellsEnd rules nest v vs) → IsKnown v vs
        → v.sight ≡ Did → begins p v.path ≡ true → Shows v (kept (after v vs (known (turn_by p v.path v.sight))))
    shows_here v vs tells knows did e =
        let t = tells (ap is_did did) in
        subst (Shows v) (sym (on_after v vs did e)) (record {
          dead = λ h. t.dead (sym (knows did e) ∙ h);
          over = λ h. knows did e ∙ t.over h;
        })

    all_shown : (vs : List Visit) → AllTell rules nest vs → AllKnown vs → (out : Option (List ℕ))
        → AllShown (kept (passes.pass (turn_to p) out tt vs))
    all_shown [] a k out = tt
    all_shown (v ∷ vs) a k out =
        by (passes.is_out out v) (λ o. all_shown vs a.1 k.1 o)
      where
        here : (b : Bool) → begins p v.path ≡ b
            → ((o : Option (List ℕ)) → AllShown (kept (passes.pass (turn_to p) o tt vs)))
            → AllShown (cond b (v ∷ kept (after v vs (known (turn_by p v.path v.sight))))
            (kept (after v vs (known (turn_by p v.path v.sight)))))
        here true e h = (
          record { here = e; shows = λ did. shows_here v vs a.0 k.0 did e },
          shown_after v vs h (turn_by p v.path v.sight),
        )
        here false e h = shown_after v vs h (turn_by p v.path v.sight)

        by : (b : Bool) → ((o : Option (List ℕ)) → AllShown (kept (passes.pass (turn_to p) o tt vs)))
            → AllShown (kept (cond b (passes.pass (turn_to p) out tt vs)
            (passes.with_made v (after v vs (known (turn_by p v.path v.sight))))))
        by true h = h out
        by false h = here (begins p v.path) refl h

-- ---- as they are traced

-- what is seen at a visit tells as much as its sight
seen_over : (t : Tree) (w : Visit) (y : Seen) (here last : ℕ) → IsSeen t w y
    → is_over y here last ≡ searching.is_over w.sight here last
seen_over t w (seen.Did d) here last s = ap (λ x. searching.is_over x here last) (sym s.0)
seen_over t w seen.Plan here last s = ap (λ x. searching.is_over x here last) (sym s)
seen_over t w seen.DepthCut here last s = ap (λ x. searching.is_over x here last) (sym s.0)
seen_over t w seen.LevelCut here last s = ap (λ x. searching.is_over x here last) (sym s.0)
seen_over t w (seen.Fault f) here last s = ap (λ x. searching.is_over x here last) (sym s)

le_less : (a b k : ℕ) → k ≤ a → k ≤ b → nat_le (a - k) (b - k) ≡ nat_le a b
le_less a b k h l = grind (arith, nat_tests)

lt_less : (a b k : ℕ) → k ≤ a → k ≤ b → nat_lt (a - k) (b - k) ≡ nat_lt a b
lt_less a b k h l = grind (arith, nat_tests)

-- as many decompositions less on both sides make no difference
over_less : (x : Sight) (a b k : ℕ) → k ≤ a → k ≤ b → searching.is_over x (a - k) (b - k) ≡ searching.is_over x a b
over_less Did a b k h l = le_less a b k h l
over_less Plan a b k h l = lt_less a b k h l
over_less CutHere a b k h l = lt_less a b k h l
over_less (FaultHere f) a b k h l = lt_less a b k h l

long_enough : (p q : List ℕ) → begins p q ≡ true → length p - 1 ≤ length q
long_enough p q e = let r = rest_of p q e in omega (arith, ap length r.1, length-append p r.0)

module _ (own : List Rule) (t : Tree) (p : List ℕ) where
  abbrev AreHere : List Visit → List TracedVisit → Type 0
  AreHere vs xs = AreTraced own t (length p - 1) vs xs

  -- a traced visit that comes next
  next_over : (v w : Visit) (ws : List Visit) (x y : TracedVisit) → IsTraced own t (length p - 1) v x
      → IsTraced own t (length p - 1) w y → begins p v.path ≡ true → begins p w.path ≡ true
      → is_over y.seen y.level x.level ≡ over_next p v (w ∷ ws)
  next_over v w ws x y a b e f =
      seen_over t w y.seen y.level x.level b.seen
      ∙ (ap₂ (searching.is_over w.sight) b.level a.level
      ∙ over_less w.sight (length w.path) (length v.path) (length p - 1) (long_enough p w.path f)
      (long_enough p v.path e))

  -- where one more is known than the first, what follows it is known
  first_over : (m : ℕ) (v : Visit) (ws : List Visit) (x : TracedVisit) (xs : List TracedVisit)
      → IsTraced own t (length p - 1) v x → begins p v.path ≡ true → AllShown p t.rules t.nest ws
      → AreHere (take (suc m) ws) xs → is_dead_end x.level (slice_get xs 0) ≡ over_next p v ws
  first_over m v [] x [] a e all h = refl
  first_over m v [] x (y ∷ xs) a e all h = absurd h
  first_over m v (w ∷ ws) x [] a e all h = absurd h
  first_over m v (w ∷ ws) x (y ∷ xs) a e all h = next_over v w ws x y a h.0 e all.0.here

  -- what is reported of the visit of a number
  pub record Reports (n i : ℕ) (v : Visit) (x : TracedVisit) (next : Option TracedVisit) : Type 0 where
    pub dead : i < n → is_dead_end x.level next ≡ true → IsDeadEnd t.rules t.nest v.node
    pub found : IsDeadEnd t.rules t.nest v.node → is_dead_end x.level next ≡ true

  none_more : (xs : List TracedVisit) → AreHere [] xs → xs ≡ []
  none_more [] h = refl
  none_more (x ∷ xs) h = absurd h

  first_reports : (n : ℕ) (v : Visit) (ws : List Visit) (x : TracedVisit) (xs : List TracedVisit) → v.sight ≡ Did
      → IsTraced own t (length p - 1) v x → IsShown p t.rules t.nest v ws → AllShown p t.rules t.nest ws
      → AreHere (take n ws) xs → Reports n 0 v x (slice_get xs 0)
  first_reports zero v ws x xs did a s all h = record {
    dead = λ l k. absurd (omega (arith, l));
    found = λ k. ap (λ ys. is_dead_end x.level (slice_get ys 0)) (none_more xs h);
  }
  first_reports (suc m) v ws x xs did a s all h =
      let same = first_over m v ws x xs a s.here all h in
      record {
        dead = λ l k. (s.shows did).dead (sym same ∙ k);
        found = λ k. same ∙ (s.shows did).over k;
      }

  reports_at : (i n : ℕ) (ws : List Visit) (xs : List TracedVisit) → AreHere (take (suc n) ws) xs
      → AllShown p t.rules t.nest ws → (x : TracedVisit) (v : Visit) → slice_get xs i ≡ Some x
      → slice_get ws i ≡ Some v → v.sight ≡ Did → Reports n i v x (slice_get xs (suc i))
  reports_at i n [] xs h all x v e f did = absurd (cc)
  reports_at i n (w ∷ ws) [] h all x v e f did = absurd h
  reports_at zero n (w ∷ ws) (y ∷ ys) h all x v e f did =
      let one : y ≡ x = same_Some y x e in
      let two : w ≡ v = same_Some w v f in
      subst (λ z. Reports n 0 v z (slice_get ys 0)) one
      (subst (λ z. Reports n 0 z y (slice_get ys 0)) two
      (first_reports n w ws y ys (ap (λ z. z.sight) two ∙ did) h.0 all.0 all.1 h.1))
  reports_at (suc i) zero (w ∷ ws) (y ∷ ys) h all x v e f did =
      let k = ap (λ zs. slice_get zs i) (none_more ys h.1) in absurd (cc)
  reports_at (suc i) (suc n) (w ∷ ws) (y ∷ ys) h all x v e f did =
      let r = reports_at i n ws ys h.1 all.1 x v e f did in
      record { dead = λ l k. r.dead (omega (arith, l)) k; found = r.found }

-- what a trace reports of the visit of a number
pub reports : (own : List Rule) (t : Tree) (from : List ℕ) (most i : ℕ) (xs : List TracedVisit) (x : TracedVisit) (v : Visit)
    → IsTrace own t from most xs → slice_get xs i ≡ Some x → slice_get (visits_from from (tree_visits t)) i ≡ Some v
    → v.sight ≡ Did → Reports own t from most i v x (slice_get xs (i + 1))
reports own t from most i xs x v are e f did =
    let all = all_shown from t.rules t.nest (tree_visits t) (tree_tells t.rules t.nest t.root).1
    (all_known from t.root.depth [] [] (tree_visits t) (tree_fits t) (tree_follows t [])
    (visits_in_order t.rules t.nest t.root)) None in
    let next : suc i ≡ i + 1 = omega arith in
    subst (λ k. Reports own t from most i v x (slice_get xs k)) next
    (reports_at own t from i most (visits_from from (tree_visits t)) xs are all x v e f did)

-- ---- the root

-- a trace from the root on is empty where there is no visit
none_of : (own : List Rule) (t : Tree) (most : ℕ) (vs : List Visit) → AreTraced own t 0 (take (suc most) (visits_from [] vs)) [] → vs ≡ []
none_of own t most [] h = refl
none_of own t most (v ∷ vs) h =
    let first = is_first [] v vs refl in
    absurd (subst (λ ws. AreTraced own t 0 (take (suc most) ws) []) first.is h)

any_of : (own : List Rule) (t : Tree) (most : ℕ) (vs : List Visit) (xs : List TracedVisit) → vs ≡ []
    → AreTraced own t 0 (take (suc most) (visits_from [] vs)) xs → xs ≡ []
any_of own t most vs [] e h = refl
any_of own t most vs (x ∷ xs) e h =
    absurd (subst (λ ws. AreTraced own t 0 (take (suc most) (visits_from [] ws)) (x ∷ xs)) e h)

-- a dead end at the root is one where no visit comes
none_below : (vs : List Visit) → ends_at [] vs ≡ true → vs ≡ []
none_below [] e = refl
none_below (v ∷ vs) e = absurd (cc)

pub dead_root : (own : List Rule) (t : Tree) (most : ℕ) → IsTrace own t [] most [] → IsDeadEnd t.rules t.nest t.root
dead_root own t most are =
    let none = none_of own t most (tree_visits t) are in
    ((tree_tells t.rules t.nest t.root).0 refl).dead (ap (ends_at []) none)

pub root_found : (own : List Rule) (t : Tree) (most : ℕ) (xs : List TracedVisit) → IsTrace own t [] most xs
    → IsDeadEnd t.rules t.nest t.root → xs ≡ []
root_found own t most xs are dead =
    let none = none_below (tree_visits t) (((tree_tells t.rules t.nest t.root).0 refl).over dead) in
    any_of own t most (tree_visits t) xs none are
