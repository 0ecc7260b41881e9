-- An enumeration goes on behind its first plans.
use Rattle.std.proofs.Common.{◌≡◌, ℕ, ◌+◌, ◌<◌, ◌≤◌, Bool, true, false, ◌||◌, cond, List, [], ◌∷◌, ◌++◌, length, take, drop, refl, sym, ap, ◌∙◌, subst, append_assoc, length-append, arith}
use Rattle.std.specs.List.{All, filter}
use Rattle.std.specs.Prelude.{nat_le}
use Rattle.std.proofs.Math.Seq.{take-append_seam, take-append-add}
use Rattle.std.proofs.lemmas.Bool.{cond-true, cond-false}
use Rattle.std.proofs.lemmas.Bool.Decides.{nat_tests}
use Rattle.std.proofs.lemmas.List.{take-append-drop}
use Rattle.std.proofs.lemmas.List.Elements.{All-head, All-tail, filter-append}
use Rattle.hp_laws.specs.TreeLaws.{IsFaultless, first_plans}
use Rattle.hp_syntax.specs.Report.{Tally, nothing_seen, with_plan, with_did, with_cut, Ended, ended, Stopped, quiet_ending, end_of}
use Rattle.hp_syntax.specs.Syntax.{Rule}
use Rattle.hp_syntax.specs.Walk.{Node, Sight, Did, Plan, CutHere, FaultHere, Visit, visit, visits, is_plan, heard_visits}
use Rattle.hp_after.specs.Enumerations.{Continues, GoesOn, ReachesAt, ending_behind}
use Rattle.hp_after.specs.Reach.{ComesToPlan, reaching}
use Rattle.hp_after.specs.declared.reaching.Reached.TheVariants as reached
use Rattle.hp_after.proofs.HeardLemmas.{StandsIn, PassesBefore, heard_around, heard_stands, heard_twice, passing_stands}
use Rattle.hp_after.proofs.PlanLemmas.{comes_to_plan}

-- the plans among visits
abbrev plans_of : List Visit → List Visit
plans_of vs = filter (λ v. is_plan v.sight) vs

-- ---- endings

-- a number that is added to both sides doesn't matter to a test
le_shifted : (k m p q : ℕ) → p ≡ k + q → nat_le (k + m) (p + 1) ≡ nat_le m (q + 1)
le_shifted k m p q e = grind (arith, nat_tests)

-- the k-th plan is enough
enough : (k p : ℕ) → p + 1 ≡ k → nat_le k (p + 1) ≡ true
enough k p e = grind (arith, nat_tests)

-- one before it isn't
too_few : (k p : ℕ) → p + 1 < k → nat_le k (p + 1) ≡ false
too_few k p l = grind (arith, nat_tests)

-- at the end a cut matters, whether it was seen before or here
quiet_behind : (cut here : Bool) → quiet_ending (cut || here) ≡ ending_behind cut (quiet_ending here)
quiet_behind true true = refl
quiet_behind true false = refl
quiet_behind false true = refl
quiet_behind false false = refl

-- behind a cut a cut was seen
cut_seen : (cut : Bool) → true ≡ (cut || true)
cut_seen true = refl
cut_seen false = refl

-- before anything is seen only an earlier cut matters
cut_before : (cut : Bool) → cut ≡ (cut || false)
cut_before true = refl
cut_before false = refl

module _ (k : ℕ) (cut : Bool) (m : ℕ) where
  -- two tallies, of which the one has seen so many plans more, and a cut where there was one
  record Ahead (t u : Tally) : Type 0 where
    plans : t.plans ≡ k + u.plans
    cuts : t.is_cut ≡ (cut || u.is_cut)

  -- behind so many plans visits end as they do by themselves, but for a cut that was seen before
  abbrev EndAlike : List Visit → Type 0
  EndAlike vs = (t u : Tally) → Ahead t u → (end_of (k + m) t vs).ending ≡ ending_behind cut (end_of m u vs).ending

  -- so they do at a plan
  end_at_plan : (t u : Tally) (x y : Ended) → x.ending ≡ ending_behind cut y.ending → (b : Bool)
      → (cond b (ended Stopped t) x).ending ≡ ending_behind cut (cond b (ended Stopped u) y).ending
  end_at_plan t u x y h true = refl
  end_at_plan t u x y h false = h

  -- so they do from each visit on
  end_from : (q : List ℕ) (n : Node) (s : Sight) (vs : List Visit) → EndAlike vs → EndAlike (visit q n s ∷ vs)
  end_from q n Did vs deep t u b = deep (with_did t) (with_did u) (record { plans = b.plans; cuts = b.cuts })
  end_from q n Plan vs deep t u b =
      let more : Ahead (with_plan t) (with_plan u) = record { plans = omega (arith, b.plans); cuts = b.cuts } in
      ap (λ c. (cond c (ended Stopped (with_plan t)) (end_of (k + m) (with_plan t) vs)).ending)
      (le_shifted k m t.plans u.plans b.plans)
      ∙ end_at_plan (with_plan t) (with_plan u) (end_of (k + m) (with_plan t) vs) (end_of m (with_plan u) vs)
      (deep (with_plan t) (with_plan u) more) (nat_le m (u.plans + 1))
  end_from q n CutHere vs deep t u b =
      deep (with_cut t) (with_cut u) (record { plans = b.plans; cuts = cut_seen cut })
  end_from q n (FaultHere f) vs deep t u b = refl

  -- so all visits do
  end_alike : (vs : List Visit) → EndAlike vs
  end_alike [] t u b = ap quiet_ending b.cuts ∙ quiet_behind cut u.is_cut
  end_alike (v ∷ vs) t u b = end_from v.path v.node v.sight vs (end_alike vs) t u b

-- ---- up to the k-th plan

module _ (k : ℕ) (p : List ℕ) (n : Node) (later : List Visit) where
  -- the k-th plan
  abbrev last : Visit
  last = visit p n Plan

  -- where k plans are asked visits end at the k-th, and where more are they go on behind it
  record EndsThere (t : Tally) (vs : List Visit) : Type 0 where
    seen : Tally
    stopped : end_of k t vs ≡ ended Stopped seen
    plans : seen.plans ≡ k
    on : (more : ℕ) → 1 ≤ more → end_of (k + more) t vs ≡ end_of (k + more) seen later

  -- so visits do behind some with the plans before it
  abbrev AllStop : List Visit → Type 0
  AllStop before = (t : Tally) → t.plans + (length (plans_of before) + 1) ≡ k → EndsThere t (before ++ last ∷ later)

  -- so they do at that plan
  stops_here : (t : Tally) → t.plans + (0 + 1) ≡ k → EndsThere t (last ∷ later)
  stops_here t e =
      record {
        seen = with_plan t;
        stopped =
            cond-true (nat_le k (t.plans + 1)) (ended Stopped (with_plan t)) (end_of k (with_plan t) later)
            (enough k t.plans (omega (arith, e)));
        plans = omega (arith, e);
        on =
            λ more l.
            cond-false (nat_le (k + more) (t.plans + 1)) (ended Stopped (with_plan t))
            (end_of (k + more) (with_plan t) later) (too_few (k + more) t.plans (omega (arith, e)));
      }

  -- so they do from a visit without a fault on
  stops_from : (q : List ℕ) (m : Node) (s : Sight) (before : List Visit) → AllStop before → IsFaultless s
      → AllStop (visit q m s ∷ before)
  stops_from q m Did before deep f t e =
      let r = deep (with_did t) e in
      record { seen = r.seen; stopped = r.stopped; plans = r.plans; on = r.on }
  stops_from q m Plan before deep f t e =
      let rest = before ++ last ∷ later in
      let r = deep (with_plan t) (omega (arith, e)) in
      let less : t.plans + 1 < k = omega (arith, e) in
      record {
        seen = r.seen;
        stopped =
            cond-false (nat_le k (t.plans + 1)) (ended Stopped (with_plan t)) (end_of k (with_plan t) rest)
            (too_few k t.plans less)
            ∙ r.stopped;
        plans = r.plans;
        on =
            λ more l.
            cond-false (nat_le (k + more) (t.plans + 1)) (ended Stopped (with_plan t))
            (end_of (k + more) (with_plan t) rest) (too_few (k + more) t.plans (omega arith))
            ∙ r.on more l;
      }
  stops_from q m CutHere before deep f t e =
      let r = deep (with_cut t) e in
      record { seen = r.seen; stopped = r.stopped; plans = r.plans; on = r.on }
  stops_from q m (FaultHere g) before deep f t e = let h : true ≡ false = f in absurd (cc)

  -- so they do behind visits without a fault
  stops : (before : List Visit) → All (λ v. IsFaultless v.sight) before → AllStop before
  stops [] a t e = stops_here t e
  stops (v ∷ before) a t e =
      stops_from v.path v.node v.sight before (stops before (All-tail (λ u. IsFaultless u.sight) v before a))
      (All-head (λ u. IsFaultless u.sight) v before a) t e

  -- ---- the first plans

  -- the plans up to the k-th
  abbrev firsts : List Visit → List Visit
  firsts before = plans_of before ++ last ∷ []

  -- the plans that are heard are those and what is heard behind
  first_of_all : (before : List Visit) (j : ℕ) → All (λ v. IsFaultless v.sight) before
      → first_plans j (before ++ last ∷ later) ≡ take j (firsts before ++ plans_of (heard_visits later))
  first_of_all before j a =
      ap (λ us. take j (plans_of us)) (heard_around before last later a refl)
      ∙ ap (take j)
      (filter-append (λ v. is_plan v.sight) before (last ∷ heard_visits later)
      ∙ sym (append_assoc (plans_of before) (last ∷ []) (plans_of (heard_visits later))))

  -- the first k are those
  first_k : (before : List Visit) → All (λ v. IsFaultless v.sight) before → length (firsts before) ≡ k
      → first_plans k (before ++ last ∷ later) ≡ firsts before
  first_k before a e =
      first_of_all before k a
      ∙ (ap (λ i. take i (firsts before ++ plans_of (heard_visits later))) (sym e)
      ∙ take-append_seam (firsts before) (plans_of (heard_visits later)))

  -- where more are asked, the first ones behind follow
  first_more : (before : List Visit) → All (λ v. IsFaultless v.sight) before → length (firsts before) ≡ k
      → (more : ℕ) → first_plans (k + more) (before ++ last ∷ later) ≡ firsts before ++ first_plans more later
  first_more before a e more =
      first_of_all before (k + more) a
      ∙ (ap (λ i. take (i + more) (firsts before ++ plans_of (heard_visits later))) (sym e)
      ∙ take-append-add (firsts before) (plans_of (heard_visits later)) more)

  -- so an enumeration goes on behind the k-th plan, where visits end there
  continues_by : (before : List Visit) → All (λ v. IsFaultless v.sight) before → length (firsts before) ≡ k
      → EndsThere nothing_seen (before ++ last ∷ later) → Continues k (before ++ last ∷ later) later
  continues_by before a e r =
      let cut = ap (λ (x : Ended). x.tally.is_cut) (sym r.stopped) in
      record {
        plans =
            λ more. first_more before a e more
            ∙ ap (λ xs. xs ++ first_plans more later) (sym (first_k before a e));
        stopped = ap (λ (x : Ended). x.ending) r.stopped;
        ending =
            λ more l. ap (λ (x : Ended). x.ending) (r.on more l)
            ∙ (end_alike k r.seen.is_cut more later r.seen nothing_seen
            (record { plans = omega (arith, r.plans); cuts = cut_before r.seen.is_cut })
            ∙ ap (λ c. ending_behind c (end_of more nothing_seen later).ending) cut);
      }

  -- before the k-th plan there is one less
  counted : (before : List Visit) → length (firsts before) ≡ k → 0 + (length (plans_of before) + 1) ≡ k
  counted before e = omega (arith, e, length-append (plans_of before) (last ∷ []))

  -- so an enumeration goes on behind the k-th plan
  continues : (before : List Visit) → All (λ v. IsFaultless v.sight) before → length (firsts before) ≡ k
      → Continues k (before ++ last ∷ later) later
  continues before a e = continues_by before a e (stops before a nothing_seen (counted before e))

-- ---- behind the walk to a path

-- the k-th plan of visits stands behind some without a fault, which have the plans before it
record StandsAt (k : ℕ) (p : List ℕ) (vs : List Visit) : Type 0 where
  node : Node
  before : List Visit
  after : List Visit
  whole : vs ≡ before ++ visit p node Plan ∷ after
  faultless : All (λ v. IsFaultless v.sight) before
  count : length (plans_of before ++ visit p node Plan ∷ []) ≡ k

module _ (k : ℕ) (p : List ℕ) (vs : List Visit) (r : ReachesAt k p (heard_visits vs)) where
  -- the k-th plan
  abbrev its : Visit
  its = visit p r.node Plan

  -- what is heard of what is heard
  abbrev heard : List Visit
  heard = heard_visits (heard_visits vs)

  -- the plans that are heard begin with those that are asked
  plans_heard : plans_of heard ≡ r.before ++ its ∷ drop k (plans_of heard)
  plans_heard =
      sym (take-append-drop k (plans_of heard))
      ∙ (ap (λ xs. xs ++ drop k (plans_of heard)) r.plans
      ∙ append_assoc r.before (its ∷ []) (drop k (plans_of heard)))

  -- it stands where it does among the plans and among what is heard
  stands_by : (m : PassesBefore (λ v. is_plan v.sight) heard r.before its) → StandsIn m.before its vs → StandsAt k p vs
  stands_by m s = record {
    node = r.node;
    before = m.before;
    after = s.after;
    whole = s.whole;
    faultless = s.faultless;
    count = ap (λ xs. length (xs ++ its ∷ [])) m.passed ∙ (ap length (sym r.plans) ∙ r.count);
  }

  -- it stands among what is heard where it does among the plans
  stands_behind : PassesBefore (λ v. is_plan v.sight) heard r.before its → StandsAt k p vs
  stands_behind m =
      stands_by m (heard_stands vs m.before its m.after (sym (heard_twice vs) ∙ m.whole))

  -- so it stands behind visits without a fault
  stands_at : StandsAt k p vs
  stands_at =
      stands_behind (passing_stands (λ v. is_plan v.sight) heard r.before its (drop k (plans_of heard)) plans_heard)

module _ (k : ℕ) (p : List ℕ) (vs : List Visit) (f : StandsAt k p vs) where
  -- the k-th plan
  abbrev plan : Visit
  plan = visit p f.node Plan

  -- what is heard is that plan, and what is heard behind it
  heard_on : heard_visits vs ≡ f.before ++ plan ∷ heard_visits f.after
  heard_on = ap heard_visits f.whole ∙ heard_around f.before plan f.after f.faultless refl

  -- where the walk comes to it, the enumeration goes on
  goes_on_by : ((reaching p vs).knows.answer ≡ reached.At) × ((reaching p vs).left ≡ f.after) → GoesOn k p vs
  goes_on_by come = record {
    there = come.0;
    continues =
        subst (λ us. Continues k us (heard_visits (reaching p vs).left)) (sym heard_on)
        (subst (λ us. Continues k (f.before ++ plan ∷ heard_visits f.after) (heard_visits us)) (sym come.1)
        (continues k p f.node (heard_visits f.after) f.before f.faultless f.count));
  }

  -- and the walk does
  come_there : ComesToPlan p vs → GoesOn k p vs
  come_there come = goes_on_by (come.found f.node f.before f.after f.whole f.faultless)

-- so behind the plan that a walk to a path comes to an enumeration goes on
pub goes_on : (rules : List Rule) (nest : ℕ) (root : Node) (k : ℕ) (p : List ℕ)
    → ReachesAt k p (heard_visits (visits rules nest root [])) → GoesOn k p (visits rules nest root [])
goes_on rules nest root k p r =
    let vs = visits rules nest root [] in
    come_there k p vs (stands_at k p vs r) (comes_to_plan rules nest root p)
