-- The texts of plans begin those of more plans, and are told of the first plans that are heard.
use Rattle.std.proofs.Common.{◌≡◌, ℕ, zero, suc, ◌+◌, ◌≤◌, true, false, cond, List, [], ◌∷◌, ◌++◌, length, refl, ◌∙◌, ap, arith, append_assoc}
use Rattle.std.specs.Prelude.{nat_le}
use Rattle.std.proofs.lemmas.Bool.{cond_both, cond-true, cond-false}
use Rattle.std.proofs.lemmas.Bool.Decides.{nat_tests}
use Rattle.std.proofs.lemmas.List.{append-nil}
use Rattle.hp_laws.specs.TreeLaws.{IsPrefix, first_plans, numbered_texts}
use Rattle.hp_syntax.specs.Report.{Tally, nothing_seen, with_plan, with_did, with_cut, Ended, ended, Stopped, end_of, plan_texts}
use Rattle.hp_syntax.specs.Walk.{Node, Sight, Did, Plan, CutHere, FaultHere, Visit, visit}

-- an empty list begins each list, and a list itself
pub begins_none : {A : Type 0} (xs : List A) → IsPrefix [] xs
begins_none xs = (xs, refl)

pub begins_itself : {A : Type 0} (xs : List A) → IsPrefix xs xs
begins_itself xs = ([], append-nil xs)

-- a list begins another behind the same prefix
pub begins_behind : {A : Type 0} (xs ys zs : List A) → IsPrefix ys zs → IsPrefix (xs ++ ys) (xs ++ zs)
begins_behind xs ys zs b = (b.0, append_assoc xs ys b.0 ∙ ap (λ ws. xs ++ ws) b.1)

-- where more than k plans may be told, more than k + 1 may be
more_wanted : (k p : ℕ) → nat_le k p ≡ false → nat_le (k + 1) p ≡ false
more_wanted k p e = grind (arith, nat_tests)

module _ (tell : ℕ → Visit → List ℕ) where
  -- the texts that are told behind a plan
  told_behind : (k p : ℕ) (vs : List Visit)
      → ((k p : ℕ) → IsPrefix (plan_texts tell k p vs) (plan_texts tell (k + 1) p vs))
      → IsPrefix (cond (nat_le k p) [] (plan_texts tell k p vs))
      (cond (nat_le (k + 1) p) [] (plan_texts tell (k + 1) p vs))
  told_behind k p vs deep =
      cond_both (nat_le k p) [] (plan_texts tell k p vs)
      (λ xs. IsPrefix xs (cond (nat_le (k + 1) p) [] (plan_texts tell (k + 1) p vs)))
      (λ e. begins_none (cond (nat_le (k + 1) p) [] (plan_texts tell (k + 1) p vs)))
      (λ e. rw (more_wanted k p e) (deep k p))

  -- the texts of the first k plans begin those of one plan more, from each visit on
  texts_from : (k p : ℕ) (q : List ℕ) (n : Node) (s : Sight) (vs : List Visit)
      → ((k p : ℕ) → IsPrefix (plan_texts tell k p vs) (plan_texts tell (k + 1) p vs))
      → IsPrefix (plan_texts tell k p (visit q n s ∷ vs)) (plan_texts tell (k + 1) p (visit q n s ∷ vs))
  texts_from k p q n Did vs deep = deep k p
  texts_from k p q n Plan vs deep =
      begins_behind (tell (p + 1) (visit q n Plan)) (cond (nat_le k (p + 1)) [] (plan_texts tell k (p + 1) vs))
      (cond (nat_le (k + 1) (p + 1)) [] (plan_texts tell (k + 1) (p + 1) vs)) (told_behind k (p + 1) vs deep)
  texts_from k p q n CutHere vs deep = deep k p
  texts_from k p q n (FaultHere f) vs deep = begins_none []

  pub texts_grow : (k p : ℕ) (vs : List Visit) → IsPrefix (plan_texts tell k p vs) (plan_texts tell (k + 1) p vs)
  texts_grow k p [] = begins_none []
  texts_grow k p (v ∷ vs) = texts_from k p v.path v.node v.sight vs (λ k p. texts_grow k p vs)

-- ---- the first plans that are heard

-- where one more plan is asked, the next is the last
last_reached : (p : ℕ) → nat_le (p + 1) (p + 1) ≡ true
last_reached p = grind (arith, nat_tests)

-- where more are asked, it isn't
last_ahead : (j p : ℕ) → nat_le (p + suc (suc j)) (p + 1) ≡ false
last_ahead j p = grind (arith, nat_tests)

module _ (tell : ℕ → Visit → List ℕ) where
  -- after p plans the texts of so many more are told of the next plans that are heard, from each visit on
  numbered_from : (j p : ℕ) (q : List ℕ) (n : Node) (s : Sight) (vs : List Visit)
      → ((j p : ℕ) → plan_texts tell (p + suc j) p vs ≡ numbered_texts tell (p + 1) (first_plans (suc j) vs))
      → plan_texts tell (p + suc j) p (visit q n s ∷ vs)
      ≡ numbered_texts tell (p + 1) (first_plans (suc j) (visit q n s ∷ vs))
  numbered_from j p q n Did vs deep = deep j p
  numbered_from zero p q n Plan vs deep =
      ap (λ xs. tell (p + 1) (visit q n Plan) ++ xs)
      (cond-true (nat_le (p + 1) (p + 1)) [] (plan_texts tell (p + 1) (p + 1) vs) (last_reached p))
  numbered_from (suc j) p q n Plan vs deep =
      ap (λ xs. tell (p + 1) (visit q n Plan) ++ xs)
      (cond-false (nat_le (p + suc (suc j)) (p + 1)) [] (plan_texts tell (p + suc (suc j)) (p + 1) vs) (last_ahead j p)
      ∙ (ap (λ k. plan_texts tell k (p + 1) vs) (omega arith) ∙ deep j (p + 1)))
  numbered_from j p q n CutHere vs deep = deep j p
  numbered_from j p q n (FaultHere f) vs deep = refl

  numbered_all : (j p : ℕ) (vs : List Visit)
      → plan_texts tell (p + suc j) p vs ≡ numbered_texts tell (p + 1) (first_plans (suc j) vs)
  numbered_all j p [] = refl
  numbered_all j p (v ∷ vs) = numbered_from j p v.path v.node v.sight vs (λ j p. numbered_all j p vs)

  -- the texts of plans are told of the first plans that are heard
  pub first_texts : (vs : List Visit) (k : ℕ) → 1 ≤ k
      → plan_texts tell k 0 vs ≡ numbered_texts tell 1 (first_plans k vs)
  first_texts vs zero l = absurd (omega arith)
  first_texts vs (suc j) l = ap (λ k. plan_texts tell k 0 vs) (omega arith) ∙ numbered_all j 0 vs

-- after so many plans the ending tells as many as are heard and asked besides, from each visit on
counted_from : (j : ℕ) (t : Tally) (q : List ℕ) (n : Node) (s : Sight) (vs : List Visit)
    → ((j : ℕ) (t : Tally) → (end_of (t.plans + suc j) t vs).tally.plans ≡ t.plans + length (first_plans (suc j) vs))
    → (end_of (t.plans + suc j) t (visit q n s ∷ vs)).tally.plans
    ≡ t.plans + length (first_plans (suc j) (visit q n s ∷ vs))
counted_from j t q n Did vs deep = deep j (with_did t)
counted_from zero t q n Plan vs deep =
    ap (λ (x : Ended). x.tally.plans)
    (cond-true (nat_le (t.plans + 1) (t.plans + 1)) (ended Stopped (with_plan t))
    (end_of (t.plans + 1) (with_plan t) vs) (last_reached t.plans))
counted_from (suc j) t q n Plan vs deep =
    let d = deep j (with_plan t) in
    ap (λ (x : Ended). x.tally.plans)
    (cond-false (nat_le (t.plans + suc (suc j)) (t.plans + 1)) (ended Stopped (with_plan t))
    (end_of (t.plans + suc (suc j)) (with_plan t) vs) (last_ahead j t.plans))
    ∙ (ap (λ k. (end_of k (with_plan t) vs).tally.plans) (omega arith) ∙ (d ∙ omega arith))
counted_from j t q n CutHere vs deep = deep j (with_cut t)
counted_from j t q n (FaultHere f) vs deep = omega arith

counted_all : (j : ℕ) (t : Tally) (vs : List Visit)
    → (end_of (t.plans + suc j) t vs).tally.plans ≡ t.plans + length (first_plans (suc j) vs)
counted_all j t [] = omega arith
counted_all j t (v ∷ vs) = counted_from j t v.path v.node v.sight vs (λ j t. counted_all j t vs)

-- the ending tells as many plans as are heard and asked
pub first_count : (vs : List Visit) (k : ℕ) → 1 ≤ k
    → (end_of k nothing_seen vs).tally.plans ≡ length (first_plans k vs)
first_count vs zero l = absurd (omega arith)
first_count vs (suc j) l =
    let d = counted_all j nothing_seen vs in
    ap (λ k. (end_of k nothing_seen vs).tally.plans) (omega arith) ∙ (d ∙ omega arith)
