-- The report of visits up to their first fault, and the count of decompositions in it.
use Rattle.std.proofs.Common.{◌≡◌, ℕ, ◌+◌, ◌-◌, ◌^◌, min, List, [], ◌∷◌, refl, arith}
use Rattle.hp_syntax.specs.Report as report
use Rattle.hp_syntax.specs.Walk.{Node, Sight, Did, Plan, CutHere, FaultHere, Visit, visit, heard_visits}

-- ---- a list that is heard

-- one visit more, where the texts of the others end at the first fault
texts_heard_at : (tell : ℕ → Visit → List ℕ) (k p : ℕ) (q : List ℕ) (n : Node) (x : Sight) (vs : List Visit)
    → ((p : ℕ) → report.plan_texts tell k p (heard_visits vs) ≡ report.plan_texts tell k p vs)
    → report.plan_texts tell k p (heard_visits (visit q n x ∷ vs)) ≡ report.plan_texts tell k p (visit q n x ∷ vs)
texts_heard_at tell k p q n Did vs others = others p
texts_heard_at tell k p q n Plan vs others = rw (others (p + 1)) refl
texts_heard_at tell k p q n CutHere vs others = others p
texts_heard_at tell k p q n (FaultHere f) vs others = refl

-- plans behind a fault have no text
texts_heard : (tell : ℕ → Visit → List ℕ) (k p : ℕ) (vs : List Visit)
    → report.plan_texts tell k p (heard_visits vs) ≡ report.plan_texts tell k p vs
texts_heard tell k p [] = refl
texts_heard tell k p (v ∷ vs) =
    texts_heard_at tell k p v.path v.node v.sight vs (λ p. texts_heard tell k p vs)

-- one visit more, where the others end at the first fault
end_heard_at : (k : ℕ) (t : report.Tally) (q : List ℕ) (n : Node) (x : Sight) (vs : List Visit)
    → ((t : report.Tally) → report.end_of k t (heard_visits vs) ≡ report.end_of k t vs)
    → report.end_of k t (heard_visits (visit q n x ∷ vs)) ≡ report.end_of k t (visit q n x ∷ vs)
end_heard_at k t q n Did vs others = others (report.with_did t)
end_heard_at k t q n Plan vs others = rw (others (report.with_plan t)) refl
end_heard_at k t q n CutHere vs others = others (report.with_cut t)
end_heard_at k t q n (FaultHere f) vs others = refl

-- visits end at their first fault
end_heard : (k : ℕ) (t : report.Tally) (vs : List Visit) → report.end_of k t (heard_visits vs) ≡ report.end_of k t vs
end_heard k t [] = refl
end_heard k t (v ∷ vs) = end_heard_at k t v.path v.node v.sight vs (λ t. end_heard k t vs)

-- visits are reported up to their first fault
pub report_heard : (tell : ℕ → Visit → List ℕ) (k : ℕ) (t : report.Tally) (vs : List Visit)
    → report.report tell k t (heard_visits vs) ≡ report.report tell k t vs
report_heard tell k t vs = rw (texts_heard tell k t.plans vs, end_heard k t vs) refl

-- ---- the count of decompositions

-- the ending line shows no more than the end of the count
pub ending_saturates : (x : report.Ending) (p n : ℕ) → report.ending_text x p (min n (2 ^ 64 - 1))
    ≡ report.ending_text x p n
unfolding report.ending_text
ending_saturates x p n =
    let h : min (min n (2 ^ 64 - 1)) (2 ^ 64 - 1) ≡ min n (2 ^ 64 - 1) = omega arith in
    rw h refl
