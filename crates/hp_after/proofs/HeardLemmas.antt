-- Visits that are heard, around one in their midst.
use Rattle.std.proofs.Common.{◌≡◌, Bool, true, false, cond, List, [], ◌∷◌, ◌++◌, length, length-append, refl, ap, ap₂, ◌∙◌, subst, arith}
use Rattle.std.specs.List.{All, filter}
use Rattle.std.proofs.lemmas.Bool.{cond-true, cond-false}
use Rattle.std.proofs.lemmas.List.Elements.{All-nil, All-cons, All-head, All-tail}
use Rattle.hp_laws.specs.TreeLaws.{IsFaultless}
use Rattle.hp_syntax.specs.Walk.{Visit, heard_visits, is_fault_here}

-- nothing is in an empty list
none_in : (before : List Visit) (w : Visit) (after : List Visit) → [] ≡ before ++ w ∷ after → ⊥
none_in before w after e = omega (arith, ap length e, length-append before (w ∷ after))

-- lists that are the same have the same first element, and the same rest
same_first : (v w : Visit) (vs ws : List Visit) → v ∷ vs ≡ w ∷ ws → v ≡ w
same_first v w vs ws e = cc

same_rest : (v w : Visit) (vs ws : List Visit) → v ∷ vs ≡ w ∷ ws → vs ≡ ws
same_rest v w vs ws e = cc

-- of what is heard all is heard, so behind one visit too
twice_by : (v : Visit) (vs : List Visit) → heard_visits (heard_visits vs) ≡ heard_visits vs → (b : Bool)
    → cond b [] (heard_visits (cond b [] (heard_visits vs))) ≡ cond b [] (heard_visits vs)
twice_by v vs e true = refl
twice_by v vs e false = e

-- of what is heard all is heard
pub heard_twice : (vs : List Visit) → heard_visits (heard_visits vs) ≡ heard_visits vs
heard_twice [] = refl
heard_twice (v ∷ vs) = ap (λ us. v ∷ us) (twice_by v vs (heard_twice vs) (is_fault_here v.sight))

-- behind visits without a fault one goes on hearing
pub heard_around : (before : List Visit) (w : Visit) (after : List Visit)
    → All (λ v. IsFaultless v.sight) before → IsFaultless w.sight
    → heard_visits (before ++ w ∷ after) ≡ before ++ w ∷ heard_visits after
heard_around [] w after a f = ap (λ us. w ∷ us) (cond-false (is_fault_here w.sight) [] (heard_visits after) f)
heard_around (v ∷ before) w after a f =
    ap (λ us. v ∷ us)
    (cond-false (is_fault_here v.sight) [] (heard_visits (before ++ w ∷ after))
    (All-head (λ u. IsFaultless u.sight) v before a)
    ∙ heard_around before w after (All-tail (λ u. IsFaultless u.sight) v before a) f)

-- a visit stands behind others that have no fault
pub record StandsIn (before : List Visit) (w : Visit) (vs : List Visit) : Type 0 where
  pub after : List Visit
  pub whole : vs ≡ before ++ w ∷ after
  pub faultless : All (λ v. IsFaultless v.sight) before

module _ (v b w : Visit) (vs before after : List Visit) where
  -- a visit that is heard behind another stands behind that, which has no fault
  stands_by : v ≡ b → (heard_visits vs ≡ before ++ w ∷ after → StandsIn before w vs) → (x : Bool)
      → is_fault_here v.sight ≡ x → cond x [] (heard_visits vs) ≡ before ++ w ∷ after
      → StandsIn (b ∷ before) w (v ∷ vs)
  stands_by is deep true f e = absurd (none_in before w after e)
  stands_by is deep false f e =
      let m = deep e in
      record {
        after = m.after;
        whole = ap₂ (λ u us. u ∷ us) is m.whole;
        faultless =
            All-cons (λ u. IsFaultless u.sight) b before (subst (λ u. IsFaultless u.sight) is f) m.faultless;
      }

-- each visit that is heard stands behind those that are heard before it
pub heard_stands : (vs before : List Visit) (w : Visit) (after : List Visit)
    → heard_visits vs ≡ before ++ w ∷ after → StandsIn before w vs
heard_stands [] before w after e = absurd (none_in before w after e)
heard_stands (v ∷ vs) [] w after e =
    let is = same_first v w (cond (is_fault_here v.sight) [] (heard_visits vs)) after e in
    record { after = vs; whole = ap (λ u. u ∷ vs) is; faultless = All-nil (λ u. IsFaultless u.sight) }
heard_stands (v ∷ vs) (b ∷ before) w after e =
    let rest = cond (is_fault_here v.sight) [] (heard_visits vs) in
    stands_by v b w vs before after (same_first v b rest (before ++ w ∷ after) e)
    (λ h. heard_stands vs before w after h) (is_fault_here v.sight) refl (same_rest v b rest (before ++ w ∷ after) e)

-- a visit stands behind others, of which these pass a test
pub record PassesBefore (p : Visit → Bool) (vs bs : List Visit) (w : Visit) : Type 0 where
  pub before : List Visit
  pub after : List Visit
  pub whole : vs ≡ before ++ w ∷ after
  pub passed : filter p before ≡ bs

module _ (p : Visit → Bool) (v : Visit) (vs : List Visit) (w : Visit) (cs : List Visit)
    (deep : (bs : List Visit) → filter p vs ≡ bs ++ w ∷ cs → PassesBefore p vs bs w) where
  -- a visit that passes is the one that is looked for, or one more before it
  passes_by : (bs : List Visit) (x : Bool) → p v ≡ x
      → cond x (v ∷ filter p vs) (filter p vs) ≡ bs ++ w ∷ cs → PassesBefore p (v ∷ vs) bs w
  passes_by [] true f e =
      let is = same_first v w (filter p vs) cs e in
      record { before = []; after = vs; whole = ap (λ u. u ∷ vs) is; passed = refl }
  passes_by (b ∷ bs) true f e =
      let is = same_first v b (filter p vs) (bs ++ w ∷ cs) e in
      let m = deep bs (same_rest v b (filter p vs) (bs ++ w ∷ cs) e) in
      record {
        before = v ∷ m.before;
        after = m.after;
        whole = ap (λ us. v ∷ us) m.whole;
        passed =
            cond-true (p v) (v ∷ filter p m.before) (filter p m.before) f ∙ ap₂ (λ u us. u ∷ us) is m.passed;
      }
  passes_by bs false f e =
      let m = deep bs e in
      record {
        before = v ∷ m.before;
        after = m.after;
        whole = ap (λ us. v ∷ us) m.whole;
        passed = cond-false (p v) (v ∷ filter p m.before) (filter p m.before) f ∙ m.passed;
      }

-- a visit among those that pass a test stands behind the ones before it there
pub passing_stands : (p : Visit → Bool) (vs bs : List Visit) (w : Visit) (cs : List Visit)
    → filter p vs ≡ bs ++ w ∷ cs → PassesBefore p vs bs w
passing_stands p [] bs w cs e = absurd (none_in bs w cs e)
passing_stands p (v ∷ vs) bs w cs e = passes_by p v vs w cs (λ us. passing_stands p vs us w cs) bs (p v) refl e
