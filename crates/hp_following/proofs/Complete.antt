-- What a walk along a plan leaves out doesn't begin the plan.
use Rattle.std.proofs.Common.{◌≡◌, ℕ, ◌≤◌, Bool, true, false, cond, List, [], ◌∷◌, ◌++◌, Option, Some, None, refl, sym, ap, ◌∙◌, subst}
use Rattle.std.specs.List.{All}
use Rattle.std.specs.Prelude.{length}
use Rattle.std.proofs.lemmas.Bool.{false≢true, and_from, and_parts}
use Rattle.std.proofs.lemmas.List.Elements.{All-cons, All-head, All-nil, All-tail, All-weaker}
use Rattle.hp_following.proofs.Begun.{begun_no, begun_other, begun_yes}
use Rattle.hp_following.specs.Follows.{HasNoMore, begun}
use Rattle.hp_laws.proofs.JoinLemmas.{all_from, pairs_head, pairs_tail}
use Rattle.hp_laws.specs.TreeLaws.{IsPrefix}
use Rattle.hp_passes.specs.Passes.{Turn, On, Past, Last, pass, is_out, with_made}
use Rattle.hp_syntax.specs.Terms.{Term, same_term}
use Rattle.hp_syntax.specs.Walk.{Sight, Visit, Did, Plan, CutHere, FaultHere, begins, is_did}
use Rattle.hp_verify.proofs.VisitSteps.{behind, told_cut, told_did, told_fault, told_plan, turn_cut, turn_did, turn_fault, turn_plan}
use Rattle.hp_verify.specs.Kept.{DerivedAt, Faulty, Nothing, Said, Seen, StepsGrow, Underived, kept, kept_turn, nothing, nothing_seen, steps_are, steps_begin, told, told_kept, told_of, with_cut, with_did}

-- what begins steps that begin a plan begins it
begins_less : (ts us ps : List Term) → IsPrefix ts us → steps_begin us ps ≡ true → steps_begin ts ps ≡ true
begins_less [] us ps h k = refl
begins_less (t ∷ ts) [] ps (r, e) k = let f : t ∷ (ts ++ r) ≡ [] = e in absurd (cc)
begins_less (t ∷ ts) (u ∷ us) [] (r, e) k = absurd (false≢true k)
begins_less (t ∷ ts) (u ∷ us) (p ∷ ps) (r, e) k =
    let f : t ∷ (ts ++ r) ≡ u ∷ us = e in
    let first : t ≡ u = cc in
    let rest : ts ++ r ≡ us = cc in
    let both = and_parts (same_term p u) (steps_begin us ps) k in
    and_from (same_term p t) (steps_begin ts ps) (subst (λ x. same_term p x ≡ true) (sym first) both.0)
    (begins_less ts us ps (r, rest) both.1)

-- neither a plan with the steps nor a fault was met
abbrev pub IsOpen : Said → Type 0
IsOpen (DerivedAt v) = ⊥
IsOpen (Underived is_cut) = Unit {0}
IsOpen (Faulty f) = ⊥

module _ (p : List Term) (n : ℕ) where
  abbrev IsSmall : Visit → Type 0
  IsSmall w = length w.node.steps ≤ n

  abbrev IsLess : Visit → Type 0
  IsLess w = w.sight ≡ Did → steps_begin w.node.steps p ≡ true → length w.node.steps ≤ n

  -- visits that were made say neither, and those among them that begin the plan have no more steps
  record IsFine (s : Seen) (ms : List Visit) : Type 0 where
    open_said : IsOpen (told_of p s ms).said
    small : All IsSmall (begun p ms)

  -- a visit that is left out doesn't begin the plan
  abbrev IsOther : Option (List ℕ) → Visit → Type 0
  IsOther out w = is_out out w ≡ true → w.sight ≡ Did → steps_begin w.node.steps p ≡ true → ⊥

  none_out : (vs : List Visit) → All (IsOther None) vs
  none_out vs = all_from (IsOther None) (λ w e d b. false≢true e) vs

  others_out : (v : Visit) (vs : List Visit) → StepsGrow (v ∷ vs) → steps_begin v.node.steps p ≡ false
      → All (IsOther (Some v.path)) vs
  others_out v vs grow e =
      All-weaker (λ w. begins v.path w.path ≡ true → IsPrefix v.node.steps w.node.steps) (IsOther (Some v.path))
      (λ w g b d k. false≢true (sym e ∙ begins_less v.node.steps w.node.steps p (g b) k)) vs
      (pairs_head (λ v w. begins v.path w.path ≡ true → IsPrefix v.node.steps w.node.steps) v vs grow)

  abbrev IsLessBehind : List Visit → Type 0
  IsLessBehind vs =
      (out : Option (List ℕ)) (s : Seen) → All (IsOther out) vs
      → IsFine s (pass (kept_turn p) out nothing vs).made → All IsLess vs

  module _ (v : Visit) (vs : List Visit) (grow : StepsGrow (v ∷ vs)) (rest : IsLessBehind vs) (s : Seen) where
    abbrev made : Turn Nothing → List Visit
    made x = v ∷ (behind p v vs x).made

    with_it : IsLess v → All IsLess vs → All IsLess (v ∷ vs)
    with_it h a = All-cons IsLess v vs h a

    no_did : (x : Sight) → v.sight ≡ x → is_did x ≡ false → IsLess v
    no_did x e f d = absurd (false≢true (sym f ∙ (ap is_did (sym e) ∙ ap is_did d)))

    less_did : v.sight ≡ Did → (b : Bool) → steps_begin v.node.steps p ≡ b
        → IsFine s (made (cond b (On nothing) (Past nothing))) → All IsLess (v ∷ vs)
    less_did e true h f =
        let ms = (pass (kept_turn p) None nothing vs).made in
        let small : All IsSmall (v ∷ begun p ms) = subst (All IsSmall) (begun_yes p v ms e h) f.small in
        with_it (λ d k. All-head IsSmall v (begun p ms) small)
        (rest None (with_did s) (none_out vs)
        (record {
          open_said = subst (λ x. IsOpen x.said) (told_did p s v ms e) f.open_said;
          small = All-tail IsSmall v (begun p ms) small;
        }))
    less_did e false h f =
        let ms = (pass (kept_turn p) (Some v.path) nothing vs).made in
        with_it (λ d k. absurd (false≢true (sym h ∙ k)))
        (rest (Some v.path) (with_did s) (others_out v vs grow h)
        (record {
          open_said = subst (λ x. IsOpen x.said) (told_did p s v ms e) f.open_said;
          small = subst (All IsSmall) (begun_no p v ms e h) f.small;
        }))

    less_plan : v.sight ≡ Plan → (b : Bool) → steps_are v.node.steps p ≡ b
        → IsFine s (made (cond b (Last nothing) (On nothing))) → All IsLess (v ∷ vs)
    less_plan e true h f =
        absurd
        (subst (λ x. IsOpen x.said)
        (told_plan p s v [] e
        ∙ ap (λ b. cond b (told (DerivedAt v) s.expansions) (told_of p s [])) h) f.open_said)
    less_plan e false h f =
        let ms = (pass (kept_turn p) None nothing vs).made in
        with_it (no_did Plan e refl)
        (rest None s (none_out vs)
        (record {
          open_said =
              subst (λ x. IsOpen x.said)
              (told_plan p s v ms e
              ∙ ap (λ b. cond b (told (DerivedAt v) s.expansions) (told_of p s ms)) h) f.open_said;
          small = subst (All IsSmall) (begun_other p v ms (ap is_did e)) f.small;
        }))

    less_cut : v.sight ≡ CutHere → IsFine s (made (On nothing)) → All IsLess (v ∷ vs)
    less_cut e f =
        let ms = (pass (kept_turn p) None nothing vs).made in
        with_it (no_did CutHere e refl)
        (rest None (with_cut s) (none_out vs)
        (record {
          open_said = subst (λ x. IsOpen x.said) (told_cut p s v ms e) f.open_said;
          small = subst (All IsSmall) (begun_other p v ms (ap is_did e)) f.small;
        }))

    less_at : (x : Sight) → v.sight ≡ x → IsFine s (made (kept_turn p nothing v)) → All IsLess (v ∷ vs)
    less_at Did e f =
        less_did e (steps_begin v.node.steps p) refl (subst (λ x. IsFine s (made x)) (turn_did p v e) f)
    less_at Plan e f =
        less_plan e (steps_are v.node.steps p) refl (subst (λ x. IsFine s (made x)) (turn_plan p v e) f)
    less_at CutHere e f = less_cut e (subst (λ x. IsFine s (made x)) (turn_cut p v e) f)
    less_at (FaultHere g) e f =
        let k : IsFine s (made (Last nothing)) = subst (λ x. IsFine s (made x)) (turn_fault p v g e) f in
        absurd (subst (λ x. IsOpen x.said) (told_fault p s v [] g e) k.open_said)

    less_by : (out : Option (List ℕ)) → All (IsOther out) (v ∷ vs) → (b : Bool) → is_out out v ≡ b
        → IsFine s (cond b (pass (kept_turn p) out nothing vs)
        (with_made v (behind p v vs (kept_turn p nothing v)))).made → All IsLess (v ∷ vs)
    less_by out a true e f =
        with_it (λ d k. absurd (All-head (IsOther out) v vs a e d k)) (rest out s (All-tail (IsOther out) v vs a) f)
    less_by out a false e f = less_at v.sight refl f

  less_from : (vs : List Visit) → StepsGrow vs → IsLessBehind vs
  less_from [] grow = λ out s a f. All-nil IsLess
  less_from (v ∷ vs) grow = λ out s a f.
      less_by v vs grow
      (less_from vs
      (pairs_tail (λ v w. begins v.path w.path ≡ true → IsPrefix v.node.steps w.node.steps) v vs grow))
      s out a (is_out out v) refl f

  -- so where no visit that was made has more steps, none of all has
  pub none_more : (vs : List Visit) → StepsGrow vs → IsOpen (told_kept p vs).said → All IsSmall (begun p (kept p vs))
      → HasNoMore p n vs
  none_more vs grow o a =
      less_from vs grow None nothing_seen (none_out vs) (record { open_said = o; small = a })
