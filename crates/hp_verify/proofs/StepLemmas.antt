-- Steps that begin a plan, or are those of one.
use Rattle.std.proofs.Common.{◌≡◌, Bool, true, false, ◌&&◌, List, [], ◌∷◌, ◌++◌, length, refl, sym, ap, ap₂, subst, arith}
use Rattle.std.proofs.lemmas.Bool.{false≢true, and_parts, and_from}
use Rattle.hp_laws.specs.TreeLaws.{IsPrefix}
use Rattle.hp_syntax.proofs.TermEquality.{same_self, same_sound}
use Rattle.hp_syntax.specs.Terms.{Term, same_term}
use Rattle.hp_verify.specs.declared.verifying.Answer.TheVariants as answers
use Rattle.hp_verify.specs.Kept.{Underived, answer_of, steps_begin, steps_are}

-- a prefix of a plan begins it
pub prefix_begins : (ts ps : List Term) → IsPrefix ts ps → steps_begin ts ps ≡ true
prefix_begins [] ps h = refl
prefix_begins (t ∷ ts) [] (r, e) = let k : t ∷ (ts ++ r) ≡ [] = e in absurd (cc)
prefix_begins (t ∷ ts) (p ∷ ps) (r, e) =
    let k : t ∷ (ts ++ r) ≡ p ∷ ps = e in
    let first : t ≡ p = cc in
    let rest : ts ++ r ≡ ps = cc in
    and_from (same_term p t) (steps_begin ts ps) (subst (λ x. same_term p x ≡ true) (sym first) (same_self p))
    (prefix_begins ts ps (r, rest))

-- steps that are told to be those of a plan are
pub are_sound : (ts ps : List Term) → steps_are ts ps ≡ true → ts ≡ ps
are_sound [] [] h = refl
are_sound [] (p ∷ ps) h = absurd (false≢true h)
are_sound (t ∷ ts) [] h = absurd (false≢true h)
are_sound (t ∷ ts) (p ∷ ps) h =
    let k = and_parts (same_term p t) (steps_are ts ps) h in
    ap₂ (λ x xs. x ∷ xs) (sym (same_sound p t k.0)) (are_sound ts ps k.1)

-- those of a plan are told to be
are_self : (ts : List Term) → steps_are ts ts ≡ true
are_self [] = refl
are_self (t ∷ ts) = and_from (same_term t t) (steps_are ts ts) (same_self t) (are_self ts)

pub equal_are : (ts ps : List Term) → ts ≡ ps → steps_are ts ps ≡ true
equal_are ts ps e = subst (λ xs. steps_are ts xs ≡ true) e (are_self ts)

-- steps that begin a plan and are as many are those of it
pub are_begun : (ts ps : List Term) → length ts ≡ length ps → steps_begin ts ps ≡ steps_are ts ps
are_begun [] [] e = refl
are_begun [] (p ∷ ps) e = absurd (omega arith)
are_begun (t ∷ ts) [] e = absurd (omega arith)
are_begun (t ∷ ts) (p ∷ ps) e = ap (λ b. same_term p t && b) (are_begun ts ps (omega arith))

-- steps that aren't as many are other ones
pub are_others : (ts ps : List Term) → (length ts ≡ length ps → ⊥) → false ≡ steps_are ts ps
are_others ts ps n = by (steps_are ts ps) refl
  where
    by : (b : Bool) → steps_are ts ps ≡ b → false ≡ b
    by true e = absurd (n (ap length (are_sound ts ps e)))
    by false e = refl

-- ---- answers

-- no walk that came to its end derived a plan
pub never_quiet : (cut : Bool) → answer_of (Underived cut) ≡ answers.Derived → ⊥
never_quiet true e = let k : answers.NoCut ≡ answers.Derived = e in cc
never_quiet false e = let k : answers.NoEnd ≡ answers.Derived = e in cc
