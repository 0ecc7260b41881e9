-- The facts of a name, one place of a world after another.
use Rattle.std.proofs.Common.{◌≡◌, ℕ, zero, suc, ◌+◌, ◌<◌, Bool, List, [], ◌∷◌, ◌++◌, Option, Some, None, take, sym, ◌∙◌, ap, subst}
use Rattle.std.specs.Prelude.{slice_get}
use Rattle.std.proofs.lemmas.List.{map-append, take_more}
use Rattle.std.proofs.lemmas.List.Elements.{All-cons, All-head, All-nil, All-tail, filter-append}
use Rattle.std.proofs.lemmas.Option.{get_or_from_slice_get, slice_get_within}
use Rattle.hp_cells.specs.Cells.{IsCons}
use Rattle.hp_cells.specs.Compared.{is_symbol}
use Rattle.hp_syntax.specs.Terms.{Term}
use Rattle.hp_world.specs.Stages.{AllBelow, live_atoms, terms_at}
use Rattle.hp_world.proofs.StageLemmas.{live_joined}
use Rattle.hp_eval.specs.GoalViews.{term_at}
use Rattle.hp_obstacles.specs.Facts.{facts_of, is_fact_of}

-- ---- one atom

-- a list is a fact of the name of its first part
pub fact_of_first : (terms : List Term) (name : List ℕ) (head tail : ℕ) (t : Term) (b : Bool) → IsCons terms head tail t
    → ((first : Term) → slice_get terms head ≡ Some first → b ≡ is_symbol name first) → b ≡ is_fact_of name t
fact_of_first terms name head tail t b c is = is c.first c.head_names ∙ sym (ap (is_fact_of name) c.whole)

-- ---- one place more

-- what stands at a place is below a count which all atoms are below
pub below_at : (n : ℕ) (ps : List (Option ℕ)) (i : ℕ) (p : Option ℕ) → AllBelow n (live_atoms ps)
    → slice_get ps i ≡ Some p → AllBelow n (live_atoms (p ∷ []))
below_at n [] i p a e = absurd cc
below_at n (None ∷ ps) zero p a e =
    let same : None ≡ p = cc in
    subst (λ q. AllBelow n (live_atoms (q ∷ []))) same (All-nil (λ c. c < n))
below_at n (Some c ∷ ps) zero p a e =
    let same : Some c ≡ p = cc in
    subst (λ q. AllBelow n (live_atoms (q ∷ []))) same
    (All-cons (λ k. k < n) c [] (All-head (λ k. k < n) c (live_atoms ps) a) (All-nil (λ k. k < n)))
below_at n (None ∷ ps) (suc i) p a e = below_at n ps i p a e
below_at n (Some c ∷ ps) (suc i) p a e = below_at n ps i p (All-tail (λ k. k < n) c (live_atoms ps) a) e

-- the facts up to a place and those at it are the facts up to the next one
pub facts_next : (name : List ℕ) (terms : List Term) (ps : List (Option ℕ)) (i : ℕ) (p : Option ℕ)
    → slice_get ps i ≡ Some p
    → facts_of name (terms_at terms (live_atoms (take (i + 1) ps)))
    ≡ facts_of name (terms_at terms (live_atoms (take i ps)))
    ++ facts_of name (terms_at terms (live_atoms (p ∷ [])))
facts_next name terms ps i p e =
    let before = live_atoms (take i ps) in
    let here = live_atoms (p ∷ []) in
    ap (λ qs. facts_of name (terms_at terms (live_atoms qs)))
    (take_more ps i p (slice_get_within ps i p e)
    ∙ ap (λ (q : Option ℕ). take i ps ++ q ∷ []) (get_or_from_slice_get ps i p p e))
    ∙ (ap (λ cs. facts_of name (terms_at terms cs)) (live_joined (take i ps) (p ∷ []))
    ∙ (ap (facts_of name) (map-append (term_at terms) before here)
    ∙ filter-append (is_fact_of name) (terms_at terms before) (terms_at terms here)))
