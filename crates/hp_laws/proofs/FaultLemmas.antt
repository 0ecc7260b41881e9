-- Consequences of checks that find nothing.
use Rattle.std.proofs.Common.{◌≡◌, ℕ, ◌≤◌, List, [], ◌∷◌, ◌++◌, length, None, refl, ap, arith}
use Rattle.std.proofs.lemmas.Bool.Decides.{nat_tests}
use Rattle.std.proofs.lemmas.List.Elements.{All-nil, All-cons}
use Rattle.std.specs.List.{All, flat_map}
use Rattle.hp_syntax.specs.declared.pattern.Span.{Span}
use Rattle.hp_syntax.specs.declared.limits.TheConstants.{MOST_VARIABLES}
use Rattle.hp_syntax.specs.Checks.{HasFewVariables, vars_faults, rule_faults, pair_faults, domain_faults, problem_faults, first_of}
use Rattle.hp_syntax.specs.Syntax.{Rule, Does, Refines, Concludes, Domain, Problem}
use Rattle.hp_syntax.proofs.CheckLemmas.{none_found}

-- where two lists make an empty one both are empty
pub both_empty : {A : Type 0} (xs ys : List A) → xs ++ ys ≡ [] → (xs ≡ []) × (ys ≡ [])
both_empty [] ys e = (refl, e)
both_empty (x ∷ xs) ys e = absurd cc

-- where two lists make an empty one the first is empty
prefix_empty : {A : Type 0} (xs ys : List A) → xs ++ ys ≡ [] → xs ≡ []
prefix_empty xs ys e = (both_empty xs ys e).0

-- where all the lists that are made of a list's elements are empty together each is empty
pub each_empty : {X A : Type 0} (f : X → List A) (xs : List X) → flat_map f xs ≡ [] → All (λ x. f x ≡ []) xs
each_empty f [] e = All-nil (λ x. f x ≡ [])
each_empty f (x ∷ xs) e =
    let b = both_empty (f x) (flat_map f xs) e in
    All-cons (λ y. f y ≡ []) x xs b.0 (each_empty f xs b.1)

-- where not too many variables are found there are few
few_variables : (vars : List (List ℕ)) (s : Span) → vars_faults vars s ≡ [] → length vars ≤ MOST_VARIABLES
few_variables vars s e = grind (arith, nat_tests)

-- a rule without faults has few variables
pub faultless_has_few : (r : Rule) → rule_faults r ≡ [] → HasFewVariables r
faultless_has_few (Does o) e = few_variables o.vars o.span (search (prefix_empty, e))
faultless_has_few (Refines m) e = few_variables m.vars m.span (search (prefix_empty, e))
faultless_has_few (Concludes a) e = few_variables a.vars a.span (search (prefix_empty, e))

-- where no fault is the first of a domain no rule of it has faults
pub faultless_rules : (d : Domain) → first_of (domain_faults d) ≡ None → All (λ r. rule_faults r ≡ []) d.rules
unfolding domain_faults
faultless_rules d e = each_empty rule_faults d.rules (none_found (domain_faults d) e)

-- where no fault is the first of all none is the first of the domain
pub accepted_is_checked : (d : Domain) (p : Problem) → first_of (domain_faults d ++ problem_faults d p) ≡ None
    → first_of (domain_faults d) ≡ None
accepted_is_checked d p e = ap first_of (prefix_empty (domain_faults d) (problem_faults d p) (none_found _ e))

-- where no fault is the first of all no pair of the problem has faults
pub faultless_pairs : (d : Domain) (p : Problem) → first_of (domain_faults d ++ problem_faults d p) ≡ None
    → All (λ x. pair_faults x ≡ []) p.pairs
unfolding problem_faults
faultless_pairs d p e =
    each_empty pair_faults p.pairs
    (both_empty _ _ (both_empty (domain_faults d) (problem_faults d p) (none_found _ e)).1).1
