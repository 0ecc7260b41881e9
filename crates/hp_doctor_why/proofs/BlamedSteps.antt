-- What is said of the variables of a pattern, one after another.
use Rattle.std.proofs.Common.{◌≡◌, ℕ, ◌+◌, ◌<◌, List, ◌∷◌, ◌++◌, drop, get_or, length, sym, ap, ◌∙◌, append_assoc}
use Rattle.std.proofs.lemmas.List.{drop_more}
use Rattle.hp_blame.specs.Blames.{Culprit}
use Rattle.hp_unmet.specs.Conjunctions.{Conjunction}
use Rattle.hp_doctor_why.specs.Blamed.{variable_text, variables_from}

-- what is said of one variable more leaves the whole, of what is said and what is left, as it was
pub variables_on : (c : Conjunction) (x : Culprit) (names : List (List ℕ)) (i : ℕ) (name : List ℕ)
    (old new whole : List ℕ) → i < length names → name ≡ get_or names i name
    → old ++ variables_from c x i (drop i names) ≡ whole → new ≡ old ++ variable_text c x i name
    → new ++ variables_from c x (i + 1) (drop (i + 1) names) ≡ whole
variables_on c x names i name old new whole below at left put =
    let behind = drop (i + 1) names in
    let rest = variables_from c x (i + 1) behind in
    let here : drop i names ≡ name ∷ behind = drop_more names i name below ∙ ap (λ y. y ∷ behind) (sym at) in
    ap (λ zs. zs ++ rest) put
    ∙ (append_assoc old (variable_text c x i name) rest
    ∙ (ap (λ zs. old ++ zs) (sym (ap (variables_from c x i) here)) ∙ left))
