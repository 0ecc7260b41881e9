-- Numbers that are gone through one after another.
use Rattle.std.proofs.Common.{◌≡◌, ℕ, ◌+◌, ◌<◌, List, ◌++◌, drop, get_or, length, sym, ap, ◌∙◌, append_assoc}
use Rattle.std.specs.List.{flat_map}
use Rattle.std.proofs.lemmas.List.{drop_more}

-- what is made of one number more is put after what was made so far
pub one_further : (part : ℕ → List ℕ) (xs : List ℕ) (i : ℕ) (old new whole : List ℕ) → i < length xs
    → old ++ flat_map part (drop i xs) ≡ whole → new ≡ old ++ part (get_or xs i 0)
    → new ++ flat_map part (drop (i + 1) xs) ≡ whole
one_further part xs i old new whole l left put =
    let behind = drop (i + 1) xs in
    ap (λ zs. zs ++ flat_map part behind) put
    ∙ (append_assoc old (part (get_or xs i 0)) (flat_map part behind)
    ∙ (ap (λ ys. old ++ flat_map part ys) (sym (drop_more xs i 0 l)) ∙ left))
