-- Lists that grow at their ends, and lists of atoms.
use Rattle.std.proofs.Common.{◌≡◌, ℕ, ◌+◌, ◌<◌, List, [], ◌∷◌, ◌++◌, length, get_or, drop, ap, sym, ◌∙◌, append_assoc}
use Rattle.std.specs.Borrow.{Bor}
use Rattle.std.proofs.lemmas.List.{append-nil, drop_more, map-append}
use Rattle.hp_syntax.specs.declared.pattern.AtomPat.{AtomPat}
use Rattle.hp_lint.specs.LintViews.{lent, lent_atoms}

-- what is put behind a list, and then behind that, is both together
pub put_both : {A : Type 0} (a b c xs ys : List A) → b ≡ a ++ xs → c ≡ b ++ ys → c ≡ a ++ (xs ++ ys)
put_both a b c xs ys h k = k ∙ (ap (λ zs. zs ++ ys) h ∙ append_assoc a xs ys)

-- an element that is put behind a list, and then more behind that
pub put_one_first : {A : Type 0} (a b c xs : List A) (x : A) → b ≡ a ++ x ∷ [] → c ≡ b ++ xs → c ≡ a ++ x ∷ xs
put_one_first a b c xs x h k = put_both a b c (x ∷ []) xs h k

-- a list with nothing behind it is itself
pub nothing_more : {A : Type 0} (xs : List A) → xs ≡ xs ++ []
nothing_more xs = sym (append-nil xs)

-- an atom that is put behind others is the last of those that they say
pub one_more : (old new : List (Bor AtomPat)) (a : Bor AtomPat) → new ≡ old ++ a ∷ []
    → lent_atoms new ≡ lent_atoms old ++ lent a ∷ []
one_more old new a h = ap lent_atoms h ∙ map-append lent old (a ∷ [])

-- one more part of a list, which is copied, leaves the whole that is made as it was
pub made_copied : {X A : Type 0} (rest : List X → List A) (part : X → List A) (xs : List X) (i : ℕ) (d : X)
    (old new whole : List A) → ((y : X) (ys : List X) → rest (y ∷ ys) ≡ part y ++ rest ys) → i < length xs
    → old ++ rest (drop i xs) ≡ whole → new ≡ old ++ part (get_or xs i d) → new ++ rest (drop (i + 1) xs) ≡ whole
made_copied rest part xs i d old new whole step below left put =
    let y = get_or xs i d in
    let behind = drop (i + 1) xs in
    ap (λ zs. zs ++ rest behind) put
    ∙ (append_assoc old (part y) (rest behind)
    ∙ (ap (λ zs. old ++ zs) (sym (ap rest (drop_more xs i d below) ∙ step y behind)) ∙ left))
