use Rattle.std.proofs.Common.{◌≡◌, ℕ, ◌+◌, ◌<◌, List, [], ◌∷◌, ◌++◌, length, get_or, take, ap₂, sym, ◌∙◌}
use Rattle.std.proofs.lemmas.List.{take_more, take_all}
use Rattle.hp_terms.proofs.scope.Scope.all_names.Goals as goal

-- the copies of the first elements of a list, and that of the next, are those of one element more
copied_more : {X : Type 0} (xs : List X) (i : ℕ) (x y : X) (old new : List X) → i < length xs → x ≡ get_or xs i x
    → y ≡ x → old ≡ take i xs → new ≡ old ++ y ∷ [] → new ≡ take (i + 1) xs
copied_more xs i x y old new below at same so_far pushed =
    pushed ∙ ap₂ (λ ys z. ys ++ z ∷ []) so_far (same ∙ at) ∙ sym (take_more xs i x below)

pub loop-name-preserved : goal.loop-name-preserved
loop-name-preserved c =
    copied_more c.as_slice-name-items.result.now c.loop-name.name-index c.name-item.result c.in_ok-copy.field-0
    c.loop-name.copies.items _ c.loop-name-test.true c.name-item.is c.in_ok-copy.ensures.same c.loop-name.invariant
    c.in_ok-push.ensures.items

pub returns : goal.returns
returns c =
    c.loop-name.invariant
    ∙ take_all c.loop-name.name-index c.as_slice-name-items.result.now c.loop-name-test.false
    ∙ c.as_slice-name-items.ensures.keys
