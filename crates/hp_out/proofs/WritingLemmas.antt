-- Prefixes of texts that were written.
use Rattle.std.proofs.Common.{[], ◌≡◌, ℕ, ◌+◌, List, ◌++◌, Option, Some, None, length, take, arith, refl, ap, sym, ◌∙◌, subst, append_assoc, append-nil, length-append}
use Rattle.std.proofs.Math.Seq.{take-append-add, take-length}
use Rattle.std.proofs.lemmas.List.{take-append-le}
use Rattle.hp_out.specs.Writing.{Wrote, WrotePrefix, WroteProperPrefix}

-- where nothing was written, the empty text was
pub wrote_nothing : (b : Option (List ℕ)) → Wrote [] b b
wrote_nothing None = refl
wrote_nothing (Some b) = ap Some (sym (append-nil b))

-- where nothing was written, the empty prefix of every text was
pub nothing_written : (text : List ℕ) (b : Option (List ℕ)) → WrotePrefix text b b
nothing_written text None = refl
nothing_written text (Some b) = (0, omega arith, ap Some (sym (append-nil b)))

-- a whole text that was written is a prefix of it
pub whole_prefix : (text : List ℕ) (a b : Option (List ℕ)) → Wrote text a b → WrotePrefix text a b
whole_prefix text None b w = w
whole_prefix text (Some a) b w = (length text, omega arith, w ∙ ap (λ t. Some (a ++ t)) (sym (take-length text)))

-- a prefix of a text is one of every text that goes on from it
pub prefix_longer : (x y : List ℕ) (a b : Option (List ℕ)) → WrotePrefix x a b → WrotePrefix (x ++ y) a b
prefix_longer x y None b w = w
prefix_longer x y (Some a) b w =
    (w.0, omega (arith, w.1, length-append x y), w.2 ∙ ap (λ t. Some (a ++ t)) (sym (take-append-le w.0 x y w.1)))

-- a proper prefix of a text is one of every text that goes on from it
pub proper_longer : (x y : List ℕ) (a b : Option (List ℕ)) → WroteProperPrefix x a b → WroteProperPrefix (x ++ y) a b
proper_longer x y None b w = w
proper_longer x y (Some a) b w = (
  w.0,
  omega (arith, w.1, length-append x y),
  w.2 ∙ ap (λ t. Some (a ++ t)) (sym (take-append-le w.0 x y (omega (arith, w.1)))),
)

-- a piece and then the first n bytes of a text are the first bytes of both
joined_prefix : (x y a : List ℕ) (n : ℕ) → (a ++ x) ++ take n y ≡ a ++ take (length x + n) (x ++ y)
joined_prefix x y a n = append_assoc a x (take n y) ∙ ap (λ t. a ++ t) (sym (take-append-add x y n))

-- a text and then a prefix of the next are a prefix of both
pub prefix_after : (x y : List ℕ) (a b c : Option (List ℕ)) → Wrote x a b → WrotePrefix y b c → WrotePrefix (x ++ y) a c
prefix_after x y None b c h w = subst (λ m. WrotePrefix y m c) h w
prefix_after x y (Some a) b c h w =
    let w' = subst (λ m. WrotePrefix y m c) h w in
    (length x + w'.0, omega (arith, w'.1, length-append x y), w'.2 ∙ ap Some (joined_prefix x y a w'.0))

-- a text and then a proper prefix of the next are a proper prefix of both
pub proper_after : (x y : List ℕ) (a b c : Option (List ℕ)) → Wrote x a b → WroteProperPrefix y b c
    → WroteProperPrefix (x ++ y) a c
proper_after x y None b c h w = subst (λ m. WroteProperPrefix y m c) h w
proper_after x y (Some a) b c h w =
    let w' = subst (λ m. WroteProperPrefix y m c) h w in
    (length x + w'.0, omega (arith, w'.1, length-append x y), w'.2 ∙ ap Some (joined_prefix x y a w'.0))
