use Rattle.std.proofs.Common.{◌≡◌, ap, ◌∙◌, ℤ, FitsSigned, to_z, of_z, subst}
use Rattle.std.specs.Int.{w64, w128}
use Rattle.std.specs.Option.{SomeIff}
use Rattle.std.proofs.Math.Facts.{sfits_widen}
use Rattle.std.proofs.lemmas.Int.{to_z-of_z}
use Rattle.hp_eval.proofs.ProductLemmas.{product_in_code}
use Rattle.hp_eval.proofs.arithmetic.product.Goals as goal

-- a number of 64 bits is the same in 128
widened : (n w : ℤ) → FitsSigned w64 n → w ≡ to_z w64 (of_z w64 n) → to_z w128 (of_z w128 w) ≡ n
widened n w f h =
    ap (λ k. to_z w128 (of_z w128 k)) (h ∙ to_z-of_z w64 n f) ∙ to_z-of_z w128 n (sfits_widen tt f)

pub returns : goal.returns
returns c =
    let m = widened c.args.m c.from.result c.ranges.m c.from.ensures in
    let n = widened c.args.n c.from-2.result c.ranges.n c.from-2.ensures in
    subst (λ p. SomeIff c.narrowed.result (FitsSigned w64 p) p)
    (product_in_code c.args.m c.args.n _ _ c.ranges.m c.ranges.n m n) c.narrowed.ensures
