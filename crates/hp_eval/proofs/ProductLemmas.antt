-- Products of counts of thousandths in code.
use Rattle.std.specs.Prelude.{negsuc}
use Rattle.std.proofs.Common.{◌≡◌, ◌≤◌, ◌^◌, ℤ, pos, ◌*ℤ◌, int_div, unsigned_abs, to_z, of_z, FitsSigned, ap, ap₂, ◌∙◌, rules, arith}
use Rattle.std.specs.Int.{w64, w128}
use Rattle.std.proofs.lemmas.Int.{to_z-of_z, fits_signed_mul, quot_fits}
use Rattle.hp_syntax.specs.Calls.{product}

-- a number of 64 bits is at most 2 ^ 63 in size
at_most : (n : ℤ) → FitsSigned w64 n → unsigned_abs n ≤ 2 ^ 63
at_most (pos n) f = omega (arith, f.sfits)
at_most (negsuc n) f = omega (arith, f.sfits)

-- the product of two numbers of 64 bits has 128 bits
pub product_is_wide : (m n : ℤ) → FitsSigned w64 m → FitsSigned w64 n → FitsSigned w128 (m *ℤ n)
product_is_wide m n f g = fits_signed_mul w128 m n (2 ^ 63) (2 ^ 63) (at_most m f) (at_most n g) (omega arith)

-- of two numbers of 64 bits code gives the whole product without its last three digits
pub product_in_code : (m n a b : ℤ) → FitsSigned w64 m → FitsSigned w64 n → a ≡ m → b ≡ n
    → to_z w128 (of_z w128 (int_div (to_z w128 (of_z w128 (a *ℤ b))) (pos 1000))) ≡ product m n
product_in_code m n a b f g is-m is-n =
    let whole : to_z w128 (of_z w128 (a *ℤ b)) ≡ m *ℤ n =
    ap₂ (λ x y. to_z w128 (of_z w128 (x *ℤ y))) is-m is-n ∙ to_z-of_z w128 (m *ℤ n) (product_is_wide m n f g) in
    ap (λ p. to_z w128 (of_z w128 (int_div p (pos 1000)))) whole
    ∙ to_z-of_z w128 (product m n) (quot_fits w128 (m *ℤ n) (pos 1000) (product_is_wide m n f g) (search rules))
