-- The totals of a power: 1 multiplied by a number again and again.
use Rattle.std.specs.Prelude.{negsuc}
use Rattle.std.proofs.Common.{◌≡◌, ◌≢◌, ℕ, zero, suc, ◌+◌, ◌-◌, ◌%◌, ◌<◌, ◌==◌, false, cond, ℤ, pos, int_lt, int_rem, of_z, ◌∷◌, replicate, Ok, refl, ap, sym, ◌∙◌, arith}
use Rattle.std.specs.Int.{w64}
use Rattle.hp_syntax.specs.declared.pattern.Span.{Span}
use Rattle.hp_syntax.specs.Terms.{Number}
use Rattle.hp_syntax.specs.Calls.{in_turn, product, whole_power}
use Rattle.hp_eval.specs.CallRows.{fitted}
use Rattle.hp_eval.proofs.CallRowLemmas.{goes_on}

-- of so many factors one comes next, and the others are left
pub next_factor : (m : ℤ) (times i : ℕ) → i < times → replicate (times - i) m ≡ m ∷ replicate (times - (i + 1)) m
next_factor m times i h = let left : times - i ≡ suc (times - (i + 1)) = omega arith in ap (λ k. replicate k m) left

-- where a total is followed by the same one, it is the power, however many factors are left
pub repeats : (s : Span) (m t : ℤ) (k : ℕ) → Ok t ≡ fitted s (product t m)
    → in_turn product s t (replicate k m) ≡ Ok (Number t)
repeats s m t zero h = refl
repeats s m t (suc k) h = goes_on product s t m (replicate k m) t h ∙ repeats s m t k h

-- the totals of -1 alternate: an even power is 1, and an odd one -1
pub alternates : (s : Span) (k : ℕ)
    → in_turn product s (pos 1000) (replicate k (negsuc 999)) ≡ Ok (Number (cond (k % 2 == 0) (pos 1000) (negsuc 999)))
alternates s zero = refl
alternates s (suc zero) = refl
alternates s (suc (suc k)) =
    let same : k % 2 ≡ suc (suc k) % 2 = omega arith in
    alternates s k ∙ ap (λ r. Ok (Number (cond (r == 0) (pos 1000) (negsuc 999)))) same

-- -1 to an even power is 1
pub even_power : (s : Span) (m times : ℤ) → m ≡ negsuc 999 → int_lt times (pos 0) ≡ false
    → of_z w64 (int_rem times (pos 2)) ≡ 0 → Ok (Number (pos 1000)) ≡ whole_power s m times
even_power s m (pos k) is h even =
    ap (λ r. Ok (Number (cond (r == 0) (pos 1000) (negsuc 999)))) (sym even)
    ∙ (sym (alternates s k) ∙ ap (λ z. whole_power s z (pos k)) (sym is))
even_power s m (negsuc k) is h even = absurd (cc)

-- -1 to an odd power is -1
pub odd_power : (s : Span) (m times : ℤ) → m ≡ negsuc 999 → int_lt times (pos 0) ≡ false
    → of_z w64 (int_rem times (pos 2)) ≢ 0 → Ok (Number (negsuc 999)) ≡ whole_power s m times
odd_power s m (pos k) is h odd =
    let one : 1 ≡ k % 2 = omega (arith, odd) in
    ap (λ r. Ok (Number (cond (r == 0) (pos 1000) (negsuc 999)))) one
    ∙ (sym (alternates s k) ∙ ap (λ z. whole_power s z (pos k)) (sym is))
odd_power s m (negsuc k) is h odd = absurd (cc)
