-- Numbers of a command.
use Rattle.std.proofs.Common.{◌≡◌, ℕ, ◌+◌, ◌-◌, ◌*◌, ◌<◌, ◌≤◌, nat_le, drop, add-one, drop-cons, ◌∙◌, List, [], ◌∷◌, length, Some, None, get_or, arith, refl, sym}
use Rattle.std.proofs.lemmas.Bool.{lt-leb}
use Rattle.hp_words.specs.Numbers.{only_if, number_from}

-- more digits spell no smaller number
number_from_grows : (n : ℕ) (bs : List ℕ) → n ≤ number_from n bs
number_from_grows n [] = omega arith
number_from_grows n (b ∷ bs) = omega (arith, number_from_grows (n * 10 + (b - 48)) bs)

-- digits that go beyond a limit spell no number up to it
pub over_most : (bs : List ℕ) (i n m most : ℕ) → number_from n (drop i bs) ≡ number_from 0 bs → i < length bs
    → m ≡ n * 10 + (get_or bs i 0 - 48) → most < m
    → None ≡ only_if (nat_le (number_from 0 bs) most) (Some (number_from 0 bs))
over_most bs i n m most e h k over =
    let s : number_from n (drop i bs) ≡ number_from m (drop (i + 1) bs) = rw (add-one, drop-cons bs i 0, k) refl in
    let all : number_from m (drop (i + 1) bs) ≡ number_from 0 bs = sym s ∙ e in
    let g : m ≤ number_from 0 bs = omega (arith, number_from_grows m (drop (i + 1) bs)) in
    rw (lt-leb (number_from 0 bs) most (omega arith)) refl
