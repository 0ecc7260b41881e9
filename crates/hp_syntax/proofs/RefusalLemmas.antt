-- The first refusal in a text, and tokens in which nothing is refused.
use Rattle.std.proofs.Common.{◌≡◌, ℕ, zero, suc, ◌+◌, ◌-◌, ◌<◌, ◌≤◌, List, length, Option, Some, None, refl, arith, add-one, subst, ◌⊎◌, inl, inr, ⊎_elim}
use Rattle.std.specs.Prelude.{slice_range}
use Rattle.std.proofs.lemmas.Bool.{cases_lt, lt-ltb, le-ltb, eq-eqb}
use Rattle.hp_syntax.specs.declared.limits.TheConstants.{LONGEST_TOKEN}
use Rattle.hp_syntax.specs.Text.{kind_at, IsToken, spelling_of}
use Rattle.hp_syntax.specs.Refusal.{Refusal, numeral_refusal, token_refusal, refusal_at, IsClear, IsRefused}
use Rattle.hp_syntax.proofs.TextLemmas.{is_name-NameByte, token_start-run, clear_more, nothing_refused}

-- nothing is refused up to an offset, or the text is refused
pub first_refusal : (text : List ℕ) (n : ℕ) → n ≤ length text + 1 → IsClear text n ⊎ ((r : Refusal) × IsRefused text r)
first_refusal text zero l = inl (λ i m. absurd (omega arith))
first_refusal text (suc n) l =
    ⊎_elim (λ c. further c (refusal_at text n) refl) (λ r. inr r) (first_refusal text n (omega arith))
  where
    further : IsClear text n → (x : Option Refusal) → refusal_at text n ≡ x
        → IsClear text (suc n) ⊎ ((r : Refusal) × IsRefused text r)
    further c None e = inl (subst (IsClear text) (add-one n) (clear_more text n c e))
    further c (Some r) e = inr (r, record { at = n; within = omega arith; arises = e; first = c })

-- nothing is refused within a clear token
clear_token : (text : List ℕ) (a b i : ℕ) → IsToken text a b → IsClear text b → a ≤ i → i < b
    → token_refusal text a i ≡ None
clear_token text a b i t c l m =
    let s = token_start-run text a i l t.begins (λ j u v. t.run j u (omega arith)) in
    rw (t.run i l m, s) at (nothing_refused text i (c i m))

-- a clear token isn't too long
pub clear_token_short : (text : List ℕ) (a b : ℕ) → IsToken text a b → IsClear text b → b ≤ a + LONGEST_TOKEN
clear_token_short text a b t c = ⊎_elim (λ l. absurd (long l)) (λ l. l) (cases_lt (a + LONGEST_TOKEN) b)
  where
    long : a + LONGEST_TOKEN < b → ⊥
    long l =
        let i = a + LONGEST_TOKEN in
        let e = rw (le-ltb i i (omega arith), eq-eqb i i refl) at (clear_token text a b i t c (omega arith) l) in
        cc

-- the spelling of a clear token isn't refused
pub clear_token_spelling : (text : List ℕ) (a b : ℕ) → IsToken text a b → IsClear text b
    → numeral_refusal (spelling_of (slice_range text a b)) a ≡ None
clear_token_spelling text a b t c =
    let s : a < b = t.some in
    let i = b - 1 in
    let q : i + 1 ≡ b = omega arith in
    let m = clear_token_short text a b t c in
    let l = lt-ltb i (a + LONGEST_TOKEN) (omega arith) in
    rw (l, q, is_name-NameByte (kind_at text b) t.ends) at (clear_token text a b i t c (omega arith) (omega arith))
