-- Facts of a text in which nothing is refused.
use Rattle.std.proofs.Common.{◌≡◌, ℕ, ◌+◌, ◌-◌, ◌<◌, ◌≤◌, ◌⊎◌, List, [], ◌∷◌, length, slice_range, refl, sym, ◌∙◌, arith, ⊎_elim, None}
use Rattle.std.proofs.lemmas.Bool.{cases_lt}
use Rattle.hp_syntax.specs.declared.limits.TheConstants.{LARGEST_TEXT}
use Rattle.hp_syntax.specs.declared.text.TextKind.TheVariants.{BadByte, Unclosed, ExtraClose}
use Rattle.hp_syntax.specs.Text.{Kind, Closing, Bad, End, kind_at, IsToken, spelling_of}
use Rattle.hp_syntax.specs.Refusal.{refused, open_before, numeral_refusal, kind_refusal, IsClear}
use Rattle.hp_syntax.proofs.TextLemmas.{kind_at-end, kind_within, nothing_refused, clear_within}
use Rattle.hp_text.specs.declared.spelling.Spelling.{Spelling}
use Rattle.hp_text.specs.declared.spelling.Spelling.TheVariants as rust
use Rattle.hp_text.specs.Spellings.{plain_spelling}
use Rattle.hp_text.proofs.PlaceLemmas.{name_within}
use Rattle.hp_syntax.proofs.RefusalLemmas.{clear_token_spelling}

-- a clear text isn't too large
pub clear_is_short : (text : List ℕ) → IsClear text (length text + 1) → length text ≤ LARGEST_TEXT
clear_is_short text c = clear_within text (length text) (λ i l. c i (omega arith)) (omega arith)

-- nothing is refused of what stands in a clear text
clear_at : (text : List ℕ) (i : ℕ) → IsClear text (length text + 1) → i ≤ length text
    → kind_refusal text i (kind_at text i) (open_before text i) ≡ None
clear_at text i c l = nothing_refused text i (c i (omega arith))

-- the same where it is known what stands there and which brackets are open
clear_kind : (text : List ℕ) (i : ℕ) (k : Kind) (os : List ℕ) → IsClear text (length text + 1) → i ≤ length text
    → kind_at text i ≡ k → open_before text i ≡ os → kind_refusal text i k os ≡ None
clear_kind text i k os c l e f = rw (e, f) at (clear_at text i c l)

-- no bad byte stands in a clear text
pub no_bad : (text : List ℕ) (i : ℕ) → IsClear text (length text + 1) → kind_at text i ≡ Bad → ⊥
no_bad text i c e =
    let l : i < length text = kind_within text i (λ h. let x : Bad ≡ End = sym e ∙ h in cc) in
    let x : refused BadByte i ≡ None = clear_kind text i Bad (open_before text i) c (omega arith) e refl in
    cc

-- in a clear text what is open is closed
pub closes_within : (text : List ℕ) (i o : ℕ) (os : List ℕ) → IsClear text (length text + 1) → i ≤ length text
    → open_before text i ≡ o ∷ os → i < length text
closes_within text i o os c l e = ⊎_elim (λ below. below) (λ above. absurd (unclosed above)) (cases_lt i (length text))
  where
    unclosed : length text ≤ i → ⊥
    unclosed above =
        let x : refused Unclosed o ≡ None = clear_kind text i End (o ∷ os) c l (kind_at-end text i above) e in cc

-- in a clear text nothing closes where nothing is open
pub closes_nothing : (text : List ℕ) (i : ℕ) → IsClear text (length text + 1) → i ≤ length text
    → open_before text i ≡ [] → kind_at text i ≡ Closing → ⊥
closes_nothing text i c l e h = let x : refused ExtraClose i ≡ None = clear_kind text i Closing [] c l h e in cc

-- a token of a clear text is a name or a number
pub token_is_spelled : (text : List ℕ) (from to : ℕ) → IsClear text (length text + 1) → IsToken text from to
    → numeral_refusal (spelling_of (slice_range text from to)) from ≡ None
token_is_spelled text from to c token =
    let some : from < to = token.some in
    let last : to - 1 < length text = name_within text (to - 1) (token.run (to - 1) (omega arith) (omega arith)) in
    clear_token_spelling text from to token (λ i l. c i (omega arith))

refused_spelling : (token : List ℕ) (from : ℕ) (s t : Spelling) → plain_spelling s ≡ spelling_of token
    → numeral_refusal (spelling_of token) from ≡ None → s ≡ t → numeral_refusal (plain_spelling t) from ≡ None
refused_spelling token from s t e c same = rw (← same, e) c

-- a token that is neither a name nor a number is refused
pub no_other_spelling : (token : List ℕ) (from : ℕ) (s : Spelling) → plain_spelling s ≡ spelling_of token
    → numeral_refusal (spelling_of token) from ≡ None → (s ≡ rust.NoNumber) ⊎ (s ≡ rust.OutOfRange) → ⊥
no_other_spelling token from s e c h =
    ⊎_elim (λ no. let x = refused_spelling token from s rust.NoNumber e c no in cc)
    (λ out. let x = refused_spelling token from s rust.OutOfRange e c out in cc) h

-- no bracket is open before the first byte
pub none_open_first : (text : List ℕ) → open_before text 0 ≡ []
unfolding open_before
none_open_first text = refl
