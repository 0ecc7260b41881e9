-- Gaps, tokens and places with one more byte.
use Rattle.std.proofs.Common.{◌≡◌, ℕ, ◌+◌, ◌-◌, ◌<◌, ◌≤◌, true, false, List, length, slice_index, get_or, take, drop, refl, sym, ap, ◌∙◌, arith, ⊎_elim}
use Rattle.std.proofs.lemmas.Bool.{cases_lt}
use Rattle.std.proofs.lemmas.List.{take_rest, get_or-drop, length-drop}
use Rattle.hp_syntax.specs.Text.{Kind, Blank, NameByte, End, is_blank, is_name_byte, in_comment, kind_at, IsGap}
use Rattle.hp_syntax.proofs.TextLemmas.{kind_at-end, kind_within, name_byte_only, quiet_behind, outside_behind}
use Rattle.hp_text.specs.Places.{IsBetween, IsStop}
use Rattle.hp_text.proofs.ByteLemmas.{blank_byte, quiet_behind_blank, comment_byte, quiet_behind_line, no_blank_byte}

-- one more byte of a kind
run_more : (k : Kind) (text : List ℕ) (from i : ℕ) → ((j : ℕ) → from ≤ j → j < i → kind_at text j ≡ k)
    → kind_at text i ≡ k → (j : ℕ) → from ≤ j → j < i + 1 → kind_at text j ≡ k
run_more k text from i run here j o l =
    ⊎_elim (λ below. run j o below) (λ above. let same : j ≡ i = omega arith in rw same here) (cases_lt j i)

-- a gap goes on over a blank
pub gap_more : (text : List ℕ) (from i : ℕ) → IsGap text from i → kind_at text i ≡ Blank → IsGap text from (i + 1)
gap_more text from i g h = record {
  order = let o : from ≤ i = g.order in omega arith;
  blank = run_more Blank text from i g.blank h;
}

-- no byte is a gap
pub gap_none : (text : List ℕ) (a b : ℕ) → a ≡ b → IsGap text a b
gap_none text a b e = record {
  order = omega arith;
  blank = λ i o l. absurd (omega arith);
}

-- a blank is no name byte
pub blank_no_name : (text : List ℕ) (i : ℕ) → kind_at text i ≡ Blank → kind_at text i ≡ NameByte → ⊥
blank_no_name text i e k = let x : Blank ≡ NameByte = sym e ∙ k in cc

-- two gaps are one
pub gap_gap : (text : List ℕ) (a b c : ℕ) → IsGap text a b → IsGap text b c → IsGap text a c
gap_gap text a b c g h = record {
  order = let o : a ≤ b = g.order in let q : b ≤ c = h.order in omega arith;
  blank = λ i o l. ⊎_elim (λ below. g.blank i o below) (λ above. h.blank i above l) (cases_lt i b);
}

-- the first part of a gap is one
pub gap_part : (text : List ℕ) (a b c : ℕ) → IsGap text a c → a ≤ b → b ≤ c → IsGap text a b
gap_part text a b c g o l = record { order = o; blank = λ i p m. g.blank i p (omega arith) }

-- behind a blank outside comments no token or comment goes on
pub between_blanks : (text : List ℕ) (i : ℕ) → i < length text → in_comment text i ≡ false
    → is_blank (slice_index text i) ≡ true → IsBetween text (i + 1)
between_blanks text i l q h = record {
  within = omega arith;
  begins = λ _. outside_behind text i (blank_no_name text i (blank_byte text i l q h));
  quiet = λ _. quiet_behind_blank text i q h;
}

-- a line feed ends a comment, and is one more blank
pub between_lines : (text : List ℕ) (i : ℕ) → i < length text → in_comment text i ≡ true → slice_index text i ≡ 10
    → IsBetween text (i + 1)
between_lines text i l q e = record {
  within = omega arith;
  begins = λ _. outside_behind text i (blank_no_name text i (comment_byte text i l q));
  quiet = λ _. quiet_behind_line text i e;
}

-- before its first byte a text has no token and no comment
pub between_first : (text : List ℕ) → IsBetween text 0
between_first text = record { within = omega arith; begins = λ _ i e. absurd (omega arith); quiet = λ _. refl }

-- behind a bracket no token or comment goes on
pub between_brackets : (text : List ℕ) (i : ℕ) → i < length text → (kind_at text i ≡ NameByte → ⊥)
    → (kind_at text i ≡ Blank → ⊥) → IsBetween text (i + 1)
between_brackets text i l name blank = record {
  within = omega arith;
  begins = λ _. outside_behind text i name;
  quiet = λ _. quiet_behind text i blank l;
}

-- a gap ends at a byte that is neither blank nor of a comment
pub stop_here : (text : List ℕ) (i : ℕ) → i < length text
    → is_blank (slice_index text i) ≡ false → (slice_index text i ≡ 59 → ⊥) → IsBetween text i → IsStop text i
stop_here text i l h n p = record {
  within = omega arith;
  begins = p.begins;
  stops = no_blank_byte text i l (p.quiet l) h n;
}

-- a gap ends with the text
pub stop_at_end : (text : List ℕ) (i : ℕ) → i ≡ length text → IsStop text i
stop_at_end text i e =
    let end : kind_at text i ≡ End = kind_at-end text i (omega arith) in
    record {
      within = omega arith;
      begins = λ h. let x : End ≡ NameByte = sym end ∙ h in cc;
      stops = λ h. let x : End ≡ Blank = sym end ∙ h in cc;
    }

-- the rest of a text has the bytes behind a place
pub rest_byte : (text : List ℕ) (n k i : ℕ) → i ≡ n + k
    → get_or (take (length text - n) (drop n text)) k 0 ≡ slice_index text i
rest_byte text n k i e = rw (take_rest text n, get_or-drop n text k 0, e) refl

-- the rest of a text is as long as what is behind a place
pub rest_length : (text : List ℕ) (n : ℕ) → length (take (length text - n) (drop n text)) ≡ length text - n
rest_length text n = ap length (take_rest text n) ∙ length-drop n text

-- one byte is a token so far
pub token_begins : (text : List ℕ) (from : ℕ) → kind_at text from ≡ NameByte → (j : ℕ) → from ≤ j → j < from + 1
    → kind_at text j ≡ NameByte
token_begins text from h j o l = let same : j ≡ from = omega arith in rw same h

-- a token goes on over a name byte
pub token_more : (text : List ℕ) (from i : ℕ) → ((j : ℕ) → from ≤ j → j < i → kind_at text j ≡ NameByte)
    → kind_at text i ≡ NameByte → (j : ℕ) → from ≤ j → j < i + 1 → kind_at text j ≡ NameByte
token_more text from i run h = run_more NameByte text from i run h

-- a name byte stands within the text
pub name_within : (text : List ℕ) (i : ℕ) → kind_at text i ≡ NameByte → i < length text
name_within text i h = kind_within text i (λ e. let x : NameByte ≡ End = sym h ∙ e in cc)

-- behind a name byte no comment is open
pub quiet_behind_name : (text : List ℕ) (i : ℕ) → kind_at text i ≡ NameByte → in_comment text (i + 1) ≡ false
quiet_behind_name text i h = quiet_behind text i (λ e. blank_no_name text i e h) (name_within text i h)

-- a byte that is no name byte ends a token
pub token_ends : (text : List ℕ) (i : ℕ) → is_name_byte (slice_index text i) ≡ false → kind_at text i ≡ NameByte → ⊥
token_ends text i h k = let x : true ≡ false = sym (name_byte_only text i k) ∙ h in cc

-- the text's end ends a token
pub token_ends_there : (text : List ℕ) (i : ℕ) → length text ≤ i → kind_at text i ≡ NameByte → ⊥
token_ends_there text i l k = let x : End ≡ NameByte = sym (kind_at-end text i l) ∙ k in cc

-- no token or comment goes on behind a token
pub between_tokens : (text : List ℕ) (i : ℕ) → i ≤ length text → (kind_at text i ≡ NameByte → ⊥)
    → in_comment text i ≡ false → IsBetween text i
between_tokens text i l h q = record { within = l; begins = λ k. absurd (h k); quiet = λ _. q }
