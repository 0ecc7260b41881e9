-- The kind at an offset, by its byte and the comment that is open there.
use Rattle.std.proofs.Common.{◌≡◌, ℕ, ◌<◌, Bool, true, false, cond, List, length, slice_index, refl, sym, ◌∙◌, arith, ◌+◌}
use Rattle.std.specs.Prelude.{◌||◌}
use Rattle.std.proofs.lemmas.Bool.Decides.{nat_tests}
use Rattle.std.proofs.lemmas.Bool.{eqb-true, false_from_ne_true, false≢true}
use Rattle.hp_syntax.specs.Text.{Kind, Blank, Opening, Closing, NameByte, Bad, End, is_blank, is_name_byte, byte_kind, comment_after, in_comment, kind_at}
use Rattle.hp_syntax.proofs.TextLemmas.{in_comment-next, kind_at-byte, kind_at-comment, kind_at-within, kind_within, kind_shows, name_kind, name_byte_only}

-- a blank begins no comment
blank_no_comment : (b : ℕ) → is_blank b ≡ true → comment_after false b ≡ false
blank_no_comment b h = grind (arith, nat_tests)

-- behind a blank outside comments no comment is open
pub quiet_behind_blank : (text : List ℕ) (i : ℕ) → in_comment text i ≡ false
    → is_blank (slice_index text i) ≡ true → in_comment text (i + 1) ≡ false
quiet_behind_blank text i q h = in_comment-next text i ∙ rw q (blank_no_comment (slice_index text i) h)

-- outside comments a blank is one
pub blank_byte : (text : List ℕ) (i : ℕ) → i < length text → in_comment text i ≡ false
    → is_blank (slice_index text i) ≡ true → kind_at text i ≡ Blank
blank_byte text i l q h =
    kind_at-byte text i l (rw q (blank_no_comment (slice_index text i) h)) ∙ rw h refl

-- a semicolon begins a comment, and is one of its bytes
pub comment_begins : (text : List ℕ) (i : ℕ) → i < length text → in_comment text i ≡ false
    → slice_index text i ≡ 59 → (kind_at text i ≡ Blank) × (in_comment text (i + 1) ≡ true)
comment_begins text i l q e = (kind_at-comment text i l (rw (q, e) refl), in_comment-next text i ∙ rw (q, e) refl)

open_still : (b : ℕ) → (b ≡ 10 → ⊥) → comment_after true b ≡ true
open_still b n = grind (arith, nat_tests)

-- a comment goes on behind what is no line feed
pub comment_more : (text : List ℕ) (i : ℕ) → in_comment text i ≡ true → (slice_index text i ≡ 10 → ⊥)
    → in_comment text (i + 1) ≡ true
comment_more text i q n = in_comment-next text i ∙ rw q (open_still (slice_index text i) n)

closed_by : (b : ℕ) → comment_after true b ≡ false → is_blank b ≡ true
closed_by b h = grind (arith, nat_tests)

blank_either : (inside blank : Bool) (k : Kind) → (inside ≡ false → blank ≡ true)
    → cond inside Blank (cond blank Blank k) ≡ Blank
blank_either true blank k h = refl
blank_either false true k h = refl
blank_either false false k h = absurd (let x : false ≡ true = h refl in cc)

-- where a comment is open each byte is blank
pub comment_byte : (text : List ℕ) (i : ℕ) → i < length text → in_comment text i ≡ true → kind_at text i ≡ Blank
comment_byte text i l q =
    let b = slice_index text i in
    kind_at-within text i l ∙ rw q (blank_either (comment_after true b) (is_blank b) _ (closed_by b))

-- behind a line feed no comment is open
pub quiet_behind_line : (text : List ℕ) (i : ℕ) → slice_index text i ≡ 10 → in_comment text (i + 1) ≡ false
quiet_behind_line text i e = in_comment-next text i ∙ rw e refl

-- a byte that is neither blank nor a semicolon begins no gap
no_gap_begins : (b : ℕ) → is_blank b ≡ false → (b ≡ 59 → ⊥) → (comment_after false b || is_blank b) ≡ false
no_gap_begins b h n = grind (arith, nat_tests)

-- outside comments no other byte is blank
pub no_blank_byte : (text : List ℕ) (i : ℕ) → i < length text → in_comment text i ≡ false
    → is_blank (slice_index text i) ≡ false → (slice_index text i ≡ 59 → ⊥) → kind_at text i ≡ Blank → ⊥
no_blank_byte text i l q f n e =
    let b = slice_index text i in
    let h : (comment_after (in_comment text i) b || is_blank b) ≡ false = rw q (no_gap_begins b f n) in
    false≢true (sym h ∙ kind_shows text i Blank l e)

-- a name byte begins no comment
name_no_comment : (b : ℕ) → is_name_byte b ≡ true → comment_after false b ≡ false
name_no_comment b h = grind (arith, nat_tests)

-- outside comments a name byte is one of a token
pub name_byte : (text : List ℕ) (i : ℕ) → i < length text → in_comment text i ≡ false
    → is_name_byte (slice_index text i) ≡ true → kind_at text i ≡ NameByte
name_byte text i l q h =
    let e : comment_after (in_comment text i) (slice_index text i) ≡ false =
    rw q (name_no_comment (slice_index text i) h) in
    kind_at-byte text i l e ∙ name_kind (slice_index text i) h

-- outside blanks the kind of an offset is that of its byte
pub unblank_byte : (text : List ℕ) (i : ℕ) → i < length text → (kind_at text i ≡ Blank → ⊥)
    → kind_at text i ≡ byte_kind (slice_index text i)
unblank_byte text i l h = kind_at-byte text i l (false_from_ne_true _ (λ e. h (kind_at-comment text i l e)))

-- an opening bracket stands within the text
pub opening_within : (text : List ℕ) (i : ℕ) → kind_at text i ≡ Opening → i < length text
opening_within text i e = kind_within text i (λ h. let k : Opening ≡ End = sym e ∙ h in cc)

-- the start of a list is the byte of an opening bracket
pub opening_byte : (text : List ℕ) (i : ℕ) → kind_at text i ≡ Opening → slice_index text i ≡ 40
opening_byte text i e = eqb-true (slice_index text i) 40 (kind_shows text i Opening (opening_within text i e) e)

-- the end of a list is the byte of a closing bracket
pub closing_byte : (text : List ℕ) (i : ℕ) → kind_at text i ≡ Closing → slice_index text i ≡ 41
closing_byte text i e =
    let l : i < length text = kind_within text i (λ h. let k : Closing ≡ End = sym e ∙ h in cc) in
    eqb-true (slice_index text i) 41 (kind_shows text i Closing l e)

-- a byte of no other kind is a name byte
pub name_left : (k : Kind) → (k ≡ Blank → ⊥) → (k ≡ Opening → ⊥) → (k ≡ Closing → ⊥) → (k ≡ Bad → ⊥) → (k ≡ End → ⊥)
    → k ≡ NameByte
name_left Blank a b c d e = absurd (a refl)
name_left Opening a b c d e = absurd (b refl)
name_left Closing a b c d e = absurd (c refl)
name_left Bad a b c d e = absurd (d refl)
name_left End a b c d e = absurd (e refl)
name_left NameByte a b c d e = refl

-- within the text it doesn't end
pub within_no_end : (text : List ℕ) (i : ℕ) → i < length text → kind_at text i ≡ End → ⊥
within_no_end text i l h = kind_shows text i End l h

-- a byte of no other kind is bad
bad_left : (k : Kind) → (k ≡ Blank → ⊥) → (k ≡ Opening → ⊥) → (k ≡ Closing → ⊥) → (k ≡ NameByte → ⊥) → (k ≡ End → ⊥)
    → k ≡ Bad
bad_left Blank a b c d e = absurd (a refl)
bad_left Opening a b c d e = absurd (b refl)
bad_left Closing a b c d e = absurd (c refl)
bad_left NameByte a b c d e = absurd (d refl)
bad_left End a b c d e = absurd (e refl)
bad_left Bad a b c d e = refl

-- a byte that is no bracket and no name byte is bad where it isn't blank
pub bad_byte : (text : List ℕ) (i : ℕ) → i < length text → (kind_at text i ≡ Blank → ⊥)
    → (slice_index text i ≡ 40 → ⊥) → (slice_index text i ≡ 41 → ⊥) → is_name_byte (slice_index text i) ≡ false
    → kind_at text i ≡ Bad
bad_byte text i l blank opens closes names =
    bad_left (kind_at text i) blank (λ e. opens (opening_byte text i e)) (λ e. closes (closing_byte text i e))
    (λ e. let x : true ≡ false = sym (name_byte_only text i e) ∙ names in cc) (within_no_end text i l)
