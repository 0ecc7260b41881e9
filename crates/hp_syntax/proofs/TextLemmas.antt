-- The kinds at the offsets of a text, and the refusals there.
use Rattle.std.proofs.Common.{◌≡◌, ℕ, zero, suc, ◌+◌, ◌<◌, ◌≤◌, Bool, true, false, cond, List, ◌∷◌, length, None, refl, sym, ◌∙◌, ap, subst, arith, add-one, ⊎_elim}
use Rattle.std.specs.Prelude.{slice_index, drop, nat_lt, ◌==◌, ◌&&◌, ◌||◌}
use Rattle.std.proofs.lemmas.Bool.{lt-ltb, le-ltb, eq-eqb, cases_lt, cases_eq, false_from_ne_true, ne_eqb, and_right, cases_cond}
use Rattle.std.proofs.lemmas.Bool.Decides.{nat_tests}
use Rattle.hp_syntax.specs.declared.limits.TheConstants.{LARGEST_TEXT}
use Rattle.hp_syntax.specs.Text as texts
use Rattle.hp_syntax.specs.Refusal.{opened, open_before, token_start, kind_refusal, refused, refusal_at, is_name, IsClear}
use Rattle.hp_syntax.specs.declared.text.TextKind.TheVariants.{TooLarge}

-- whether a comment is open behind a byte follows from whether one is open before it
pub in_comment-next : (text : List ℕ) (i : ℕ)
    → texts.in_comment text (i + 1) ≡ texts.comment_after (texts.in_comment text i) (slice_index text i)
in_comment-next text i = ap (texts.in_comment text) (add-one i)

-- a byte of a comment is blank
pub kind_at-comment : (text : List ℕ) (i : ℕ) → i < length text
    → texts.comment_after (texts.in_comment text i) (slice_index text i) ≡ true → texts.kind_at text i ≡ texts.Blank
unfolding texts.kind_at
kind_at-comment text i l h = rw (lt-ltb i (length text) l, h)

-- outside comments a byte is what it is alone
pub kind_at-byte : (text : List ℕ) (i : ℕ) → i < length text
    → texts.comment_after (texts.in_comment text i) (slice_index text i) ≡ false → texts.kind_at text i
    ≡ texts.byte_kind (slice_index text i)
unfolding texts.kind_at
kind_at-byte text i l h = rw (lt-ltb i (length text) l, h)

-- past its bytes a text ends
pub kind_at-end : (text : List ℕ) (i : ℕ) → length text ≤ i → texts.kind_at text i ≡ texts.End
unfolding texts.kind_at
kind_at-end text i l = rw (le-ltb i (length text) l)

-- an offset that isn't the end has a byte of the text
pub kind_within : (text : List ℕ) (i : ℕ) → (texts.kind_at text i ≡ texts.End → ⊥) → i < length text
kind_within text i h = ⊎_elim (λ l. l) (λ l. absurd (h (kind_at-end text i l))) (cases_lt i (length text))

-- within the text a byte of a comment is blank, and another one is what it is alone
pub kind_at-within : (text : List ℕ) (i : ℕ) → i < length text
    → texts.kind_at text i ≡ cond (texts.comment_after (texts.in_comment text i) (slice_index text i)) texts.Blank
    (texts.byte_kind (slice_index text i))
unfolding texts.kind_at
kind_at-within text i l = rw (lt-ltb i (length text) l) refl

-- the test that was passed where a kind was chosen
abbrev pub Shown : texts.Kind → Bool → Bool → Bool → Bool → Bool → Type 0
Shown texts.Blank inside blank opens closes names = (inside || blank) ≡ true
Shown texts.Opening inside blank opens closes names = opens ≡ true
Shown texts.Closing inside blank opens closes names = closes ≡ true
Shown texts.NameByte inside blank opens closes names = names ≡ true
Shown texts.Bad inside blank opens closes names = Unit {0}
Shown texts.End inside blank opens closes names = ⊥

-- the kind that tests choose shows which of them was passed
chosen_shows : (inside blank opens closes names : Bool)
    → Shown (cond inside texts.Blank
    (cond blank texts.Blank (cond opens texts.Opening (cond closes texts.Closing
    (cond names texts.NameByte texts.Bad)))))
    inside blank opens closes names
chosen_shows true blank opens closes names = refl
chosen_shows false true opens closes names = refl
chosen_shows false false true closes names = refl
chosen_shows false false false true names = refl
chosen_shows false false false false true = refl
chosen_shows false false false false false = tt

-- within the text the kind of a byte shows which test it passes
pub kind_shows : (text : List ℕ) (i : ℕ) (k : texts.Kind) → i < length text → texts.kind_at text i ≡ k
    → Shown k (texts.comment_after (texts.in_comment text i) (slice_index text i)) (texts.is_blank (slice_index text i))
    (slice_index text i == 40) (slice_index text i == 41) (texts.is_name_byte (slice_index text i))
kind_shows text i k l e =
    let b = slice_index text i in
    subst (λ q. Shown q (texts.comment_after (texts.in_comment text i) b) (texts.is_blank b) (b == 40) (b == 41)
    (texts.is_name_byte b))
    (sym (kind_at-within text i l) ∙ e)
    (chosen_shows (texts.comment_after (texts.in_comment text i) b) (texts.is_blank b) (b == 40) (b == 41)
    (texts.is_name_byte b))

-- a name byte is of no other kind
pub name_kind : (b : ℕ) → texts.is_name_byte b ≡ true → texts.byte_kind b ≡ texts.NameByte
name_kind b h = grind (arith, nat_tests)

-- a byte of a token is a name byte
pub name_byte_only : (text : List ℕ) (i : ℕ) → texts.kind_at text i ≡ texts.NameByte
    → texts.is_name_byte (slice_index text i) ≡ true
name_byte_only text i e =
    kind_shows text i texts.NameByte (kind_within text i (λ h. let k : texts.NameByte ≡ texts.End = sym e ∙ h in cc)) e

-- where a text ends no byte of it follows
pub end_of_text : (text : List ℕ) (i : ℕ) → texts.kind_at text i ≡ texts.End → length text ≤ i
end_of_text text i h = ⊎_elim (λ l. absurd (kind_shows text i texts.End l h)) (λ l. l) (cases_lt i (length text))

-- behind what isn't blank no comment is open
pub quiet_behind : (text : List ℕ) (i : ℕ) → (texts.kind_at text i ≡ texts.Blank → ⊥) → i < length text
    → texts.in_comment text (i + 1) ≡ false
quiet_behind text i h l =
    in_comment-next text i ∙ false_from_ne_true (texts.comment_after (texts.in_comment text i) (slice_index text i))
    (λ e. h (kind_at-comment text i l e))

-- the brackets that are open behind an offset are those before it, with what stands there
pub open_before-next : (text : List ℕ) (i : ℕ)
    → open_before text (i + 1) ≡ opened (texts.kind_at text i) i (open_before text i)
unfolding open_before
open_before-next text i = ap (open_before text) (add-one i)

-- over what opens and closes nothing the brackets that are open stay
pub level_over : (text : List ℕ) (a b : ℕ) → a ≤ b
    → ((i : ℕ) → a ≤ i → i < b → opened (texts.kind_at text i) i (open_before text i) ≡ open_before text i)
    → open_before text b ≡ open_before text a
unfolding open_before
level_over text a zero l h = ap (open_before text) (let e : zero ≡ a = omega arith in e)
level_over text a (suc b) l h =
    ⊎_elim (λ e. ap (open_before text) (sym e))
    (λ n. h b (omega arith) (omega arith) ∙ level_over text a b (omega arith) (λ i x y. h i x (omega arith)))
    (cases_eq a (suc b))

-- over a gap the brackets that are open stay
pub level_over_gap : (text : List ℕ) (a b : ℕ) → texts.IsGap text a b → open_before text b ≡ open_before text a
level_over_gap text a b g =
    level_over text a b g.order (λ i l m. ap (λ k. opened k i (open_before text i)) (g.blank i l m))

-- over a token the brackets that are open stay
pub level_over_token : (text : List ℕ) (a b : ℕ) → texts.IsToken text a b → open_before text b ≡ open_before text a
level_over_token text a b t =
    let s : a < b = t.some in
    level_over text a b (omega arith) (λ i l m. ap (λ k. opened k i (open_before text i)) (t.run i l m))

-- behind an opening bracket it is open
pub open_in_list : (text : List ℕ) (a : ℕ) → texts.kind_at text a ≡ texts.Opening
    → open_before text (a + 1) ≡ a ∷ open_before text a
open_in_list text a k = open_before-next text a ∙ ap (λ x. opened x a (open_before text a)) k

-- over a list the brackets that are open stay
pub level_over_list : (text : List ℕ) (a c : ℕ) → texts.kind_at text a ≡ texts.Opening → texts.kind_at text c
    ≡ texts.Closing
    → open_before text c ≡ open_before text (a + 1) → open_before text (c + 1) ≡ open_before text a
level_over_list text a c k l h =
    open_before-next text c ∙ (ap (λ x. opened x c (open_before text c)) l ∙ ap (drop 1) (h ∙ open_in_list text a k))

-- behind what is no name byte a token may begin
pub outside_behind : (text : List ℕ) (a : ℕ) → (texts.kind_at text a ≡ texts.NameByte → ⊥)
    → texts.IsOutside text (a + 1)
outside_behind text a h = λ i e n. h (ap (texts.kind_at text) (let q : a ≡ i = omega arith in q) ∙ n)

-- no other kind is that of a name byte
pub is_name-NameByte : (k : texts.Kind) → (k ≡ texts.NameByte → ⊥) → is_name k ≡ false
is_name-NameByte texts.NameByte h = absurd (h refl)
is_name-NameByte texts.Blank h = refl
is_name-NameByte texts.Opening h = refl
is_name-NameByte texts.Closing h = refl
is_name-NameByte texts.Bad h = refl
is_name-NameByte texts.End h = refl

-- a run of name bytes that begins outside a token is where its token starts
pub token_start-run : (text : List ℕ) (from i : ℕ) → from ≤ i → texts.IsOutside text from
    → ((j : ℕ) → from ≤ j → j < i → texts.kind_at text j ≡ texts.NameByte) → token_start text i ≡ from
unfolding token_start
token_start-run text from zero l o r = omega arith
token_start-run text from (suc i) l o r =
    ⊎_elim (λ e. rw (is_name-NameByte (texts.kind_at text i) (o i (omega arith))) (sym e))
    (λ n. rw (r i (omega arith) (omega arith))
    (token_start-run text from i (omega arith) o (λ j x y. r j x (omega arith))))
    (cases_eq from (suc i))

-- a text that is clear up to an offset at which nothing is refused is clear beyond it
pub clear_more : (text : List ℕ) (i : ℕ) → IsClear text i → refusal_at text i ≡ None → IsClear text (i + 1)
clear_more text i c h = λ j l. ⊎_elim (λ e. ap (refusal_at text) e ∙ h) (λ n. c j (omega arith)) (cases_eq j i)

-- within the limit the refusal at an offset is that of its kind
pub refusal_at-within : (text : List ℕ) (i : ℕ) → i < LARGEST_TEXT
    → refusal_at text i ≡ kind_refusal text i (texts.kind_at text i) (open_before text i)
unfolding refusal_at
refusal_at-within text i l = rw (ne_eqb i LARGEST_TEXT (λ e. omega arith))

-- where nothing is refused what stands there is no reason for a refusal
pub nothing_refused : (text : List ℕ) (i : ℕ) → refusal_at text i ≡ None
    → kind_refusal text i (texts.kind_at text i) (open_before text i) ≡ None
unfolding refusal_at
nothing_refused text i h =
    ⊎_elim (λ e. absurd cc) (λ e. sym e)
    (cases_cond (i == LARGEST_TEXT && nat_lt i (length text)) (refused TooLarge i)
    (kind_refusal text i (texts.kind_at text i) (open_before text i)) None (sym h))

-- at the end of a text what is refused follows from the brackets that are open
pub refusal_at-end : (text : List ℕ) (i : ℕ) → length text ≤ i
    → refusal_at text i ≡ kind_refusal text i (texts.kind_at text i) (open_before text i)
unfolding refusal_at
refusal_at-end text i l = rw (and_right (i == LARGEST_TEXT) (nat_lt i (length text)) (le-ltb i (length text) l))

-- the byte behind the largest text is refused
pub refusal_at-limit : (text : List ℕ) (i : ℕ) → i ≡ LARGEST_TEXT → i < length text
    → refusal_at text i ≡ refused TooLarge i
unfolding refusal_at
refusal_at-limit text i e l = rw (eq-eqb i LARGEST_TEXT e, lt-ltb i (length text) l) refl

-- a text is clear no further than the limit
pub clear_within : (text : List ℕ) (i : ℕ) → IsClear text i → i ≤ length text → i ≤ LARGEST_TEXT
unfolding refusal_at
clear_within text i c l =
    ⊎_elim (λ m. absurd (large (omega arith) (c LARGEST_TEXT m))) (λ m. m) (cases_lt LARGEST_TEXT i)
  where
    large : LARGEST_TEXT < length text → refusal_at text LARGEST_TEXT ≡ None → ⊥
    large m e = let f = rw (lt-ltb LARGEST_TEXT (length text) (omega arith)) at e in cc
