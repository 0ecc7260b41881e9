-- How the brackets of a text are put in pairs, by those that its reader has open.
use Rattle.std.proofs.Common.{◌≡◌, ℕ, zero, suc, ◌+◌, ◌-◌, ◌<◌, ◌≤◌, Bool, true, false, cond, not, ◌&&◌, ◌==◌, List, [], ◌∷◌, length, drop, Some, None, slice_index, refl, sym, ap, subst, ◌∙◌, ⊎_elim, arith, add-one, length-drop, drop-cons}
use Rattle.std.specs.Prelude.{◌||◌, nat_lt, slice_range}
use Rattle.std.proofs.lemmas.Bool.{and_from, and_parts, cases_cond, eq-eqb, eqb-true, false_from_ne_true, le-leb, le-ltb, ne_eqb, not-true, not_from_false, or_from}
use Rattle.std.proofs.lemmas.Bool.Decides.{nat_tests}
use Rattle.std.proofs.lemmas.List.{drop_all}
use Rattle.hp_syntax.specs.declared.limits.TheConstants.{LARGEST_TEXT, LONGEST_TOKEN, DEEPEST_NESTING}
use Rattle.hp_syntax.specs.declared.text.TextKind.{TextKind}
use Rattle.hp_syntax.specs.declared.text.TextKind.TheVariants.{BadByte, BadNumber, NumberRange, TokenLong, Unclosed, ExtraClose, TooNested, TooLarge}
use Rattle.hp_syntax.specs.Refusal.{Refusal, IsClear, IsRefused, is_name, kind_refusal, numeral_refusal, open_before, opened, refusal_at, refused, token_start}
use Rattle.hp_syntax.specs.Text.{Kind, Blank, Opening, Closing, NameByte, Bad, End, Spelling, AName, ANumber, NoNumber, OutOfRange, is_blank, is_name_byte, byte_kind, comment_after, in_comment, kind_at, spelling_of}
use Rattle.hp_syntax.proofs.TextLemmas.{end_of_text, kind_at-byte, kind_at-comment, kind_at-within, kind_shows, kind_within, nothing_refused}
use Rattle.hp_doctor.specs.declared.mending.Mend.TheVariants.{Close, Cut}
use Rattle.hp_doctor.specs.Mending.{closes_nothing, depth_behind, mend_from, mend_of}

-- ---- how many brackets are open

blank_no_opening : (b : ℕ) → is_blank b ≡ true → (b == 40) ≡ false
blank_no_opening b h = grind (arith, nat_tests)

blank_no_closing : (b : ℕ) → is_blank b ≡ true → (b == 41) ≡ false
blank_no_closing b h = grind (arith, nat_tests)

-- by the tests that choose the kind of a byte, of which no two that matter here are passed
depth_chosen : (blank opens closes names : Bool) (i : ℕ) (os : List ℕ) → (blank ≡ true → opens ≡ false)
    → (blank ≡ true → closes ≡ false)
    → cond opens (length os + 1) (cond closes (length os - 1) (length os))
    ≡ length (opened (cond blank Blank (cond opens Opening (cond closes Closing (cond names NameByte Bad)))) i os)
depth_chosen true true closes names i os f g = absurd (let x : true ≡ false = f refl in cc)
depth_chosen true false true names i os f g = absurd (let x : true ≡ false = g refl in cc)
depth_chosen true false false names i os f g = refl
depth_chosen false true closes names i os f g = add-one (length os)
depth_chosen false false true names i os f g = sym (length-drop 1 os)
depth_chosen false false false true i os f g = refl
depth_chosen false false false false i os f g = refl

-- as many are open behind a byte as the reader has open there
depth_read : (inside : Bool) (b i : ℕ) (os : List ℕ)
    → depth_behind (length os) inside b ≡ length (opened (cond inside Blank (byte_kind b)) i os)
depth_read true b i os = refl
depth_read false b i os =
    depth_chosen (is_blank b) (b == 40) (b == 41) (is_name_byte b) i os (blank_no_opening b) (blank_no_closing b)

-- before the offset no bracket closes nothing
abbrev NothingCloses : List ℕ → ℕ → Type 0
NothingCloses text i =
    (k : ℕ) → k < i
    → closes_nothing (length (open_before text k)) (comment_after (in_comment text k) (slice_index text k))
    (slice_index text k)
    ≡ false

-- a text in which none does up to an offset goes on there with the brackets that the reader has open
scanned : (text : List ℕ) (i : ℕ) → i ≤ length text → NothingCloses text i
    → mend_from 0 false 0 text ≡ mend_from (length (open_before text i)) (in_comment text i) i (drop i text)
unfolding open_before
scanned text zero l h = refl
scanned text (suc i) l h =
    let short : i < length text = omega arith in
    let b = slice_index text i in
    let os = open_before text i in
    let inside = comment_after (in_comment text i) b in
    let rest = drop (suc i) text in
    let first : drop i text ≡ b ∷ rest = drop-cons text i 0 short in
    let depth : depth_behind (length os) inside b ≡ length (open_before text (suc i)) =
    depth_read inside b i os ∙ ap (λ (k : Kind). length (opened k i os)) (sym (kind_at-within text i short)) in
    scanned text i (omega arith) (λ k m. h k (omega arith))
    ∙ ap (λ (xs : List ℕ). mend_from (length os) (in_comment text i) i xs) first
    ∙ ap (λ (t : Bool). cond t (Some (Cut i)) (mend_from (depth_behind (length os) inside b) inside (i + 1) rest))
    (h i (omega arith))
    ∙ ap (λ (n : ℕ). mend_from n inside (i + 1) rest) depth
    ∙ ap (λ (n : ℕ). mend_from (length (open_before text (suc i))) inside n rest) (add-one i)

-- ---- where nothing is refused

none_left : (os : List ℕ) → length os ≡ 0 → os ≡ []
none_left [] e = refl
none_left (o ∷ os) e = absurd (omega arith)

extra_refused : (text : List ℕ) (k : ℕ) → kind_at text k ≡ Closing → open_before text k ≡ []
    → refusal_at text k ≡ None → ⊥
extra_refused text k c o h = let e = rw (c, o) at (nothing_refused text k h) in cc

-- no bracket closes nothing
closes_some : (text : List ℕ) (k : ℕ) → k < length text → refusal_at text k ≡ None
    → closes_nothing (length (open_before text k)) (comment_after (in_comment text k) (slice_index text k))
    (slice_index text k)
    ≡ false
closes_some text k l h =
    let b = slice_index text k in
    let inside = comment_after (in_comment text k) b in
    let depth = length (open_before text k) in
    false_from_ne_true (closes_nothing depth inside b)
    (λ e.
    let p = and_parts (not inside) (b == 41 && depth == 0) e in
    let q = and_parts (b == 41) (depth == 0) p.1 in
    extra_refused text k (kind_at-byte text k l (not-true inside p.0) ∙ ap byte_kind (eqb-true b 41 q.0))
    (none_left (open_before text k) (eqb-true depth 0 q.1)) h)

nothing_closes : (text : List ℕ) (i : ℕ) → i ≤ length text → IsClear text i → NothingCloses text i
nothing_closes text i l c = λ k m. closes_some text k (omega arith) (c k m)

-- ---- the refusals of brackets

abbrev refusal : TextKind → ℕ → Refusal
refusal kind offset = record { kind = kind; offset = offset }

is_that : (kind : TextKind) (offset : ℕ) (r : Refusal) → refused kind offset ≡ Some r
    → (r.kind ≡ kind) × (r.offset ≡ offset)
is_that kind offset r e =
    let same : refusal kind offset ≡ r = cc in
    (ap (λ (q : Refusal). q.kind) (sym same), ap (λ (q : Refusal). q.offset) (sym same))

-- what stands where a bracket closes nothing, and where brackets are open at the end
abbrev Tells : Kind → List ℕ → ℕ → Refusal → Type 0
Tells k os i r =
    (r.kind ≡ ExtraClose → (k ≡ Closing) × (os ≡ []) × (r.offset ≡ i))
    × (r.kind ≡ Unclosed → (k ≡ End) × (0 < length os))

-- other refusals tell nothing
other_tells : (k : Kind) (os : List ℕ) (i : ℕ) (r : Refusal) (kind : TextKind) (offset : ℕ)
    → refused kind offset ≡ Some r → (kind ≡ ExtraClose → ⊥) → (kind ≡ Unclosed → ⊥) → Tells k os i r
other_tells k os i r kind offset e n m =
    let same : r.kind ≡ kind = (is_that kind offset r e).0 in
    (λ h. absurd (n (sym same ∙ h)), λ h. absurd (m (sym same ∙ h)))

opening_tells : (t : Bool) (os : List ℕ) (i : ℕ) (r : Refusal) → cond t None (refused TooNested i) ≡ Some r
    → Tells Opening os i r
opening_tells true os i r e = absurd cc
opening_tells false os i r e =
    other_tells Opening os i r TooNested i e (λ h. let x : TooNested ≡ ExtraClose = h in cc)
    (λ h. let x : TooNested ≡ Unclosed = h in cc)

token_tells : (x y z : Bool) (s : Spelling) (from i : ℕ) (os : List ℕ) (r : Refusal)
    → cond x (cond y None (numeral_refusal s from)) (cond z (refused TokenLong from) None) ≡ Some r
    → Tells NameByte os i r
token_tells true true z s from i os r e = absurd cc
token_tells true false z AName from i os r e = absurd cc
token_tells true false z (ANumber n) from i os r e = absurd cc
token_tells true false z NoNumber from i os r e =
    other_tells NameByte os i r BadNumber from e (λ h. let x : BadNumber ≡ ExtraClose = h in cc)
    (λ h. let x : BadNumber ≡ Unclosed = h in cc)
token_tells true false z OutOfRange from i os r e =
    other_tells NameByte os i r NumberRange from e (λ h. let x : NumberRange ≡ ExtraClose = h in cc)
    (λ h. let x : NumberRange ≡ Unclosed = h in cc)
token_tells false y true s from i os r e =
    other_tells NameByte os i r TokenLong from e (λ h. let x : TokenLong ≡ ExtraClose = h in cc)
    (λ h. let x : TokenLong ≡ Unclosed = h in cc)
token_tells false y false s from i os r e = absurd cc

kind_tells : (text : List ℕ) (i : ℕ) (k : Kind) (os : List ℕ) (r : Refusal) → kind_refusal text i k os ≡ Some r
    → Tells k os i r
kind_tells text i Blank os r e = absurd cc
kind_tells text i Opening os r e = opening_tells (nat_lt (length os) DEEPEST_NESTING) os i r e
kind_tells text i Closing [] r e =
    let same = is_that ExtraClose i r e in
    (λ h. (refl, refl, same.1), λ h. absurd (let x : ExtraClose ≡ Unclosed = sym same.0 ∙ h in cc))
kind_tells text i Closing (o ∷ os) r e = absurd cc
kind_tells text i NameByte os r e =
    let from = token_start text i in
    token_tells (nat_lt i (from + LONGEST_TOKEN)) (is_name (kind_at text (i + 1))) (i == from + LONGEST_TOKEN)
    (spelling_of (slice_range text from (i + 1))) from i os r e
kind_tells text i Bad os r e =
    other_tells Bad os i r BadByte i e (λ h. let x : BadByte ≡ ExtraClose = h in cc)
    (λ h. let x : BadByte ≡ Unclosed = h in cc)
kind_tells text i End [] r e = absurd cc
kind_tells text i End (o ∷ os) r e =
    let same = is_that Unclosed o r e in
    (λ h. absurd (let x : Unclosed ≡ ExtraClose = sym same.0 ∙ h in cc), λ h. (refl, omega arith))

-- what is refused at an offset, and isn't the size of the text, is what stands there
kind_refused : (text : List ℕ) (i : ℕ) (r : Refusal) → refusal_at text i ≡ Some r → (r.kind ≡ TooLarge → ⊥)
    → kind_refusal text i (kind_at text i) (open_before text i) ≡ Some r
unfolding refusal_at
kind_refused text i r e n =
    ⊎_elim (λ x. absurd (n (is_that TooLarge i r (sym x)).0)) (λ x. sym x)
    (cases_cond (i == LARGEST_TEXT && nat_lt i (length text)) (refused TooLarge i)
    (kind_refusal text i (kind_at text i) (open_before text i)) (Some r) (sym e))

refusal_tells : (text : List ℕ) (i : ℕ) (r : Refusal) → refusal_at text i ≡ Some r → (r.kind ≡ TooLarge → ⊥)
    → Tells (kind_at text i) (open_before text i) i r
refusal_tells text i r e n = kind_tells text i (kind_at text i) (open_before text i) r (kind_refused text i r e n)

-- ---- texts

of_whole : (text : List ℕ) → length text ≤ LARGEST_TEXT → mend_of text ≡ mend_from 0 false 0 text
of_whole text l = rw (le-leb (length text) LARGEST_TEXT l) refl

-- a bracket at an offset that closes nothing is where a text is cut that goes on there
cut_there : (text : List ℕ) (i : ℕ) → i < length text → kind_at text i ≡ Closing → open_before text i ≡ []
    → mend_from (length (open_before text i)) (in_comment text i) i (drop i text) ≡ Some (Cut i)
cut_there text i l k o =
    let b = slice_index text i in
    let os = open_before text i in
    let inside = comment_after (in_comment text i) b in
    let outside : inside ≡ false =
    false_from_ne_true inside (λ x. let y : Blank ≡ Closing = sym (kind_at-comment text i l x) ∙ k in cc) in
    let byte : (b == 41) ≡ true = kind_shows text i Closing l k in
    let none : (length os == 0) ≡ true = eq-eqb (length os) 0 (ap length o) in
    let closes : closes_nothing (length os) inside b ≡ true =
    and_from (not inside) (b == 41 && length os == 0) (not_from_false inside outside)
    (and_from (b == 41) (length os == 0) byte none) in
    ap (λ (xs : List ℕ). mend_from (length os) (in_comment text i) i xs) (drop-cons text i 0 l)
    ∙ ap
    (λ (t : Bool). cond t (Some (Cut i))
    (mend_from (depth_behind (length os) inside b) inside (i + 1) (drop (suc i) text)))
    closes

-- a text that is refused for a bracket that closes nothing is cut in front of it
pub extra_is_cut : (text : List ℕ) (r : Refusal) → IsRefused text r → r.kind ≡ ExtraClose → length text ≤ LARGEST_TEXT
    → mend_of text ≡ Some (Cut r.offset)
extra_is_cut text r f h l =
    let i = f.at in
    let tells = refusal_tells text i r f.arises (λ x. let y : TooLarge ≡ ExtraClose = sym x ∙ h in cc) in
    let t = tells.0 h in
    let short : i < length text = kind_within text i (λ x. let y : Closing ≡ End = sym t.0 ∙ x in cc) in
    of_whole text l ∙ scanned text i f.within (nothing_closes text i f.within f.first)
    ∙ cut_there text i short t.0 t.1
    ∙ ap (λ (n : ℕ). Some (Cut n)) (sym t.2)

-- one whose brackets are open at its end gets as many closing ones as the reader has open there
pub open_is_closed : (text : List ℕ) (r : Refusal) → IsRefused text r → r.kind ≡ Unclosed
    → length text + 1 + length (open_before text (length text)) ≤ LARGEST_TEXT
    → mend_of text ≡ Some (Close (length (open_before text (length text))))
open_is_closed text r f h l =
    let i = f.at in
    let size = length text in
    let depth = length (open_before text size) in
    let tells = refusal_tells text i r f.arises (λ x. let y : TooLarge ≡ Unclosed = sym x ∙ h in cc) in
    let t = tells.1 h in
    let ended : size ≤ i = end_of_text text i t.0 in
    let within : i ≤ size = f.within in
    let same : i ≡ size = omega arith in
    let some : 0 < depth = subst (λ (k : ℕ). 0 < length (open_before text k)) same t.1 in
    let fits : (depth == 0 || nat_lt LARGEST_TEXT (size + 1 + depth)) ≡ false =
    or_from (depth == 0) (nat_lt LARGEST_TEXT (size + 1 + depth)) (ne_eqb depth 0 (λ e. omega arith))
    (le-ltb LARGEST_TEXT (size + 1 + depth) l) in
    of_whole text (omega arith)
    ∙ scanned text size (omega arith) (nothing_closes text size (omega arith) (subst (IsClear text) same f.first))
    ∙ ap (λ (xs : List ℕ). mend_from depth (in_comment text size) size xs) (drop_all size text (omega arith))
    ∙ ap (λ (b : Bool). cond b None (Some (Close depth))) fits
