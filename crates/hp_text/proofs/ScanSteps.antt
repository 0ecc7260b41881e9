-- The refusal at an offset of a scan, and the state behind it.
use Rattle.std.proofs.Common.{◌≡◌, ℕ, ◌+◌, ◌-◌, ◌<◌, ◌≤◌, true, false, List, [], ◌∷◌, length, slice_range, reverse, refl, sym, ◌∙◌, ap, arith, ⊎_elim, Option, Some, None, IfNone, IfSome}
use Rattle.std.specs.Prelude.{◌==◌}
use Rattle.std.proofs.lemmas.Bool.{lt-ltb, le-ltb, cases_lt}
use Rattle.std.proofs.lemmas.Bool.Decides.{nat_tests}
use Rattle.hp_syntax.specs.declared.limits.TheConstants.{LARGEST_TEXT, LONGEST_TOKEN}
use Rattle.hp_syntax.specs.declared.text.TextKind.TheVariants.{BadByte, TokenLong}
use Rattle.hp_syntax.specs.Text.{Kind, Blank, Opening, Closing, NameByte, Bad, End, kind_at, spelling_of, IsToken, IsGap}
use Rattle.hp_syntax.specs.Refusal.{refused, opened, open_before, is_name, token_start, numeral_refusal, token_refusal, kind_refusal, refusal_at, IsClear}
use Rattle.hp_syntax.proofs.TextLemmas.{open_before-next, level_over, level_over_gap, is_name-NameByte, token_start-run, kind_at-end, refusal_at-within, refusal_at-end, clear_more}
use Rattle.hp_text.specs.declared.scan.State.{State}
use Rattle.hp_text.specs.declared.scan.FirstRefusal.{FirstRefusal}
use Rattle.hp_text.specs.Refusals.{plain_refusal, TellsFirst}
use Rattle.hp_text.specs.Scan.{IsScanned}
use Rattle.hp_text.specs.Places.{IsBetween}
use Rattle.hp_text.proofs.PlaceLemmas.{between_brackets, between_first}

-- a token that goes on is refused nothing
pub token_on : (text : List ℕ) (from i : ℕ) → i < from + LONGEST_TOKEN → is_name (kind_at text (i + 1)) ≡ true
    → token_refusal text from i ≡ None
token_on text from i l h = rw (lt-ltb i (from + LONGEST_TOKEN) l, h) refl

-- a token is looked at at its last byte
pub token_last : (text : List ℕ) (from i : ℕ) → i < from + LONGEST_TOKEN → is_name (kind_at text (i + 1)) ≡ false
    → token_refusal text from i ≡ numeral_refusal (spelling_of (slice_range text from (i + 1))) from
token_last text from i l h = rw (lt-ltb i (from + LONGEST_TOKEN) l, h) refl

-- a token is refused at its 257th byte
pub token_long : (text : List ℕ) (from i : ℕ) → i ≡ from + LONGEST_TOKEN
    → token_refusal text from i ≡ refused TokenLong from
token_long text from i e =
    let l : from + LONGEST_TOKEN ≤ i = omega arith in
    let same : i == from + LONGEST_TOKEN ≡ true = grind (arith, nat_tests) in
    rw (le-ltb i (from + LONGEST_TOKEN) l, same) refl

-- the refusal at a byte of some kind
refusal_of_kind : (text : List ℕ) (i : ℕ) (k : Kind) → i < LARGEST_TEXT → kind_at text i ≡ k
    → refusal_at text i ≡ kind_refusal text i k (open_before text i)
refusal_of_kind text i k l h = refusal_at-within text i l ∙ ap (λ x. kind_refusal text i x (open_before text i)) h

-- a blank is refused nothing
pub refusal_at-blank : (text : List ℕ) (i : ℕ) → i < LARGEST_TEXT → kind_at text i ≡ Blank → refusal_at text i ≡ None
refusal_at-blank text i l h = refusal_of_kind text i Blank l h

-- a bad byte is refused
pub refusal_at-bad : (text : List ℕ) (i : ℕ) → i < LARGEST_TEXT → kind_at text i ≡ Bad
    → refusal_at text i ≡ refused BadByte i
refusal_at-bad text i l h = refusal_of_kind text i Bad l h

-- an opening bracket is refused by the brackets that are open
pub refusal_at-opening : (text : List ℕ) (i : ℕ) (os : List ℕ) → i < LARGEST_TEXT → kind_at text i ≡ Opening
    → os ≡ open_before text i → refusal_at text i ≡ kind_refusal [] i Opening os
refusal_at-opening text i os l h e = refusal_of_kind text i Opening l h ∙ rw e refl

closing_alike : (text : List ℕ) (i : ℕ) (os : List ℕ) → kind_refusal text i Closing os ≡ kind_refusal [] i Closing os
closing_alike text i [] = refl
closing_alike text i (o ∷ os) = refl

-- a closing bracket is refused by the brackets that are open
pub refusal_at-closing : (text : List ℕ) (i : ℕ) (os : List ℕ) → i < LARGEST_TEXT → kind_at text i ≡ Closing
    → os ≡ open_before text i → refusal_at text i ≡ kind_refusal [] i Closing os
refusal_at-closing text i os l h e =
    refusal_of_kind text i Closing l h ∙ closing_alike text i (open_before text i)
    ∙ ap (kind_refusal [] i Closing) (sym e)

-- a name byte is refused as its token is
pub refusal_at-name : (text : List ℕ) (i from : ℕ) → i < LARGEST_TEXT → kind_at text i ≡ NameByte
    → from ≡ token_start text i → refusal_at text i ≡ token_refusal text from i
refusal_at-name text i from l h e = refusal_of_kind text i NameByte l h ∙ ap (λ x. token_refusal text x i) (sym e)

-- the refusal that is found at an offset before which nothing is refused is the text's
pub refused_first : (text : List ℕ) (i : ℕ) (r : Option FirstRefusal) → i ≤ length text → IsClear text i
    → plain_refusal r ≡ refusal_at text i → IfSome r (TellsFirst text)
refused_first text i None l clear same = tt
refused_first text i (Some x) l clear same = record { at = i; within = l; arises = sym same; first = clear }

-- where none is found there nothing is refused up to there
pub clear_behind : (text : List ℕ) (i : ℕ) (r : Option FirstRefusal) → IsClear text i
    → plain_refusal r ≡ refusal_at text i → IfNone r (IsClear text (i + 1))
clear_behind text i None clear same = clear_more text i clear (sym same)
clear_behind text i (Some x) clear same = tt

-- a clear text stays clear over a gap
pub clear_over_gap : (text : List ℕ) (a b : ℕ) → IsGap text a b → b ≤ LARGEST_TEXT → IsClear text a → IsClear text b
clear_over_gap text a b g l clear = λ i m.
    ⊎_elim (λ below. clear i below)
    (λ above. refusal_at-blank text i (omega arith) (g.blank i above m)) (cases_lt i a)

-- the state of the text behind a gap within the scan
pub scanned_over_gap : (text : List ℕ) (end to : ℕ) (s t : State) → IsScanned text end s → end ≤ LARGEST_TEXT
    → to ≤ end → t.at ≡ to → t.brackets ≡ s.brackets → IsGap text s.at to → (to < end → IsBetween text to)
    → IsScanned text end t
scanned_over_gap text end to s t known small l here same g place = record {
  clear = rw here (clear_over_gap text s.at to g (omega arith) known.clear);
  within = omega arith;
  place = rw here place;
  brackets = rw (same, here) (known.brackets ∙ sym (level_over_gap text s.at to g));
}

-- the state of the text behind a bracket
pub scanned_behind : (text : List ℕ) (end : ℕ) (s t : State) (r : Option FirstRefusal) (k : Kind)
    → IsScanned text end s → s.at < end → end ≤ length text → kind_at text s.at ≡ k → (k ≡ NameByte → ⊥)
    → (k ≡ Blank → ⊥) → plain_refusal r ≡ refusal_at text s.at
    → IfNone r (reverse t.brackets.items ≡ opened k s.at (reverse s.brackets.items)) → IfNone r (t.at ≡ s.at + 1)
    → IfNone r (IsScanned text end t)
scanned_behind text end s t (Some x) k known l m kind name blank same brackets here = tt
scanned_behind text end s t None k known l m kind name blank same brackets here =
    let within : s.at < length text = omega arith in
    record {
      clear = rw here (clear_more text s.at known.clear (sym same));
      within = omega arith;
      place =
          λ _. rw here
          (between_brackets text s.at within (λ e. name (sym kind ∙ e)) (λ e. blank (sym kind ∙ e)));
      brackets = rw here (brackets ∙ rw (known.brackets, open_before-next text s.at, kind) refl);
    }

-- a token before whose end nothing more is looked at is refused nothing within its first bytes
clear_in_token : (text : List ℕ) (from to n : ℕ) → IsToken text from to → n ≤ LARGEST_TEXT → n ≤ from + LONGEST_TOKEN
    → n < to → IsClear text from → IsClear text n
clear_in_token text from to n t small short l clear = λ i m.
    ⊎_elim (λ below. clear i below) (λ above. inner i m above) (cases_lt i from)
  where
    inner : (i : ℕ) → i < n → from ≤ i → refusal_at text i ≡ None
    inner i m o =
        refusal_at-name text i from (omega arith) (t.run i o (omega arith))
        (sym (token_start-run text from i o t.begins (λ j u v. t.run j u (omega arith))))
        ∙ token_on text from i (omega arith) (ap is_name (t.run (i + 1) (omega arith) (omega arith)))

-- the refusal at the last byte of a token
refusal_at-token : (text : List ℕ) (from to i : ℕ) → IsToken text from to → i + 1 ≡ to → i < LARGEST_TEXT
    → i < from + LONGEST_TOKEN
    → refusal_at text i ≡ numeral_refusal (spelling_of (slice_range text from to)) from
refusal_at-token text from to i t e small short =
    let some : from < to = t.some in
    let o : from ≤ i = omega arith in
    let behind : kind_at text (i + 1) ≡ NameByte → ⊥ = rw e t.ends in
    rw (← e)
    (refusal_at-name text i from small (t.run i o (omega arith))
    (sym (token_start-run text from i o t.begins (λ j u v. t.run j u (omega arith))))
    ∙ token_last text from i short (is_name-NameByte (kind_at text (i + 1)) behind))

-- a token that is too long is the first to be refused
pub long_token_told : (text : List ℕ) (from to : ℕ) (r : Option FirstRefusal) → IsToken text from to
    → to ≤ length text → from + LONGEST_TOKEN < to → from + LONGEST_TOKEN < LARGEST_TEXT → IsClear text from
    → plain_refusal r ≡ refused TokenLong from → IfSome r (TellsFirst text)
long_token_told text from to r t within l small clear same =
    let i = from + LONGEST_TOKEN in
    let o : from ≤ i = omega arith in
    refused_first text i r (omega arith) (clear_in_token text from to i t (omega arith) (omega arith) l clear)
    (same ∙ sym (refusal_at-name text i from small (t.run i o l)
    (sym (token_start-run text from i o t.begins (λ j u v. t.run j u (omega arith))))
    ∙ token_long text from i refl))

-- a token that goes on behind the scan's end is refused nothing before it
pub cut_token_clear : (text : List ℕ) (from to end : ℕ) → IsToken text from to → end < to → end ≤ LARGEST_TEXT
    → end ≤ from + LONGEST_TOKEN → IsClear text from → IsClear text end
cut_token_clear text from to end t l small short clear = clear_in_token text from to end t small short l clear

-- a text that is clear up to one of two ends is clear up to the first of them
clear_to_both : (text : List ℕ) (to end : ℕ) (r : Option FirstRefusal) → IfNone r (IsClear text to)
    → IfNone r ((i : ℕ) → i < to → i < end → refusal_at text i ≡ None)
clear_to_both text to end None clear = λ i l m. clear i l
clear_to_both text to end (Some x) clear = tt

-- the refusal of a token's spelling is the first where there is one
pub token_told : (text : List ℕ) (from to end : ℕ) (r : Option FirstRefusal) → IsToken text from to → to ≤ length text
    → to ≤ LARGEST_TEXT → to ≤ from + LONGEST_TOKEN → IsClear text from
    → plain_refusal r ≡ numeral_refusal (spelling_of (slice_range text from to)) from
    → IfSome r (TellsFirst text) × IfNone r ((i : ℕ) → i < to → i < end → refusal_at text i ≡ None)
token_told text from to end r t within small short clear same =
    let some : from < to = t.some in
    let i = to - 1 in
    let e : i + 1 ≡ to = omega arith in
    let before = clear_in_token text from to i t (omega arith) (omega arith) (omega arith) clear in
    let alike : plain_refusal r ≡ refusal_at text i =
    same ∙ sym (refusal_at-token text from to i t e (omega arith) (omega arith)) in
    let behind = rw e at (clear_behind text i r before alike) in
    (refused_first text i r (omega arith) before alike, clear_to_both text to end r behind)

-- the brackets that are open stay over the first part of a token
level_in_token : (text : List ℕ) (from to n : ℕ) → IsToken text from to → from ≤ n → n ≤ to
    → open_before text n ≡ open_before text from
level_in_token text from to n t o l =
    level_over text from n o (λ i u v. ap (λ k. opened k i (open_before text i)) (t.run i u (omega arith)))

-- the state of the text behind a token that is refused nothing
pub scanned_behind_token : (text : List ℕ) (end to : ℕ) (s t : State) (r : Option FirstRefusal)
    → IsScanned text end s → s.at < end → IsToken text s.at to → IsBetween text to → t.at ≤ to → t.at ≤ end
    → (t.at < end → t.at ≡ to) → s.at < t.at → t.brackets ≡ s.brackets
    → IfNone r ((i : ℕ) → i < to → i < end → refusal_at text i ≡ None) → IfNone r (IsScanned text end t)
scanned_behind_token text end to s t (Some x) known l token place o within whole grows same clear = tt
scanned_behind_token text end to s t None known l token place o within whole grows same clear = record {
  clear = λ i m. clear i (omega arith) (omega arith);
  within = within;
  place = λ m. rw (whole m) place;
  brackets = rw same (known.brackets ∙ sym (level_in_token text s.at to t.at token (omega arith) o));
}

-- before the first byte nothing is known to be open
pub scan_begins : (text : List ℕ) (end : ℕ) (s : State) → s.at ≡ 0 → s.brackets.items ≡ [] → IsScanned text end s
unfolding open_before
scan_begins text end s here brackets = record {
  clear = λ i l. absurd (omega arith);
  within = omega arith;
  place = λ _. rw here (between_first text);
  brackets = rw (brackets, here) refl;
}

end_alike : (text : List ℕ) (i : ℕ) (os : List ℕ) → kind_refusal text i End os ≡ kind_refusal [] 0 End os
end_alike text i [] = refl
end_alike text i (o ∷ os) = refl

-- the end of a text is refused by the brackets that are open
pub refusal_at-last : (text : List ℕ) (i : ℕ) (os : List ℕ) → length text ≤ i → os ≡ open_before text i
    → refusal_at text i ≡ kind_refusal [] 0 End os
refusal_at-last text i os l e =
    refusal_at-end text i l ∙ ap (λ k. kind_refusal text i k (open_before text i)) (kind_at-end text i l)
    ∙ end_alike text i (open_before text i) ∙ ap (kind_refusal [] 0 End) (sym e)
