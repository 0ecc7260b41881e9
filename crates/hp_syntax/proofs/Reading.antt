-- A text in which nothing is refused spells a forest: it is read here.
use Rattle.std.proofs.Common.{◌≡◌, ℕ, zero, suc, ◌+◌, ◌-◌, ◌<◌, ◌≤◌, false, List, [], ◌∷◌, length, Some, None, refl, sym, ◌∙◌, ap, arith, subst, ◌⊎◌, inl, inr, ⊎_elim}
use Rattle.std.specs.Prelude.{slice_range}
use Rattle.std.proofs.lemmas.Bool.{cases_eq}
use Rattle.hp_syntax.specs.Text as texts
use Rattle.hp_syntax.specs.Refusal.{Refusal, IsRefused, opened, open_before, numeral_refusal, IsClear}
use Rattle.hp_syntax.specs.Forest.{Node, Word, Numeral, Group, Forest, Bare, Grow, span_of, Spells, SpellsNode, IsForest}
use Rattle.hp_syntax.specs.Places.{Way, GoesOn, OverABlank, OverAToken, IntoAList, OutOfAList, ToTheEnd, ToARefusal, InAToken}
use Rattle.hp_syntax.proofs.TextLemmas.{kind_within, end_of_text, open_before-next, level_over_token, open_in_list, level_over_list, outside_behind, nothing_refused}
use Rattle.hp_syntax.proofs.PlaceLemmas.{goes_on}
use Rattle.hp_syntax.proofs.ForestLemmas.{begins_node}
use Rattle.hp_syntax.proofs.RefusalLemmas.{first_refusal, clear_token_spelling}

-- from an offset the text spells a forest up to an end, before which it closes what it opens
record SpelledFrom (text : List ℕ) (a : ℕ) : Type 0 where
  end : ℕ
  forest : Forest
  order : a ≤ end
  within : end ≤ length text
  spelled : Spells text a end forest
  ends : begins_node (texts.kind_at text end) ≡ Some false
  level : open_before text end ≡ open_before text a

-- no bytes are a gap
no_gap : (text : List ℕ) (a : ℕ) → texts.IsGap text a a
no_gap text a = record { order = omega arith; blank = λ i l m. absurd (omega arith) }

-- where a forest may end the text spells one without nodes
spelled_bare : (text : List ℕ) (a : ℕ) → a ≤ length text → begins_node (texts.kind_at text a) ≡ Some false
    → SpelledFrom text a
spelled_bare text a w e = record {
  end = a;
  forest = Bare;
  order = omega arith;
  within = w;
  spelled = no_gap text a;
  ends = e;
  level = refl;
}

-- a blank before a gap makes it longer
longer_gap : (text : List ℕ) (a b : ℕ) → texts.kind_at text a ≡ texts.Blank → texts.IsGap text (a + 1) b
    → texts.IsGap text a b
longer_gap text a b k g =
    let o = g.order in
    record {
      order = omega arith;
      blank = λ i l m. ⊎_elim (λ e. ap (texts.kind_at text) (sym e) ∙ k) (λ n. g.blank i (omega arith) m)
          (cases_eq a i);
    }

-- a forest that is spelled behind a blank is spelled before it
longer_spelled : (text : List ℕ) (a e : ℕ) (f : Forest) → texts.kind_at text a ≡ texts.Blank → Spells text (a + 1) e f
    → Spells text a e f
longer_spelled text a e Bare k h = longer_gap text a e k h
longer_spelled text a e (Grow n f) k h = (longer_gap text a (span_of n).from k h.0, h.1, h.2)

-- a forest is spelled from a blank if one is behind it
spelled_blank : (text : List ℕ) (a : ℕ) → texts.kind_at text a ≡ texts.Blank → SpelledFrom text (a + 1)
    → SpelledFrom text a
spelled_blank text a k r = record {
  end = r.end;
  forest = r.forest;
  order = (let l = r.order in omega arith);
  within = r.within;
  spelled = longer_spelled text a r.end r.forest k r.spelled;
  ends = r.ends;
  level = r.level ∙ (open_before-next text a ∙ ap (λ x. opened x a (open_before text a)) k);
}

-- a forest is spelled from a node if one is behind it
spelled_node : (text : List ℕ) (n : Node) → SpellsNode text n → (span_of n).from < (span_of n).to
    → open_before text (span_of n).to ≡ open_before text (span_of n).from → SpelledFrom text (span_of n).to
    → SpelledFrom text (span_of n).from
spelled_node text n h l o r = record {
  end = r.end;
  forest = Grow n r.forest;
  order = (let m = r.order in omega arith);
  within = r.within;
  spelled = (no_gap text (span_of n).from, h, r.spelled);
  ends = r.ends;
  level = r.level ∙ o;
}

-- a forest is spelled from a token that isn't refused if one is behind it
spelled_token : (text : List ℕ) (a b : ℕ) → texts.IsToken text a b → (x : texts.Spelling)
    → texts.spelling_of (slice_range text a b) ≡ x
    → numeral_refusal x a ≡ None → SpelledFrom text b → SpelledFrom text a
spelled_token text a b t texts.AName e h r =
    spelled_node text (Word (record { from = a; to = b }) (slice_range text a b))
    (record { token = t; spells = e }, refl) t.some (level_over_token text a b t) r
spelled_token text a b t (texts.ANumber n) e h r =
    spelled_node text (Numeral (record { from = a; to = b }) n)
    (record { token = t; spells = e }) t.some (level_over_token text a b t) r
spelled_token text a b t texts.NoNumber e h r = absurd cc
spelled_token text a b t texts.OutOfRange e h r = absurd cc

-- a forest is spelled from an opening bracket if one is in the list and one behind it
spelled_list : (text : List ℕ) (a : ℕ) → texts.kind_at text a ≡ texts.Opening → (r : SpelledFrom text (a + 1))
    → texts.kind_at text r.end ≡ texts.Closing → SpelledFrom text (r.end + 1) → SpelledFrom text a
spelled_list text a k r c s =
    let o = r.order in
    let e : r.end ≡ r.end + 1 - 1 = omega arith in
    let z : texts.kind_at text (r.end + 1 - 1) ≡ texts.Closing = ap (texts.kind_at text) (sym e) ∙ c in
    spelled_node text (Group (record { from = a; to = r.end + 1 }) r.forest)
    (k, omega arith, z, subst (λ i. Spells text (a + 1) i r.forest) e r.spelled)
    (omega arith) (level_over_list text a r.end k c r.level) s

-- a forest ends before a closing bracket or with the text
ends_before : (k : texts.Kind) → begins_node k ≡ Some false → (k ≡ texts.Closing) ⊎ (k ≡ texts.End)
ends_before texts.Closing h = inl refl
ends_before texts.End h = inr refl
ends_before texts.NameByte h = absurd cc
ends_before texts.Opening h = absurd cc
ends_before texts.Blank h = absurd cc
ends_before texts.Bad h = absurd cc

module _ (text : List ℕ) (clear : IsClear text (length text + 1)) where
  -- a clear text does not end in a list
  closes : (a : ℕ) → texts.kind_at text a ≡ texts.Opening → (r : SpelledFrom text (a + 1)) → texts.kind_at text r.end
      ≡ texts.Closing
  closes a k r = ⊎_elim (λ c. c) (λ e. absurd (unclosed e)) (ends_before (texts.kind_at text r.end) r.ends)
    where
      unclosed : texts.kind_at text r.end ≡ texts.End → ⊥
      unclosed e =
          let l = r.within in
          let o : open_before text r.end ≡ a ∷ open_before text a = r.level ∙ open_in_list text a k in
          let q = rw (e, o) at (nothing_refused text r.end (clear r.end (omega arith))) in
          cc

  -- a forest is spelled from an opening bracket if one is in the list and from each place behind it
  read_list : (a : ℕ) → texts.kind_at text a ≡ texts.Opening → SpelledFrom text (a + 1)
      → ((b : ℕ) → a < b → b ≤ length text → (texts.kind_at text b ≡ texts.NameByte → texts.IsOutside text b)
      → SpelledFrom text b)
      → SpelledFrom text a
  read_list a k r again =
      let c = closes a k r in
      let l = r.order in
      let w = kind_within text r.end (λ e. absurd cc) in
      spelled_list text a k r c
      (again (r.end + 1) (omega arith) (omega arith) (λ n. outside_behind text r.end (λ e. absurd cc)))

  -- a forest is spelled from a place if one is from each place behind it
  read_on : (a : ℕ) (way : Way) → a ≤ length text → GoesOn text a way
      → ((b : ℕ) → a < b → b ≤ length text → (texts.kind_at text b ≡ texts.NameByte → texts.IsOutside text b)
      → SpelledFrom text b)
      → SpelledFrom text a
  read_on a way w (OverABlank q k h) again =
      let l = kind_within text a (λ e. absurd cc) in
      spelled_blank text a k (again (a + 1) (omega arith) (omega arith) (λ n. outside_behind text a (λ e. absurd cc)))
  read_on a way w (OverAToken to q t c) again =
      let s : a < to = t.some in
      let l = kind_within text (to - 1) (λ e. let k = t.run (to - 1) (omega arith) (omega arith) in absurd cc) in
      spelled_token text a to t (texts.spelling_of (slice_range text a to)) refl (clear_token_spelling text a to t c)
      (again to s (omega arith) (λ n. absurd (t.ends n)))
  read_on a way w (IntoAList q k h) again =
      let l = kind_within text a (λ e. absurd cc) in
      read_list a k (again (a + 1) (omega arith) (omega arith) (λ n. outside_behind text a (λ e. absurd cc))) again
  read_on a way w (OutOfAList o os q k p h) again = spelled_bare text a w (ap begins_node k)
  read_on a way w (ToTheEnd q k o h) again = spelled_bare text a w (ap begins_node k)
  read_on a way w (ToARefusal r q h) again = let n = clear a (omega arith) in absurd cc
  read_on a way w (InAToken r i q l run h c) again =
      let k = run i (omega arith) (omega arith) in
      let m = kind_within text i (λ e. absurd cc) in
      let n = clear i (omega arith) in
      absurd cc

  -- from each place of a clear text a forest is spelled
  read : (fuel a : ℕ) → length text < a + fuel → a ≤ length text
      → (texts.kind_at text a ≡ texts.NameByte → texts.IsOutside text a)
      → SpelledFrom text a
  read zero a l w o = absurd (omega arith)
  read (suc d) a l w o =
      let g = goes_on text a (record { within = w; between = o; clear = λ i m. clear i (omega arith) }) in
      read_on a g.0 w g.1 (λ b m x y. read d b (omega arith) x y)

  -- a forest that is spelled from the start ends with the text, since no bracket is open there
  ends_with_text : (r : SpelledFrom text 0) → texts.kind_at text r.end ≡ texts.End
  unfolding open_before
  ends_with_text r = ⊎_elim (λ c. absurd (extra c)) (λ e. e) (ends_before (texts.kind_at text r.end) r.ends)
    where
      extra : texts.kind_at text r.end ≡ texts.Closing → ⊥
      extra c =
          let l = r.within in
          let o : open_before text r.end ≡ [] = r.level in
          let q = rw (c, o) at (nothing_refused text r.end (clear r.end (omega arith))) in
          cc

  -- a forest that is spelled from the start is that of the text
  whole : (r : SpelledFrom text 0) → IsForest text r.forest
  whole r =
      let l = r.within in
      let m = end_of_text text r.end (ends_with_text r) in
      record { spelled = subst (λ i. Spells text 0 i r.forest) (omega arith) r.spelled; clear = clear }

  -- a text in which nothing is refused spells a forest
  pub clear_text_is_forest : (f : Forest) × IsForest text f
  clear_text_is_forest =
      let r = read (length text + 1) 0 (omega arith) (omega arith) (λ n i e. absurd (omega arith)) in
      (r.forest, whole r)

-- each text spells a forest or is refused
pub one_or_the_other : (text : List ℕ) → ((f : Forest) × IsForest text f) ⊎ ((r : Refusal) × IsRefused text r)
one_or_the_other text =
    ⊎_elim (λ c. inl (clear_text_is_forest text c)) (λ r. inr r) (first_refusal text (length text + 1) (omega arith))
