-- A test by which a text is seen to spell a forest.
use Rattle.std.proofs.Common.{◌≡◌, ℕ, zero, suc, ◌+◌, ◌-◌, ◌<◌, ◌≤◌, Bool, true, false, ◌&&◌, not, cond, List, [], ◌∷◌, length, get_or, drop, refl, sym, ◌∙◌, ap, arith, add-one, nat_lt, nat_le, bytes_eq}
use Rattle.std.specs.Prelude.{slice_index, slice_range}
use Rattle.std.specs.List.{list_all}
use Rattle.std.specs.Ordering.{int_eq}
use Rattle.std.proofs.lemmas.Bool.{and_parts, ltb-true, leb-true, lt-ltb}
use Rattle.std.proofs.lemmas.Bool.Decides.{Decides-int_eq}
use Rattle.std.proofs.lemmas.List.{get_or-take, get_or-drop, length-take, length-drop, drop-drop}
use Rattle.std.proofs.lemmas.List.Sums.{AllPass-from_list_all}
use Rattle.std.proofs.lemmas.Slice.Eq.{bytes_eq-Decides}
use Rattle.hp_syntax.specs.declared.pattern.Span.{Span}
use Rattle.hp_syntax.specs.declared.limits.TheConstants.{LARGEST_TEXT, LONGEST_TOKEN, DEEPEST_NESTING}
use Rattle.hp_syntax.specs.Text as texts
use Rattle.hp_syntax.specs.Forest.{Node, Word, Numeral, Group, Forest, Bare, Grow, span_of, IsSpelled, Spells, SpellsNode, IsForest, nesting, longest_token}
use Rattle.hp_syntax.proofs.TextLemmas.{in_comment-next, kind_at-end}
use Rattle.hp_syntax.proofs.LimitLemmas.{limits_clear}

-- the kinds of the bytes of a text, before which a comment is open or not
abbrev kinds : Bool → List ℕ → List texts.Kind
kinds c [] = []
kinds c (b ∷ bs) = cond (texts.comment_after c b) texts.Blank (texts.byte_kind b) ∷ kinds (texts.comment_after c b) bs

-- two kinds are the same
abbrev same_kind : texts.Kind → texts.Kind → Bool
same_kind texts.Blank texts.Blank = true
same_kind texts.Opening texts.Opening = true
same_kind texts.Closing texts.Closing = true
same_kind texts.NameByte texts.NameByte = true
same_kind texts.Bad texts.Bad = true
same_kind texts.End texts.End = true
same_kind _ _ = false

-- two spellings are the same, and none that is refused
abbrev same_spelling : texts.Spelling → texts.Spelling → Bool
same_spelling texts.AName texts.AName = true
same_spelling (texts.ANumber n) (texts.ANumber m) = int_eq n m
same_spelling _ _ = false

-- one kind stands between two offsets
abbrev run_test : texts.Kind → List texts.Kind → ℕ → ℕ → Bool
run_test k ks a b = nat_le b (length ks) && list_all (same_kind k) (slice_range ks a b)

-- a gap stands between two offsets
abbrev gap_test : List texts.Kind → ℕ → ℕ → Bool
gap_test ks a b = nat_le a b && run_test texts.Blank ks a b

-- no token stands just before an offset
abbrev outside_test : List texts.Kind → ℕ → Bool
outside_test ks a = not (same_kind texts.NameByte (get_or (texts.End ∷ ks) a texts.End))

-- a token stands between two offsets
abbrev token_test : List texts.Kind → ℕ → ℕ → Bool
token_test ks a b =
    nat_lt a b && (run_test texts.NameByte ks a b && (outside_test ks a
    && not (same_kind texts.NameByte (get_or ks b texts.End))))

-- the token of a span spells this
abbrev spelled_test : List ℕ → List texts.Kind → Span → texts.Spelling → Bool
spelled_test text ks s x = token_test ks s.from s.to && same_spelling
    (texts.spelling_of (slice_range text s.from s.to)) x

-- the text spells a node by its span, and a forest between two offsets
abbrev mutual
  node_test : List ℕ → List texts.Kind → Node → Bool
  node_test text ks (Word s name) = spelled_test text ks s texts.AName && bytes_eq name (slice_range text s.from s.to)
  node_test text ks (Numeral s n) = spelled_test text ks s (texts.ANumber n)
  node_test text ks (Group s parts) =
      same_kind texts.Opening (get_or ks s.from texts.End)
      && (nat_le (s.from + 2) s.to
      && (same_kind texts.Closing (get_or ks (s.to - 1) texts.End)
      && forest_test text ks (s.from + 1) (s.to - 1) parts))

  forest_test : List ℕ → List texts.Kind → ℕ → ℕ → Forest → Bool
  forest_test text ks from to Bare = gap_test ks from to
  forest_test text ks from to (Grow n f) =
      gap_test ks from (span_of n).from && (node_test text ks n && forest_test text ks (span_of n).to to f)

-- the whole text spells the forest within the limits
abbrev pub whole_test : List ℕ → Forest → Bool
whole_test text f =
    forest_test text (kinds false text) 0 (length text) f
    && (nat_le (length text) LARGEST_TEXT
    && (nat_le (longest_token f) LONGEST_TOKEN && nat_le (nesting f) DEEPEST_NESTING))

-- the rest of a text begins with the byte at its offset
rest_begins : (text : List ℕ) (a b : ℕ) (bs : List ℕ) → drop a text ≡ b ∷ bs
    → (a < length text) × (slice_index text a ≡ b) × (drop (a + 1) text ≡ bs)
rest_begins text a b bs e =
    let l = length-drop a text in
    let m : length (drop a text) ≡ suc (length bs) = ap length e in
    let z : a + 0 ≡ a = omega arith in (
      omega arith,
      ap (slice_index text) (sym z) ∙ (sym (get_or-drop a text 0 0) ∙ ap (λ x. get_or x 0 0) e),
      sym (drop-drop 1 a text) ∙ ap (drop 1) e,
    )

-- each of the kinds is the one that stands at its offset
kinds_at : (text : List ℕ) (xs : List ℕ) (a i : ℕ) → drop a text ≡ xs
    → get_or (kinds (texts.in_comment text a) xs) i texts.End ≡ texts.kind_at text (a + i)
unfolding texts.kind_at
kinds_at text [] a i e =
    let l = length-drop a text in
    let m : length (drop a text) ≡ 0 = ap length e in
    sym (kind_at-end text (a + i) (omega arith))
kinds_at text (b ∷ bs) a zero e =
    let r = rest_begins text a b bs e in
    let z : a + 0 ≡ a = omega arith in
    rw (z, lt-ltb a (length text) r.0, r.1) refl
kinds_at text (b ∷ bs) a (suc i) e =
    let r = rest_begins text a b bs e in
    let c = in_comment-next text a ∙ ap (texts.comment_after (texts.in_comment text a)) r.1 in
    let n : a + 1 + i ≡ a + suc i = omega arith in
    ap (λ d. get_or (kinds d bs) i texts.End) (sym c) ∙ (kinds_at text bs (a + 1) i r.2 ∙ ap (texts.kind_at text) n)

-- kinds that are seen to be the same are the same
same_kind-true : (x y : texts.Kind) → same_kind x y ≡ true → x ≡ y
same_kind-true texts.Blank texts.Blank h = refl
same_kind-true texts.Opening texts.Opening h = refl
same_kind-true texts.Closing texts.Closing h = refl
same_kind-true texts.NameByte texts.NameByte h = refl
same_kind-true texts.Bad texts.Bad h = refl
same_kind-true texts.End texts.End h = refl
same_kind-true _ _ h = absurd cc

-- spellings that are seen to be the same are the same
same_spelling-true : (x y : texts.Spelling) → same_spelling x y ≡ true → x ≡ y
same_spelling-true texts.AName texts.AName h = refl
same_spelling-true (texts.ANumber n) (texts.ANumber m) h = ap texts.ANumber ((Decides-int_eq n m).0 h)
same_spelling-true _ _ h = absurd cc

module _ (text : List ℕ) (ks : List texts.Kind) (same : (i : ℕ) → get_or ks i texts.End ≡ texts.kind_at text i) where
  -- where one kind is seen it stands
  tested_run : (k : texts.Kind) (a b : ℕ) → run_test k ks a b ≡ true → (i : ℕ) → a ≤ i → i < b → texts.kind_at text i
      ≡ k
  tested_run k a b h i l m =
      let p = and_parts (nat_le b (length ks)) _ h in
      let w = leb-true b (length ks) p.0 in
      let part = slice_range ks a b in
      let c : length (slice_range ks a b) ≡ b - a = simp (length-take, length-drop) (omega arith) in
      let t = AllPass-from_list_all (same_kind k) part p.1 (i - a) texts.End (omega arith) in
      let e = get_or-take (b - a) (drop a ks) (i - a) texts.End (omega arith) ∙ get_or-drop a ks (i - a) texts.End in
      let n : a + (i - a) ≡ i = omega arith in
      sym (same_kind-true k (get_or part (i - a) texts.End) t ∙ (e ∙ (ap (λ j. get_or ks j texts.End) n ∙ same i)))

  -- bytes that are seen to be a gap are one
  tested_gap : (a b : ℕ) → gap_test ks a b ≡ true → texts.IsGap text a b
  tested_gap a b h =
      let p = and_parts (nat_le a b) _ h in
      record { order = leb-true a b p.0; blank = tested_run texts.Blank a b p.1 }

  -- where no token is seen before an offset none is
  tested_outside : (a : ℕ) → outside_test ks a ≡ true → texts.IsOutside text a
  tested_outside a h = λ i e n. (let q = rw (← e, add-one i, same i, n) at h in absurd cc)

  -- where no name byte is seen none stands
  tested_end : (b : ℕ) → not (same_kind texts.NameByte (get_or ks b texts.End)) ≡ true → texts.kind_at text b
      ≡ texts.NameByte → ⊥
  tested_end b h n = let q = rw (same b, n) at h in absurd cc

  -- a token has the spelling that it is seen to have
  tested_spelled : (s : Span) (x : texts.Spelling) → spelled_test text ks s x ≡ true → IsSpelled text s x
  tested_spelled s x h =
      let p = and_parts (token_test ks s.from s.to) _ h in
      let q = and_parts (nat_lt s.from s.to) _ p.0 in
      let r = and_parts (run_test texts.NameByte ks s.from s.to) _ q.1 in
      let o = and_parts (outside_test ks s.from) _ r.1 in
      record {
        token = record {
          some = ltb-true s.from s.to q.0;
          run = tested_run texts.NameByte s.from s.to r.0;
          begins = tested_outside s.from o.0;
          ends = tested_end s.to o.1;
        };
        spells = same_spelling-true _ x p.1;
      }

  -- a text spells the forest that it is seen to spell
  mutual
    tested_node : (n : Node) → node_test text ks n ≡ true → SpellsNode text n
    tested_node (Word s name) h =
        let p = and_parts (spelled_test text ks s texts.AName) _ h in
        (tested_spelled s texts.AName p.0, (bytes_eq-Decides name (slice_range text s.from s.to)).0 p.1)
    tested_node (Numeral s n) h = tested_spelled s (texts.ANumber n) h
    tested_node (Group s parts) h =
        let p = and_parts (same_kind texts.Opening (get_or ks s.from texts.End)) _ h in
        let q = and_parts (nat_le (s.from + 2) s.to) _ p.1 in
        let r = and_parts (same_kind texts.Closing (get_or ks (s.to - 1) texts.End)) _ q.1 in (
          sym (same_kind-true texts.Opening _ p.0 ∙ same s.from),
          leb-true (s.from + 2) s.to q.0,
          sym (same_kind-true texts.Closing _ r.0 ∙ same (s.to - 1)),
          tested_forest (s.from + 1) (s.to - 1) parts r.1,
        )

    tested_forest : (from to : ℕ) (f : Forest) → forest_test text ks from to f ≡ true → Spells text from to f
    tested_forest from to Bare h = tested_gap from to h
    tested_forest from to (Grow n f) h =
        let p = and_parts (gap_test ks from (span_of n).from) _ h in
        let q = and_parts (node_test text ks n) _ p.1 in
        (tested_gap from (span_of n).from p.0, tested_node n q.0, tested_forest (span_of n).to to f q.1)

-- a forest that passes the test is that of the text
pub tested : (text : List ℕ) (f : Forest) → whole_test text f ≡ true → IsForest text f
tested text f h =
    let p = and_parts (forest_test text (kinds false text) 0 (length text) f) _ h in
    let q = and_parts (nat_le (length text) LARGEST_TEXT) _ p.1 in
    let r = and_parts (nat_le (longest_token f) LONGEST_TOKEN) _ q.1 in
    let same = λ (i : ℕ). kinds_at text text 0 i refl ∙ ap (texts.kind_at text)
    (let e : 0 + i ≡ i = omega arith in e) in
    limits_clear text (leb-true (length text) LARGEST_TEXT q.0) f
    (tested_forest text (kinds false text) same 0 (length text) f p.0)
    (leb-true (longest_token f) LONGEST_TOKEN r.0) (leb-true (nesting f) DEEPEST_NESTING r.1)
